use Rattle.std.proofs.Common.{◌≡◌, ℕ, List, length, Option, sym, ap, ◌∙◌, subst, inl, arith}
use Rattle.table.specs.Form.{start}
use Rattle.systems.specs.Meaning.{Steps}
use Rattle.systems.specs.Tables.{table_lts}
use Rattle.systems.specs.Keeping.{table_keeps}
use Rattle.sets.specs.declared.state_set.StateSet.{StateSet}
use Rattle.normalise.specs.Made.{Built}
use Rattle.normalise.specs.Nodes.{MoreThan}
use Rattle.normalise.proofs.Building.{built, law_of}
use Rattle.normalise.proofs.Pigeons.{explored_more}
use Rattle.normalise.proofs.Visits.{explored_ok, explored_err}
use Rattle.normalise.proofs.small.Small.build.Goals as goal

pub returns-in_err-ok : goal.returns-in_err-ok
returns-in_err-ok c =
    let size : length c.explore.new.nodes.rows.now ≡ length c.args.rows.now = c.explore.ensures.size ∙ ap (λ (x : List StateSet). length x) c.over-nodes.ensures.rows in
    let B : Option ℕ → Type 0 =
    λ r. Built (Steps (table_lts c.args.self.now.table.bytes.now)) (start c.args.self.now.table.bytes.now) (length c.args.rows.now) (length c.args.out.now) c.args.out.now r in
    let M : ℕ → Type 0 = λ n. MoreThan (Steps (table_lts c.args.self.now.table.bytes.now)) (start c.args.self.now.table.bytes.now) n in
    subst B (sym c.from_residual.ensures)
    (inl (subst M size (explored_more (Steps (table_lts c.args.self.now.table.bytes.now)) (start c.args.self.now.table.bytes.now) c.explore.new.nodes.rows.now
    (explored_err _ _ _ c.explore.new.nodes.len c.explore.result c.in_err-ok.ensures.variant c.explore.ensures.explored))))

pub write-requires-clause-nodes : goal.write-requires-clause-nodes
write-requires-clause-nodes c =
    explored_ok (Steps (table_lts c.args.self.now.table.bytes.now)) (start c.args.self.now.table.bytes.now) c.explore.new.nodes.rows.now c.items-sets.result.now c.explore.new.nodes.len c.explore.result
    c.in_ok-ok.ensures.variant c.explore.ensures.explored c.items-sets.ensures.items

pub returns : goal.returns
returns c =
    let t = c.args.self.now.table in
    let size : length c.explore.new.nodes.rows.now ≡ length c.args.rows.now = c.explore.ensures.size ∙ ap (λ (x : List StateSet). length x) c.over-nodes.ensures.rows in
    built (Steps (table_lts c.args.self.now.table.bytes.now)) (start c.args.self.now.table.bytes.now) c.items-sets.result.now (length c.items-sets.result.now) (length c.args.rows.now) (length c.args.out.now) c.write.new.out c.write.result
    (law_of c.args.self.now.table.bytes.now (table_keeps t.bytes.now t.pairs t.formed t.ended))
    (explored_ok _ _ c.explore.new.nodes.rows.now c.items-sets.result.now c.explore.new.nodes.len c.explore.result
    c.in_ok-ok.ensures.variant c.explore.ensures.explored c.items-sets.ensures.items)
    (omega (arith, size, c.items-sets.ensures.len, c.explore.new.nodes.within))
    (omega arith)
    c.write.ensures
