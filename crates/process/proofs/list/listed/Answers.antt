use Rattle.std.proofs.Common.{ℕ, length, rules, subst, MatchResult}
use Rattle.model.specs.File.{process}
use Rattle.model.specs.Models.{settled_file}
use Rattle.model.specs.declared.drafted.Settled.{Settled}
use Rattle.process.specs.Listed.{ListedAt}
use Rattle.process.specs.Loaded.{WantsIn}
use Rattle.process.proofs.list.listed.Goals as goal

pub returns : goal.returns
returns c =
    let o = c.over-terms.ensures in
    let s = c.list.new.self in
    let x = subst (λ (z : Settled). MatchResult c.list.result (ListedAt (settled_file z) s.rows.now s.work.now c.args.r) (λ _. (room : ℕ) → WantsIn (settled_file z) (process (settled_file z) c.args.r) (length c.over-terms.result.rows.now) room)) o.model c.list.ensures.listed in
    let y = subst (λ (z : ℕ). MatchResult c.list.result (ListedAt (settled_file c.args.model.now) s.rows.now s.work.now c.args.r) (λ _. (room : ℕ) → WantsIn (settled_file c.args.model.now) (process (settled_file c.args.model.now) c.args.r) z room)) o.cap x in
    search rules
