-- One row more: what it has open comes from the sets of its parts, which stand before it.
use Rattle.std.proofs.Common.{ℕ, ◌<◌, ◌≢◌, List, length, get_or, set, sym, subst, arith, get_or-set_other, get_or-set_same, below_more, length-set}
use Rattle.model.specs.File.{process, rows}
use Rattle.model.specs.Models.{drafted_file}
use Rattle.model.specs.Opening.{OpenedAs}
use Rattle.model.proofs.Facts.{all_before}
use Rattle.model.proofs.Opened.{opened_row}
use Rattle.model.proofs.opens.open_sets.Goals as goal

pub loop-i-preserved : goal.loop-i-preserved
loop-i-preserved c =
    let b : List ℕ = drafted_file c.args.draft.now in
    let i : ℕ = c.loop-i.i in
    let ss : List ℕ = c.loop-i.sets in
    let v : ℕ = c.open_set-set.result in
    let lt : i < rows b = omega (arith, c.loop-i-test.true, c.rows-i-end.ensures.value) in
    let w : i < length ss = omega (arith, lt, c.args.draft.now.few.2, c.loop-i.invariant.0) in
    let now_open : OpenedAs v (process b i) = subst (λ (z : ℕ). OpenedAs z (process b i)) (sym c.open_set-set.ensures) (opened_row b ss (all_before b c.args.draft.now.left c.args.draft.now.right) c.args.draft.now.named c.args.draft.now.few.3 i lt c.loop-i.invariant.1 c.row_at.result c.row_at.ensures) in (
      simp length-set c.loop-i.invariant.0,
      below_more
          (λ k. OpenedAs (get_or (set ss i v) k 0) (process b k))
          i
          (λ k h. let ne : k ≢ i = omega arith in subst (λ (z : ℕ). OpenedAs z (process b k)) (sym (get_or-set_other ss i k v 0 ne)) (c.loop-i.invariant.1 k h))
          (subst (λ (z : ℕ). OpenedAs z (process b i)) (sym (get_or-set_same ss i v 0 w)) now_open),
    )
