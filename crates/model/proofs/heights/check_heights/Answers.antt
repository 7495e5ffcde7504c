-- One row more: its height comes from the heights of its parts, which stand before it.
use Rattle.std.proofs.Common.{◌≡◌, ℕ, ◌+◌, ◌<◌, max, ◌≢◌, List, length, sym, refl, arith, length-set, get_or-set_other, get_or-set_same, below_more}
use Rattle.model.specs.File.{process, rows}
use Rattle.model.specs.Terms.{height}
use Rattle.model.proofs.Formed.{all_fit}
use Rattle.model.proofs.Tallness.{tall_part, tall_row}
use Rattle.model.proofs.heights.check_heights.Goals as goal

pub returns-then-high-ge64 : goal.returns-then-high-ge64
returns-then-high-ge64 c =
    let b : List ℕ = c.args.file.bytes.now in
    let i : ℕ = c.loop-place.place in
    let lt : i < rows b = omega (arith, c.loop-place-test.true, c.rows-place-end.ensures.value) in
    let e : height (process b i) ≡ 1 + max c.part_or_default-left.result c.part_or_default-right.result =
    tall_row b (all_fit b c.requires.fit) i lt c.loop-place.heights c.loop-place.invariant.1 c.row_at-row.result c.shape-shape.result _ _ c.row_at-row.ensures c.shape-shape.ensures (tall_part _ _ _ _ c.part_or_default-left.ensures.part c.part_or_default-left.ensures.other c.byte_at.ensures) (tall_part _ _ _ _ c.part_or_default-right.ensures.part c.part_or_default-right.ensures.other c.byte_at-in-loop-place.ensures)
    in
    record {
      told = refl;
      first = record { within = lt; fails = λ low. omega (arith, e, low, c.max-high.ensures, c.if-high-ge64.true); before = c.loop-place.invariant.2 };
    }

pub loop-place-preserved : goal.loop-place-preserved
loop-place-preserved c =
    let b : List ℕ = c.args.file.bytes.now in
    let i : ℕ = c.loop-place.place in
    let lt : i < rows b = omega (arith, c.loop-place-test.true, c.rows-place-end.ensures.value) in
    let e : height (process b i) ≡ 1 + max c.part_or_default-left.result c.part_or_default-right.result =
    tall_row b (all_fit b c.requires.fit) i lt c.loop-place.heights c.loop-place.invariant.1 c.row_at-row.result c.shape-shape.result _ _ c.row_at-row.ensures c.shape-shape.ensures (tall_part _ _ _ _ c.part_or_default-left.ensures.part c.part_or_default-left.ensures.other c.byte_at.ensures) (tall_part _ _ _ _ c.part_or_default-right.ensures.part c.part_or_default-right.ensures.other c.byte_at-in-loop-place.ensures)
    in
    let t : height (process b i) ≡ c.max-high.result + 1 = omega (arith, e, c.max-high.ensures) in
    let w : i < length c.loop-place.heights = omega (arith, lt, c.requires.few, c.loop-place.invariant.0) in (
      simp length-set c.loop-place.invariant.0,
      below_more _ _ (λ k h. let ne : k ≢ i = omega arith in rw get_or-set_other (c.loop-place.invariant.1 k h)) (rw get_or-set_same (sym t)),
      below_more _ _ c.loop-place.invariant.2 (omega (arith, t, c.if-high-ge64.false)),
    )
