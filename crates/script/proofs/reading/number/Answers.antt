use Rattle.std.proofs.Common.{ℕ, ◌+◌, ◌-◌, ◌*◌, ◌<◌, ◌≤◌, List, length, get_or, drop, sym, ◌∙◌, arith, below_more}
use Rattle.std.proofs.lemmas.Bool.{eqb-false}
use Rattle.script.specs.Lines.{Digit}
use Rattle.script.proofs.Values.{value_grows, value_more, value_all}
use Rattle.script.proofs.reading.number.Goals as goal

pub returns-then-n-gt65535 : goal.returns-then-n-gt65535
returns-then-n-gt65535 c v h =
    let ds : List ℕ = c.args.digits.now in
    let i : ℕ = c.loop-b.b-index in
    let lt : i < length ds = omega arith in
    omega (arith, h.is, h.small, c.loop-b.invariant.0, value_more c.loop-b.n ds i lt, value_grows (c.loop-b.n * 10 + (get_or ds i 0 - 48)) (drop (i + 1) ds), c.if-n-gt65535.true)

pub loop-b-preserved : goal.loop-b-preserved
loop-b-preserved c =
    let ds : List ℕ = c.args.digits.now in
    let i : ℕ = c.loop-b.b-index in
    let lt : i < length ds = omega arith in (
      sym (value_more c.loop-b.n ds i lt) ∙ c.loop-b.invariant.0,
      omega arith,
      below_more (λ k. Digit (get_or ds k 0)) i c.loop-b.invariant.2 (omega arith, omega arith),
    )

pub returns : goal.returns
returns c =
    let ds : List ℕ = c.args.digits.now in
    let i : ℕ = c.loop-b.b-index in
    let past : length ds ≤ i = omega arith in
    record {
      some = omega (arith, eqb-false (length ds) 0 (sym c.if-is_empty.ensures));
      few = omega arith;
      digits = λ k h. c.loop-b.invariant.2 k (omega arith);
      is = sym (value_all c.loop-b.n ds i past) ∙ c.loop-b.invariant.0;
      small = c.loop-b.invariant.1;
    }
