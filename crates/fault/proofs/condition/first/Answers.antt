use Rattle.std.proofs.Common.{◌≡◌, ◌<◌, true, false, sym, refl, ◌∙◌, subst, arith}
use Rattle.std.proofs.lemmas.Bool.{both_ways}
use Rattle.fault.proofs.condition.first.Goals as goal

pub returns-then-not-holds-clause-passes : goal.returns-then-not-holds-clause-passes
returns-then-not-holds-clause-passes g c p same =
    let n : c.loop-place.place < c.args.places = omega (arith, c.loop-place-test.true) in
    let no : p c.loop-place.place ≡ false = sym (same c.loop-place.place c.holds.result n c.holds.ensures) ∙ c.if-not-holds.true in
    record {
      told = refl;
      first = record {
        within = n;
        fails = λ yes. both_ways _ no yes;
        before = λ k h. let l : k < c.args.places = omega arith in sym (same k true l (c.loop-place.invariant k h));
      };
    }

pub returns-clause-passes : goal.returns-clause-passes
returns-clause-passes g c p same k h = let l : k < c.loop-place.place = omega arith in sym (same k true h (c.loop-place.invariant k l))
