-- The bare table meets every rule: its one pair is empty and it has no steps.
use Rattle.std.proofs.Common.{◌≡◌, ℕ, zero, suc, ◌<◌, [], Some, refl, ◌∙◌, ⊎_elim, arith, lit<, lit≤}
use Rattle.std.specs.List.{slice_get}
use Rattle.std.proofs.lemmas.List.{nil_from_length}
use Rattle.std.proofs.lemmas.Bool.{cases_lt}
use Rattle.fault.specs.First.{Below}
use Rattle.fault.specs.Judged.{Everywhere}
use Rattle.lent_bytes.specs.Reads.{be}
use Rattle.table.specs.declared.step.Step.{Step}
use Rattle.table.specs.Form.{states, all_steps, size, steps_of}
use Rattle.table.specs.Rules.{Sized, Formed, Ended, PairOk, pair_rule, normal_rule}
use Rattle.table.specs.Taken.{bare, Bare}
use Rattle.table.proofs.Entries.{placed, steps_length, steps_out}

pub bare_sized : Sized bare
unfolding be
bare_sized = (lit≤ tt, refl, lit≤ tt)

first : PairOk bare 0
unfolding be
first = (λ _. lit< tt, lit≤ tt, lit≤ tt, lit≤ tt)

pub bare_pairs : Everywhere (pair_rule bare)
unfolding be
bare_pairs zero h = first
bare_pairs (suc k) h = absurd (omega arith)

none : all_steps bare ≡ 0
unfolding be
none = refl

pub bare_formed : Below (Formed bare) (all_steps bare)
bare_formed k h = absurd (omega (arith, none))

pub bare_ended : Below (Ended bare) (all_steps bare)
bare_ended k h = absurd (omega (arith, none))

-- there is no entry
no_entry : (s k : ℕ) (x : Step) → slice_get (steps_of bare s) k ≡ Some x → ⊥
no_entry s k x e =
    let p = placed bare s k x e in
    let l = bare_pairs s (omega (arith, p.state)) in
    omega (arith, none, p.within, l.2)

pub bare_normal : Everywhere (normal_rule bare)
bare_normal s h = (λ k x e _. no_entry s k x e, λ j k x y p q _. absurd (no_entry s j x p))

bare_size : (s : ℕ) → s < states bare → size bare s ≡ 0
bare_size s h = let l = bare_pairs s (omega arith) in omega (arith, none, l.2)

bare_steps : (s : ℕ) → steps_of bare s ≡ []
bare_steps s =
    ⊎_elim
    (λ h. nil_from_length (steps_of bare s) (steps_length bare s h ∙ bare_size s h))
    (λ h. steps_out bare s h)
    (cases_lt s (states bare))

pub bare_is : Bare bare
unfolding be
bare_is = record { bytes = refl; one = refl; first = refl; none = bare_steps }
