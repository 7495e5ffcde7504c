-- A line's first number ends at the first space, so the two parts are the only numbers that it can have.
use Rattle.std.proofs.Common.{ℕ, ◌+◌, List, ◌∷◌, ◌++◌, take, drop, sym, refl, ap, ◌∙◌, subst}
use Rattle.std.proofs.lemmas.List.{take_rest, take-append-drop, drop_more}
use Rattle.script.specs.Lines.{Number}
use Rattle.script.proofs.Splitting.{some_space, space_found, first_space, left_of_lem, right_of}
use Rattle.script.proofs.reading.read_line.Goals as goal

pub returns-in_default : goal.returns-in_default
returns-in_default c = (refl, λ x y l. some_space c.args.line.now x y l (sym c.in_default.ensures))

pub returns-in_default-number : goal.returns-in_default-number
returns-in_default-number c =
    let b : List ℕ = c.args.line.now in
    let at : ℕ = c.in-Some.at in
    let s = space_found b at (sym c.in-Some.ensures) in
    (refl, λ x y l. c.in_default-number.ensures x (left_of_lem b x y at l (first_space b x y at l s)))

pub returns-in_default-number-2 : goal.returns-in_default-number-2
returns-in_default-number-2 c =
    let b : List ℕ = c.args.line.now in
    let at : ℕ = c.in-Some.at in
    let s = space_found b at (sym c.in-Some.ensures) in
    (refl, λ x y l. c.in_default-number-2.ensures y (subst (λ (z : List ℕ). Number z y) (sym (take_rest b (at + 1))) (right_of b x y at l (first_space b x y at l s))))

pub returns : goal.returns
returns c =
    let b : List ℕ = c.args.line.now in
    let at : ℕ = c.in-Some.at in
    let s = space_found b at (sym c.in-Some.ensures) in
    record {
      left = take at b;
      right = drop (at + 1) b;
      whole = sym (take-append-drop at b) ∙ ap (λ (z : List ℕ). take at b ++ z) (drop_more b at 0 s.within ∙ ap (λ (k : ℕ). k ∷ drop (at + 1) b) s.there);
      first = c.in-Some-number.ensures;
      second = subst (λ (z : List ℕ). Number z c.in-Some-number-2.spec) (take_rest b (at + 1)) c.in-Some-number-2.ensures;
    }
