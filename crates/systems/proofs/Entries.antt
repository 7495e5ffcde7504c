-- Entries of lists by place: two entries at one place are equal, and an event's entry is the one that `follow` finds.
use Rattle.std.proofs.Common.{◌≡◌, ℕ, zero, suc, ◌<◌, eqb, List, [], ◌∷◌, map, length, get_or, Some, sym, refl, ap, ◌∙◌, ⊎_elim, arith}
use Rattle.std.specs.List.{slice_get}
use Rattle.std.proofs.lemmas.Option.{slice_get_read}
use Rattle.std.proofs.lemmas.Bool.{cases_Bool, cond-true, cond-false, eqb-true, eq-eqb}
pub use Rattle.table.proofs.Entries.{some_same, some_not_none, nth_within, past_none, drop_entry, drop_none, entry_next, entry_end}
pub use Rattle.systems.specs.Keeping.{map_entry}
use Rattle.systems.specs.Meaning.{Lts, Listed, Steps, Lawful, follow, Lone}

pub pair_same : {D S : Type 0} (p : D × S) (d : D) (s : S) → p.0 ≡ d → p.1 ≡ s → p ≡ (d, s)
pair_same {D} {S} p d s a b = ap (λ (x : D). (x, p.1)) a ∙ ap (λ (y : S). (d, y)) b

-- what the step question answers: its place is within the list, which is short, and its event is below 64
module _ {S : Type 0} (m : Lts S) (s : S) (k : ℕ) (x : ℕ × S) (at : Some x ≡ slice_get (m.steps s) k) where
  pub step_within : k < length (m.steps s)
  step_within = nth_within (m.steps s) k x (sym at)

  pub step_few : Lawful m → k < 66048
  step_few lawful = let h = step_within in let f = lawful.few s in omega arith

  pub step_low : Lawful m → x.0 < 64
  step_low lawful = lawful.low s x.1 k x.0 (sym at)

-- what a loop reads at place i
pub nth_item : {X : Type 0} (xs : List X) (i : ℕ) (x : X) → i < length xs → x ≡ get_or xs i x → slice_get xs i ≡ Some x
nth_item xs i x h e = slice_get_read xs (length xs) i x refl h e

pub nth_map : {X Y : Type 0} (g : X → Y) (xs : List X) (k : ℕ) (x : X) → slice_get xs k ≡ Some x → slice_get (map g xs) k ≡ Some (g x)
nth_map g [] k x e = absurd (some_not_none x (sym e))
nth_map g (y ∷ xs) zero x e = ap (λ z. Some (g z)) (some_same y x e)
nth_map g (y ∷ xs) (suc k) x e = nth_map g xs k x e

-- the state that `follow` finds stands in the list with the event
pub follow_listed : {S : Type 0} (xs : List (ℕ × S)) (e : ℕ) (t : S) → follow xs e ≡ Some t → Listed xs (e, t)
follow_listed [] e t p = absurd (some_not_none t (sym p))
follow_listed (x ∷ xs) e t p =
    ⊎_elim
    (λ h. (0, ap Some (pair_same x e t (eqb-true x.0 e h) (some_same x.1 t (sym (cond-true (eqb x.0 e) (Some x.1) (follow xs e) h) ∙ p)))))
    (λ h. let l : Listed xs (e, t) = follow_listed xs e t (sym (cond-false (eqb x.0 e) (Some x.1) (follow xs e) h) ∙ p) in (suc l.0, l.1))
    (cases_Bool (eqb x.0 e))

-- an event that stands in the list is found
pub follow_some : {S : Type 0} (xs : List (ℕ × S)) (k e : ℕ) (t : S) → slice_get xs k ≡ Some (e, t) → (u : S) × (follow xs e ≡ Some u)
follow_some [] k e t at = absurd (some_not_none (e, t) (sym at))
follow_some {S} (x ∷ xs) zero e t at =
    let is = some_same x (e, t) at in
    (x.1, cond-true (eqb x.0 e) (Some x.1) (follow xs e) (eq-eqb x.0 e (ap (λ (p : ℕ × S). p.0) is)))
follow_some (x ∷ xs) (suc k) e t at =
    ⊎_elim
    (λ h. (x.1, cond-true (eqb x.0 e) (Some x.1) (follow xs e) h))
    (λ h. let l = follow_some xs k e t at in (l.0, cond-false (eqb x.0 e) (Some x.1) (follow xs e) h ∙ l.1))
    (cases_Bool (eqb x.0 e))

-- in a normal system an event leads to the one state that `follow` finds
pub follow_only : {S : Type 0} (m : Lts S) → Lone m → (s t : S) (e : ℕ) → Steps m s e t → follow (m.steps s) e ≡ Some t
follow_only {S} m lone s t e l =
    let f = follow_some (m.steps s) l.0 e t l.1 in
    let g = follow_listed (m.steps s) e f.0 f.1 in
    let same : l.0 ≡ g.0 = lone.once s t f.0 l.0 g.0 e l.1 g.1 in
    let is : (e, f.0) ≡ (e, t) = some_same (e, f.0) (e, t) (sym g.1 ∙ (ap (slice_get (m.steps s)) (sym same) ∙ l.1)) in
    f.1 ∙ ap (λ (p : ℕ × S). Some p.1) is
