-- A line has no space among its digits, so its first number ends at the first space.
use Rattle.std.proofs.Common.{◌≡◌, ℕ, ◌+◌, ◌<◌, ◌≤◌, Bool, eqb, Some, None, List, [], ◌∷◌, ◌++◌, length, get_or, take, drop, sym, refl, ap, ◌∙◌, subst, ⊎_elim, arith}
use Rattle.std.proofs.lemmas.List.{get_or_append_left, get_or_at, take_at, drop_at, length-append, length_push, append_assoc}
use Rattle.std.specs.List.{position, position_or_len}
use Rattle.std.proofs.lemmas.List.Sums.{fails_before_first}
use Rattle.std.proofs.lemmas.List.Quantifiers.{position-Some}
use Rattle.std.proofs.lemmas.Option.{none-some}
use Rattle.std.proofs.lemmas.Bool.{cases_lt, cases_order, lt-ltb, eqb-true, eqb-false}
use Rattle.script.specs.Lines.{Digit, Number, Line}

space_at : (b : List ℕ) (x y : ℕ) (l : Line b x y) → get_or b (length l.left) 0 ≡ 32
space_at b x y l = ap (λ (z : List ℕ). get_or z (length l.left) 0) l.whole ∙ get_or_at l.left 32 l.right 0 (length l.left) refl

pub space_within : (b : List ℕ) (x y : ℕ) (l : Line b x y) → length l.left < length b
space_within b x y l = omega (arith, ap length l.whole, length-append l.left (32 ∷ l.right))

no_space : (b : List ℕ) (x y : ℕ) (l : Line b x y) (k : ℕ) → k < length l.left → get_or b k 0 ≡ 32 → ⊥
no_space b x y l k h e =
    let d : Digit (get_or l.left k 0) = l.first.digits k h in
    let s : get_or b k 0 ≡ get_or l.left k 0 = ap (λ (z : List ℕ). get_or z k 0) l.whole ∙ get_or_append_left l.left (32 ∷ l.right) 0 k h in
    omega (arith, d.0, s, e)

abbrev spaced : ℕ → Bool
spaced c = eqb c 32

-- a line has a space
pub some_space : (b : List ℕ) (x y : ℕ) → Line b x y → position spaced b ≡ None → ⊥
some_space b x y l e =
    let p : ℕ = position_or_len spaced b in
    let k : ℕ = length l.left in
    let n : length b ≤ p =
    ⊎_elim (λ h. absurd (none-some p (rw (lt-ltb p (length b) h) at (sym e)))) (λ h. h) (cases_lt p (length b))
    in
    eqb-false (get_or b k 0) 32 (fails_before_first spaced b k 0 (omega (arith, space_within b x y l))) (space_at b x y l)

-- the first space, where there is one: where it stands, and none before it
pub record FirstSpace (b : List ℕ) (at : ℕ) : Type 0 where
  pub within : at < length b
  pub there : get_or b at 0 ≡ 32
  pub before : (k : ℕ) → k < at → get_or b k 0 ≡ 32 → ⊥

pub space_found : (b : List ℕ) (at : ℕ) → position spaced b ≡ Some at → FirstSpace b at
space_found b at e =
    let t = position-Some spaced b at 0 e in
    record { within = t.0; there = eqb-true (get_or b at 0) 32 t.1; before = λ k h. eqb-false (get_or b k 0) 32 (t.2 k h) }

-- it is where the first number ends
pub first_space : (b : List ℕ) (x y at : ℕ) (l : Line b x y) → FirstSpace b at → length l.left ≡ at
first_space b x y at l s =
    ⊎_elim (λ e. e) (⊎_elim (λ h. absurd (s.before (length l.left) h (space_at b x y l))) (λ h. absurd (no_space b x y l at h s.there))) (cases_order (length l.left) at)

pub left_of_lem : (b : List ℕ) (x y at : ℕ) (l : Line b x y) → length l.left ≡ at → Number (take at b) x
left_of_lem b x y at l e =
    subst (λ (z : List ℕ). Number z x) (sym (ap (take at) l.whole ∙ take_at l.left (32 ∷ l.right) at e)) l.first

pub right_of : (b : List ℕ) (x y at : ℕ) (l : Line b x y) → length l.left ≡ at → Number (drop (at + 1) b) y
right_of b x y at l e =
    let p : List ℕ = l.left ++ 32 ∷ [] in
    let w : b ≡ p ++ l.right = l.whole ∙ sym (append_assoc l.left (32 ∷ []) l.right) in
    let n : length p ≡ at + 1 = omega (arith, length_push l.left 32) in
    subst (λ (z : List ℕ). Number z y) (sym (ap (drop (at + 1)) w ∙ drop_at p l.right (at + 1) n)) l.second
