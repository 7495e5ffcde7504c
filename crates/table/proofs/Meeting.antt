-- While the bits are exactly tau and the events met, an event whose bit is clear is new, and one whose
-- bit is set is tau or was met before.
use Rattle.std.proofs.Common.{◌≡◌, ℕ, ◌+◌, ◌^◌, ◌<◌, ◌≤◌, ◌⊎◌, Bool, true, false, ◌||◌, sym, refl, ap, ◌∙◌, inl, inr, ⊎_elim, arith}
use lib.Bits.{bit_or}
use Rattle.std.proofs.Math.Bool.{or-true}
use Rattle.std.proofs.lemmas.Bool.{cases_lt}
use Rattle.lent_bytes.specs.Bits.{bit}
use Rattle.lent_bytes.proofs.Bitwise.{bit_or_lem, bit_power}
use Rattle.table.specs.Met.{Fresh}

either : (p q : Bool) → (p || q) ≡ true → (p ≡ true) ⊎ (q ≡ true)
either true q e = inl refl
either false q e = inr e

-- a number with bit k set
set_only : (w k j : ℕ) → bit (bit_or w (2 ^ k)) j ≡ true → (bit w j ≡ true) ⊎ (j ≡ k)
set_only w k j e =
    ⊎_elim (λ p. inl p) (λ q. inr (sym ((bit_power k j).0 q))) (either (bit w j) (bit (2 ^ k) j) (sym (bit_or_lem w (2 ^ k) j) ∙ e))

set_kept : (w k j : ℕ) → bit w j ≡ true → bit (bit_or w (2 ^ k)) j ≡ true
set_kept w k j e = bit_or_lem w (2 ^ k) j ∙ ap (λ b. b || bit (2 ^ k) j) e

set_added : (w k : ℕ) → bit (bit_or w (2 ^ k)) k ≡ true
set_added w k = bit_or_lem w (2 ^ k) k ∙ (ap (λ b. bit w k || b) ((bit_power k k).1 refl) ∙ or-true (bit w k))

-- `met` holds tau and the events at the first n places, and no other
pub record MeetsAll (at : ℕ → ℕ) (n met : ℕ) : Type 0 where
  pub tau : bit met 0 ≡ true
  pub each : (k : ℕ) → k < n → bit met (at k) ≡ true
  pub only : (e : ℕ) → bit met e ≡ true → (e ≡ 0) ⊎ ((k : ℕ) × (k < n) × (at k ≡ e))

pub met_none : (at : ℕ → ℕ) → MeetsAll at 0 1
met_none at = record { tau = (bit_power 0 0).1 refl; each = λ k h. absurd (omega arith); only = λ e h. inl (sym ((bit_power 0 e).0 h)) }

pub fresh_none : (at : ℕ → ℕ) → Fresh at 0
fresh_none at = record { loud = λ k h _. omega arith; apart = λ j k l h _. omega arith }

module _ (at : ℕ → ℕ) (n met : ℕ) (m : MeetsAll at n met) where
  -- the next event was met
  pub not_fresh : (e count : ℕ) → e ≡ at n → bit met e ≡ true → n < count → Fresh at count → ⊥
  not_fresh e count is h l f =
      ⊎_elim
      (λ z. f.loud n l (sym is ∙ z))
      (λ p. f.apart p.0 n p.1 l (p.2 ∙ is))
      (m.only e h)

  -- the next event is new
  pub fresh_more : (e : ℕ) → e ≡ at n → (bit met e ≡ true → ⊥) → Fresh at n → Fresh at (n + 1)
  fresh_more e is new f =
      let tau_not : at n ≡ 0 → ⊥ = λ z. new (ap (bit met) (is ∙ z) ∙ m.tau) in
      let not-before : (j : ℕ) → j < n → at j ≡ at n → ⊥ = λ j l q. new (ap (bit met) (is ∙ sym q) ∙ m.each j l) in
      record {
        loud = λ k h z.
            ⊎_elim
            (λ l. f.loud k l z)
            (λ l. let q : k ≡ n = omega arith in tau_not (ap at (sym q) ∙ z))
            (cases_lt k n);
        apart = λ j k l h z.
            ⊎_elim
            (λ (i : k < n). f.apart j k l i z)
            (λ (i : n ≤ k). let q : k ≡ n = omega arith in not-before j (omega arith) (z ∙ ap at q))
            (cases_lt k n);
      }

  pub met_more : (e next : ℕ) → e ≡ at n → next ≡ bit_or met (2 ^ e) → MeetsAll at (n + 1) next
  met_more e next is put =
      let here : bit next e ≡ true = ap (λ (w : ℕ). bit w e) put ∙ set_added met e in
      let kept : (j : ℕ) → bit met j ≡ true → bit next j ≡ true = λ j h. ap (λ (w : ℕ). bit w j) put ∙ set_kept met e j h in
      record {
        tau = kept 0 m.tau;
        each = λ k h.
            ⊎_elim
            (λ (l : k < n). kept (at k) (m.each k l))
            (λ (l : n ≤ k). let q : k ≡ n = omega arith in ap (bit next) (ap at q ∙ sym is) ∙ here)
            (cases_lt k n);
        only = λ j h.
            ⊎_elim
            (λ old. ⊎_elim (λ z. inl z) (λ p. inr (p.0, (let l = p.1 in omega arith), p.2)) (m.only j old))
            (λ (q : j ≡ e). inr (n, omega arith, sym is ∙ sym q))
            (set_only met e j (ap (λ (w : ℕ). bit w j) (sym put) ∙ h));
      }
