-- The first entry with an event says where it leads, and in a list with no event twice it is the only one.
use Rattle.std.proofs.Common.{◌≡◌, ℕ, zero, suc, Bool, true, false, cond, eqb, List, [], ◌∷◌, find, option_map, Some, None, Option, sym, refl, ap, ◌∙◌, subst, arith}
use mathlib.Core.Logic.{∥∥₁_elim}
use std.HLevel.{⊥_prop}
use base.Stored.{Coded-set, coded_ℕ}
use Rattle.std.specs.List.{slice_get}
use Rattle.std.proofs.lemmas.Bool.{eqb-true, eqb-false}
use Rattle.fault.specs.Judged.{Everywhere}
use Rattle.table.specs.declared.step.Step.{Step}
use Rattle.table.specs.Rules.{normal_rule}
use Rattle.table.specs.Steps.{NoneTwice, Lone, follow, Leads}
use Rattle.table.proofs.Entries.{some_same, some_not_none, lone}

-- the first entry with the event, by its target
follow_found : (xs : List Step) (e : ℕ) → option_map (λ (x : Step). x.target) (find (λ (x : Step). eqb x.event e) xs) ≡ follow xs e
follow_found [] e = refl
follow_found (x ∷ xs) e = at (eqb x.event e) (follow_found xs e)
  where
    at : (b : Bool) → option_map (λ (y : Step). y.target) (find (λ (y : Step). eqb y.event e) xs) ≡ follow xs e → option_map (λ (y : Step). y.target) (cond b (Some x) (find (λ (y : Step). eqb y.event e) xs)) ≡ cond b (Some x.target) (follow xs e)
    at true i = refl
    at false i = i

pub follow_by : (xs : List Step) (e : ℕ) (r : Option ℕ) (o : Option Step) → r ≡ option_map (λ (x : Step). x.target) o → option_map (λ (x : Step). x) o ≡ find (λ (x : Step). eqb x.event e) xs → r ≡ follow xs e
follow_by xs e r None led found = led ∙ (ap (option_map (λ (x : Step). x.target)) found ∙ follow_found xs e)
follow_by xs e r (Some x) led found = led ∙ (ap (option_map (λ (y : Step). y.target)) found ∙ follow_found xs e)

-- what a normal table's type says of every list
pub lone_of : (b : List ℕ) → ∥ Everywhere (normal_rule b) ∥₁ → Lone b
lone_of b h =
    record {
      loud = λ s k x e z. ∥∥₁_elim h ⊥_prop (λ n. (lone b n).loud s k x e z);
      once = λ s j k x y p q z. ∥∥₁_elim h (Coded-set coded_ℕ j k) (λ n. (lone b n).once s j k x y p q z);
    }

module _ (e : ℕ) (x : Step) (xs : List Step) where
  -- the first entry has the event
  leads_here : x.event ≡ e → NoneTwice (x ∷ xs) → Leads (x ∷ xs) e (Some x.target)
  leads_here t once = (
    (0, ap (λ (n : ℕ). Some (record { event = n; target = x.target })) t),
    λ k y p q.
        let z : 0 ≡ k = once 0 k x y refl p (t ∙ sym q) in
        let same : Some x ≡ Some y = subst (λ (n : ℕ). slice_get (x ∷ xs) n ≡ Some y) (sym z) p in
        ap (λ (s : Step). s.target) (sym (some_same x y same)),
  )

  -- the first entry has another event
  leads_on : (o : Option ℕ) → (x.event ≡ e → ⊥) → Leads xs e o → Leads (x ∷ xs) e o
  leads_on None ne l = both
    where
      both : (k : ℕ) (y : Step) → slice_get (x ∷ xs) k ≡ Some y → y.event ≡ e → ⊥
      both zero y p q = ne (ap (λ (s : Step). s.event) (some_same x y p) ∙ q)
      both (suc k) y p q = l k y p q
  leads_on (Some t) ne l = ((suc l.0.0, l.0.1), both)
    where
      both : (k : ℕ) (y : Step) → slice_get (x ∷ xs) k ≡ Some y → y.event ≡ e → y.target ≡ t
      both zero y p q = absurd (ne (ap (λ (s : Step). s.event) (some_same x y p) ∙ q))
      both (suc k) y p q = l.1 k y p q

  leads_at : (b : Bool) → eqb x.event e ≡ b → NoneTwice (x ∷ xs) → Leads xs e (follow xs e) → Leads (x ∷ xs) e (cond b (Some x.target) (follow xs e))
  leads_at true t once l = leads_here (eqb-true x.event e t) once
  leads_at false t once l = leads_on (follow xs e) (eqb-false x.event e t) l

tail_once : (x : Step) (xs : List Step) → NoneTwice (x ∷ xs) → NoneTwice xs
tail_once x xs once j k y z p q r = let s : suc j ≡ suc k = once (suc j) (suc k) y z p q r in omega arith

-- in a list with no event twice, the first entry with an event says where it leads
pub leads : (xs : List Step) (e : ℕ) → NoneTwice xs → Leads xs e (follow xs e)
leads [] e once = λ k x p q. some_not_none x (sym p)
leads (x ∷ xs) e once = leads_at e x xs (eqb x.event e) refl once (leads xs e (tail_once x xs once))

pub leads_by : (xs : List Step) (e : ℕ) (o : Option ℕ) → NoneTwice xs → o ≡ follow xs e → Leads xs e o
leads_by xs e o once is = subst (λ (p : Option ℕ). Leads xs e p) (sym is) (leads xs e once)
