-- The lemmas that the laws of the systems here cite: what each keeps. A table's lists, read as steps of a system, keep what
-- the table keeps, since each entry is the reading of one of its steps. Assumes nothing.
use Rattle.std.proofs.Common.{◌≡◌, ℕ, zero, suc, ◌<◌, ◌≤◌, List, [], ◌∷◌, map, length, Some, sym, refl, ap, ◌∙◌, subst, ⊎_elim, arith, rules}
use Rattle.std.specs.List.{slice_get}
use Rattle.std.proofs.lemmas.List.{length-map, nil_from_length}
use Rattle.std.proofs.lemmas.Bool.{cases_lt}
use mathlib.Core.Logic.{∥∥₁_elim}
use std.HLevel.{⊥_prop}
use Rattle.fault.specs.First.{Below}
use Rattle.fault.specs.Judged.{Everywhere}
use Rattle.table.specs.declared.step.Step.{Step}
use Rattle.table.specs.Form.{all_steps, steps_of}
use Rattle.table.specs.Rules.{Formed, Ended, pair_rule, normal_rule}
use Rattle.table.specs.Steps.{Lawful as TableLawful, Lone as TableLone}
use Rattle.table.proofs.Entries.{some_same, some_not_none, lawful}
use Rattle.table.proofs.Following.{lone_of}
use Rattle.systems.specs.Meaning.{Lts, Lawful, Lone}
use Rattle.systems.specs.Tables.{taken, table_lts}
use Rattle.systems.specs.Registers.{Apart, register}

-- the count register, whatever its limit
module _ (limit up down iszero : ℕ) (apart : Apart up down iszero) where
  pub register_keeps : Lawful (register limit up down iszero)
  register_keeps = record { few = λ s. search rules; low = λ s t k e h. search rules; ended = λ s t k h. search rules }

  pub register_keeps_lone : Lone (register limit up down iszero)
  register_keeps_lone = record { loud = λ s t k. search rules; once = λ s t u j k e p q. search rules }

pub map_entry : {X Y : Type 0} (g : X → Y) (xs : List X) (k : ℕ) (z : Y) → slice_get (map g xs) k ≡ Some z → (x : X) × (slice_get xs k ≡ Some x) × (z ≡ g x)
map_entry g [] k z e = absurd (some_not_none z (sym e))
map_entry g (x ∷ xs) zero z e = (x, refl, sym (some_same (g x) z e))
map_entry g (x ∷ xs) (suc k) z e = map_entry g xs k z e

module _ (b : List ℕ) where
  -- an entry of the list, as the table has it
  entry : (s t k e : ℕ) → slice_get (map taken (steps_of b s)) k ≡ Some (e, t) → (x : Step) × (slice_get (steps_of b s) k ≡ Some x) × (x.event ≡ e) × (x.target ≡ t)
  entry s t k e at =
      let m = map_entry taken (steps_of b s) k (e, t) at in
      (m.0, m.1, sym (ap (λ (p : ℕ × ℕ). p.0) m.2), sym (ap (λ (p : ℕ × ℕ). p.1) m.2))

  pub table_short : TableLawful b → (s : ℕ) → length ((table_lts b).steps s) ≤ 256
  table_short l s = let n = length-map (steps_of b s) taken in let h = l.short s in omega arith

  pub table_lawful : TableLawful b → Lawful (table_lts b)
  table_lawful l =
      record {
        few = λ s. let h = table_short l s in omega arith;
        low = λ s t k e at. let x = entry s t k e at in subst (λ n. n < 64) x.2 (l.events s k x.0 x.1);
        ended = λ s t k at.
            let x = entry s t k 1 at in
            ap (map taken) (subst (λ u. steps_of b u ≡ []) x.3 (l.ended s k x.0 x.1 x.2));
      }

  pub table_lone : TableLone b → Lone (table_lts b)
  table_lone l =
      record {
        loud = λ s t k at. let x = entry s t k 0 at in l.loud s k x.0 x.1 x.2;
        once = λ s t u j k e p q. let x = entry s t j e p in let y = entry s u k e q in l.once s j k x.0 y.0 x.1 y.1 (x.2 ∙ sym y.2);
      }

-- what a table's type says of its bytes makes it lawful, and what a normal table's says makes it lone
pub table_keeps : (b : List ℕ) → Everywhere (pair_rule b) → Below (Formed b) (all_steps b) → Below (Ended b) (all_steps b) → Lawful (table_lts b)
table_keeps b pairs formed ended = table_lawful b (lawful b pairs formed ended)

pub table_keeps_lone : (b : List ℕ) → ∥ Everywhere (normal_rule b) ∥₁ → Lone (table_lts b)
table_keeps_lone b h = table_lone b (lone_of b h)

-- what a type shows of a system, where it keeps no more than that there is a proof
pub lawful_from : {S : Type 0} (m : Lts S) → ∥ Lawful m ∥₁ → Lawful m
lawful_from {S} m h =
    record {
      few = λ s. ⊎_elim (λ l. absurd (∥∥₁_elim h ⊥_prop (λ w. let f = w.few s in omega arith))) (λ l. l) (cases_lt 66048 (length (m.steps s)));
      low = λ s t k e at. ⊎_elim (λ l. l) (λ l. absurd (∥∥₁_elim h ⊥_prop (λ w. let f = w.low s t k e at in omega arith))) (cases_lt e 64);
      ended = λ s t k at. nil_from_length (m.steps t) (⊎_elim (λ l. absurd (∥∥₁_elim h ⊥_prop (λ w. let f = ap length (w.ended s t k at) in omega arith))) (λ l. omega arith) (cases_lt 0 (length (m.steps t))));
    }
