-- A question that decides a rule at each of its places, tried place by place, answers as the rule.
use Rattle.std.proofs.Common.{◌≡◌, ℕ, ◌<◌, Bool, true, false, Ok, Err, Decides, refl, arith}
use Rattle.std.proofs.lemmas.Bool.Decides.{not_from_Decides}
use Rattle.fault.specs.declared.refusal.Refusal.{Refusal}
use Rattle.fault.specs.Judged.{Answer, Passes, Tried, said_so, rule}

by : {said : ℕ → Bool → Type 0} (P : ℕ → Type 0) (r : Refusal) (n m : ℕ) (a : Answer) → said_so said r m a → m ≡ n → ((k : ℕ) (b : Bool) → k < n → said k b → Decides b (P k)) → Passes (rule r n P) a
by P r n m (Ok u) t e decides = λ k h. let l : k < m = omega arith in (decides k true h (t k l)).0 refl
by P r n m (Err f) t e decides =
    let within : f.place < n = omega (arith, t.within) in
    record {
      told = t.told;
      first = record {
        within = within;
        fails = not_from_Decides false (decides f.place false within t.no) refl;
        before = λ k h. let l : k < n = omega arith in (decides k true l (t.before k h)).0 refl;
      };
    }

pub passes : {said : ℕ → Bool → Type 0} (P : ℕ → Type 0) (r : Refusal) (n m : ℕ) (a : Answer) → Tried said r m a → m ≡ n → ((k : ℕ) (b : Bool) → k < n → said k b → Decides b (P k)) → Passes (rule r n P) a
passes P r n m a t e decides = by P r n m a t.so e decides
