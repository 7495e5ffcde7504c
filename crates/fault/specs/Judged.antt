-- Conditions tried in order: what a check answers is the first refusal whose condition fails, at the
-- first place at which it fails. Assumes nothing.
use Rattle.std.specs.Prelude.{◌≡◌, ℕ, ◌<◌, ◌⊎◌, Bool, true, false, List, [], ◌∷◌, Ok, Err, Result}
use Rattle.fault.specs.declared.refusal.Refusal.{Refusal}
use Rattle.fault.specs.declared.refusal.Fault.{Fault}
use Rattle.fault.specs.First.{Below, FirstFail}

-- a refusal, and what has to hold at each of its places
pub record Rule : Type 1 where
  pub refusal : Refusal
  pub places : ℕ
  pub holds : ℕ → Type 0

abbrev pub rule : Refusal → ℕ → (ℕ → Type 0) → Rule
rule r n P = record { refusal = r; places = n; holds = P }

abbrev pub fault : Refusal → ℕ → Fault
fault r p = record { refusal = r; place = p }

abbrev pub Answer : Type 0
Answer = Result (Unit {0}) Fault

-- the rule holds at each of its places
abbrev pub Everywhere : Rule → Type 0
Everywhere c = Below c.holds c.places

-- the fault names the rule's refusal, at the first place where the rule fails
pub record Refused (c : Rule) (f : Fault) : Type 0 where
  pub told : f.refusal ≡ c.refusal
  pub first : FirstFail c.holds c.places f.place

-- what a check of one rule answers
abbrev pub Passes : Rule → Answer → Type 0
Passes c (Ok u) = Everywhere c
Passes c (Err f) = Refused c f

-- no comes first at the fault's place, of the places below n
pub record FirstNo (said : ℕ → Bool → Type 0) (r : Refusal) (n : ℕ) (f : Fault) : Type 0 where
  pub told : f.refusal ≡ r
  pub within : f.place < n
  pub no : said f.place false
  pub before : Below (λ k. said k true) f.place

abbrev pub said_so : (ℕ → Bool → Type 0) → Refusal → ℕ → Answer → Type 0
said_so said r n (Ok u) = Below (λ k. said k true) n
said_so said r n (Err f) = FirstNo said r n f

-- what asking a question at the places below n, up to the first no, answers: `said k b` where the question may answer b at place k
pub record Tried (said : ℕ → Bool → Type 0) (r : Refusal) (n : ℕ) (a : Answer) : Type 0 where
  pub so : said_so said r n a

-- every rule holds everywhere
abbrev pub Meets : List Rule → Type 0
Meets [] = Unit {0}
Meets (c ∷ cs) = Everywhere c × Meets cs

-- the fault is the first: some rule refuses by it, and every earlier one holds everywhere
abbrev pub FirstRefused : List Rule → Fault → Type 0
FirstRefused [] f = ⊥
FirstRefused (c ∷ cs) f = Refused c f ⊎ (Everywhere c × FirstRefused cs f)

-- what a check of several rules, in order, answers
abbrev pub Judged : List Rule → Answer → Type 0
Judged cs (Ok u) = Meets cs
Judged cs (Err f) = FirstRefused cs f

-- an answer that is exact both ways: Ok exactly when every rule holds everywhere, and a fault exactly
-- when it is the first
pub record Exact (cs : List Rule) (r : Answer) : Type 0 where
  pub ok : r ≡ Ok tt → Meets cs
  pub only_ok : Meets cs → r ≡ Ok tt
  pub told : (f : Fault) → r ≡ Err f → FirstRefused cs f
  pub only_told : (f : Fault) → FirstRefused cs f → r ≡ Err f
