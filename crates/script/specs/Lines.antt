-- A line of a script: two row numbers with one space between them. Assumes nothing.
use Rattle.std.specs.Prelude.{◌≡◌, ℕ, ◌+◌, ◌-◌, ◌*◌, ◌<◌, ◌≤◌, List, [], ◌∷◌, ◌++◌, length, Ok, Err, Result, slice_index}
use Rattle.fault.specs.Judged.{fault}
use Rattle.fault.specs.declared.refusal.Fault.{Fault}
use Rattle.fault.specs.declared.refusal.Refusal.TheVariants.{ScriptLine}
use Rattle.script.specs.declared.record.Asked.{Asked}

abbrev pub Digit : ℕ → Type 0
Digit c = (48 ≤ c) × (c ≤ 57)

-- the number that digits write, after those that wrote n
abbrev pub value : ℕ → List ℕ → ℕ
value n [] = n
value n (c ∷ cs) = value (n * 10 + (c - 48)) cs

-- a row number: one to five digits, at most 65,535; leading zeros are allowed
pub record Number (ds : List ℕ) (v : ℕ) : Type 0 where
  pub some : 1 ≤ length ds
  pub few : length ds ≤ 5
  pub digits : (k : ℕ) → k < length ds → Digit (slice_index ds k)
  pub is : v ≡ value 0 ds
  pub small : v ≤ 65535

-- two row numbers with one space between them
pub record Line (bytes : List ℕ) (design spec : ℕ) : Type 0 where
  pub left : List ℕ
  pub right : List ℕ
  pub whole : bytes ≡ left ++ 32 ∷ right
  pub first : Number left design
  pub second : Number right spec

-- what reading the n-th line answers: its numbers, or refusal 27 at n exactly when it is no line
abbrev pub ReadLine : List ℕ → ℕ → Result Asked Fault → Type 0
ReadLine b n (Ok a) = Line b a.design a.spec
ReadLine b n (Err f) = (f ≡ fault ScriptLine n) × ((x y : ℕ) → Line b x y → ⊥)
