-- The first place at which a condition fails. Assumes nothing.
use Rattle.std.specs.Prelude.{ℕ, ◌<◌}

-- P holds at each place below n
abbrev pub Below : (ℕ → Type 0) → ℕ → Type 0
Below P n = (k : ℕ) → k < n → P k

-- p is the first of the places below n at which P fails
pub record FirstFail (P : ℕ → Type 0) (n p : ℕ) : Type 0 where
  pub within : p < n
  pub fails : P p → ⊥
  pub before : Below P p
