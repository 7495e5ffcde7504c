-- Events at the places of a list: no tau and no event twice, told by places. Assumes nothing.
use Rattle.std.specs.Prelude.{ℕ, ◌<◌, ◌≢◌}

-- of the events at the first n places none is tau, and no two are the same
pub record Fresh (at : ℕ → ℕ) (n : ℕ) : Type 0 where
  pub loud : (k : ℕ) → k < n → at k ≢ 0
  pub apart : (j k : ℕ) → j < k → k < n → at j ≢ at k
