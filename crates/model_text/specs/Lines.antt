-- Texts by number, one after another. Assumes nothing.
use Rattle.std.specs.Prelude.{◌≡◌, ℕ, ◌<◌, List, ◌++◌, Ok, Result}
use Rattle.std.specs.List.{range_with_len, flat_map}

-- the new text is the old one and the texts of the numbers below n: `makes k r` where r may be what is made of k
pub record Appends {S E : Type 0} (bytes : S → List ℕ) (makes : ℕ → Result S E → Type 0) (n : ℕ) (old new : List ℕ) : Type 0 where
  pub each : (text : ℕ → List ℕ) → ((k : ℕ) (s : S) → k < n → makes k (Ok s) → bytes s ≡ text k) → new ≡ old ++ flat_map text (range_with_len 0 n)
