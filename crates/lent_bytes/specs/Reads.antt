-- Big-endian numbers. Assumes nothing.
use Rattle.std.specs.Prelude.{◌≡◌, ℕ, zero, suc, ◌+◌, ◌*◌, ◌<◌, List, length, slice_index}

-- the number in the n bytes from i on, the most significant first; past the end stand zeros
unfoldable pub be : List ℕ → ℕ → ℕ → ℕ
be b i zero = 0
be b i (suc n) = 256 * be b i n + slice_index b (i + n)

-- the n bytes from i on; past the end stand zeros
abbrev pub Window : List ℕ → ℕ → ℕ → List ℕ → Type 0
Window b i n w = (length w ≡ n) × ((k : ℕ) → k < n → slice_index w k ≡ slice_index b (i + k))
