-- What a write to a buffer changes: one number of some bytes, a pair of a table, or a step of a table. Assumes nothing.
use Rattle.std.specs.Prelude.{◌≡◌, ℕ, ◌+◌, ◌<◌, ◌≤◌, ◌⊎◌, List, length, slice_index, slice_index_or}
use Rattle.lent_bytes.specs.Reads.{be}

-- nothing but the n bytes from i on has changed
pub record Kept (old new : List ℕ) (i n : ℕ) : Type 0 where
  pub size : length new ≡ length old
  pub same : (j : ℕ) → (j < i) ⊎ (i + n ≤ j) → slice_index new j ≡ slice_index old j

-- a number
pub record Put (old new : List ℕ) (i n v : ℕ) : Type 0 where
  pub kept : Kept old new i n
  pub value : be new i n ≡ v

-- a pair of offset and length
pub record PairPut (old new : List ℕ) (i o c : ℕ) : Type 0 where
  pub kept : Kept old new i 8
  pub first : be new i 4 ≡ o
  pub second : be new (i + 4) 4 ≡ c

-- a step
pub record StepPut (old new : List ℕ) (i e t : ℕ) : Type 0 where
  pub kept : Kept old new i 4
  pub event : slice_index_or new i 0 ≡ e
  pub spare : slice_index_or new (i + 1) 0 ≡ 0
  pub target : be new (i + 2) 2 ≡ t
