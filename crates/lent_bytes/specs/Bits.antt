-- The bits of a number. Assumes nothing.
use Rattle.std.specs.Prelude.{ℕ, ◌/◌, ◌%◌, ◌^◌, Bool, ◌==◌}

-- whether bit i, of value 2 ^ i, is set
unfoldable pub bit : ℕ → ℕ → Bool
bit w i = w / 2 ^ i % 2 == 1
