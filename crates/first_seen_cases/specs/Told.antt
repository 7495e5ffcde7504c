-- What gathering answers. Assumes nothing.
use Rattle.std.specs.Prelude.{ℕ, List, length, Some, None, Ok, Err, Option, Result}
use Rattle.first_seen.specs.declared.list.Full.{Full}

-- how many were found, or that there was no room
abbrev pub told : {X : Type 0} → Option (List X) → Result ℕ Full
told (Some found) = Ok (length found)
told None = Err (record {})
