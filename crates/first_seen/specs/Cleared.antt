-- Rows that are blank. Assumes nothing.
use Rattle.std.specs.Prelude.{List, length, replicate}

-- as many rows, each of them blank
abbrev pub cleared : {X : Type 0} → X → List X → List X
cleared blank xs = replicate (length xs) blank
