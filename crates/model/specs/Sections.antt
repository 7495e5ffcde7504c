-- The places of the sections. Assumes nothing.
use Rattle.std.specs.Prelude.{ℕ}
use Rattle.model.specs.declared.section.Section.{Section}
use Rattle.model.specs.declared.section.Section.TheVariants.{Masks, Rows, Definitions}

abbrev pub place : Section → ℕ
place Masks = 0
place Rows = 1
place Definitions = 2
