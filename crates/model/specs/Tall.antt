-- Heights by row number. Assumes nothing.
use Rattle.std.specs.Prelude.{ℕ, List, slice_index}
use Rattle.model.specs.declared.op.Use.{Use}
use Rattle.model.specs.declared.op.Use.TheVariants.{Unused, Event, Mask, Part, Definition}

-- the height that a field adds: that of a part, by the heights of the rows before
abbrev pub height_field : Use → List ℕ → ℕ → ℕ
height_field Unused hs p = 0
height_field Event hs p = 0
height_field Mask hs p = 0
height_field Part hs p = slice_index hs p
height_field Definition hs p = 0
