-- The bytes of a model file: its sections, masks, rows and definitions. Assumes nothing.
use Rattle.std.specs.Prelude.{ℕ, zero, suc, ◌+◌, ◌*◌, ◌/◌, List, map, Some, None, Option, slice_index}
use Rattle.std.specs.List.{range_with_len}
use Rattle.lent_bytes.specs.Reads.{be}
use Rattle.model.specs.declared.op.Op.{Op}
use Rattle.model.specs.declared.op.Row.{Row}
use Rattle.model.specs.declared.op.Use.{Use}
use Rattle.model.specs.declared.op.Use.TheVariants.{Unused, Event, Mask, Part, Definition}
use Rattle.model.specs.Ops.{shape, op_of}
use Rattle.model.specs.Rows.{blank, term_at}
use Rattle.model.specs.Terms.{Term}

-- the number of visible events: they are 2 to events + 1
abbrev pub events : List ℕ → ℕ
events b = slice_index b 2

-- section k: 0 masks, 1 rows, 2 definitions; its offset and length in bytes
abbrev pub offset : List ℕ → ℕ → ℕ
offset b k = be b (4 + 8 * k) 4

abbrev pub size : List ℕ → ℕ → ℕ
size b k = be b (8 + 8 * k) 4

-- the bytes of one entry, and how many entries a section has at least and at most
abbrev pub unit : ℕ → ℕ
unit zero = 8
unit (suc zero) = 8
unit (suc (suc k)) = 2

abbrev pub least : ℕ → ℕ
least zero = 0
least (suc zero) = 1
least (suc (suc k)) = 0

abbrev pub most : ℕ → ℕ
most zero = 64
most (suc zero) = 4096
most (suc (suc k)) = 64

abbrev pub masks : List ℕ → ℕ
masks b = size b 0 / 8

abbrev pub rows : List ℕ → ℕ
rows b = size b 1 / 8

abbrev pub definitions : List ℕ → ℕ
definitions b = size b 2 / 2

-- mask k
abbrev pub mask_at_lem : List ℕ → ℕ → ℕ
mask_at_lem b k = be b (offset b 0 + 8 * k) 8

-- the row of definition d's body
abbrev pub definition_at_lem : List ℕ → ℕ → ℕ
definition_at_lem b d = be b (offset b 2 + 2 * d) 2

-- row i: its place in the file, its whole eight bytes, and its fields
abbrev pub row_place_lem : List ℕ → ℕ → ℕ
row_place_lem b i = offset b 1 + 8 * i

abbrev pub row_bytes_lem : List ℕ → ℕ → ℕ
row_bytes_lem b i = be b (row_place_lem b i) 8

abbrev pub kind_at : List ℕ → ℕ → ℕ
kind_at b i = slice_index b (row_place_lem b i)

abbrev pub argument_at_lem : List ℕ → ℕ → ℕ
argument_at_lem b i = slice_index b (row_place_lem b i + 1)

abbrev pub left_at_lem : List ℕ → ℕ → ℕ
left_at_lem b i = be b (row_place_lem b i + 2) 2

abbrev pub right_at_lem : List ℕ → ℕ → ℕ
right_at_lem b i = be b (row_place_lem b i + 4) 2

abbrev pub spare_at_lem : List ℕ → ℕ → ℕ
spare_at_lem b i = be b (row_place_lem b i + 6) 2

-- the operator of row i, if its kind is one
abbrev pub op_at_lem : List ℕ → ℕ → Option Op
op_at_lem b i = op_of (kind_at b i) (argument_at_lem b i) (left_at_lem b i)

-- a field as a part: its number, or 0 where it is no part
abbrev pub part_field_lem : Use → ℕ → ℕ
part_field_lem Unused v = 0
part_field_lem Event v = 0
part_field_lem Mask v = 0
part_field_lem Part v = v
part_field_lem Definition v = 0

abbrev pub row_with_lem : Op → ℕ → ℕ → Row
row_with_lem o l r = record { op = o; left = part_field_lem (shape o).left l; right = part_field_lem (shape o).right r }

abbrev pub row_from : Option Op → ℕ → ℕ → Row
row_from None l r = blank
row_from (Some o) l r = row_with_lem o l r

-- row i as a process over earlier rows (STOP where its kind is none)
unfoldable pub row_at : List ℕ → ℕ → Row
row_at b i = row_from (op_at_lem b i) (left_at_lem b i) (right_at_lem b i)

unfoldable pub rows_of : List ℕ → List Row
rows_of b = map (row_at b) (range_with_len 0 (rows b))

-- the process of row i, and the body of definition d
abbrev pub process : List ℕ → ℕ → Term
process b i = term_at (rows_of b) i

abbrev pub body : List ℕ → ℕ → Term
body b d = process b (definition_at_lem b d)
