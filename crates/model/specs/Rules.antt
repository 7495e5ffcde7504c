-- When a model file is well formed, and when a model is settled: one condition for each refusal, in the
-- order in which they are tried. Assumes nothing.
use Rattle.std.specs.Prelude.{◌≡◌, ℕ, zero, suc, ◌+◌, ◌/◌, ◌%◌, ◌^◌, ◌<◌, ◌≤◌, List, [], ◌∷◌, length, Some, None, Option, ◌≢◌, slice_index_or}
use Rattle.lent_bytes.specs.Reads.{be}
use Rattle.fault.specs.First.{Below}
use Rattle.fault.specs.Judged.{Rule, rule}
use Rattle.fault.specs.declared.refusal.Refusal.TheVariants.{FileLength, FileHead, FilePair, FileMask, FileRow, FileRepeat, FileHeight, FileDefinition, ModelOpen}
use Rattle.model.specs.declared.op.Op.{Op}
use Rattle.model.specs.declared.op.Use.{Use}
use Rattle.model.specs.declared.op.Use.TheVariants.{Unused, Event, Mask, Part, Definition}
use Rattle.model.specs.Ops.{shape}
use Rattle.model.specs.Terms.{height, Open}
use Rattle.model.specs.File.{events, offset, size, unit, least, most, masks, rows, definitions, mask_at_lem, definition_at_lem, row_bytes_lem, argument_at_lem, left_at_lem, right_at_lem, spare_at_lem, op_at_lem, process, body}

-- 1: 28 to 65,536 bytes
pub record LengthOk (b : List ℕ) : Type 0 where
  pub low : 28 ≤ length b
  pub high : length b ≤ 65536

-- 2: version 1, at most 62 visible events, three sections
pub record HeadOk (b : List ℕ) : Type 0 where
  pub version : be b 0 2 ≡ 1
  pub few : events b ≤ 62
  pub sections : slice_index_or b 3 0 ≡ 3

-- where section k may begin: after the head, and after the section before it
abbrev pub floor : List ℕ → ℕ → ℕ
floor b zero = 28
floor b (suc k) = offset b k + size b k

-- 3: section k is in order, lies in the file, is a multiple of its entries, and has as many as it may
pub record PairOk (b : List ℕ) (k : ℕ) : Type 0 where
  pub order : floor b k ≤ offset b k
  pub ends : offset b k + size b k ≤ length b
  pub whole : size b k % unit k ≡ 0
  pub low : least k ≤ size b k / unit k
  pub high : size b k / unit k ≤ most k

-- 4: a mask has visible events only: no bit 0 or 1, and none from events + 2 on
pub record MaskOk (b : List ℕ) (m : ℕ) : Type 0 where
  pub visible : mask_at_lem b m % 4 ≡ 0
  pub known : mask_at_lem b m < 2 ^ (events b + 2)

-- 5: a value in a field of row i
abbrev pub FieldOk : List ℕ → ℕ → Use → ℕ → Type 0
FieldOk b i Unused v = v ≡ 0
FieldOk b i Event v = (2 ≤ v) × (v < events b + 2)
FieldOk b i Mask v = v < masks b
FieldOk b i Part v = v < i
FieldOk b i Definition v = v < definitions b

pub record FieldsOk (b : List ℕ) (i : ℕ) (o : Op) : Type 0 where
  pub argument : FieldOk b i (shape o).argument (argument_at_lem b i)
  pub left : FieldOk b i (shape o).left (left_at_lem b i)
  pub right : FieldOk b i (shape o).right (right_at_lem b i)
  pub spare : spare_at_lem b i ≡ 0

abbrev pub Shaped : List ℕ → ℕ → Option Op → Type 0
Shaped b i None = ⊥
Shaped b i (Some o) = FieldsOk b i o

abbrev pub RowOk : List ℕ → ℕ → Type 0
RowOk b i = Shaped b i (op_at_lem b i)

-- 6: row i is none of those before it
abbrev pub RowNew : List ℕ → ℕ → Type 0
RowNew b i = Below (λ j. row_bytes_lem b j ≢ row_bytes_lem b i) i

-- 7: a process is at most 64 high
abbrev pub HeightOk : List ℕ → ℕ → Type 0
HeightOk b i = height (process b i) ≤ 64

-- 8: a definition's body is a row
abbrev pub DefinitionOk : List ℕ → ℕ → Type 0
DefinitionOk b d = definition_at_lem b d < rows b

-- 9: the body of definition d has only definitions below d open
abbrev pub OpenOk : List ℕ → ℕ → Type 0
OpenOk b d = (e : ℕ) → Open (body b d) e → e < d

abbrev pub length_rule : List ℕ → Rule
length_rule b = rule FileLength 1 (λ _. LengthOk b)

abbrev pub head_rule : List ℕ → Rule
head_rule b = rule FileHead 1 (λ _. HeadOk b)

abbrev pub pair_rule : List ℕ → Rule
pair_rule b = rule FilePair 3 (PairOk b)

abbrev pub mask_rule : List ℕ → Rule
mask_rule b = rule FileMask (masks b) (MaskOk b)

abbrev pub row_rule : List ℕ → Rule
row_rule b = rule FileRow (rows b) (RowOk b)

abbrev pub repeat_rule : List ℕ → Rule
repeat_rule b = rule FileRepeat (rows b) (RowNew b)

abbrev pub height_rule : List ℕ → Rule
height_rule b = rule FileHeight (rows b) (HeightOk b)

abbrev pub definition_rule : List ℕ → Rule
definition_rule b = rule FileDefinition (definitions b) (DefinitionOk b)

-- the conditions of refusals 1 to 8, in the order in which they are tried
abbrev pub rules_in_order : List ℕ → List Rule
rules_in_order b =
    length_rule b
    ∷ head_rule b
    ∷ pair_rule b
    ∷ mask_rule b
    ∷ row_rule b
    ∷ repeat_rule b
    ∷ height_rule b
    ∷ definition_rule b
    ∷ []

-- a file is well formed when all of these hold everywhere
unfoldable pub file_rules : List ℕ → List Rule
file_rules b = rules_in_order b

-- a model is settled when this holds everywhere
abbrev pub open_rule : List ℕ → Rule
open_rule b = rule ModelOpen (definitions b) (OpenOk b)

unfoldable pub settle_rules : List ℕ → List Rule
settle_rules b = open_rule b ∷ []
