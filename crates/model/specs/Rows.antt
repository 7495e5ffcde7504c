-- Rows, and the terms that they stand for. Assumes nothing.
use Rattle.std.specs.Prelude.{◌≡◌, ℕ, ◌<◌, List, [], ◌∷◌, ◌++◌, length, slice_index_or}
use Rattle.model.specs.declared.op.Op.TheVariants.{Stop}
use Rattle.model.specs.declared.op.Use.{Use}
use Rattle.model.specs.declared.op.Use.TheVariants.{Unused, Event, Mask, Part, Definition}
use Rattle.model.specs.declared.op.Row.{Row}
use Rattle.model.specs.Ops.{shape}
use Rattle.model.specs.Terms.{Term, none, node}

-- a row of zeros
abbrev pub blank : Row
blank = record { op = Stop; left = 0; right = 0 }

-- what a field gives to the term: the term of a part, by those of the rows before
abbrev pub part_of : Use → List Term → ℕ → Term
part_of Unused ts p = none
part_of Event ts p = none
part_of Mask ts p = none
part_of Part ts p = slice_index_or ts p none
part_of Definition ts p = none

abbrev pub left_of : List Term → Row → Term
left_of ts r = part_of (shape r.op).left ts r.left

abbrev pub right_of : List Term → Row → Term
right_of ts r = part_of (shape r.op).right ts r.right

abbrev pub term_of : List Term → Row → Term
term_of ts r = node r.op (left_of ts r) (right_of ts r)

abbrev pub build : List Term → List Row → List Term
build ts [] = ts
build ts (r ∷ rs) = build (ts ++ (term_of ts r ∷ [])) rs

-- the term of each row, in order
unfoldable pub terms : List Row → List Term
terms rs = build [] rs

abbrev pub term_at : List Row → ℕ → Term
term_at rs i = slice_index_or (terms rs) i none

-- a field of a row at place i: a part stands before it, and any other field is 0
abbrev pub PartIn : Use → ℕ → ℕ → Type 0
PartIn Unused p i = p ≡ 0
PartIn Event p i = p ≡ 0
PartIn Mask p i = p ≡ 0
PartIn Part p i = p < i
PartIn Definition p i = p ≡ 0

-- the parts of a row stand before it
pub record Fits (i : ℕ) (r : Row) : Type 0 where
  pub left : PartIn (shape r.op).left r.left i
  pub right : PartIn (shape r.op).right r.right i

-- each row's parts stand before it
abbrev pub AllFit : List Row → Type 0
AllFit rs = (i : ℕ) → i < length rs → Fits i (slice_index_or rs i blank)
