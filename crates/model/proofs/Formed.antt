-- What the row rule gives: the rows of the file have their parts before them, so a process is its operator
-- over the processes of its parts.
use Rattle.std.proofs.Common.{◌≡◌, ℕ, ◌<◌, List, length, get_or, Some, None, Option, sym, refl, ap, ◌∙◌, subst, zero-add, arith}
use Rattle.std.proofs.lemmas.List.FromFn.{length-map-range_with_len, get_or-map-range_with_len}
use Rattle.fault.specs.Judged.{Everywhere}
use Rattle.model.specs.declared.op.Op.{Op}
use Rattle.model.specs.declared.op.Use.{Use}
use Rattle.model.specs.declared.op.Use.TheVariants.{Unused, Event, Mask, Part, Definition}
use Rattle.model.specs.Ops.{shape}
use Rattle.model.specs.Rows.{blank, term_of, terms, PartIn, Fits, AllFit}
use Rattle.model.specs.File.{rows, left_at_lem, right_at_lem, part_field_lem, row_from, row_at, rows_of, process}
use Rattle.model.specs.Rules.{FieldOk, Shaped, RowOk, row_rule}
use Rattle.model.proofs.Denoted.{row_term}

pub rows_length : (b : List ℕ) → length (rows_of b) ≡ rows b
unfolding rows_of
rows_length b = length-map-range_with_len (row_at b) 0 (rows b)

pub rows_at : (b : List ℕ) (i : ℕ) → i < rows b → get_or (rows_of b) i blank ≡ row_at b i
unfolding rows_of
rows_at b i h = get_or-map-range_with_len (row_at b) 0 (rows b) i i blank h (zero-add i)

field_part : (b : List ℕ) (i : ℕ) (u : Use) (v : ℕ) → FieldOk b i u v → PartIn u (part_field_lem u v) i
field_part b i Unused v h = refl
field_part b i Event v h = refl
field_part b i Mask v h = refl
field_part b i Part v h = h
field_part b i Definition v h = refl

fits_from : (b : List ℕ) (i : ℕ) (o : Option Op) → Shaped b i o → Fits i (row_from o (left_at_lem b i) (right_at_lem b i))
fits_from b i None h = absurd h
fits_from b i (Some o) h =
    record { left = field_part b i (shape o).left (left_at_lem b i) h.left; right = field_part b i (shape o).right (right_at_lem b i) h.right }

-- parts stand before wholes
pub row_fits : (b : List ℕ) (i : ℕ) → RowOk b i → Fits i (row_at b i)
unfolding row_at
row_fits b i h = fits_from b i _ h

pub all_fit : (b : List ℕ) → Everywhere (row_rule b) → AllFit (rows_of b)
all_fit b h i l =
    let k : i < rows b = omega (arith, rows_length b) in
    subst (Fits i) (sym (rows_at b i k)) (row_fits b i (h i k))

pub fit_at : (b : List ℕ) → AllFit (rows_of b) → (i : ℕ) → i < rows b → Fits i (row_at b i)
fit_at b fit i l = subst (Fits i) (rows_at b i l) (fit i (omega (arith, rows_length b)))

-- the process of a row, by those of its parts
pub process_at : (b : List ℕ) → AllFit (rows_of b) → (i : ℕ) → i < rows b → process b i ≡ term_of (terms (rows_of b)) (row_at b i)
process_at b fit i l =
    let k : i < length (rows_of b) = omega (arith, rows_length b) in
    row_term (rows_of b) fit i k ∙ ap (term_of (terms (rows_of b))) (rows_at b i l)
