-- What a well-formed file's bytes are known to be; the file without rows has it all, since it has no rows.
use Rattle.std.proofs.Common.{◌≡◌, ℕ, zero, suc, ◌+◌, ◌<◌, ◌≤◌, List, Some, None, Option, sym, refl, subst, arith, lit<, lit≤}
use Rattle.lent_bytes.specs.Reads.{be}
use Rattle.fault.specs.Judged.{Meets}
use Rattle.model.specs.declared.op.Op.{Op}
use Rattle.model.specs.declared.op.Op.TheVariants.{Stop, Skip, Omega, Prefix, External, Internal, Sequence, Parallel, Hide, Interrupt, Name}
use Rattle.model.specs.declared.op.Use.{Use}
use Rattle.model.specs.declared.op.Use.TheVariants.{Unused, Event, Mask, Part, Definition}
use Rattle.model.specs.Ops.{shape, op_of}
use Rattle.model.specs.Rows.{PartIn, Fits, AllFit}
use Rattle.model.specs.File.{events, rows, definitions, kind_at, argument_at_lem, left_at_lem, right_at_lem, op_at_lem, part_field_lem, row_from, row_at, rows_of}
use Rattle.model.specs.Rules.{FieldsOk, Shaped, RowOk, file_rules, settle_rules}
use Rattle.model.specs.Sound.{LeftBefore, RightBefore, Lower, Facts, empty_file}
use Rattle.model.proofs.Apart.{bytes_same}
use Rattle.model.proofs.Formed.{row_fits, rows_length, rows_at}

-- an operator read from a row holds the row's own fields
Reads : ℕ → ℕ → Option Op → Type 0
Reads x l None = Unit {0}
Reads x l (Some Stop) = Unit {0}
Reads x l (Some Skip) = Unit {0}
Reads x l (Some Omega) = Unit {0}
Reads x l (Some (Prefix a)) = a ≡ x
Reads x l (Some External) = Unit {0}
Reads x l (Some Internal) = Unit {0}
Reads x l (Some Sequence) = Unit {0}
Reads x l (Some (Parallel m)) = m ≡ x
Reads x l (Some (Hide m)) = m ≡ x
Reads x l (Some Interrupt) = Unit {0}
Reads x l (Some (Name d)) = d ≡ l

reads : (k x l : ℕ) → Reads x l (op_of k x l)
unfolding Reads
reads zero x l = tt
reads (suc zero) x l = tt
reads (suc (suc zero)) x l = tt
reads (suc (suc (suc zero))) x l = refl
reads (suc (suc (suc (suc zero)))) x l = tt
reads (suc (suc (suc (suc (suc zero))))) x l = tt
reads (suc (suc (suc (suc (suc (suc zero)))))) x l = tt
reads (suc (suc (suc (suc (suc (suc (suc zero))))))) x l = refl
reads (suc (suc (suc (suc (suc (suc (suc (suc zero)))))))) x l = refl
reads (suc (suc (suc (suc (suc (suc (suc (suc (suc zero))))))))) x l = tt
reads (suc (suc (suc (suc (suc (suc (suc (suc (suc (suc zero)))))))))) x l = refl
reads (suc (suc (suc (suc (suc (suc (suc (suc (suc (suc (suc k))))))))))) x l = tt

module _ (b : List ℕ) (i : ℕ) where
  prefix_from : (o : Option Op) → Shaped b i o → Reads (argument_at_lem b i) (left_at_lem b i) o → (a : ℕ) → (row_from o (left_at_lem b i) (right_at_lem b i)).op ≡ Prefix a → (2 ≤ a) × (a < events b + 2)
  unfolding Reads
  prefix_from None h r a e = absurd h
  prefix_from (Some o) h r a e =
      let f : FieldsOk b i (Prefix a) = subst (FieldsOk b i) e h in
      let g : a ≡ argument_at_lem b i = subst (λ (p : Op). Reads (argument_at_lem b i) (left_at_lem b i) (Some p)) e r in
      (omega (arith, f.argument.0), omega (arith, f.argument.1))

  name_from : (o : Option Op) → Shaped b i o → Reads (argument_at_lem b i) (left_at_lem b i) o → (d : ℕ) → (row_from o (left_at_lem b i) (right_at_lem b i)).op ≡ Name d → d < definitions b
  unfolding Reads
  name_from None h r d e = absurd h
  name_from (Some o) h r d e =
      let f : FieldsOk b i (Name d) = subst (FieldsOk b i) e h in
      let g : d ≡ left_at_lem b i = subst (λ (p : Op). Reads (argument_at_lem b i) (left_at_lem b i) (Some p)) e r in
      omega (arith, f.left)

  prefix_at : RowOk b i → (a : ℕ) → (row_at b i).op ≡ Prefix a → (2 ≤ a) × (a < events b + 2)
  unfolding row_at
  prefix_at h a e = prefix_from (op_at_lem b i) h (reads (kind_at b i) (argument_at_lem b i) (left_at_lem b i)) a e

  name_at : RowOk b i → (d : ℕ) → (row_at b i).op ≡ Name d → d < definitions b
  unfolding row_at
  name_at h d e = name_from (op_at_lem b i) h (reads (kind_at b i) (argument_at_lem b i) (left_at_lem b i)) d e

part_lower : (u : Use) (p i : ℕ) → PartIn u p i → u ≡ Part → p < i
part_lower u p i h e = subst (λ (v : Use). PartIn v p i) e h

pub facts_formed : (b : List ℕ) → Meets (file_rules b) → Facts b
unfolding file_rules
facts_formed b m =
    let pairs = m.1.1.0 in
    let ok = m.1.1.1.1.0 in
    record {
      few = ((m.1.0 0 (lit< tt)).few, (pairs 0 (lit< tt)).high, (pairs 1 (lit< tt)).high, (pairs 2 (lit< tt)).high);
      left = λ i l e. part_lower _ _ i (row_fits b i (ok i l)).left e;
      right = λ i l e. part_lower _ _ i (row_fits b i (ok i l)).right e;
      visible = λ i l a e. (prefix_at b i (ok i l) a e).0;
      known = λ i l a e. (prefix_at b i (ok i l) a e).1;
      named = λ i l d e. name_at b i (ok i l) d e;
      apart = λ i l j h. let g = h.0 in m.1.1.1.1.1.0 i l j g (bytes_same b j i (ok j (omega arith)) (ok i l) h.1);
      low = m.1.1.1.1.1.1.0;
      bodied = m.1.1.1.1.1.1.1.0;
    }

pub facts_empty : Facts empty_file
unfolding empty_file be
facts_empty =
    record {
      few = (lit≤ tt, lit≤ tt, lit≤ tt, lit≤ tt);
      left = λ i l e. absurd (omega arith);
      right = λ i l e. absurd (omega arith);
      visible = λ i l a e. absurd (omega arith);
      known = λ i l a e. absurd (omega arith);
      named = λ i l d e. absurd (omega arith);
      apart = λ i l j h. absurd (omega arith);
      low = λ i l. absurd (omega arith);
      bodied = λ d l. absurd (omega arith);
    }

part_from : (u : Use) (v i : ℕ) → (u ≡ Part → part_field_lem u v < i) → PartIn u (part_field_lem u v) i
part_from Unused v i h = refl
part_from Event v i h = refl
part_from Mask v i h = refl
part_from Part v i h = h refl
part_from Definition v i h = refl

fits_by : (i l r : ℕ) (o : Option Op) → ((shape (row_from o l r).op).left ≡ Part → (row_from o l r).left < i) → ((shape (row_from o l r).op).right ≡ Part → (row_from o l r).right < i) → Fits i (row_from o l r)
fits_by i l r None h k = record { left = refl; right = refl }
fits_by i l r (Some o) h k = record { left = part_from (shape o).left l i h; right = part_from (shape o).right r i k }

fits_at : (b : List ℕ) (i : ℕ) → ((shape (row_at b i).op).left ≡ Part → (row_at b i).left < i) → ((shape (row_at b i).op).right ≡ Part → (row_at b i).right < i) → Fits i (row_at b i)
unfolding row_at
fits_at b i h k = fits_by i (left_at_lem b i) (right_at_lem b i) (op_at_lem b i) h k

-- parts stand before wholes, as a model's type says it
pub all_before : (b : List ℕ) → LeftBefore b → RightBefore b → AllFit (rows_of b)
all_before b left right i l =
    let k : i < rows b = omega (arith, rows_length b) in
    subst (Fits i) (sym (rows_at b i k)) (fits_at b i (left i k) (right i k))

pub lower_settled : (b : List ℕ) → Meets (settle_rules b) → Lower b
unfolding settle_rules
lower_settled b m = m.0

pub lower_empty : Lower empty_file
unfolding empty_file be
lower_empty d l e o = absurd (omega arith)
