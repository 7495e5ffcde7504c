-- The height of a row's process, from the heights of the rows before it.
use Rattle.std.proofs.Common.{◌≡◌, ℕ, ◌+◌, ◌<◌, max, ◌≢◌, List, get_or, sym, refl, ap, ◌∙◌, arith}
use Rattle.model.specs.declared.op.Use.{Use}
use Rattle.model.specs.declared.op.Use.TheVariants.{Unused, Event, Mask, Part, Definition}
use Rattle.model.specs.declared.op.Row.{Row}
use Rattle.model.specs.declared.op.Shape.{Shape}
use Rattle.model.specs.Ops.{shape}
use Rattle.model.specs.Terms.{height}
use Rattle.model.specs.Rows.{part_of, left_of, right_of, terms, PartIn, AllFit}
use Rattle.model.specs.File.{rows, row_at, rows_of, process}
use Rattle.model.specs.Tall.{height_field}
use Rattle.model.proofs.Formed.{process_at, fit_at}

-- a field's height, as it is read: that of the part where the field holds one
pub tall_part : (u : Use) (hs : List ℕ) (p x : ℕ) {y : ℕ} → (u ≡ Part → x ≡ y) → (u ≢ Part → x ≡ 0) → y ≡ get_or hs p 0 → x ≡ height_field u hs p
tall_part Unused hs p x there none e = none (λ h. let z : ◌≡◌ {A = ℕ} 0 1 = cc in omega arith)
tall_part Event hs p x there none e = none (λ h. let z : ◌≡◌ {A = ℕ} 0 1 = cc in omega arith)
tall_part Mask hs p x there none e = none (λ h. let z : ◌≡◌ {A = ℕ} 0 1 = cc in omega arith)
tall_part Part hs p x there none e = there refl ∙ e
tall_part Definition hs p x there none e = none (λ h. let z : ◌≡◌ {A = ℕ} 0 1 = cc in omega arith)

-- the heights of the rows below i are known
abbrev pub KnownBelow : List ℕ → List ℕ → ℕ → Type 0
KnownBelow b hs i = (k : ℕ) → k < i → get_or hs k 0 ≡ height (process b k)

tall_field : (b : List ℕ) (u : Use) (hs : List ℕ) (p i : ℕ) → PartIn u p i → KnownBelow b hs i → height_field u hs p ≡ height (part_of u (terms (rows_of b)) p)
tall_field b Unused hs p i h e = refl
tall_field b Event hs p i h e = refl
tall_field b Mask hs p i h e = refl
tall_field b Part hs p i h e = e p h
tall_field b Definition hs p i h e = refl

pub tall_row : (b : List ℕ) → AllFit (rows_of b) → (i : ℕ) → i < rows b → (hs : List ℕ) → KnownBelow b hs i → (r : Row) (s : Shape) (x y : ℕ) → r ≡ row_at b i → s ≡ shape r.op → x ≡ height_field s.left hs r.left → y ≡ height_field s.right hs r.right → height (process b i) ≡ 1 + max x y
tall_row b fit i lt hs known r s x y er es ex ey =
    let f = fit_at b fit i lt in
    let q : Row = row_at b i in
    let l = tall_field b (shape q.op).left hs q.left i f.left known in
    let m = tall_field b (shape q.op).right hs q.right i f.right known in
    let xl : x ≡ height_field (shape q.op).left hs q.left = ex ∙ ap (λ (z : Shape). height_field z.left hs r.left) es ∙ ap (λ (z : Row). height_field (shape z.op).left hs z.left) er in
    let yr : y ≡ height_field (shape q.op).right hs q.right = ey ∙ ap (λ (z : Shape). height_field z.right hs r.right) es ∙ ap (λ (z : Row). height_field (shape z.op).right hs z.right) er in
    let p = ap height (process_at b fit i lt) in
    let u : x ≡ height (left_of (terms (rows_of b)) q) = xl ∙ l in
    let v : y ≡ height (right_of (terms (rows_of b)) q) = yr ∙ m in
    p ∙ ap (λ (z : ℕ). 1 + max z (height (right_of (terms (rows_of b)) q))) (sym u) ∙ ap (λ (z : ℕ). 1 + max x z) (sym v)
