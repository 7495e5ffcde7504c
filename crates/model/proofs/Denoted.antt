-- The terms of rows: appending keeps every earlier term, so a row's term is its operator over the terms of
-- its parts.
use Rattle.std.proofs.Common.{◌≡◌, ℕ, zero, suc, ◌+◌, ◌<◌, List, [], ◌∷◌, ◌++◌, length, get_or, sym, refl, ap, ◌∙◌, add-zero, zero-add, arith}
use Rattle.std.proofs.lemmas.List.{get_or_append_left, get_or_push, length_push}
use Rattle.model.specs.declared.op.Use.{Use}
use Rattle.model.specs.declared.op.Use.TheVariants.{Unused, Event, Mask, Part, Definition}
use Rattle.model.specs.declared.op.Row.{Row}
use Rattle.model.specs.Ops.{shape}
use Rattle.model.specs.Terms.{Term, none, node}
use Rattle.model.specs.Rows.{blank, part_of, term_of, build, terms, term_at, PartIn, Fits, AllFit}

pub build_length : (ts : List Term) (rs : List Row) → length (build ts rs) ≡ length ts + length rs
build_length ts [] = sym (add-zero (length ts))
build_length ts (r ∷ rs) =
    let h = build_length (ts ++ (term_of ts r ∷ [])) rs in
    let k = length_push ts (term_of ts r) in
    omega arith

pub build_front : (ts : List Term) (rs : List Row) (i : ℕ) → i < length ts → get_or (build ts rs) i none ≡ get_or ts i none
build_front ts [] i h = refl
build_front ts (r ∷ rs) i h =
    let k = length_push ts (term_of ts r) in
    build_front (ts ++ (term_of ts r ∷ [])) rs i (omega arith) ∙ get_or_append_left ts (term_of ts r ∷ []) none i h

pub build_append : (ts : List Term) (rs more : List Row) → build ts (rs ++ more) ≡ build (build ts rs) more
build_append ts [] more = refl
build_append ts (r ∷ rs) more = build_append (ts ++ (term_of ts r ∷ [])) rs more

pub terms_length : (rs : List Row) → length (terms rs) ≡ length rs
unfolding terms
terms_length rs = let h = build_length [] rs in omega arith

-- a row keeps its term when rows are appended
pub term_kept : (rs more : List Row) (i : ℕ) → i < length rs → term_at (rs ++ more) i ≡ term_at rs i
unfolding terms
term_kept rs more i h =
    let l = build_length [] rs in
    ap (λ (z : List Term). get_or z i none) (build_append [] rs more) ∙ build_front (build [] rs) more i (omega arith)

part_same : (u : Use) (ts us : List Term) (p i : ℕ) → PartIn u p i → ((k : ℕ) → k < i → get_or us k none ≡ get_or ts k none) → part_of u ts p ≡ part_of u us p
part_same Unused ts us p i h e = refl
part_same Event ts us p i h e = refl
part_same Mask ts us p i h e = refl
part_same Part ts us p i h e = sym (e p h)
part_same Definition ts us p i h e = refl

pub term_of_same : (i : ℕ) (ts us : List Term) (r : Row) → Fits i r → ((k : ℕ) → k < i → get_or us k none ≡ get_or ts k none) → term_of ts r ≡ term_of us r
term_of_same i ts us r f e =
    let l = part_same (shape r.op).left ts us r.left i f.left e in
    let k = part_same (shape r.op).right ts us r.right i f.right e in
    λ j. node r.op (l j) (k j)

build_row : (ts : List Term) (rs : List Row) (k : ℕ) → k < length rs → Fits (length ts + k) (get_or rs k blank) → get_or (build ts rs) (length ts + k) none ≡ term_of (build ts rs) (get_or rs k blank)
build_row ts [] k h f = absurd (omega arith)
build_row ts (r ∷ rs) zero h f =
    let l = length_push ts (term_of ts r) in
    let us = ts ++ (term_of ts r ∷ []) in
    let e : length ts + 0 ≡ length ts = add-zero (length ts) in
    rw e (build_front us rs (length ts) (omega arith) ∙ get_or_push ts (term_of ts r) none (length ts) refl ∙ term_of_same (length ts) ts (build us rs) r (rw e at f) (λ j g. build_front us rs j (omega arith) ∙ get_or_append_left ts (term_of ts r ∷ []) none j g))
build_row ts (r ∷ rs) (suc k) h f =
    let l = length_push ts (term_of ts r) in
    let us = ts ++ (term_of ts r ∷ []) in
    let e : length ts + suc k ≡ length us + k = omega arith in
    rw e (build_row us rs k (omega arith) (rw e at f))

-- a row's term, by its parts' terms
pub row_term : (rs : List Row) → AllFit rs → (i : ℕ) → i < length rs → term_at rs i ≡ term_of (terms rs) (get_or rs i blank)
unfolding terms
row_term rs s i h =
    let e : 0 + i ≡ i = zero-add i in
    rw e at (build_row [] rs i h (rw e (s i h)))
