-- The definitions open in a row, from those of its parts: what each operator has open is the union, the
-- left, its own, or nothing.
use Rattle.std.proofs.Common.{◌≡◌, ℕ, ◌^◌, ◌<◌, ◌≤◌, cond, ltb, ◌⊎◌, List, get_or, sym, refl, ap, subst, inl, inr, ⊎_elim, arith}
use lib.Bits.{bit_or}
use Rattle.std.proofs.lemmas.Bool.Decides.{Decides-at, Decides-like, Decides-or}
use Rattle.std.proofs.lemmas.Bool.{lt-ltb, cond-true, both_ways}
use Rattle.lent_bytes.specs.Bits.{bit}
use Rattle.lent_bytes.proofs.Bitwise.{bit_zero, bit_or_lem, bit_power}
use Rattle.model.specs.declared.op.Op.{Op}
use Rattle.model.specs.declared.op.Op.TheVariants.{Stop, Skip, Omega, Prefix, External, Internal, Sequence, Parallel, Hide, Interrupt, Name}
use Rattle.model.specs.declared.op.Use.{Use}
use Rattle.model.specs.declared.op.Use.TheVariants.{Part}
use Rattle.model.specs.declared.op.Row.{Row}
use Rattle.model.specs.Ops.{shape}
use Rattle.model.specs.Terms.{Term, node, Open, name, sequence, hiding, external_left, external_right, parallel_left, parallel_right, interrupt_left, interrupt_right}
use Rattle.model.specs.Opening.{OpenBits, open_set_lem, OpenedAs, OpenedBelow}
use Rattle.model.specs.Rows.{part_of, left_of, right_of, term_of, terms, PartIn, AllFit}
use Rattle.model.specs.File.{rows, row_at, rows_of, process, definitions}
use Rattle.model.specs.Sound.{Named}
use Rattle.model.proofs.Formed.{process_at, fit_at}

-- an operator that has nothing open
nothing : (t : Term) → ((e : ℕ) → Open t e → ⊥) → OpenBits 0 t
nothing t no_open e = (λ h. absurd (both_ways (bit 0 e) (bit_zero e) h), λ h. absurd (no_open e h))

either : (a b : ℕ) (p q t : Term) → ((e : ℕ) → Open p e ⊎ Open q e → Open t e) → ((e : ℕ) → Open t e → Open p e ⊎ Open q e) → OpenBits a p → OpenBits b q → OpenBits (bit_or a b) t
either a b p q t to from ha hb e =
    Decides-at _ _ (bit_or_lem a b e) (Decides-like _ (to e) (from e) (Decides-or (bit a e) (bit b e) (ha e) (hb e)))

alike : (a : ℕ) (p t : Term) → ((e : ℕ) → Open p e → Open t e) → ((e : ℕ) → Open t e → Open p e) → OpenBits a p → OpenBits a t
alike a p t to from ha e = Decides-like _ (to e) (from e) (ha e)

own_name : {d e : ℕ} {p q : Term} → Open (node (Name d) p q) e → d ≡ e
own_name name = refl

own : (d : ℕ) (p q : Term) → d < 64 → OpenBits (cond (ltb d 64) (2 ^ d) 0) (node (Name d) p q)
own d p q h e =
    let w : cond (ltb d 64) (2 ^ d) 0 ≡ 2 ^ d = cond-true _ _ _ (lt-ltb d 64 h) in
    Decides-at _ _ (ap (λ (x : ℕ). bit x e) w) (Decides-like _ (λ k. subst (Open (node (Name d) p q)) k name) own_name (bit_power d e))

pub opened_by : (o : Op) (p q : Term) (a b : ℕ) → ((d : ℕ) → o ≡ Name d → d < 64) → ((shape o).left ≡ Part → OpenBits a p) → ((shape o).right ≡ Part → OpenBits b q) → OpenBits (open_set_lem o a b) (node o p q)
opened_by Stop p q a b n l r = nothing _ (λ e h. elim h [ ])
opened_by Skip p q a b n l r = nothing _ (λ e h. elim h [ ])
opened_by Omega p q a b n l r = nothing _ (λ e h. elim h [ ])
opened_by (Prefix x) p q a b n l r = nothing _ (λ e h. elim h [ ])
opened_by External p q a b n l r = either a b p q _ (λ e. ⊎_elim external_left external_right) (λ e h. elim h [ external_left k ↦ inl k | external_right k ↦ inr k ]) (l refl) (r refl)
opened_by Internal p q a b n l r = nothing _ (λ e h. elim h [ ])
opened_by Sequence p q a b n l r = alike a p _ (λ e. sequence) (λ e h. elim h [ sequence k ↦ k ]) (l refl)
opened_by (Parallel m) p q a b n l r = either a b p q _ (λ e. ⊎_elim parallel_left parallel_right) (λ e h. elim h [ parallel_left k ↦ inl k | parallel_right k ↦ inr k ]) (l refl) (r refl)
opened_by (Hide m) p q a b n l r = alike a p _ (λ e. hiding) (λ e h. elim h [ hiding k ↦ k ]) (l refl)
opened_by Interrupt p q a b n l r = either a b p q _ (λ e. ⊎_elim interrupt_left interrupt_right) (λ e h. elim h [ interrupt_left k ↦ inl k | interrupt_right k ↦ inr k ]) (l refl) (r refl)
opened_by (Name d) p q a b n l r = own d p q (n d refl)

same_set : (o : Op) (a b a' b' : ℕ) → ((shape o).left ≡ Part → a ≡ a') → ((shape o).right ≡ Part → b ≡ b') → open_set_lem o a b ≡ open_set_lem o a' b'
same_set Stop a b a' b' l r = refl
same_set Skip a b a' b' l r = refl
same_set Omega a b a' b' l r = refl
same_set (Prefix x) a b a' b' l r = refl
same_set External a b a' b' l r = λ i. bit_or (l refl i) (r refl i)
same_set Internal a b a' b' l r = refl
same_set Sequence a b a' b' l r = l refl
same_set (Parallel m) a b a' b' l r = λ i. bit_or (l refl i) (r refl i)
same_set (Hide m) a b a' b' l r = l refl
same_set Interrupt a b a' b' l r = λ i. bit_or (l refl i) (r refl i)
same_set (Name d) a b a' b' l r = refl

part_opened : (b sets : List ℕ) (u : Use) (p i : ℕ) → PartIn u p i → OpenedBelow b sets i → u ≡ Part → OpenedAs (get_or sets p 0) (part_of u (terms (rows_of b)) p)
part_opened b sets u p i h known e =
    let lt : p < i = subst (λ (v : Use). PartIn v p i) e h in
    subst (λ (v : Use). OpenedAs (get_or sets p 0) (part_of v (terms (rows_of b)) p)) (sym e) (known p lt)

-- one row more
pub opened_row : (b sets : List ℕ) → AllFit (rows_of b) → Named b → definitions b ≤ 64 → (i : ℕ) → i < rows b → OpenedBelow b sets i → (r : Row) → r ≡ row_at b i → OpenedAs (open_set_lem r.op (get_or sets r.left 0) (get_or sets r.right 0)) (process b i)
opened_row b sets fit named few i lt known r er =
    let q : Row = row_at b i in
    let f = fit_at b fit i lt in
    let n : (d : ℕ) → q.op ≡ Name d → d < 64 = λ d e. let k : d < definitions b = named i lt d e in omega arith in
    let l = part_opened b sets (shape q.op).left q.left i f.left known in
    let m = part_opened b sets (shape q.op).right q.right i f.right known in
    let h : OpenedAs (open_set_lem q.op (get_or sets q.left 0) (get_or sets q.right 0)) (term_of (terms (rows_of b)) q) =
    record {
      value = same_set q.op _ _ _ _ (λ e. (l e).value) (λ e. (m e).value);
      bits = opened_by q.op (left_of (terms (rows_of b)) q) (right_of (terms (rows_of b)) q) (get_or sets q.left 0) (get_or sets q.right 0) n (λ e. (l e).bits) (λ e. (m e).bits);
    }
    in
    let g : OpenedAs (open_set_lem q.op (get_or sets q.left 0) (get_or sets q.right 0)) (process b i) = subst (OpenedAs (open_set_lem q.op (get_or sets q.left 0) (get_or sets q.right 0))) (sym (process_at b fit i lt)) h in
    subst (λ (z : Row). OpenedAs (open_set_lem z.op (get_or sets z.left 0) (get_or sets z.right 0)) (process b i)) (sym er) g
