-- An operator is again what its kind and argument make, so operators and rows that test the same are equal.
use Rattle.std.specs.Prelude.{◌≡◌, ℕ, true, [], ◌∷◌, Decides, slice_index_or, refl}
use Rattle.std.proofs.Common.{sym, ap, subst, ◌∙◌, eqb-true, eq-eqb}
use Rattle.std.proofs.lemmas.Bool.{and_parts, and_from}
use Rattle.model.specs.declared.op.Op.{Op}
use Rattle.model.specs.declared.op.Op.TheVariants.{Stop, Skip, Omega, Prefix, External, Internal, Sequence, Parallel, Hide, Interrupt, Name}
use Rattle.model.specs.declared.op.Row.{Row}
use Rattle.model.specs.Alike.{kind, argument, same_op, same_row}

abbrev op_from : ℕ → ℕ → Op
op_from k a = slice_index_or (Stop ∷ (Skip ∷ (Omega ∷ (Prefix a ∷ (External ∷ (Internal ∷ (Sequence ∷ (Parallel a ∷ (Hide a ∷ (Interrupt ∷ (Name a ∷ []))))))))))) k Stop

op_again : (o : Op) → op_from (kind o) (argument o) ≡ o
op_again Stop = refl
op_again Skip = refl
op_again Omega = refl
op_again (Prefix a) = refl
op_again External = refl
op_again Internal = refl
op_again Sequence = refl
op_again (Parallel k) = refl
op_again (Hide k) = refl
op_again Interrupt = refl
op_again (Name d) = refl

pub same_op_is : (a b : Op) → same_op a b ≡ true → a ≡ b
same_op_is a b e =
    let h = and_parts _ _ e in
    let k = eqb-true (kind a) (kind b) h.0 in
    let g = eqb-true (argument a) (argument b) h.1 in
    let x = op_again a in
    let y = op_again b in
    let z : op_from (kind a) (argument a) ≡ op_from (kind b) (argument b) = ap (λ (n : ℕ). op_from n (argument a)) k ∙ ap (λ (n : ℕ). op_from (kind b) n) g in
    sym x ∙ z ∙ y

pub same_op_refl : (o : Op) → same_op o o ≡ true
same_op_refl o = and_from _ _ (eq-eqb (kind o) (kind o) refl) (eq-eqb (argument o) (argument o) refl)

same_row_is : (a b : Row) → same_row a b ≡ true → a ≡ b
same_row_is a b e =
    let h = and_parts _ _ e in
    let k = and_parts _ _ h.1 in
    let o = same_op_is a.op b.op h.0 in
    let l = eqb-true a.left b.left k.0 in
    let r = eqb-true a.right b.right k.1 in
    λ i. record { op = o i; left = l i; right = r i }

same_row_refl : (a : Row) → same_row a a ≡ true
same_row_refl a = and_from _ _ (same_op_refl a.op) (and_from _ _ (eq-eqb a.left a.left refl) (eq-eqb a.right a.right refl))

pub same_rows : (a b : Row) → Decides (same_row a b) (a ≡ b)
same_rows a b = (same_row_is a b, λ e. subst (λ (z : Row). same_row a z ≡ true) e (same_row_refl a))
