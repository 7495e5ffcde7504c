-- The lowest member: the bit is set, and nothing is set below it.
use Rattle.std.proofs.Common.{◌≡◌, ℕ, ◌%◌, ◌^◌, true, eqb, List, ◌++◌, IfOk, string_bytes, decimal, sym, ap, ◌∙◌, subst}
use Rattle.std.proofs.lemmas.Nat.{one_shl}
use Rattle.std.proofs.lemmas.Bool.{cond-true, eq-eqb}
use Rattle.lent_bytes.specs.Bits.{bit}
use Rattle.model_text.specs.Text.{member_text_lem}
use Rattle.model_text.proofs.member_text.Goals as goal

pub returns-then-set-e-eq0 : goal.returns-then-set-e-eq0
returns-then-set-e-eq0 c =
    let w : ℕ = c.args.set in
    let e : ℕ = c.args.e in
    let mark : List ℕ = c.args.mark.now in
    let low : w % 2 ^ e ≡ 0 = ap (λ (n : ℕ). w % n) (sym (one_shl e 64 c.requires)) ∙ c.if-set-e-eq0.true in
    let member : bit w e ≡ true = sym c.if-not-bit_at.ensures in
    let t : member_text_lem mark w e ≡ mark ++ decimal e =
    cond-true (bit w e) _ _ member ∙ ap (λ (z : List ℕ). z ++ (mark ++ decimal e)) (cond-true (eqb (w % 2 ^ e) 0) _ _ (eq-eqb _ _ low))
    in
    subst (λ (bs : List ℕ). IfOk c.format-then-set-e-eq0.result (λ s. string_bytes s ≡ bs)) (sym t) c.format-then-set-e-eq0.ensures.ok
