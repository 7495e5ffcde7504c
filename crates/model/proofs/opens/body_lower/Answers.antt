-- All bits below d say that all open definitions are below d.
use Rattle.std.proofs.Common.{◌≡◌, ℕ, List, get_or, sym, ap, ◌∙◌, subst, arith}
use Rattle.std.proofs.lemmas.Bool.{eqb-true, eq-eqb}
use Rattle.lent_bytes.proofs.Bitwise.{below_from_shift, shift_from_below, below_from_bits, bits_from_below}
use Rattle.model.specs.File.{body, definition_at_lem}
use Rattle.model.specs.Models.{drafted_file}
use Rattle.model.specs.Opening.{OpenBits}
use Rattle.model.proofs.opens.body_lower.Goals as goal

pub returns : goal.returns
returns c =
    let b : List ℕ = drafted_file c.args.draft.now in
    let ss : List ℕ = c.args.sets.now in
    let d : ℕ = c.args.d in
    let w : ℕ = c.set_at.result in
    let e : w ≡ get_or ss (definition_at_lem b d) 0 = c.set_at.ensures ∙ ap (λ (k : ℕ). get_or ss k 0) c.definition_at-body.ensures in
    let o : OpenBits w (body b d) = subst (λ (z : ℕ). OpenBits z (body b d)) (sym e) (c.requires.known (definition_at_lem b d) (c.args.draft.now.bodied d c.requires.there)).bits in (
      λ t k h. bits_from_below w d (below_from_shift w d (eqb-true _ _ t)) k ((o k).1 h),
      λ all. eq-eqb _ _ (shift_from_below w d (below_from_bits w d (omega arith) (λ k t. all k ((o k).0 t)))),
    )
