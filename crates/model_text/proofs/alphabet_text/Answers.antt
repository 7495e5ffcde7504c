use Rattle.std.proofs.Common.{◌≡◌, ℕ, eqb, List, IfOk, string_bytes, sym, ap, subst}
use Rattle.std.proofs.lemmas.Bool.{cond-false, ne_eqb}
use Rattle.model_text.specs.Text.{alphabet_text_lem}
use Rattle.model_text.proofs.alphabet_text.Goals as goal

pub returns-then-events-eq0 : goal.returns-then-events-eq0
returns-then-events-eq0 c =
    subst (λ (bs : List ℕ). IfOk c.format.result (λ s. string_bytes s ≡ bs)) (sym (ap alphabet_text_lem c.if-events-eq0.true)) c.format.ensures.ok

pub returns : goal.returns
returns c =
    subst (λ (bs : List ℕ). IfOk c.format-2.result (λ s. string_bytes s ≡ bs)) (sym (cond-false (eqb c.args.events 0) _ _ (ne_eqb _ _ c.if-events-eq0.false))) c.format-2.ensures.ok
