use Rattle.std.proofs.Common.{ℕ, List, ◌++◌, codes, ap, ◌∙◌, append_assoc, rules}
use Rattle.std.specs.List.{range_with_len, flat_map}
use Rattle.model_text.specs.Text.{member_text_lem, set_text_lem}
use Rattle.model_text.proofs.set_text.Goals as goal

pub returns : goal.returns
unfolding set_text_lem
returns c =
    let member : ℕ → List ℕ = member_text_lem c.args.mark.now c.args.set in
    let inner : List ℕ = flat_map member (range_with_len 0 64) in
    c.in_ok-push_str.ensures.bytes
    ∙ ap (λ (z : List ℕ). z ++ codes "}") (c.in_ok-push_lines.ensures.each member (λ e s h p. search rules) ∙ ap (λ (z : List ℕ). z ++ inner) c.in_ok-out.ensures.ok)
    ∙ append_assoc (codes "{") inner (codes "}")
