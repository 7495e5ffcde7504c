use Rattle.std.proofs.Common.{◌≡◌, ℕ, List, [], ◌++◌, IfOk, string_bytes, codes, decimal, ap, ◌∙◌, subst}
use Rattle.model.specs.File.{masks, mask_at_lem}
use Rattle.model_text.specs.Text.{set_text_lem, mask_line_lem}
use Rattle.model_text.proofs.Readers.{read_there}
use Rattle.model_text.proofs.mask_line.Goals as goal

pub returns : goal.returns
unfolding mask_line_lem
returns c =
    let b : List ℕ = c.args.file.bytes.now in
    let k : ℕ = c.args.k in
    let m : c.unwrap.result ≡ mask_at_lem b k = read_there k (masks b) _ _ _ c.requires c.mask.ensures c.unwrap.ensures in
    let t : string_bytes c.in_ok-set.set ≡ set_text_lem [] (mask_at_lem b k) = c.in_ok-set.ensures ∙ ap (set_text_lem []) m in
    subst (λ (bs : List ℕ). IfOk c.format.result (λ s. string_bytes s ≡ codes "M" ++ (decimal k ++ (codes " = " ++ (bs ++ codes "\n"))))) t c.format.ensures.ok
