use Rattle.std.proofs.Common.{◌≡◌, ℕ, ◌<◌, cond, ltb, List, ◌++◌, IfOk, Some, None, string_bytes, codes, decimal, sym, ap, ◌∙◌, subst}
use Rattle.model.specs.File.{rows, definitions, definition_at_lem, body, process}
use Rattle.model.specs.Models.{drafted_file}
use Rattle.model.specs.Opening.{open_of}
use Rattle.model_text.specs.Text.{set_text_lem, definition_line_lem}
use Rattle.model_text.proofs.Readers.{read_there}
use Rattle.model_text.proofs.definition_line.Goals as goal

pub returns : goal.returns
unfolding definition_line_lem
returns c =
    let m = c.args.draft.now in
    let b : List ℕ = drafted_file m in
    let d : ℕ = c.args.d in
    let r : ℕ = c.unwrap-body.result in
    let told : c.definition.result ≡ cond (ltb d (definitions b)) (Some (definition_at_lem b d)) None =
    subst (λ (z : List ℕ). c.definition.result ≡ cond (ltb d (definitions z)) (Some (definition_at_lem z d)) None) c.file.ensures c.definition.ensures
    in
    let e : r ≡ definition_at_lem b d = read_there d (definitions b) _ _ _ c.requires told c.unwrap-body.ensures in
    let lt : r < rows b = subst (λ (z : ℕ). z < rows b) (sym e) (m.bodied d c.requires) in
    let o : c.open_in.result ≡ open_of (body b d) = (c.open_in.ensures.row lt).value ∙ ap (λ (z : ℕ). open_of (process b z)) e in
    let t : string_bytes c.in_ok-set.set ≡ set_text_lem (codes "N") (open_of (body b d)) = c.in_ok-set.ensures ∙ ap (set_text_lem (codes "N")) o in
    let P : ℕ → List ℕ → Type 0 = λ x bs. IfOk c.format.result (λ s. string_bytes s ≡ codes "N" ++ (decimal d ++ (codes " = R" ++ (decimal x ++ (codes " opens " ++ (bs ++ codes "\n")))))) in
    subst (λ (x : ℕ). P x (set_text_lem (codes "N") (open_of (body b d)))) e (subst (P r) t c.format.ensures.ok)
