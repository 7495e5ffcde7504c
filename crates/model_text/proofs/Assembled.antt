-- The text of a model is its alphabet, masks, rows and definitions, one after another.
use Rattle.std.proofs.Common.{◌≡◌, ℕ, List, ◌++◌, ap, ◌∙◌}
use Rattle.std.specs.List.{range_with_len, flat_map}
use Rattle.model.specs.File.{events, masks, rows, definitions}
use Rattle.model_text.specs.Text.{alphabet_text_lem, mask_line_lem, row_line_lem, definition_line_lem, model_text_lem}

-- f is the file as it was read, and b the model's
pub assembled : (b f a m r d : List ℕ) (e k i n : ℕ) → f ≡ b → e ≡ events f → k ≡ masks f → i ≡ rows f → n ≡ definitions f → a ≡ alphabet_text_lem e → m ≡ a ++ flat_map (mask_line_lem f) (range_with_len 0 k) → r ≡ m ++ flat_map (row_line_lem f) (range_with_len 0 i) → d ≡ r ++ flat_map (definition_line_lem b) (range_with_len 0 n) → d ≡ model_text_lem b
unfolding model_text_lem
assembled b f a m r d e k i n same he hk hi hn ha hm hr hd =
    let A : List ℕ = alphabet_text_lem (events b) in
    let M : List ℕ = flat_map (mask_line_lem b) (range_with_len 0 (masks b)) in
    let R : List ℕ = flat_map (row_line_lem b) (range_with_len 0 (rows b)) in
    let pa : a ≡ A = ha ∙ ap alphabet_text_lem (he ∙ ap events same) in
    let pm : m ≡ A ++ M =
    hm ∙ ap (λ (z : List ℕ). z ++ flat_map (mask_line_lem f) (range_with_len 0 k)) pa ∙ ap (λ (z : ℕ). A ++ flat_map (mask_line_lem f) (range_with_len 0 z)) hk ∙ ap (λ (z : List ℕ). A ++ flat_map (mask_line_lem z) (range_with_len 0 (masks z))) same
    in
    let pr : r ≡ A ++ M ++ R =
    hr ∙ ap (λ (z : List ℕ). z ++ flat_map (row_line_lem f) (range_with_len 0 i)) pm ∙ ap (λ (z : ℕ). A ++ M ++ flat_map (row_line_lem f) (range_with_len 0 z)) hi ∙ ap (λ (z : List ℕ). A ++ M ++ flat_map (row_line_lem z) (range_with_len 0 (rows z))) same
    in
    hd ∙ ap (λ (z : List ℕ). z ++ flat_map (definition_line_lem b) (range_with_len 0 n)) pr ∙ ap (λ (z : ℕ). A ++ M ++ R ++ flat_map (definition_line_lem b) (range_with_len 0 z)) (hn ∙ ap definitions same)
