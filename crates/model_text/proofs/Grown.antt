-- A text that grows by one piece after another is the pieces joined.
use Rattle.std.proofs.Common.{◌≡◌, ℕ, ◌+◌, List, [], ◌∷◌, ◌++◌, sym, ap, ◌∙◌, zero-add}
use Rattle.std.specs.List.{range_with_len, flat_map}
use Rattle.std.proofs.lemmas.List.FromFn.{map-range_with_len_more}
use Rattle.std.proofs.lemmas.List.{flat_map_more, map-id}

counting_more : (i : ℕ) → range_with_len 0 (i + 1) ≡ range_with_len 0 i ++ i ∷ []
counting_more i =
    sym (map-id (range_with_len 0 (i + 1))) ∙ map-range_with_len_more (λ (x : ℕ). x) 0 i i (zero-add i) ∙ ap (λ (z : List ℕ). z ++ i ∷ []) (map-id (range_with_len 0 i))

pub grown : (f : ℕ → List ℕ) (head before after piece : List ℕ) (i : ℕ) → before ≡ head ++ flat_map f (range_with_len 0 i) → piece ≡ f i → after ≡ before ++ piece → after ≡ head ++ flat_map f (range_with_len 0 (i + 1))
grown f head before after piece i e p a =
    a ∙ ap (λ (z : List ℕ). z ++ piece) e ∙ ap (λ (z : List ℕ). (head ++ flat_map f (range_with_len 0 i)) ++ z) p ∙ flat_map_more f head (range_with_len 0 i) i ∙ ap (λ (z : List ℕ). head ++ flat_map f z) (sym (counting_more i))
