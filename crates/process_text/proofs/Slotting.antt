-- The steps in a slot, one after another, are the steps of the slot.
use Rattle.std.proofs.Common.{◌≡◌, ℕ, ◌+◌, ◌<◌, ◌≤◌, List, [], ◌∷◌, ◌++◌, map, length, get_or, take, drop, sym, refl, ap, ◌∙◌, arith}
use Rattle.std.specs.List.{range_with_len, flat_map}
use Rattle.std.proofs.lemmas.List.FromFn.{length-map-range_with_len, get_or-map-range_with_len}
use Rattle.std.proofs.lemmas.List.{length-take-le, length-drop, get_or-take, get_or-drop, ext_get_or}

joined_map : {X : Type 0} (g : X → List ℕ) (f : ℕ → X) (ks : List ℕ) → flat_map (λ k. g (f k)) ks ≡ flat_map g (map f ks)
joined_map g f [] = refl
joined_map g f (k ∷ ks) = ap (λ (z : List ℕ). g (f k) ++ z) (joined_map g f ks)

slot_items : {X : Type 0} (d : X) (pool : List X) (at n : ℕ) → at + n ≤ length pool → map (λ k. get_or pool (at + k) d) (range_with_len 0 n) ≡ take n (drop at pool)
slot_items d pool at n h =
    let l : length (take n (drop at pool)) ≡ n = length-take-le n (drop at pool) (omega (arith, length-drop at pool)) in
    ext_get_or d (map (λ k. get_or pool (at + k) d) (range_with_len 0 n)) (take n (drop at pool)) (length-map-range_with_len (λ k. get_or pool (at + k) d) 0 n ∙ sym l) (λ i lt.
    let j : i < n = omega (arith, length-map-range_with_len (λ k. get_or pool (at + k) d) 0 n) in
    get_or-map-range_with_len (λ k. get_or pool (at + k) d) 0 n i i d j (omega arith) ∙ sym (get_or-take n (drop at pool) i d j ∙ get_or-drop at pool i d))

pub slot_joined : {X : Type 0} (g : X → List ℕ) (d : X) (pool : List X) (at n : ℕ) → at + n ≤ length pool → flat_map (λ k. g (get_or pool (at + k) d)) (range_with_len 0 n) ≡ flat_map g (take n (drop at pool))
slot_joined g d pool at n h = joined_map g (λ k. get_or pool (at + k) d) (range_with_len 0 n) ∙ ap (flat_map g) (slot_items d pool at n h)
