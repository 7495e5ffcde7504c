-- The number that digits write never falls as digits are read.
use Rattle.std.proofs.Common.{◌≡◌, ℕ, ◌+◌, ◌-◌, ◌*◌, ◌<◌, ◌≤◌, List, [], ◌∷◌, length, get_or, drop, arith}
use Rattle.std.proofs.lemmas.List.{at_drop_more, at_drop_all}
use Rattle.script.specs.Lines.{value}

pub value_grows : (n : ℕ) (ds : List ℕ) → n ≤ value n ds
value_grows n [] = omega arith
value_grows n (c ∷ cs) = let h = value_grows (n * 10 + (c - 48)) cs in omega arith

pub value_more : (n : ℕ) (ds : List ℕ) (i : ℕ) → i < length ds → value n (drop i ds) ≡ value (n * 10 + (get_or ds i 0 - 48)) (drop (i + 1) ds)
value_more n ds i h = at_drop_more (value n) ds i 0 h

pub value_all : (n : ℕ) (ds : List ℕ) (i : ℕ) → length ds ≤ i → value n (drop i ds) ≡ n
value_all n ds i h = at_drop_all (value n) ds i h
