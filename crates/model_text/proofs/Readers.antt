-- What is read at a place below the count is there.
use Rattle.std.proofs.Common.{◌≡◌, ℕ, ◌<◌, cond, ltb, Some, None, Option, unwrap_or, sym, ap, ◌∙◌}
use Rattle.std.proofs.lemmas.Bool.{cond-true, lt-ltb}

pub read_there : {A : Type 0} (k n : ℕ) (o : Option A) (x y : A) → k < n → o ≡ cond (ltb k n) (Some x) None → o ≡ Some y → y ≡ x
read_there k n o x y h told e = ap (λ (z : Option _). unwrap_or z y) (sym e ∙ told ∙ cond-true (ltb k n) (Some x) None (lt-ltb k n h))
