-- The eight bytes of a well-formed row are told by the row that they stand for, so rows with different bytes
-- are different rows.
use Rattle.std.proofs.Common.{◌≡◌, ℕ, zero, suc, ◌+◌, ◌*◌, ◌<◌, ◌≢◌, Bool, true, false, Decides, List, length, get_or, sym, refl, ap, ◌∙◌, subst, add_assoc, zero-add, arith}
use Rattle.std.specs.Bool.{MatchBool}
use Rattle.std.specs.List.{range_with_len, AllWithin, HoldsAt}
use Rattle.std.proofs.lemmas.List.FromFn.{length-range_with_len, get_or-range_with_len}
use Rattle.fault.specs.First.{Below}
use Rattle.lent_bytes.specs.Reads.{be}
use Rattle.lent_bytes.proofs.Parts.{be_two, be_four, be_eight}
use Rattle.model.specs.declared.op.Op.{Op}
use Rattle.model.specs.declared.op.Op.TheVariants.{Stop, Skip, Omega, Prefix, External, Internal, Sequence, Parallel, Hide, Interrupt, Name}
use Rattle.model.specs.declared.op.Row.{Row}
use Rattle.model.specs.Ops.{op_of}
use Rattle.model.specs.File.{row_place_lem, row_bytes_lem, kind_at, argument_at_lem, left_at_lem, right_at_lem, spare_at_lem, row_from, row_at}
use Rattle.model.specs.Rules.{Shaped, RowOk}

abbrev number : ℕ → ℕ → ℕ → ℕ → ℕ → ℕ
number k x l r s = k * 72057594037927936 + x * 281474976710656 + l * 4294967296 + r * 65536 + s

abbrev code_of : Op → ℕ → ℕ → ℕ
code_of Stop l r = number 0 0 0 0 0
code_of Skip l r = number 1 0 0 0 0
code_of Omega l r = number 2 0 0 0 0
code_of (Prefix a) l r = number 3 a l 0 0
code_of External l r = number 4 0 l r 0
code_of Internal l r = number 5 0 l r 0
code_of Sequence l r = number 6 0 l r 0
code_of (Parallel m) l r = number 7 m l r 0
code_of (Hide m) l r = number 8 m l 0 0
code_of Interrupt l r = number 9 0 l r 0
code_of (Name d) l r = number 10 0 d 0 0

abbrev code : Row → ℕ
code r = code_of r.op r.left r.right

whole : (b : List ℕ) (i : ℕ) → row_bytes_lem b i ≡ number (kind_at b i) (argument_at_lem b i) (left_at_lem b i) (right_at_lem b i) (spare_at_lem b i)
whole b i =
    let p = row_place_lem b i in
    let e : be b (p + 4 + 2) 2 ≡ be b (p + 6) 2 = ap (λ k. be b k 2) (add_assoc p 4 2) in
    omega (arith, be_eight b p, be_four b p, be_two b p, be_four b (p + 4), e)

module _ (b : List ℕ) (i : ℕ) where
  Coded : ℕ → Type 0
  Coded k = Shaped b i (op_of k (argument_at_lem b i) (left_at_lem b i)) → number k (argument_at_lem b i) (left_at_lem b i) (right_at_lem b i) (spare_at_lem b i) ≡ code (row_from (op_of k (argument_at_lem b i) (left_at_lem b i)) (left_at_lem b i) (right_at_lem b i))

  coded : (k : ℕ) → Coded k
  unfolding Coded
  coded zero h = omega (arith, h.argument, h.left, h.right, h.spare)
  coded (suc zero) h = omega (arith, h.argument, h.left, h.right, h.spare)
  coded (suc (suc zero)) h = absurd h
  coded (suc (suc (suc zero))) h = omega (arith, h.right, h.spare)
  coded (suc (suc (suc (suc zero)))) h = omega (arith, h.argument, h.spare)
  coded (suc (suc (suc (suc (suc zero))))) h = omega (arith, h.argument, h.spare)
  coded (suc (suc (suc (suc (suc (suc zero)))))) h = omega (arith, h.argument, h.spare)
  coded (suc (suc (suc (suc (suc (suc (suc zero))))))) h = omega (arith, h.spare)
  coded (suc (suc (suc (suc (suc (suc (suc (suc zero)))))))) h = omega (arith, h.right, h.spare)
  coded (suc (suc (suc (suc (suc (suc (suc (suc (suc zero))))))))) h = omega (arith, h.argument, h.spare)
  coded (suc (suc (suc (suc (suc (suc (suc (suc (suc (suc zero)))))))))) h = omega (arith, h.argument, h.right, h.spare)
  coded (suc (suc (suc (suc (suc (suc (suc (suc (suc (suc (suc k))))))))))) h = absurd h

  bytes_told : RowOk b i → row_bytes_lem b i ≡ code (row_at b i)
  unfolding row_at Coded
  bytes_told h = whole b i ∙ coded (kind_at b i) h

-- two well-formed rows that are equal have equal bytes
pub bytes_same : (b : List ℕ) (i j : ℕ) → RowOk b i → RowOk b j → row_at b i ≡ row_at b j → row_bytes_lem b i ≡ row_bytes_lem b j
bytes_same b i j hi hj e = bytes_told b i hi ∙ ap code e ∙ sym (bytes_told b j hj)

-- a look at each number below n decides whether w is none of theirs
pub decides_below : (W : ℕ → ℕ) (w n : ℕ) (r : Bool) → MatchBool r (AllWithin (λ k. W k ≢ w) (range_with_len 0 n) 0 (length (range_with_len 0 n))) ((k : ℕ) × (k < length (range_with_len 0 n)) × HoldsAt (λ k. W k ≡ w) (range_with_len 0 n) k) → Decides r (Below (λ j. W j ≢ w) n)
decides_below W w n true m = (λ _ k h. let e : get_or (range_with_len 0 n) k 0 ≡ k = get_or-range_with_len 0 n k 0 h ∙ zero-add k in subst (λ (j : ℕ). W j ≢ w) e (m k 0 (omega arith) (rw (length-range_with_len 0 n) h)), λ _. refl)
decides_below W w n false m =
    let h : m.0 < n = rw (length-range_with_len 0 n) at m.1 in
    let e : get_or (range_with_len 0 n) m.0 0 ≡ m.0 = get_or-range_with_len 0 n m.0 0 h ∙ zero-add m.0 in (
      λ t. let z : ◌≡◌ {A = ℕ} 0 1 = cc in absurd (omega arith),
      λ all. absurd (all m.0 h (subst (λ (j : ℕ). W j ≡ w) e (m.2 0))),
    )
