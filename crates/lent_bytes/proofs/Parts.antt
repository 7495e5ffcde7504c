-- A number of several bytes is its first bytes, shifted, and the rest.
use Rattle.std.proofs.Common.{◌≡◌, ℕ, zero, suc, ◌+◌, ◌*◌, ◌<◌, ◌≤◌, List, length, get_or, refl, ap, ◌∙◌, add-zero, add_assoc, zero-add, arith}
use Rattle.std.proofs.lemmas.List.{get_or_past}
use Rattle.lent_bytes.specs.Reads.{be}

-- one more byte
pub be_more : (b : List ℕ) (i n : ℕ) → be b i (suc n) ≡ 256 * be b i n + get_or b (i + n) 0
unfolding be
be_more b i n = refl

pub be_one : (b : List ℕ) (i : ℕ) → be b i 1 ≡ get_or b i 0
unfolding be
be_one b i = zero-add (get_or b (i + 0) 0) ∙ ap (λ k. get_or b k 0) (add-zero i)

-- two bytes; four as two and two; eight as four and four
pub be_two : (b : List ℕ) (i : ℕ) → be b i 2 ≡ get_or b i 0 * 256 + get_or b (i + 1) 0
be_two b i = omega (arith, be_more b i 1, be_one b i)

pub be_four : (b : List ℕ) (i : ℕ) → be b i 4 ≡ be b i 2 * 65536 + be b (i + 2) 2
be_four b i =
    let e : get_or b (i + 2 + 1) 0 ≡ get_or b (i + 3) 0 = ap (λ k. get_or b k 0) (add_assoc i 2 1) in
    omega (arith, be_more b i 3, be_more b i 2, be_two b (i + 2), e)

pub be_eight : (b : List ℕ) (i : ℕ) → be b i 8 ≡ be b i 4 * 4294967296 + be b (i + 4) 4
be_eight b i =
    let e1 : get_or b (i + 4 + 1) 0 ≡ get_or b (i + 5) 0 = ap (λ k. get_or b k 0) (add_assoc i 4 1) in
    let e2 : get_or b (i + 4 + 2) 0 ≡ get_or b (i + 6) 0 = ap (λ k. get_or b k 0) (add_assoc i 4 2) in
    let e3 : get_or b (i + 4 + 3) 0 ≡ get_or b (i + 7) 0 = ap (λ k. get_or b k 0) (add_assoc i 4 3) in
    omega (
      arith,
      be_more b i 7,
      be_more b i 6,
      be_more b i 5,
      be_more b i 4,
      be_more b (i + 4) 3,
      be_more b (i + 4) 2,
      be_two b (i + 4),
      e1,
      e2,
      e3,
    )

-- the number in the first bytes, digit by digit
pub be_told_2 : (w : List ℕ) → be w 0 2 ≡ get_or w 0 0 * 256 + get_or w 1 0
be_told_2 w = omega (arith, be_more w 0 1, be_one w 0)

pub be_told_4 : (w : List ℕ) → be w 0 4 ≡ get_or w 0 0 * 16777216 + get_or w 1 0 * 65536 + get_or w 2 0 * 256 + get_or w 3 0
be_told_4 w = omega (arith, be_more w 0 3, be_more w 0 2, be_more w 0 1, be_one w 0)

pub be_told_8 : (w : List ℕ) → be w 0 8 ≡ get_or w 0 0 * 72057594037927936 + get_or w 1 0 * 281474976710656 + get_or w 2 0 * 1099511627776 + get_or w 3 0 * 4294967296 + get_or w 4 0 * 16777216 + get_or w 5 0 * 65536 + get_or w 6 0 * 256 + get_or w 7 0
be_told_8 w = omega (arith, be_more w 0 7, be_more w 0 6, be_more w 0 5, be_more w 0 4, be_more w 0 3, be_more w 0 2, be_more w 0 1, be_one w 0)

-- bytes that stand in a list from place i on make its number there
pub be_window : (b : List ℕ) (i n : ℕ) (w : List ℕ) → ((k : ℕ) → k < n → get_or w k 0 ≡ get_or b (i + k) 0) → be w 0 n ≡ be b i n
unfolding be
be_window b i zero w h = refl
be_window b i (suc n) w h =
    ap (λ x. 256 * x + get_or w (0 + n) 0) (be_window b i n w (λ k l. h k (omega arith)))
    ∙ ap (λ x. 256 * be b i n + x) (ap (λ j. get_or w j 0) (zero-add n) ∙ h n (omega arith))
