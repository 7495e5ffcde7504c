-- Laws of bits: none in 0, one in a power, those of either in a union, and none from k on below 2 ^ k.
use Rattle.std.proofs.Common.{◌≡◌, ℕ, zero, suc, ◌+◌, ◌-◌, ◌*◌, ◌/◌, ◌%◌, ◌^◌, ◌<◌, ◌≤◌, max, true, false, ◌||◌, eqb, Decides, sym, refl, ap, ◌∙◌, ⊎_elim, add-one, arith, lit<, pow_mono}
use native.Mathlib.Nat.{zero-div, div_self, div-eq_of_lt-le}
use lib.Bits.{bit_or, or_step}
use Rattle.std.proofs.lemmas.Nat.{pow_pos, pow-add, or_shr, pow_below, div-add-mod', mod_below, shl-shr, leading_top, div_below}
use Rattle.std.proofs.lemmas.Bool.{cases_lt, cases_order, both_ways}
use Rattle.lent_bytes.specs.Bits.{bit}

-- a number whose shift by k leaves nothing is below 2 ^ k
pub below_from_shift : (n k : ℕ) → n / 2 ^ k ≡ 0 → n < 2 ^ k
below_from_shift n k e =
    let a : 0 * 2 ^ k + n % 2 ^ k ≡ n = rw e at (div-add-mod' n (2 ^ k)) in
    omega (arith, mod_below n (2 ^ k) (pow_pos k))

pub shift_from_below : (n k : ℕ) → n < 2 ^ k → n / 2 ^ k ≡ 0
shift_from_below n k h = omega (arith, div_below n (2 ^ k) 1 (pow_pos k) (omega arith))

pub bit_zero : (i : ℕ) → bit 0 i ≡ false
unfolding bit
bit_zero i = ap (λ n. eqb (n % 2) 1) (zero-div (2 ^ i))

-- no bit from k on in a number below 2 ^ k
pub bit_above : (w i k : ℕ) → w < 2 ^ k → k ≤ i → bit w i ≡ false
unfolding bit
bit_above w i k h l =
    let p : 2 ^ k ≤ 2 ^ i = pow_mono l in
    ap (λ n. eqb (n % 2) 1) (shift_from_below w i (omega arith))

either_one : (m n : ℕ) → m < 2 → n < 2 → eqb (max m n) 1 ≡ (eqb m 1 || eqb n 1)
either_one zero zero h k = refl
either_one zero (suc zero) h k = refl
either_one (suc zero) zero h k = refl
either_one (suc zero) (suc zero) h k = refl
either_one zero (suc (suc n)) h k = absurd (omega arith)
either_one (suc zero) (suc (suc n)) h k = absurd (omega arith)
either_one (suc (suc m)) n h k = absurd (omega arith)

-- a union has the bits of either
pub bit_or_lem : (a b i : ℕ) → bit (bit_or a b) i ≡ (bit a i || bit b i)
unfolding bit
bit_or_lem a b i =
    let x : ℕ = a / 2 ^ i in
    let y : ℕ = b / 2 ^ i in
    let p : x % 2 < 2 = mod_below x 2 (lit< tt) in
    let q : y % 2 < 2 = mod_below y 2 (lit< tt) in
    let e : bit_or x y % 2 ≡ max (x % 2) (y % 2) = omega (arith, or_step x y) in
    ap (λ n. eqb (n % 2) 1) (or_shr a b i) ∙ ap (λ n. eqb n 1) e ∙ either_one (x % 2) (y % 2) p q

-- a power of two has its own bit alone
pub bit_power : (d i : ℕ) → Decides (bit (2 ^ d) i) (d ≡ i)
unfolding bit
bit_power d i =
    ⊎_elim
    (λ e. (λ _. e, λ _. ap (λ n. eqb (n % 2) 1) (ap (λ k. 2 ^ k / 2 ^ i) e ∙ div_self (pow_pos i))))
    (⊎_elim
    (λ l. (λ t. absurd (both_ways _ (ap (λ n. eqb (n % 2) 1) (shift_from_below (2 ^ d) i (pow_below d i l))) t), λ e. absurd (omega arith)))
    (λ l.
    let k : ℕ = d - i - 1 in
    let s : d ≡ k + 1 + i = omega arith in
    let u : 2 ^ d / 2 ^ i ≡ 2 ^ (k + 1) = ap (λ n. 2 ^ n / 2 ^ i) s ∙ ap (λ n. n / 2 ^ i) (pow-add 2 (k + 1) i) ∙ shl-shr (2 ^ (k + 1)) i in
    let v : 2 ^ (k + 1) % 2 ≡ 0 = omega (arith, pow-add 2 k 1) in
    (λ t. absurd (both_ways _ (ap (λ n. eqb (n % 2) 1) u ∙ ap (λ n. eqb n 1) v) t), λ e. absurd (omega arith))))
    (cases_order d i)

-- a number all of whose bits are below k is below 2 ^ k
pub below_from_bits : (w k : ℕ) → w < 2 ^ 64 → ((i : ℕ) → bit w i ≡ true → i < k) → w < 2 ^ k
unfolding bit
below_from_bits w k small all =
    ⊎_elim
    (λ l. l)
    (λ l.
    let pos : 0 < w = omega (arith, pow_pos k) in
    let t = leading_top 64 w pos small in
    let j : ℕ = t.0 in
    let top : w < 2 ^ suc j = t.3 in
    let twice : 2 ^ suc j ≡ 2 ^ j * 2 = ap (λ n. 2 ^ n) (sym (add-one j)) ∙ pow-add 2 j 1 in
    let one : w / 2 ^ j ≡ 1 = div-eq_of_lt-le {k = 1} (2 ^ j) {m = w} (omega (arith, t.2)) (omega arith) in
    let h : j < k = all j (ap (λ n. eqb (n % 2) 1) one) in
    let p : 2 ^ suc j ≤ 2 ^ k = pow_mono h in
    absurd (omega arith))
    (cases_lt w (2 ^ k))

pub bits_from_below : (w k : ℕ) → w < 2 ^ k → (i : ℕ) → bit w i ≡ true → i < k
bits_from_below w k h i t =
    ⊎_elim (λ l. l) (λ l. absurd (both_ways (bit w i) (bit_above w i k h l) t)) (cases_lt i k)
