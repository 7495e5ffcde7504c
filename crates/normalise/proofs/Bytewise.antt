-- A number read from bytes that did not change is the same, and one that was written is the value.
use Rattle.std.proofs.Common.{◌≡◌, ℕ, zero, suc, ◌+◌, ◌-◌, ◌*◌, ◌/◌, ◌%◌, ◌^◌, ◌<◌, ◌≤◌, ◌⊎◌, List, [], ◌∷◌, ◌++◌, length, get_or, set, take, drop, refl, sym, ap, ◌∙◌, ap₂, inl, inr, ⊎_elim, arith, length-set, get_or-set_other, get_or-set_same}
use Rattle.lent_bytes.specs.Reads.{be}
use Rattle.std.proofs.lemmas.List.{get_or-take, get_or-drop, get_or_append_left, get_or-append_right, length-take, length-drop, length-append}
use Rattle.lent_bytes.proofs.Parts.{be_window, be_told_2, be_told_4}
use Rattle.normalise.specs.Puts.{Kept, Put, PairPut, StepPut}

pub be_agree : (b c : List ℕ) (i n : ℕ) → ((j : ℕ) → i ≤ j → j < i + n → get_or b j 0 ≡ get_or c j 0) → be b i n ≡ be c i n
unfolding be
be_agree b c i zero f = refl
be_agree b c i (suc n) f =
    ap₂ (λ (x y : ℕ). 256 * x + y) (be_agree b c i n (λ j p q. f j p (omega (arith, q)))) (f (i + n) (omega arith) (omega arith))

pub kept_be : (old new : List ℕ) (i n j m : ℕ) → Kept old new i n → (j + m ≤ i) ⊎ (i + n ≤ j) → be new j m ≡ be old j m
kept_be old new i n j m k (inl h) = be_agree new old j m (λ x p q. k.same x (inl (omega arith)))
kept_be old new i n j m k (inr h) = be_agree new old j m (λ x p q. k.same x (inr (omega arith)))

pub kept_join : (a b c : List ℕ) (i n j m k : ℕ) → Kept a b i n → Kept b c j m → i ≤ j → j + m ≤ i + k → n ≤ k → Kept a c i k
kept_join a b c i n j m k p q h l w =
    record {
      size = q.size ∙ p.size;
      same = λ x s.
          ⊎_elim
          (λ (u : x < i). q.same x (inl (omega arith)) ∙ p.same x (inl u))
          (λ (u : i + k ≤ x). q.same x (inr (omega arith)) ∙ p.same x (inr (omega arith)))
          s;
    }

pub kept_set : (b : List ℕ) (i v : ℕ) → Kept b (set b i v) i 1
kept_set b i v =
    record {
      size = length-set b i v;
      same = λ j s. get_or-set_other b i j v 0 (λ (e : j ≡ i). ⊎_elim (λ (u : j < i). omega arith) (λ (u : i + 1 ≤ j). omega arith) s);
    }

-- bytes written from place i on
pub put_bytes : (b w new : List ℕ) (i n : ℕ) → i + n ≤ length b → length w ≡ n → new ≡ take i b ++ (w ++ drop (i + n) b) → Put b new i n (be w 0 n)
put_bytes b w new i n room long is =
    let rest : List ℕ = w ++ drop (i + n) b in
    let head : length (take i b) ≡ i = omega (arith, length-take i b) in
    let read : (j : ℕ) → get_or new j 0 ≡ get_or (take i b ++ rest) j 0 = λ j. ap (λ (x : List ℕ). get_or x j 0) is in
    let later : (j : ℕ) → i ≤ j → get_or new j 0 ≡ get_or rest (j - i) 0 = λ j l. read j ∙ get_or-append_right (take i b) rest i j 0 head l in
    record {
      kept = record {
        size = ap (λ (x : List ℕ). length x) is ∙ omega (arith, length-append (take i b) rest, length-append w (drop (i + n) b), length-drop (i + n) b, head, long);
        same = λ j s.
            ⊎_elim
            (λ (u : j < i). read j ∙ (get_or_append_left (take i b) rest 0 j (omega (arith, head, u)) ∙ get_or-take i b j 0 u))
            (λ (u : i + n ≤ j).
            let e : i + n + (j - i - n) ≡ j = omega (arith, u) in
            later j (omega (arith, u)) ∙ (get_or-append_right w (drop (i + n) b) n (j - i) 0 long (omega (arith, u)) ∙ (get_or-drop (i + n) b (j - i - n) 0 ∙ ap (λ (k : ℕ). get_or b k 0) e)))
            s;
      };
      value = sym (be_window new i n w (λ k l.
          let e : k ≡ i + k - i = omega arith in
          sym (get_or_append_left w (drop (i + n) b) 0 k (omega (arith, long, l))) ∙ (ap (λ (x : ℕ). get_or rest x 0) e ∙ sym (later (i + k) (omega arith)))));
    }

-- two bytes and four bytes of a number
pub two_bytes : (w : List ℕ) (v : ℕ) → v < 2 ^ 16 → w ≡ v / 256 % 256 ∷ v % 256 ∷ [] → be w 0 2 ≡ v
two_bytes w v l e = omega (arith, ap (λ (x : List ℕ). be x 0 2) e, be_told_2 (v / 256 % 256 ∷ v % 256 ∷ []))

pub four_bytes : (w : List ℕ) (v : ℕ) → v < 2 ^ 32 → w ≡ v / 16777216 % 256 ∷ v / 65536 % 256 ∷ v / 256 % 256 ∷ v % 256 ∷ [] → be w 0 4 ≡ v
four_bytes w v l e =
    omega (arith, ap (λ (x : List ℕ). be x 0 4) e, be_told_4 (v / 16777216 % 256 ∷ v / 65536 % 256 ∷ v / 256 % 256 ∷ v % 256 ∷ []))

pub put_told : (a b : List ℕ) (i n x v : ℕ) → Put a b i n x → x ≡ v → Put a b i n v
put_told a b i n x v p e = record { kept = p.kept; value = p.value ∙ e }

pub put_pair_lem : (a b c : List ℕ) (i o n : ℕ) → Put a b i 4 o → Put b c (i + 4) 4 n → PairPut a c i o n
put_pair_lem a b c i o n p q =
    record {
      kept = kept_join a b c i 4 (i + 4) 4 8 p.kept q.kept (omega arith) (omega arith) (omega arith);
      first = kept_be b c (i + 4) 4 i 4 q.kept (inl (omega arith)) ∙ p.value;
      second = q.value;
    }

pub put_step : (b d : List ℕ) (i e t : ℕ) → i + 4 ≤ length b → Put (set (set b i e) (i + 1) 0) d (i + 2) 2 t → StepPut b d i e t
put_step b d i e t room p =
    let c : List ℕ = set b i e in
    let z : List ℕ = set c (i + 1) 0 in
    let two = kept_join b c z i 1 (i + 1) 1 2 (kept_set b i e) (kept_set c (i + 1) 0) (omega arith) (omega arith) (omega arith) in
    record {
      kept = kept_join b z d i 2 (i + 2) 2 4 two p.kept (omega arith) (omega arith) (omega arith);
      event = p.kept.same i (inl (omega arith)) ∙ ((kept_set c (i + 1) 0).same i (inl (omega arith)) ∙ get_or-set_same b i e 0 (omega arith));
      spare = p.kept.same (i + 1) (inl (omega arith)) ∙ get_or-set_same c (i + 1) 0 0 (omega (arith, length-set b i e));
      target = p.value;
    }
