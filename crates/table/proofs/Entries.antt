-- Entry k of a state's list is the step at the k-th place from the state's offset on, so what the check
-- has found of every pair and every step holds of every entry.
use Rattle.std.proofs.Common.{◌≡◌, ℕ, ◌+◌, ◌<◌, ◌≤◌, ltb, List, [], ◌∷◌, length, drop, Some, None, Option, sym, refl, ap, ◌∙◌, subst, ⊎_elim, arith}
use Rattle.std.specs.List.{slice_get}
use Rattle.std.proofs.lemmas.List.FromFn.{length-map-range_with_len, get_or-map-range_with_len}
use Rattle.std.proofs.lemmas.List.{nil_from_length}
use Rattle.std.proofs.lemmas.Option.{slice_get_past, slice_get_within, slice_get_cases, slice_get_read, slice_get-get_or, get_or_from_slice_get}
use Rattle.std.proofs.lemmas.List.{drop_more, drop_all}
use Rattle.std.proofs.lemmas.Iterator.Consumers.{YieldsList-from_first, YieldsList-turn, YieldsList-end}
use Rattle.std.specs.Iterator.{Yields, YieldsFirst}
use Rattle.std.proofs.lemmas.Bool.{cases_lt, cases_order, cond-true, cond-false, lt-ltb, le-ltb}
use Rattle.fault.specs.First.{Below}
use Rattle.fault.specs.Judged.{Everywhere}
use Rattle.table.specs.declared.step.Step.{Step}
use Rattle.table.specs.Form.{states, all_steps, offset, size, event, step, steps_from, steps_of}
use Rattle.table.specs.Met.{Fresh}
use Rattle.table.specs.Rules.{PairOk, Formed, Ended, NormalAt, pair_rule, normal_rule}
use Rattle.table.specs.Steps.{Lawful, Lone}

pub some_same : {X : Type 0} (x y : X) → Some x ≡ Some y → x ≡ y
some_same x y e = cc

pub some_not_none : {X : Type 0} (x : X) → Some x ≡ None → ⊥
some_not_none x e = let z : ◌≡◌ {A = ℕ} 0 1 = cc in omega arith

pub nth_within : {X : Type 0} (xs : List X) (k : ℕ) (x : X) → slice_get xs k ≡ Some x → k < length xs
nth_within xs k x e = slice_get_within xs k x e

pub past_none : {X : Type 0} (xs : List X) (k : ℕ) → slice_get xs k ≡ None → length xs ≤ k
past_none xs k e = ⊎_elim (λ l. absurd (some_not_none l.0 (sym l.2 ∙ e))) (λ l. l.0) (slice_get_cases xs k).1

-- what is left from place k on begins with the entry there, and is nothing where there is none
pub drop_entry : {X : Type 0} (xs : List X) (k : ℕ) (x : X) → slice_get xs k ≡ Some x → drop k xs ≡ x ∷ drop (k + 1) xs
drop_entry xs k x at =
    let h = nth_within xs k x at in
    drop_more xs k x h ∙ ap (λ y. y ∷ drop (k + 1) xs) (get_or_from_slice_get xs k x x at)

pub drop_none : {X : Type 0} (xs : List X) (k : ℕ) → slice_get xs k ≡ None → drop k xs ≡ []
drop_none xs k e = drop_all k xs (past_none xs k e)

-- in a loop over an iterator that shows what is left: the item is the entry after those that were yielded, and at the end all were
module _ {Z X : Type 0} (rest : Z → List X) {z : Z} (xs : List X) (whole : rest z ≡ xs) (ys : List X) (t : Z) (passed : Yields (YieldsFirst rest) z ys t) (r : Option X) (u : Z) (next : YieldsFirst rest t r u) where
  pub entry_next : (x : X) → r ≡ Some x → slice_get xs (length ys) ≡ Some x
  entry_next x is =
      let h = YieldsList-turn (YieldsList-from_first (λ y. y) rest xs whole) ys t passed r u x is next in
      slice_get_read xs (length xs) (length ys) x refl h.0 h.1

  pub entry_end : r ≡ None → length ys ≡ length xs
  entry_end is = (YieldsList-end (YieldsList-from_first (λ y. y) rest xs whole) ys t passed r u is next).1

module _ (b : List ℕ) (s : ℕ) where
  pub steps_in_lem : s < states b → steps_of b s ≡ steps_from b (offset b s) (size b s)
  unfolding steps_of
  steps_in_lem h = cond-true (ltb s (states b)) (steps_from b (offset b s) (size b s)) [] (lt-ltb s (states b) h)

  pub steps_out : states b ≤ s → steps_of b s ≡ []
  unfolding steps_of
  steps_out h = cond-false (ltb s (states b)) (steps_from b (offset b s) (size b s)) [] (le-ltb s (states b) h)

  pub steps_length : s < states b → length (steps_of b s) ≡ size b s
  steps_length h = ap length (steps_in_lem h) ∙ length-map-range_with_len (step b) (offset b s) (size b s)

  pub steps_at : (k : ℕ) → s < states b → k < size b s → slice_get (steps_of b s) k ≡ Some (step b (offset b s + k))
  steps_at k h l =
      let xs = steps_from b (offset b s) (size b s) in
      let in' : k < length xs = rw (length-map-range_with_len (step b) (offset b s) (size b s)) l in
      ap (λ ys. slice_get ys k) (steps_in_lem h)
      ∙ (slice_get-get_or xs k (step b 0) in' ∙ ap Some (get_or-map-range_with_len (step b) (offset b s) (size b s) k (offset b s + k) (step b 0) l refl))

  pub steps_past : (k : ℕ) → s < states b → size b s ≤ k → slice_get (steps_of b s) k ≡ None
  steps_past k h l = slice_get_past (steps_of b s) k (rw (steps_length h) l)

  pub steps_none : (k : ℕ) → states b ≤ s → slice_get (steps_of b s) k ≡ None
  steps_none k h = ap (λ xs. slice_get xs k) (steps_out h)

-- an entry of a list stands in a list of the table, and is the step at its place
pub record Placed (b : List ℕ) (s k : ℕ) (x : Step) : Type 0 where
  pub state : s < states b
  pub within : k < size b s
  pub is : step b (offset b s + k) ≡ x

pub placed : (b : List ℕ) (s k : ℕ) (x : Step) → slice_get (steps_of b s) k ≡ Some x → Placed b s k x
placed b s k x e =
    let h : s < states b = ⊎_elim (λ l. l) (λ l. absurd (some_not_none x (sym e ∙ steps_none b s k l))) (cases_lt s (states b)) in
    let l : k < size b s = ⊎_elim (λ i. i) (λ i. absurd (some_not_none x (sym e ∙ steps_past b s k h i))) (cases_lt k (size b s)) in
    record { state = h; within = l; is = some_same (step b (offset b s + k)) x (sym (steps_at b s k h l) ∙ e) }

-- no tau and no event twice, by entries and by places
module _ (b : List ℕ) (s : ℕ) where
  abbrev pub places : ℕ → ℕ
  places k = event b (offset b s + k)

  pub event_at : (k : ℕ) (x : Step) → slice_get (steps_of b s) k ≡ Some x → places k ≡ x.event
  event_at k x e = ap (λ (y : Step). y.event) (placed b s k x e).is

  pub normal_from : Fresh places (length (steps_of b s)) → NormalAt b s
  normal_from f = (
    λ k x e z. f.loud k (nth_within (steps_of b s) k x e) (event_at k x e ∙ z),
    λ j k x y p q z.
        let same : places j ≡ places k = event_at j x p ∙ z ∙ sym (event_at k y q) in
        ⊎_elim
        (λ i. i)
        (⊎_elim
        (λ l. absurd (f.apart j k l (nth_within (steps_of b s) k y q) same))
        (λ l. absurd (f.apart k j l (nth_within (steps_of b s) j x p) (sym same))))
        (cases_order j k),
  )

  module _ (h : s < states b) where
    pub to_normal : Fresh places (size b s) → NormalAt b s
    to_normal f = normal_from (subst (Fresh places) (sym (steps_length b s h)) f)

    pub from_normal : NormalAt b s → Fresh places (size b s)
    from_normal n =
        record {
          loud = λ k l z. n.0 k (step b (offset b s + k)) (steps_at b s k h l) z;
          apart = λ j k l i z.
              let e : j ≡ k = n.1 j k (step b (offset b s + j)) (step b (offset b s + k)) (steps_at b s j h (omega arith)) (steps_at b s k h i) z in
              omega arith;
        }

-- what the check of pairs and steps gives of every list
module _ (b : List ℕ) (pairs : Everywhere (pair_rule b)) (formed : Below (Formed b) (all_steps b)) (ends : Below (Ended b) (all_steps b)) where
  pub pair_of : (s : ℕ) → s < states b → PairOk b s
  pair_of s h = pairs s (omega arith)

  -- the place of an entry is that of a step
  pub place_of : (s k : ℕ) (x : Step) → slice_get (steps_of b s) k ≡ Some x → offset b s + k < all_steps b
  place_of s k x e = let p = placed b s k x e in let q = pair_of s p.state in omega (arith, p.within, q.2)

  short : (s : ℕ) → length (steps_of b s) ≤ 256
  short s =
      ⊎_elim
      (λ h. rw (steps_length b s h) (pair_of s h).3)
      (λ h. rw (steps_out b s h) (omega arith))
      (cases_lt s (states b))

  ended : (s k : ℕ) (x : Step) → slice_get (steps_of b s) k ≡ Some x → x.event ≡ 1 → steps_of b x.target ≡ []
  ended s k x e t =
      let is = (placed b s k x e).is in
      let j = place_of s k x e in
      let none : size b x.target ≡ 0 = subst (λ (y : Step). size b y.target ≡ 0) is (ends (offset b s + k) j (ap (λ (y : Step). y.event) is ∙ t)) in
      let here : x.target < states b = subst (λ (y : Step). y.target < states b) is (formed (offset b s + k) j).2 in
      nil_from_length (steps_of b x.target) (steps_length b x.target here ∙ none)

  pub lawful : Lawful b
  lawful =
      record {
        starts = (pairs 0 (omega arith)).0 refl;
        short = short;
        events = λ s k x e. subst (λ (y : Step). y.event < 64) (placed b s k x e).is (formed (offset b s + k) (place_of s k x e)).0;
        targets = λ s k x e. subst (λ (y : Step). y.target < states b) (placed b s k x e).is (formed (offset b s + k) (place_of s k x e)).2;
        ended = ended;
      }

-- what the check of the lists gives of every state number
module _ (b : List ℕ) (normal : Everywhere (normal_rule b)) where
  pub lone : Lone b
  lone =
      record {
        loud = λ s k x e z. (normal s (placed b s k x e).state).0 k x e z;
        once = λ s j k x y p q z. (normal s (placed b s j x p).state).1 j k x y p q z;
      }
