-- Once the number of steps stands in the head, the bytes up to the last step are the whole table, and nothing larger was wanted.
use Rattle.std.proofs.Common.{◌≡◌, ℕ, zero, suc, ◌+◌, ◌*◌, ◌<◌, ◌≤◌, List, length, get_or, take, sym, refl, ◌∙◌, subst, inl, inr, ⊎_elim, arith}
use Rattle.std.proofs.lemmas.List.{get_or-take, length-take}
use Rattle.std.proofs.lemmas.Bool.{cases_lt, cases_order}
use Rattle.lent_bytes.specs.Reads.{be}
use Rattle.table.specs.Form.{offset, size}
use Rattle.sets.specs.declared.state_set.StateSet.{StateSet}
use Rattle.sets.specs.Members.{In}
use Rattle.sets.specs.Preds.{Pred, Alike}
use Rattle.normalise.specs.Closure.{Rel}
use Rattle.normalise.specs.Made.{TableMade}
use Rattle.normalise.specs.Nodes.{at, Found}
use Rattle.normalise.specs.Puts.{Put}
use Rattle.normalise.specs.Rooms.{Nodes, Edges, TooLarge}
use Rattle.normalise.specs.Writing.{ev, Head, Written}
use Rattle.normalise.proofs.Afters.{next_alike}
use Rattle.normalise.proofs.Bytewise.{be_agree, kept_be}
use Rattle.normalise.proofs.Closes.{alike_chain}
use Rattle.normalise.proofs.Counts.{apart_lists}
use Rattle.normalise.proofs.Explores.{alike_flip}
use Rattle.normalise.proofs.Frames.{SameStep, same_step, same_offset, same_size, written_frame}
use Rattle.normalise.proofs.Pigeons.{pigeon, found_few}
use Rattle.normalise.proofs.Walks.{after_place}

be_zeros : (b : List ℕ) → ((j : ℕ) → get_or b j 0 ≡ 0) → (i n : ℕ) → be b i n ≡ 0
unfolding be
be_zeros b z i zero = refl
be_zeros b z i (suc n) = omega (arith, be_zeros b z i n, z (i + n))

-- the head, with the number of states written to zeros
pub head_start : (b d : List ℕ) (len : ℕ) → ((j : ℕ) → get_or b j 0 ≡ 0) → Put b d 0 2 len → 8 + 8 * len ≤ length b → 8 + 8 * len ≤ 1048576 → Head len d 0
head_start b d len z p fits limit =
    record {
      count = p.value;
      first = kept_be b d 0 2 2 2 p.kept (inr (omega arith)) ∙ be_zeros b z 2 2;
      fits = omega (arith, p.kept.size);
      limit = omega arith;
      rest = λ j l. p.kept.same j (inr (omega arith)) ∙ z j;
    }

module _ (R : Rel) (rows : List StateSet) (len : ℕ) where
  -- the number of steps goes to the head
  counted : (b d : List ℕ) (m : ℕ) → Put b d 4 4 m → Written R rows len b len m → Written R rows len d len m
  counted b d m p w =
      written_frame R rows len b d len m
      (λ s l. same_offset b d 4 4 p.kept s (inr (omega arith)))
      (λ s l. same_size b d 4 4 p.kept s (inr (omega arith)))
      (λ j l. same_step b d 4 4 p.kept R rows len j (inr (omega arith)))
      w

  -- the bytes up to the last step
  module _ (d : List ℕ) (m k : ℕ) (is : k ≡ 8 + 8 * len + 4 * m) (fits : k ≤ length d) where
    cut : (i n : ℕ) → i + n ≤ k → be (take k d) i n ≡ be d i n
    cut i n l = be_agree (take k d) d i n (λ j p q. get_or-take k d j 0 (omega arith))

    cut_step : (j : ℕ) → j < m → SameStep R rows len d (take k d) j
    cut_step j l =
        record {
          event = get_or-take k d (8 + 8 * len + 4 * j) 0 (omega arith);
          spare = get_or-take k d (8 + 8 * len + 4 * j + 1) 0 (omega arith);
          target = cut (8 + 8 * len + 4 * j + 2) 2 (omega arith);
        }

    cut_written : Written R rows len d len m → Written R rows len (take k d) len m
    cut_written w =
        written_frame R rows len d (take k d) len m
        (λ s l. cut (8 + 8 * s) 4 (omega arith))
        (λ s l. cut (12 + 8 * s) 4 (omega arith))
        cut_step
        w

  pub made : (b d : List ℕ) (m k : ℕ) → k ≡ 8 + 8 * len + 4 * m → Put b d 4 4 m → Head len b m → Written R rows len b len m → TableMade R rows len d k
  made b d m k is p h w =
      let fits : k ≤ length d = omega (arith, p.kept.size, h.fits) in
      record {
        steps = m;
        whole = record {
          count = cut d m k is fits 0 2 (omega arith) ∙ (kept_be b d 4 4 0 2 p.kept (inl (omega arith)) ∙ h.count);
          first = cut d m k is fits 2 2 (omega arith) ∙ (kept_be b d 4 4 2 2 p.kept (inl (omega arith)) ∙ h.first);
          steps = cut d m k is fits 4 4 (omega arith) ∙ p.value;
          sized = omega (arith, length-take k d);
          limit = h.limit;
          written = cut_written d m k is fits (counted b d m p w);
        };
        within = fits;
        rest = λ j l. p.kept.same j (inr (omega arith)) ∙ h.rest j (omega arith);
      }

-- no more nodes and no more steps than were written
module _ (R : Rel) (s0 : ℕ) (rows : List StateSet) (len : ℕ) (b : List ℕ) (m : ℕ) (f : Found R s0 rows len len 1) (w : Written R rows len b len m) where
  few_nodes : (q : ℕ) → Nodes R s0 q → q ≤ len
  few_nodes q n =
      ⊎_elim
      (λ (l : len < q).
      absurd (found_few R s0 rows len len (omega arith) f
      (record { sets = n.sets; apart = λ i k p h a. n.apart i k p (omega (arith, h)) a; nodes = λ k h. n.nodes k (omega (arith, h)) })))
      (λ (l : q ≤ len). l)
      (cases_lt len q)

  -- the place of a step between nodes
  record Spot (P : Pred) (e j : ℕ) : Type 0 where
    node : ℕ
    place : ℕ
    inside : node < len
    alike : Alike (at rows node) P
    within : place < size b node
    index : j ≡ offset b node + place
    event : ev len b j ≡ e

  spot : (p : ℕ) (d : Edges R s0 p) (i : ℕ) → i < p → (j : ℕ) × Spot (In (d.node i)) (d.event i) j
  spot p d i l =
      let n = d.nodes i l in
      let h = after_place R s0 rows len f n.trace n.visible n.state (n.states_of.to n.state n.member) in
      let a : Alike (at rows h.0) (In (d.node i)) = alike_chain _ _ _ h.1.alike (alike_flip _ _ n.states_of) in
      let x = d.leads i l in
      let y = (next_alike R (d.event i) _ _ a).from x.0 x.1 in
      let r = (w.lists h.0 h.1.within).full (d.event i) (d.loud i l) (d.low i l) x.0 y in
      (offset b h.0 + r.0, record { node = h.0; place = r.0; inside = h.1.within; alike = a; within = r.1; index = refl; event = r.2 })

  spot_within : (P : Pred) (e j : ℕ) → Spot P e j → j < m
  spot_within P e j s = omega (arith, w.within s.node s.inside, s.within, s.index)

  same_node : (P Q : Pred) (e g j : ℕ) (s : Spot P e j) (t : Spot Q g j) → s.node ≡ t.node
  same_node P Q e g j s t =
      ⊎_elim
      (λ (z : s.node ≡ t.node). z)
      (⊎_elim
      (λ (z : s.node < t.node). absurd (omega (arith, apart_lists R rows len b len m w s.node t.node z t.inside, s.index, t.index, s.within)))
      (λ (z : t.node < s.node). absurd (omega (arith, apart_lists R rows len b len m w t.node s.node z s.inside, s.index, t.index, t.within))))
      (cases_order s.node t.node)

  few_steps : (p : ℕ) → Edges R s0 p → p ≤ m
  few_steps p d =
      ⊎_elim
      (λ (l : m < p).
      let at_spot : (i : ℕ) → (j : ℕ) × (i < p → Spot (In (d.node i)) (d.event i) j) =
      λ i.
      ⊎_elim
      (λ (h : i < p). let s = spot p d i h in (s.0, λ _. s.1))
      (λ (h : p ≤ i). (0, λ u. absurd (omega (arith, h, u))))
      (cases_lt i p) in
      let r = pigeon m (λ i. (at_spot i).0) (λ i h. spot_within _ _ _ ((at_spot i).1 (omega (arith, h)))) in
      let li : r.0 < p = omega (arith, r.2, r.3) in
      let lk : r.1 < p = omega (arith, r.3) in
      let s = (at_spot r.0).1 li in
      let t : Spot (In (d.node r.1)) (d.event r.1) (at_spot r.0).0 =
      subst (λ (j : ℕ). Spot (In (d.node r.1)) (d.event r.1) j) (sym r.4) ((at_spot r.1).1 lk) in
      let n = same_node _ _ _ _ _ s t in
      let a : Alike (at rows s.node) (In (d.node r.1)) =
      subst (λ (x : ℕ). Alike (at rows x) (In (d.node r.1))) (sym n) t.alike in
      absurd (d.apart r.0 r.1 r.2 lk (sym s.event ∙ t.event) (alike_chain _ _ _ (alike_flip _ _ s.alike) a)))
      (λ (l : p ≤ m). l)
      (cases_lt m p)

  pub not_large : (room : ℕ) → 8 + 8 * len + 4 * m ≤ room → TooLarge R s0 room → ⊥
  not_large room h t = omega (arith, few_nodes t.count t.states, few_steps t.steps t.edges, t.passes)
