-- The steps written stand in the order of node and event, so no two are of one node and one event; more steps than places would put two at one place.
use Rattle.std.proofs.Common.{◌≡◌, ℕ, zero, suc, ◌+◌, ◌-◌, ◌*◌, ◌<◌, ◌≤◌, ◌⊎◌, List, get_or, sym, refl, ap, ◌∙◌, subst, inl, inr, ⊎_elim, arith}
use Rattle.std.proofs.lemmas.Bool.{cases_eq, cases_lt, cases_order}
use Rattle.table.specs.Form.{offset, size, floor}
use Rattle.sets.specs.declared.state_set.StateSet.{StateSet}
use Rattle.sets.specs.Preds.{Alike}
use Rattle.normalise.specs.Closure.{Rel, next}
use Rattle.normalise.specs.Nodes.{unset, at, Earlier, Found}
use Rattle.normalise.specs.Rooms.{Nodes, Edges, TooLarge}
use Rattle.normalise.specs.Writing.{ev, Entry, Written, Under}
use Rattle.normalise.proofs.Explores.{alike_flip}
use Rattle.normalise.proofs.Pigeons.{node_of}

module _ (R : Rel) (rows : List StateSet) (len : ℕ) (b : List ℕ) (a m : ℕ) (w : Written R rows len b a m) where
  -- the node and the place in its list of a step
  own : (x : ℕ) → x ≤ a → (j : ℕ) → j < floor b x → (s : ℕ) × (k : ℕ) × (s < x) × (k < size b s) × (j ≡ offset b s + k)
  own zero h j l = absurd (omega arith)
  own (suc x) h j l =
      ⊎_elim
      (λ (q : j < floor b x). let r = own x (omega arith) j q in (r.0, r.1, omega (arith, r.2), r.3, r.4))
      (λ (q : floor b x ≤ j).
      let e = w.starts x (omega arith) in
      (x, j - offset b x, omega arith, omega arith, omega arith))
      (cases_lt j (floor b x))

  pub owner : (j : ℕ) → j < m → (s : ℕ) × (k : ℕ) × (s < a) × (k < size b s) × (j ≡ offset b s + k)
  owner j l = own a (omega arith) j (omega (arith, w.ends))

  floor_mono : (s t : ℕ) → s < t → t ≤ a → offset b s + size b s ≤ floor b t
  floor_mono s zero l h = absurd (omega arith)
  floor_mono s (suc t) l h =
      ⊎_elim
      (λ (q : s ≡ t). subst (λ (x : ℕ). offset b x + size b x ≤ offset b t + size b t) (sym q) (omega arith))
      (λ ne. let r = floor_mono s t (omega (arith, ne, l)) (omega arith) in omega (arith, w.starts t (omega arith)))
      (cases_eq s t)

  pub apart_lists : (s t : ℕ) → s < t → t < a → offset b s + size b s ≤ offset b t
  apart_lists s t l h = omega (arith, floor_mono s t l (omega arith), w.starts t h)

-- the steps so far, with one more of node n and event e
module _ (R : Rel) (s0 : ℕ) (rows : List StateSet) (len : ℕ) (b : List ℕ) (n e o c : ℕ) (f : Found R s0 rows len len 1) (u : Under R rows len b n e o c) (nl : n < len) (pos : 0 < e) (low : e < 64) (x0 : ℕ) (more : next R e (at rows n) x0) where
  pub record EarlyStep (j s y : ℕ) : Type 0 where
    pub place : ℕ
    pub source : s < n
    pub within : place < size b s
    pub index : j ≡ offset b s + place
    pub event : y ≡ ev len b j

  pub record ListStep (j s y : ℕ) : Type 0 where
    pub place : ℕ
    pub source : s ≡ n
    pub within : place < c
    pub index : j ≡ o + place
    pub event : y ≡ ev len b j

  pub record LastStep (j s y : ℕ) : Type 0 where
    pub past : o + c ≤ j
    pub source : s ≡ n
    pub event : y ≡ e

  Facts : ℕ → ℕ → ℕ → Type 0
  Facts j s y = EarlyStep j s y ⊎ (ListStep j s y ⊎ LastStep j s y)

  pick : (j : ℕ) → (s : ℕ) × (y : ℕ) × Facts j s y
  unfolding Facts
  pick j =
      ⊎_elim
      (λ (l : j < o).
      let r = owner R rows len b n o u.written j l in
      (r.0, ev len b j, inl (record { place = r.1; source = r.2; within = r.3; index = r.4; event = refl })))
      (λ (h : o ≤ j).
      ⊎_elim
      (λ (l : j < o + c).
      (n, ev len b j, inr (inl (record { place = j - o; source = refl; within = omega arith; index = omega arith; event = refl }))))
      (λ (l : o + c ≤ j). (n, e, inr (inr (record { past = l; source = refl; event = refl }))))
      (cases_lt j (o + c)))
      (cases_lt j o)

  early : (i k s t y z : ℕ) → i < k → EarlyStep i s y → EarlyStep k t z → Earlier s y t z
  early i k s t y z l p q =
      ⊎_elim
      (λ (h : s ≡ t).
      let L = u.written.lists t q.source in
      let p' : i ≡ offset b t + p.place = subst (λ (x : ℕ). i ≡ offset b x + p.place) h p.index in
      let r = L.rising p.place q.place (omega (arith, q.index)) q.within in
      let yi : y ≡ ev len b (offset b t + p.place) = p.event ∙ ap (ev len b) p' in
      let zi : z ≡ ev len b (offset b t + q.place) = q.event ∙ ap (ev len b) q.index in
      inr (h, omega arith))
      (⊎_elim
      (λ (h : s < t). inl h)
      (λ (h : t < s). absurd (omega (arith, apart_lists R rows len b n o u.written t s h p.source, p.index, q.index, q.within, l))))
      (cases_order s t)

  low_early : (i s y : ℕ) → EarlyStep i s y → i < o
  low_early i s y p = omega (arith, u.written.within s p.source, p.within, p.index)

  ascending : (i k s t y z : ℕ) → i < k → k ≤ o + c → Facts i s y → Facts k t z → Earlier s y t z
  unfolding Facts
  ascending i k s t y z l h (inl p) (inl q) = early i k s t y z l p q
  ascending i k s t y z l h (inl p) (inr (inl q)) = inl (omega (arith, p.source, q.source))
  ascending i k s t y z l h (inl p) (inr (inr q)) = inl (omega (arith, p.source, q.source))
  ascending i k s t y z l h (inr (inl p)) (inl q) = absurd (omega (arith, low_early k t z q, p.index, l))
  ascending i k s t y z l h (inr (inl p)) (inr (inl q)) =
      let r = u.listing.rising p.place q.place (omega (arith, p.index, q.index)) q.within in
      let yi : y ≡ ev len b (o + p.place) = p.event ∙ ap (ev len b) p.index in
      let zi : z ≡ ev len b (o + q.place) = q.event ∙ ap (ev len b) q.index in
      inr (p.source ∙ sym q.source, omega arith)
  ascending i k s t y z l h (inr (inl p)) (inr (inr q)) =
      let yi : y ≡ ev len b (o + p.place) = p.event ∙ ap (ev len b) p.index in
      inr (p.source ∙ sym q.source, omega (arith, u.listing.below p.place p.within, q.event))
  ascending i k s t y z l h (inr (inr p)) (inl q) = absurd (omega (arith, low_early k t z q, p.past, l))
  ascending i k s t y z l h (inr (inr p)) (inr (inl q)) = absurd (omega (arith, q.index, q.within, p.past, l))
  ascending i k s t y z l h (inr (inr p)) (inr (inr q)) = absurd (omega (arith, p.past, l, h))

  pub record Good (s y : ℕ) : Type 0 where
    pub inside : s < len
    pub loud : 0 < y
    pub small : y < 64
    pub state : ℕ
    pub leads : next R y (at rows s) state

  of_entry : (s j y : ℕ) → s < len → y ≡ ev len b j → Entry R rows len b s j → Good s y
  of_entry s j y l q g =
      record {
        inside = l;
        loud = omega (arith, g.loud, q);
        small = omega (arith, g.low, q);
        state = g.goes.0;
        leads = subst (λ (x : ℕ). next R x (at rows s) g.goes.0) (sym q) g.goes.1;
      }

  good : (j s y : ℕ) → Facts j s y → Good s y
  unfolding Facts
  good j s y (inl p) =
      of_entry s (offset b s + p.place) y (omega (arith, p.source)) (p.event ∙ ap (ev len b) p.index) ((u.written.lists s p.source).sound p.place p.within)
  good j s y (inr (inl p)) =
      subst (λ (x : ℕ). Good x y) (sym p.source) (of_entry n (o + p.place) y nl (p.event ∙ ap (ev len b) p.index) (u.listing.sound p.place p.within))
  good j s y (inr (inr p)) =
      subst (λ (x : ℕ). Good x y) (sym p.source)
      (subst (λ (z : ℕ). Good n z) (sym p.event) (record { inside = nl; loud = pos; small = low; state = x0; leads = more }))

  same_row : (s t : ℕ) → s < len → t < len → Alike (at rows s) (at rows t) → s ≡ t
  same_row s t p q h =
      ⊎_elim
      (λ (z : s ≡ t). z)
      (⊎_elim (λ (z : s < t). absurd (f.apart s t z q h)) (λ (z : t < s). absurd (f.apart t s z p (alike_flip _ _ h))))
      (cases_order s t)

  never : (s t y z : ℕ) → Earlier s y t z → s ≡ t → y ≡ z → ⊥
  never s t y z (inl h) p q = omega arith
  never s t y z (inr h) p q = omega (arith, h.1)

  pub edges : Edges R s0 (o + c + 1)
  edges =
      record {
        node = λ i. get_or rows (pick i).0 unset;
        event = λ i. (pick i).1;
        nodes = λ i l. let g = good i (pick i).0 (pick i).1 (pick i).2 in node_of R s0 rows len len 1 f (suc (pick i).0) (pick i).0 (omega arith) g.inside;
        loud = λ i l. (good i (pick i).0 (pick i).1 (pick i).2).loud;
        low = λ i l. (good i (pick i).0 (pick i).1 (pick i).2).small;
        leads = λ i l. let g = good i (pick i).0 (pick i).1 (pick i).2 in (g.state, g.leads);
        apart = λ i k l h q z.
            let g = good i (pick i).0 (pick i).1 (pick i).2 in
            let g' = good k (pick k).0 (pick k).1 (pick k).2 in
            never (pick i).0 (pick k).0 (pick i).1 (pick k).1
            (ascending i k (pick i).0 (pick k).0 (pick i).1 (pick k).1 l (omega (arith, h)) (pick i).2 (pick k).2)
            (same_row (pick i).0 (pick k).0 g.inside g'.inside z)
            q;
      }

module _ (R : Rel) (s0 : ℕ) (rows : List StateSet) (len : ℕ) (f : Found R s0 rows len len 1) where
  pub all_nodes : Nodes R s0 len
  all_nodes = record { sets = rows; apart = f.apart; nodes = λ k l. node_of R s0 rows len len 1 f (suc k) k (omega arith) l }

  no_edges : Edges R s0 0
  no_edges =
      record {
        node = λ i. unset;
        event = λ i. 0;
        nodes = λ i l. absurd (omega arith);
        loud = λ i l. absurd (omega arith);
        low = λ i l. absurd (omega arith);
        leads = λ i l. absurd (omega arith);
        apart = λ i k l h. absurd (omega arith);
      }

  -- the pairs alone pass the room
  pub large_pairs : (room : ℕ) → room < 8 + 8 * len → TooLarge R s0 room
  large_pairs room h = record { count = len; steps = 0; states = all_nodes; edges = no_edges; passes = omega arith }

  -- one step more passes the room
  pub large_step : (room : ℕ) (b : List ℕ) (n e o c x : ℕ) → Under R rows len b n e o c → n < len → 0 < e → e < 64 → next R e (at rows n) x → room < 8 + 8 * len + 4 * (o + c) + 4 → TooLarge R s0 room
  large_step room b n e o c x u nl p q more h =
      record { count = len; steps = o + c + 1; states = all_nodes; edges = edges R s0 rows len b n e o c f u nl p q x more; passes = omega arith }
