-- A step or a pair that is written leaves what was written before, so the lists grow step by step and node by node.
use Rattle.std.proofs.Common.{◌≡◌, ℕ, zero, suc, ◌+◌, ◌*◌, ◌<◌, ◌≤◌, ◌⊎◌, List, length, sym, refl, ap, ◌∙◌, subst, ap₂, inl, inr, ⊎_elim, add-zero, add-one, arith}
use Rattle.std.proofs.lemmas.Bool.{cases_eq}
use Rattle.lent_bytes.specs.Reads.{be}
use Rattle.table.specs.Form.{offset, size, floor}
use Rattle.sets.specs.declared.state_set.StateSet.{StateSet}
use Rattle.normalise.specs.Closure.{Rel, next}
use Rattle.normalise.specs.Nodes.{at, Goes}
use Rattle.normalise.specs.Puts.{Kept, PairPut, StepPut}
use Rattle.normalise.specs.Writing.{ev, sp, tg, Entry, Listing, Written, Head, Under}
use Rattle.normalise.proofs.Bytewise.{kept_be}

module _ (R : Rel) (rows : List StateSet) (len : ℕ) (b d : List ℕ) where
  -- step j is as it was
  pub record SameStep (j : ℕ) : Type 0 where
    pub event : ev len d j ≡ ev len b j
    pub spare : sp len d j ≡ sp len b j
    pub target : tg len d j ≡ tg len b j

  entry_frame : (s j : ℕ) → SameStep j → Entry R rows len b s j → Entry R rows len d s j
  entry_frame s j q e =
      let G : ℕ → ℕ → Type 0 = λ x y. Goes R rows len s x y in
      record {
        goes = subst (λ (x : ℕ). G x (tg len d j)) (sym q.event) (subst (λ (y : ℕ). G (ev len b j) y) (sym q.target) e.goes);
        loud = subst (λ (x : ℕ). 0 < x) (sym q.event) e.loud;
        low = subst (λ (x : ℕ). x < 64) (sym q.event) e.low;
        clean = q.spare ∙ e.clean;
      }

  pub listing_frame : (s e o c : ℕ) → ((k : ℕ) → k < c → SameStep (o + k)) → Listing R rows len b s e o c → Listing R rows len d s e o c
  listing_frame s e o c q l =
      record {
        few = l.few;
        sound = λ k h. entry_frame s (o + k) (q k h) (l.sound k h);
        below = λ k h. subst (λ (x : ℕ). x < e) (sym (q k h).event) (l.below k h);
        rising = λ i k p h.
            let a = (q i (omega arith)).event in
            let z = (q k h).event in
            omega (arith, l.rising i k p h);
        full = λ f p h x n. let y = l.full f p h x n in (y.0, y.1, (q y.0 y.1).event ∙ y.2);
      }

  floor_frame : (a : ℕ) → ((s : ℕ) → s < a → offset d s ≡ offset b s) → ((s : ℕ) → s < a → size d s ≡ size b s) → (s : ℕ) → s ≤ a → floor d s ≡ floor b s
  floor_frame a p q zero h = refl
  floor_frame a p q (suc s) h = ap₂ (λ (x y : ℕ). x + y) (p s (omega arith)) (q s (omega arith))

  pub written_frame : (a m : ℕ) → ((s : ℕ) → s < a → offset d s ≡ offset b s) → ((s : ℕ) → s < a → size d s ≡ size b s) → ((j : ℕ) → j < m → SameStep j) → Written R rows len b a m → Written R rows len d a m
  written_frame a m p q f w =
      record {
        starts = λ s h. p s h ∙ (w.starts s h ∙ sym (floor_frame a p q s (omega arith)));
        ends = floor_frame a p q a (omega arith) ∙ w.ends;
        within = λ s h. let x = p s h in let y = q s h in omega (arith, w.within s h);
        lists = λ s h.
            let L : ℕ → ℕ → Type 0 = λ x y. Listing R rows len d s 64 x y in
            subst (λ (x : ℕ). L x (size d s)) (sym (p s h))
            (subst (λ (y : ℕ). L (offset b s) y) (sym (q s h))
            (listing_frame s 64 (offset b s) (size b s) (λ k l. f (offset b s + k) (omega (arith, w.within s h))) (w.lists s h)));
      }

-- a part of the bytes that a write does not touch
module _ (b d : List ℕ) (i n : ℕ) (k : Kept b d i n) where
  pub same_step : (R : Rel) (rows : List StateSet) (len j : ℕ) → (8 + 8 * len + 4 * j + 4 ≤ i) ⊎ (i + n ≤ 8 + 8 * len + 4 * j) → SameStep R rows len b d j
  same_step R rows len j (inl h) =
      record {
        event = k.same (8 + 8 * len + 4 * j) (inl (omega arith));
        spare = k.same (8 + 8 * len + 4 * j + 1) (inl (omega arith));
        target = kept_be b d i n (8 + 8 * len + 4 * j + 2) 2 k (inl (omega arith));
      }
  same_step R rows len j (inr h) =
      record {
        event = k.same (8 + 8 * len + 4 * j) (inr (omega arith));
        spare = k.same (8 + 8 * len + 4 * j + 1) (inr (omega arith));
        target = kept_be b d i n (8 + 8 * len + 4 * j + 2) 2 k (inr (omega arith));
      }

  pub same_offset : (s : ℕ) → (16 + 8 * s ≤ i) ⊎ (i + n ≤ 8 + 8 * s) → offset d s ≡ offset b s
  same_offset s (inl h) = kept_be b d i n (8 + 8 * s) 4 k (inl (omega arith))
  same_offset s (inr h) = kept_be b d i n (8 + 8 * s) 4 k (inr (omega arith))

  pub same_size : (s : ℕ) → (16 + 8 * s ≤ i) ⊎ (i + n ≤ 8 + 8 * s) → size d s ≡ size b s
  same_size s (inl h) = kept_be b d i n (12 + 8 * s) 4 k (inl (omega arith))
  same_size s (inr h) = kept_be b d i n (12 + 8 * s) 4 k (inr (omega arith))

  -- the head stays under a write past it
  pub head_frame : (len m p : ℕ) → 8 ≤ i → m ≤ p → i + n ≤ 8 + 8 * len + 4 * p → 8 + 8 * len + 4 * p ≤ length b → 8 + 8 * len + 4 * p ≤ 1048576 → Head len b m → Head len d p
  head_frame len m p past more out fits limit h =
      record {
        count = kept_be b d i n 0 2 k (inl (omega arith)) ∙ h.count;
        first = kept_be b d i n 2 2 k (inl (omega arith)) ∙ h.first;
        fits = omega (arith, k.size);
        limit = limit;
        rest = λ j q. k.same j (inr (omega arith)) ∙ h.rest j (omega arith);
      }

module _ (R : Rel) (rows : List StateSet) (len : ℕ) where
  -- an event that leads nowhere
  pub under_past : (b : List ℕ) (n e o c : ℕ) → ((x : ℕ) → next R e (at rows n) x → ⊥) → Under R rows len b n e o c → Under R rows len b n (e + 1) o c
  under_past b n e o c none u =
      record {
        head = u.head;
        written = u.written;
        listing = record {
          few = omega (arith, u.listing.few);
          sound = u.listing.sound;
          below = λ k l. omega (arith, u.listing.below k l);
          rising = u.listing.rising;
          full = λ f p l x y.
              ⊎_elim
              (λ (q : f ≡ e). absurd (none x (subst (λ (z : ℕ). next R z (at rows n) x) q y)))
              (λ ne. u.listing.full f p (omega (arith, ne, l)) x y)
              (cases_eq f e);
        };
      }

  -- one step more
  pub under_more : (b d : List ℕ) (n e o c t : ℕ) → n < len → 0 < e → e < 64 → Goes R rows len n e t → 8 + 8 * len + 4 * (o + c) + 4 ≤ length b → 8 + 8 * len + 4 * (o + c) + 4 ≤ 1048576 → StepPut b d (8 + 8 * len + 4 * (o + c)) e t → Under R rows len b n e o c → Under R rows len d n (e + 1) o (c + 1)
  under_more b d n e o c t nl pos low g fits limit p u =
      let i : ℕ = 8 + 8 * len + 4 * (o + c) in
      let k = p.kept in
      let l = u.listing in
      let old : (j : ℕ) → j < o + c → SameStep R rows len b d j = λ j h. same_step b d (8 + 8 * len + 4 * (o + c)) 4 k R rows len j (inl (omega (arith, h))) in
      let G : ℕ → ℕ → Type 0 = λ x y. Goes R rows len n x y in
      let new : Entry R rows len d n (o + c) =
      record {
        goes = subst (λ (x : ℕ). G x (tg len d (o + c))) (sym p.event) (subst (λ (y : ℕ). G e y) (sym p.target) g);
        loud = subst (λ (x : ℕ). 0 < x) (sym p.event) pos;
        low = subst (λ (x : ℕ). x < 64) (sym p.event) low;
        clean = p.spare;
      } in
      let f = listing_frame R rows len b d n e o c (λ k h. old (o + k) (omega (arith, h))) l in
      let e' : ev len d (o + c) ≡ e = p.event in
      record {
        head = head_frame b d (8 + 8 * len + 4 * (o + c)) 4 k len (o + c) (o + (c + 1)) (omega arith) (omega arith) (omega arith) (omega arith) (omega arith) u.head;
        written = written_frame R rows len b d n o
            (λ s h. same_offset b d (8 + 8 * len + 4 * (o + c)) 4 k s (inl (omega (arith, h))))
            (λ s h. same_size b d (8 + 8 * len + 4 * (o + c)) 4 k s (inl (omega (arith, h))))
            (λ j h. old j (omega (arith, h)))
            u.written;
        listing = record {
          few = omega (arith, l.few);
          sound = λ j h.
              ⊎_elim
              (λ (q : j ≡ c). subst (λ (x : ℕ). Entry R rows len d n (o + x)) (sym q) new)
              (λ ne. f.sound j (omega (arith, ne, h)))
              (cases_eq j c);
          below = λ j h.
              ⊎_elim
              (λ (q : j ≡ c). let z : ev len d (o + j) ≡ e = ap (λ (x : ℕ). ev len d (o + x)) q ∙ e' in omega arith)
              (λ ne. omega (arith, f.below j (omega (arith, ne, h))))
              (cases_eq j c);
          rising = λ i j q h.
              ⊎_elim
              (λ (w : j ≡ c).
              let z : ev len d (o + j) ≡ e = ap (λ (x : ℕ). ev len d (o + x)) w ∙ e' in
              omega (arith, f.below i (omega arith)))
              (λ ne. f.rising i j q (omega (arith, ne, h)))
              (cases_eq j c);
          full = λ y q h x w.
              ⊎_elim
              (λ (z : y ≡ e). (c, omega arith, e' ∙ sym z))
              (λ ne. let r = f.full y q (omega (arith, ne, h)) x w in (r.0, omega (arith, r.1), r.2))
              (cases_eq y e);
        };
      }

  -- one node more
  pub written_more : (b d : List ℕ) (n o c : ℕ) → n < len → PairPut b d (8 + 8 * n) o c → Under R rows len b n 64 o c → Head len d (o + c) × Written R rows len d (n + 1) (o + c)
  written_more b d n o c nl p u =
      let k = p.kept in
      let h = u.head in
      let one : offset d n ≡ o = p.first in
      let two : size d n ≡ c = ap (λ (x : ℕ). be d x 4) (omega arith) ∙ p.second in
      let steps : (j : ℕ) → SameStep R rows len b d j = λ j. same_step b d (8 + 8 * n) 8 k R rows len j (inr (omega arith)) in
      let w = written_frame R rows len b d n o
      (λ s l. same_offset b d (8 + 8 * n) 8 k s (inl (omega (arith, l))))
      (λ s l. same_size b d (8 + 8 * n) 8 k s (inl (omega (arith, l))))
      (λ j l. steps j)
      u.written in
      let at-end : floor d (n + 1) ≡ o + c = ap (floor d) (add-one n) ∙ ap₂ (λ (x y : ℕ). x + y) one two in
      let L : ℕ → ℕ → Type 0 = λ x y. Listing R rows len d n 64 x y in
      let here : Listing R rows len d n 64 (offset d n) (size d n) =
      subst (λ (x : ℕ). L x (size d n)) (sym one) (subst (λ (y : ℕ). L o y) (sym two) (listing_frame R rows len b d n 64 o c (λ j l. steps (o + j)) u.listing)) in (
        head_frame b d (8 + 8 * n) 8 k len (o + c) (o + c) (omega arith) (omega arith) (omega arith) h.fits h.limit h,
        record {
          starts = λ s l.
              ⊎_elim
              (λ (q : s ≡ n). subst (λ (x : ℕ). offset d x ≡ floor d x) (sym q) (one ∙ sym w.ends))
              (λ ne. w.starts s (omega (arith, ne, l)))
              (cases_eq s n);
          ends = at-end;
          within = λ s l.
              ⊎_elim
              (λ (q : s ≡ n). subst (λ (x : ℕ). offset d x + size d x ≤ o + c) (sym q) (omega arith))
              (λ ne. omega (arith, w.within s (omega (arith, ne, l))))
              (cases_eq s n);
          lists = λ s l.
              ⊎_elim
              (λ (q : s ≡ n). subst (λ (x : ℕ). Listing R rows len d x 64 (offset d x) (size d x)) (sym q) here)
              (λ ne. w.lists s (omega (arith, ne, l)))
              (cases_eq s n);
        },
      )
