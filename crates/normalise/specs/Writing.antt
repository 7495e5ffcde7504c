-- The bytes of a normal table as they are written, node after node and event after event. Assumes nothing.
use Rattle.std.specs.Prelude.{◌≡◌, ℕ, ◌+◌, ◌*◌, ◌<◌, ◌≤◌, min, List, length, Some, None, Option, slice_index}
use Rattle.lent_bytes.specs.Reads.{be}
use Rattle.table.specs.Form.{states, start, offset, size, floor}
use Rattle.sets.specs.declared.state_set.StateSet.{StateSet}
use Rattle.normalise.specs.Closure.{Rel, next}
use Rattle.normalise.specs.Nodes.{at, Goes}
use Rattle.normalise.specs.Rooms.{TooLarge}

-- step j of a table of n states: its event, the byte that is to be 0, its target
abbrev pub ev : ℕ → List ℕ → ℕ → ℕ
ev n b j = slice_index b (8 + 8 * n + 4 * j)

abbrev pub sp : ℕ → List ℕ → ℕ → ℕ
sp n b j = slice_index b (8 + 8 * n + 4 * j + 1)

abbrev pub tg : ℕ → List ℕ → ℕ → ℕ
tg n b j = be b (8 + 8 * n + 4 * j + 2) 2

-- step j is a step of node s
pub record Entry (R : Rel) (rows : List StateSet) (len : ℕ) (b : List ℕ) (s j : ℕ) : Type 0 where
  pub goes : Goes R rows len s (ev len b j) (tg len b j)
  pub loud : 0 < ev len b j
  pub low : ev len b j < 64
  pub clean : sp len b j ≡ 0

-- the c steps from o on are those of node s with the events below e, ascending
pub record Listing (R : Rel) (rows : List StateSet) (len : ℕ) (b : List ℕ) (s e o c : ℕ) : Type 0 where
  pub few : c < e
  pub sound : (k : ℕ) → k < c → Entry R rows len b s (o + k)
  pub below : (k : ℕ) → k < c → ev len b (o + k) < e
  pub rising : (i k : ℕ) → i < k → k < c → ev len b (o + i) < ev len b (o + k)
  pub full : (f : ℕ) → 0 < f → f < e → (x : ℕ) → next R f (at rows s) x → (k : ℕ) × (k < c) × (ev len b (o + k) ≡ f)

-- the nodes before a are written, with m steps and no gap
pub record Written (R : Rel) (rows : List StateSet) (len : ℕ) (b : List ℕ) (a m : ℕ) : Type 0 where
  pub starts : (s : ℕ) → s < a → offset b s ≡ floor b s
  pub ends : floor b a ≡ m
  pub within : (s : ℕ) → s < a → offset b s + size b s ≤ m
  pub lists : (s : ℕ) → s < a → Listing R rows len b s 64 (offset b s) (size b s)

-- the head, and that past the m steps there are zeros and room
pub record Head (len : ℕ) (b : List ℕ) (m : ℕ) : Type 0 where
  pub count : states b ≡ len
  pub first : start b ≡ 0
  pub fits : 8 + 8 * len + 4 * m ≤ length b
  pub limit : 8 + 8 * len + 4 * m ≤ 1048576
  pub rest : (j : ℕ) → 8 + 8 * len + 4 * m ≤ j → slice_index b j ≡ 0

pub record Under (R : Rel) (rows : List StateSet) (len : ℕ) (b : List ℕ) (n e o c : ℕ) : Type 0 where
  pub head : Head len b (o + c)
  pub written : Written R rows len b n o
  pub listing : Listing R rows len b n e o c

-- where the event leads from node n
abbrev pub Led : Rel → List StateSet → ℕ → ℕ → ℕ → Option ℕ → Type 0
Led R rows len n e None = (x : ℕ) → next R e (at rows n) x → ⊥
Led R rows len n e (Some k) = Goes R rows len n e k

-- what writing the list of node n answers, in a buffer of so many bytes
abbrev pub ListWritten : Rel → ℕ → List StateSet → ℕ → ℕ → List ℕ → ℕ → ℕ → Option ℕ → Type 0
ListWritten R s rows len bytes b n o None = TooLarge R s (min bytes 1048576)
ListWritten R s rows len bytes b n o (Some c) = Under R rows len b n 64 o c

-- what writing all lists answers
abbrev pub AllWritten : Rel → ℕ → List StateSet → ℕ → ℕ → List ℕ → Option ℕ → Type 0
AllWritten R s rows len bytes b None = TooLarge R s (min bytes 1048576)
AllWritten R s rows len bytes b (Some m) = Head len b m × Written R rows len b len m
