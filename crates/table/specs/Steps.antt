-- What holds of the lists of a table and of a normal table, and where an event leads. Assumes nothing.
use Rattle.std.specs.Prelude.{◌≡◌, ℕ, ◌<◌, ◌≤◌, cond, List, [], ◌∷◌, length, Some, None, Option, ◌==◌, ◌≢◌}
use Rattle.std.specs.List.{slice_get}
use Rattle.table.specs.declared.step.Step.{Step}
use Rattle.table.specs.Form.{states, start, steps_of}

-- no entry is tau
abbrev pub NoTau : List Step → Type 0
NoTau xs = (k : ℕ) (x : Step) → slice_get xs k ≡ Some x → x.event ≢ 0

-- no event twice
abbrev pub NoneTwice : List Step → Type 0
NoneTwice xs = (j k : ℕ) (x y : Step) → slice_get xs j ≡ Some x → slice_get xs k ≡ Some y → x.event ≡ y.event → j ≡ k

-- what every table keeps, for every state number
pub record Lawful (b : List ℕ) : Type 0 where
  pub starts : start b < states b
  pub short : (s : ℕ) → length (steps_of b s) ≤ 256
  pub events : (s k : ℕ) (x : Step) → slice_get (steps_of b s) k ≡ Some x → x.event < 64
  pub targets : (s k : ℕ) (x : Step) → slice_get (steps_of b s) k ≡ Some x → x.target < states b
  pub ended : (s k : ℕ) (x : Step) → slice_get (steps_of b s) k ≡ Some x → x.event ≡ 1 → steps_of b x.target ≡ []

-- what every normal table keeps besides
pub record Lone (b : List ℕ) : Type 0 where
  pub loud : (s : ℕ) → NoTau (steps_of b s)
  pub once : (s : ℕ) → NoneTwice (steps_of b s)

-- the target of the first entry with the event
abbrev pub follow : List Step → ℕ → Option ℕ
follow [] e = None
follow (x ∷ xs) e = cond (x.event == e) (Some x.target) (follow xs e)

-- where an event leads from a state with the list xs: nowhere where no entry has the event; else to the
-- target of an entry that has it, which is the target of each such entry
abbrev pub Leads : List Step → ℕ → Option ℕ → Type 0
Leads xs e None = (k : ℕ) (x : Step) → slice_get xs k ≡ Some x → x.event ≢ e
Leads xs e (Some t) = ((k : ℕ) × (slice_get xs k ≡ Some (record { event = e; target = t }))) × ((k : ℕ) (x : Step) → slice_get xs k ≡ Some x → x.event ≡ e → x.target ≡ t)
