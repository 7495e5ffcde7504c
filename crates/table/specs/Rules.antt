-- The rules of a transition table and of a normal one, each with its refusal and its places, in the
-- order in which they are tried. Assumes nothing.
use Rattle.std.specs.Prelude.{◌≡◌, ℕ, ◌+◌, ◌*◌, ◌<◌, ◌≤◌, max, List, [], ◌∷◌, length}
use Rattle.fault.specs.declared.refusal.Refusal.TheVariants.{TableLength, TablePair, TableStep, TableNormal}
use Rattle.fault.specs.Judged.{Rule, rule}
use Rattle.table.specs.Form.{states, start, all_steps, offset, size, floor, event, spare, target, steps_of}
use Rattle.table.specs.Steps.{NoTau, NoneTwice}

-- the bytes are as many as the head tells, and not too many
abbrev pub Sized : List ℕ → Type 0
Sized b = (8 ≤ length b) × (length b ≡ 8 + 8 * states b + 4 * all_steps b) × (length b ≤ 1048576)

-- the pair of state s; at place 0 also that there is a start, so that a table has a state
abbrev pub PairOk : List ℕ → ℕ → Type 0
PairOk b s = (s ≡ 0 → start b < states b) × (floor b s ≤ offset b s) × (offset b s + size b s ≤ all_steps b) × (size b s ≤ 256)

-- a step, in a state's list or in a gap: its fields, and that tick leads to a state without steps
abbrev pub Formed : List ℕ → ℕ → Type 0
Formed b j = (event b j < 64) × (spare b j ≡ 0) × (target b j < states b)

abbrev pub Ended : List ℕ → ℕ → Type 0
Ended b j = event b j ≡ 1 → size b (target b j) ≡ 0

abbrev pub StepOk : List ℕ → ℕ → Type 0
StepOk b j = Formed b j × Ended b j

-- a state of a normal table
abbrev pub NormalAt : List ℕ → ℕ → Type 0
NormalAt b s = NoTau (steps_of b s) × NoneTwice (steps_of b s)

abbrev pub length_rule : List ℕ → Rule
length_rule b = rule TableLength 1 (λ _. Sized b)

abbrev pub pair_rule : List ℕ → Rule
pair_rule b = rule TablePair (max (states b) 1) (PairOk b)

abbrev pub step_rule : List ℕ → Rule
step_rule b = rule TableStep (all_steps b) (StepOk b)

abbrev pub normal_rule : List ℕ → Rule
normal_rule b = rule TableNormal (states b) (NormalAt b)

abbrev pub table_rules : List ℕ → List Rule
table_rules b = length_rule b ∷ pair_rule b ∷ step_rule b ∷ []

abbrev pub normal_rules : List ℕ → List Rule
normal_rules b = length_rule b ∷ pair_rule b ∷ step_rule b ∷ normal_rule b ∷ []
