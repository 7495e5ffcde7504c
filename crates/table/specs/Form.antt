-- The bytes of a transition table: its head, its pairs, its steps, and each state's list of steps.
-- Assumes nothing.
use Rattle.std.specs.Prelude.{ℕ, zero, suc, ◌+◌, ◌*◌, cond, List, [], map, nat_lt, slice_index}
use Rattle.std.specs.List.{range_with_len}
use Rattle.lent_bytes.specs.Reads.{be}
use Rattle.table.specs.declared.step.Step.{Step}

-- the head: how many states, which one is the start, how many steps
abbrev pub states : List ℕ → ℕ
states b = be b 0 2

abbrev pub start : List ℕ → ℕ
start b = be b 2 2

abbrev pub all_steps : List ℕ → ℕ
all_steps b = be b 4 4

-- the pair of state s, counted in steps: where its steps begin, and how many it has
abbrev pub offset : List ℕ → ℕ → ℕ
offset b s = be b (8 + 8 * s) 4

abbrev pub size : List ℕ → ℕ → ℕ
size b s = be b (12 + 8 * s) 4

-- where the steps of state s may begin: at the end of the pair before
abbrev pub floor : List ℕ → ℕ → ℕ
floor b zero = 0
floor b (suc s) = offset b s + size b s

-- step j, its event, the byte that is to be 0, and its target
abbrev pub step_place : List ℕ → ℕ → ℕ
step_place b j = 8 + 8 * states b + 4 * j

abbrev pub event : List ℕ → ℕ → ℕ
event b j = slice_index b (step_place b j)

abbrev pub spare : List ℕ → ℕ → ℕ
spare b j = slice_index b (step_place b j + 1)

abbrev pub target : List ℕ → ℕ → ℕ
target b j = be b (step_place b j + 2) 2

abbrev pub step : List ℕ → ℕ → Step
step b j = record { event = event b j; target = target b j }

-- the steps in n places from place k on
abbrev pub steps_from : List ℕ → ℕ → ℕ → List Step
steps_from b k n = map (step b) (range_with_len k n)

-- the list of state s; a state that the table does not have has none
unfoldable pub steps_of : List ℕ → ℕ → List Step
steps_of b s = cond (nat_lt s (states b)) (steps_from b (offset b s) (size b s)) []
