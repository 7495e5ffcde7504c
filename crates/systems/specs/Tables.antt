-- What a transition table means as a system: its states are numbers, without steps from the number of states on.
-- Assumes nothing.
use Rattle.std.specs.Prelude.{ℕ, List, map}
use Rattle.table.specs.declared.step.Step.{Step}
use Rattle.table.specs.Form.{start, steps_of}
use Rattle.systems.specs.Meaning.{Lts}

abbrev pub taken : Step → ℕ × ℕ
taken x = (x.event, x.target)

abbrev pub table_lts : List ℕ → Lts ℕ
table_lts b = record { first = start b; steps = λ s. map taken (steps_of b s) }
