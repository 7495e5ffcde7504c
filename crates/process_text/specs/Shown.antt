-- The steps of a row of a model as text. Assumes nothing.
use Rattle.std.specs.Prelude.{◌≡◌, ℕ, ◌<◌, ◌≤◌, List, ◌++◌, take, codes, decimal, slice_index_or}
use Rattle.std.specs.List.{flat_map}
use Rattle.fault.specs.declared.refusal.Fault.{Fault}
use Rattle.fault.specs.Judged.{fault}
use Rattle.fault.specs.declared.refusal.Refusal.TheVariants.{ProcessRow, ProcessRoom}
use Rattle.model.specs.declared.op.Row.{Row}
use Rattle.model.specs.Rows.{blank}
use Rattle.model.specs.File.{rows, process}
use Rattle.model.specs.Words.{row_text_lem}
use Rattle.model_text.specs.Text.{refusal_text_lem}
use Rattle.process.specs.declared.step.Step.{Step}
use Rattle.process.specs.Loaded.{WantsIn}
use Rattle.process.specs.Rows.{Begun, shown_all}
use Rattle.step_rules.specs.Lists.{Lists}
use Rattle.step_rules.specs.Models.{env}

-- a step: its event, the row that it leads to, and that row's process
unfoldable pub step_text : List Row → Step → List ℕ
step_text rs s =
    decimal s.event ++ (codes " -> R" ++ (decimal s.next ++ (codes " = " ++ (row_text_lem (slice_index_or rs s.next blank) ++ codes "\n"))))

-- a row that is refused: number and place, then a line in words
abbrev pub refused_steps_text : Fault → List ℕ
refused_steps_text f = refusal_text_lem (codes "REFUSED") f

-- what is shown of a row: its process's steps, in order, over term rows that begin with the model's; or that there is no such
-- row, or no room for it over the term rows
pub data ShowsSteps (b : List ℕ) (row cap : ℕ) (text : List ℕ) : Type 0 where
  listed : (rs : List Row) (used : ℕ) (steps : List Step) → row < rows b → Begun b (take used rs) → Lists (env b) (process b row) (shown_all (take used rs) steps) → text ≡ flat_map (step_text rs) steps → ShowsSteps b row cap text
  no_row : rows b ≤ row → text ≡ refused_steps_text (fault ProcessRow row) → ShowsSteps b row cap text
  no_room : row < rows b → ((room : ℕ) → WantsIn b (process b row) cap room) → text ≡ refused_steps_text (fault ProcessRoom 0) → ShowsSteps b row cap text
