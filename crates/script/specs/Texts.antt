-- The lines that are written. Assumes nothing.
use Rattle.std.specs.Prelude.{ℕ, List, ◌++◌, Some, None, codes, decimal, Option}
use Rattle.std.specs.List.{flat_map}
use Rattle.fault.specs.Words.{code_text}
use Rattle.fault.specs.declared.refusal.Fault.{Fault}
use Rattle.script.specs.declared.record.Asked.{Asked}
use Rattle.script.specs.declared.record.Record.{Record}
use Rattle.script.specs.declared.record.Verdict.{Verdict}
use Rattle.script.specs.declared.record.Verdict.TheVariants.{Holds, Fails, Refused}

abbrev pub rows_text : Asked → List ℕ
rows_text a = decimal a.design ++ (codes " " ++ decimal a.spec)

abbrev pub asked_text : Option Asked → List ℕ
asked_text None = codes "- -"
asked_text (Some a) = rows_text a

-- an event after a space
abbrev pub event_text : ℕ → List ℕ
event_text e = codes " " ++ decimal e

abbrev pub verdict_text : Verdict → List ℕ
verdict_text (Holds n) = codes "HOLDS " ++ decimal n
verdict_text (Fails n es) = codes "FAILS " ++ decimal n ++ flat_map event_text es.now
verdict_text (Refused f) = codes "REFUSED " ++ code_text f

-- a record: the rows, the verdict and its numbers
abbrev pub outcome_text : Record → List ℕ
outcome_text r = asked_text r.asked ++ (codes " " ++ verdict_text r.verdict)

-- a record's line
unfoldable pub record_text : Record → List ℕ
record_text r = outcome_text r ++ codes "\n"

-- the line of a model that is refused
unfoldable pub model_line_lem : Fault → List ℕ
model_line_lem f = codes "MODEL " ++ (code_text f ++ codes "\n")
