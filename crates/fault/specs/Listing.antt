-- The closed list of refusals: the layer and the number of each. Assumes nothing.
use Rattle.std.specs.Prelude.{ℕ}
use Rattle.fault.specs.declared.refusal.Refusal.{Refusal}
use Rattle.fault.specs.declared.refusal.Refusal.TheVariants.{FileLength, FileHead, FilePair, FileMask, FileRow, FileRepeat, FileHeight, FileDefinition, ModelOpen, ProcessRow, ProcessRoom, TableLength, TablePair, TableStep, TableNormal, NormaliseStates, NormaliseRoom, SystemEvents, SearchRows, SearchBudget, SearchLent, SearchFull, TraceBuffer, AuditStart, AuditEvent, AuditPair, ScriptLine}

pub record Listed : Type 0 where
  pub layer : ℕ
  pub number : ℕ

abbrev pub at : ℕ → ℕ → Listed
at l n = record { layer = l; number = n }

abbrev pub listed : Refusal → Listed
listed FileLength = at 1 1
listed FileHead = at 1 2
listed FilePair = at 1 3
listed FileMask = at 1 4
listed FileRow = at 1 5
listed FileRepeat = at 1 6
listed FileHeight = at 1 7
listed FileDefinition = at 1 8
listed ModelOpen = at 2 9
listed ProcessRow = at 3 10
listed ProcessRoom = at 3 11
listed TableLength = at 4 12
listed TablePair = at 4 13
listed TableStep = at 4 14
listed TableNormal = at 4 15
listed NormaliseStates = at 4 16
listed NormaliseRoom = at 4 17
listed SystemEvents = at 4 18
listed SearchRows = at 5 19
listed SearchBudget = at 5 20
listed SearchLent = at 5 21
listed SearchFull = at 5 22
listed TraceBuffer = at 5 23
listed AuditStart = at 6 24
listed AuditEvent = at 6 25
listed AuditPair = at 6 26
listed ScriptLine = at 7 27

abbrev pub number : Refusal → ℕ
number r = (listed r).number

abbrev pub layer : Refusal → ℕ
layer r = (listed r).layer
