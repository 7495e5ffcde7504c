-- What a fault says to a person. Assumes nothing.
use Rattle.std.specs.Prelude.{ℕ, List, [], ◌++◌, Some, None, Option, codes, decimal}
use Rattle.fault.specs.Listing.{number}
use Rattle.fault.specs.declared.refusal.Fault.{Fault}
use Rattle.fault.specs.declared.refusal.Refusal.{Refusal}
use Rattle.fault.specs.declared.refusal.Refusal.TheVariants.{FileLength, FileHead, FilePair, FileMask, FileRow, FileRepeat, FileHeight, FileDefinition, ModelOpen, ProcessRow, ProcessRoom, TableLength, TablePair, TableStep, TableNormal, NormaliseStates, NormaliseRoom, SystemEvents, SearchRows, SearchBudget, SearchLent, SearchFull, TraceBuffer, AuditStart, AuditEvent, AuditPair, ScriptLine}

abbrev pub words : Refusal → List ℕ
words FileLength = codes "the file is shorter than 28 bytes or longer than 65536"
words FileHead = codes "the file does not begin with version 1, an event count of at most 62 and section count 3"
words FilePair = codes "a section is out of order, passes the file, has a broken length or a wrong number of entries"
words FileMask = codes "a mask holds an event that is not visible in this model"
words FileRow = codes "a row has an unknown kind or a wrong field"
words FileRepeat = codes "a row repeats an earlier row"
words FileHeight = codes "a row is higher than 64"
words FileDefinition = codes "a definition's body is no row of the file"
words ModelOpen = codes "a definition's body opens a definition that is not below it"
words ProcessRow = codes "the model has no such row"
words ProcessRoom = codes "compiling this process passes a limit or the room lent for it"
words TableLength = codes "the table's length is not the one its head tells"
words TablePair = codes "a state's list is out of order, too long or passes the steps, or there is no such start"
words TableStep = codes "a step has a wrong event, a nonzero spare byte, no such target, or ends in a state with steps"
words TableNormal = codes "a state has a hidden step or offers one event twice"
words NormaliseStates = codes "the table to normalise has more than 256 states"
words NormaliseRoom = codes "normalising passes a limit or the room lent for it"
words SystemEvents = codes "an event is not visible, or two events are the same"
words SearchRows = codes "a search needs 1 to 65535 work rows"
words SearchBudget = codes "the budget is zero"
words SearchLent = codes "the rows lent are not those the search was begun with"
words SearchFull = codes "a new pair was found and no work row was free"
words TraceBuffer = codes "the buffer is too short for the trace"
words AuditStart = codes "the pair of both starts is not listed"
words AuditEvent = codes "the specification does not allow an event of the design"
words AuditPair = codes "a pair that is reached is not listed"
words ScriptLine = codes "the line is not two row numbers with one space between them"

-- what a place counts; nothing where the refusal has no place
abbrev pub noun : Refusal → Option (List ℕ)
noun FileLength = None
noun FileHead = None
noun FilePair = Some (codes "section")
noun FileMask = Some (codes "mask")
noun FileRow = Some (codes "row")
noun FileRepeat = Some (codes "row")
noun FileHeight = Some (codes "row")
noun FileDefinition = Some (codes "definition")
noun ModelOpen = Some (codes "definition")
noun ProcessRow = Some (codes "row")
noun ProcessRoom = None
noun TableLength = None
noun TablePair = Some (codes "state")
noun TableStep = Some (codes "step")
noun TableNormal = Some (codes "state")
noun NormaliseStates = None
noun NormaliseRoom = None
noun SystemEvents = None
noun SearchRows = None
noun SearchBudget = None
noun SearchLent = None
noun SearchFull = None
noun TraceBuffer = None
noun AuditStart = None
noun AuditEvent = Some (codes "row")
noun AuditPair = Some (codes "row")
noun ScriptLine = Some (codes "line")

-- a place in brackets after its noun; nothing where there is no noun
abbrev pub bracketed : Option (List ℕ) → ℕ → List ℕ
bracketed None place = []
bracketed (Some n) place = codes " (" ++ (n ++ (codes " " ++ (decimal place ++ codes ")")))

abbrev pub told : Fault → List ℕ
told f = words f.refusal ++ bracketed (noun f.refusal) f.place

-- a fault as programs read it: its number and its place
abbrev pub code_text : Fault → List ℕ
code_text f = decimal (number f.refusal) ++ (codes " " ++ decimal f.place)
