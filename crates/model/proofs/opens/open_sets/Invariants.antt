use Rattle.std.proofs.Common.{◌≡◌, length}
use Rattle.model.specs.Models.{drafted_file}
use Rattle.model.specs.Opening.{OpenedBelow}
use Rattle.model.proofs.opens.open_sets.Given as goal

abbrev pub invariant-loop-i : goal.invariant-loop-i
invariant-loop-i l = (length l.sets ≡ 4096) × OpenedBelow (drafted_file l.fn.draft) l.sets l.i
