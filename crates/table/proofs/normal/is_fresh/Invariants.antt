use Rattle.std.proofs.Common.{length}
use Rattle.table.specs.Met.{Fresh}
use Rattle.table.proofs.Entries.{places}
use Rattle.table.proofs.Meeting.{MeetsAll}
use Rattle.table.proofs.normal.is_fresh.Given as goal

abbrev pub invariant-loop-step : goal.invariant-loop-step
invariant-loop-step l =
    MeetsAll (places l.table.bytes.now l.state) (length l.yielded) l.met × Fresh (places l.table.bytes.now l.state) (length l.yielded)
