use Rattle.std.proofs.Common.{length}
use Rattle.systems.specs.Meaning.{Steps}
use Rattle.systems.specs.Tables.{table_lts}
use Rattle.normalise.specs.Writing.{Under}
use Rattle.normalise.proofs.small.Nodes.write_list.Given as goal

abbrev pub invariant-loop-event : goal.invariant-loop-event
invariant-loop-event l = Under (Steps (table_lts l.self.of.table.bytes.now)) l.self.sets.now (length l.self.sets.now) l.out l.n l.event l.begun l.count
