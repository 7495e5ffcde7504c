use Rattle.std.proofs.Common.{length}
use Rattle.systems.specs.Meaning.{Steps}
use Rattle.systems.specs.Tables.{table_lts}
use Rattle.normalise.specs.Writing.{Head, Written}
use Rattle.normalise.proofs.small.Nodes.write_lists.Given as goal

abbrev pub invariant-loop-n : goal.invariant-loop-n
invariant-loop-n l = Head (length l.self.sets.now) l.out l.steps × Written (Steps (table_lts l.self.of.table.bytes.now)) l.self.sets.now (length l.self.sets.now) l.out l.n l.steps
