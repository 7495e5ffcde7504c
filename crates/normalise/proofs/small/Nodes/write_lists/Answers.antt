use Rattle.std.proofs.Common.{length}
use Rattle.systems.specs.Meaning.{Steps}
use Rattle.systems.specs.Tables.{table_lts}
use Rattle.normalise.proofs.Frames.{written_more}
use Rattle.normalise.proofs.small.Nodes.write_lists.Goals as goal

pub loop-n-preserved : goal.loop-n-preserved
loop-n-preserved c =
    written_more (Steps (table_lts c.args.self.now.of.table.bytes.now)) c.args.self.now.sets.now (length c.args.self.now.sets.now) c.write_list.new.out _ c.loop-n.n c.loop-n.steps c.in_ok-count.count c.loop-n-test.true c.put_pair.ensures c.in_ok-count.ensures
