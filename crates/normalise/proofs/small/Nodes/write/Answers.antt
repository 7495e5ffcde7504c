use Rattle.std.proofs.Common.{refl, arith, length}
use Rattle.table.specs.Form.{start}
use Rattle.systems.specs.Meaning.{Steps}
use Rattle.systems.specs.Tables.{table_lts}
use Rattle.normalise.proofs.Bytewise.{two_bytes, four_bytes, put_told}
use Rattle.normalise.proofs.Counts.{large_pairs}
use Rattle.normalise.proofs.Whole.{head_start, made}
use Rattle.normalise.proofs.small.Nodes.write.Goals as goal

pub returns : goal.returns
returns c =
    made (Steps (table_lts c.args.self.now.of.table.bytes.now)) c.args.self.now.sets.now (length c.args.self.now.sets.now) c.write_lists.new.out _ c.in_ok-steps.steps _ refl (put_told _ _ _ _ _ _ c.put-2.ensures (four_bytes c.to_be_bytes-2.result c.in_ok-steps.steps (omega (arith, c.in_ok-steps.ensures.0.limit)) c.to_be_bytes-2.ensures)) c.in_ok-steps.ensures.0 c.in_ok-steps.ensures.1

pub returns-then-len-room : goal.returns-then-len-room
returns-then-len-room c =
    large_pairs (Steps (table_lts c.args.self.now.of.table.bytes.now)) (start c.args.self.now.of.table.bytes.now) c.args.self.now.sets.now (length c.args.self.now.sets.now) c.requires.nodes _ (omega arith)

pub write_lists-requires-clause-head : goal.write_lists-requires-clause-head
write_lists-requires-clause-head c =
    head_start c.args.out.now c.put.new.out (length c.args.self.now.sets.now) c.requires.zero
    (put_told _ _ _ _ _ _ c.put.ensures (two_bytes c.to_be_bytes.result (length c.args.self.now.sets.now) (omega arith) c.to_be_bytes.ensures))
    (omega arith)
    (omega arith)
