use Rattle.std.proofs.Common.{arith}
use Rattle.normalise.proofs.Bytewise.{two_bytes, put_told, put_step}
use Rattle.normalise.proofs.puts.put_step.Goals as goal

pub returns : goal.returns
returns c =
    put_step c.args.out.now c.put.new.out c.args.at c.args.event c.args.target c.requires
    (put_told _ _ _ _ _ _ c.put.ensures (two_bytes c.to_be_bytes.result c.args.target (omega arith) c.to_be_bytes.ensures))
