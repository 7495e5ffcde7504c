use Rattle.std.proofs.Common.{arith}
use Rattle.normalise.proofs.Bytewise.{four_bytes, put_told, put_pair_lem}
use Rattle.normalise.proofs.puts.put_pair.Goals as goal

pub returns : goal.returns
returns c =
    put_pair_lem c.args.out.now c.put.new.out c.put-2.new.out c.args.at c.args.offset c.args.size
    (put_told _ _ _ _ _ _ c.put.ensures (four_bytes c.to_be_bytes.result c.args.offset (omega arith) c.to_be_bytes.ensures))
    (put_told _ _ _ _ _ _ c.put-2.ensures (four_bytes c.to_be_bytes-2.result c.args.size (omega arith) c.to_be_bytes-2.ensures))
