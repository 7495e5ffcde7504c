use Rattle.std.proofs.Common.{◌+◌, ◌-◌, ◌∙◌, arith}
use Rattle.std.proofs.lemmas.Slice.{put_mid-paste}
use Rattle.std.proofs.lemmas.List.Edits.{paste_all}
use Rattle.normalise.proofs.Bytewise.{put_bytes}
use Rattle.normalise.proofs.puts.put.Goals as goal

pub returns : goal.returns
returns g c =
    put_bytes c.args.out.now c.args.bytes _ c.args.at g.row.N c.requires (omega arith)
    (put_mid-paste c.args.at (c.args.at + g.row.N - c.args.at) c.args.out.now c.copy_from_slice.new.self c.args.bytes g.row.N c.copy_from_slice.ensures.after (omega arith) (omega arith)
    ∙ paste_all c.args.out.now c.args.at c.args.bytes g.row.N (omega arith))
