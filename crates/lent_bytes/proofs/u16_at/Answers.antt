use Rattle.std.proofs.Common.{ℕ, List, arith}
use Rattle.lent_bytes.proofs.Parts.{be_window, be_told_2}
use Rattle.lent_bytes.proofs.u16_at.Goals as goal

pub returns : goal.returns
returns c =
    let w : List ℕ = c.bytes_at.result in
    omega (arith, c.from_be_bytes.ensures, be_told_2 w, be_window c.args.bytes.now c.args.at 2 w c.bytes_at.ensures.1)
