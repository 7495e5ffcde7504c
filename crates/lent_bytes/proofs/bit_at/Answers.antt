use Rattle.std.proofs.Common.{sym, refl, ◌∙◌, arith}
use Rattle.std.proofs.lemmas.Bool.{le-ltb}
use Rattle.lent_bytes.specs.Bits.{bit}
use Rattle.lent_bytes.proofs.Bitwise.{bit_above}
use Rattle.lent_bytes.proofs.bit_at.Goals as goal

pub returns-then-place-lt64 : goal.returns-then-place-lt64
unfolding bit
returns-then-place-lt64 c = refl

pub returns-else-place-lt64 : goal.returns-else-place-lt64
returns-else-place-lt64 c =
    le-ltb c.args.place 64 c.if-place-lt64.false ∙ sym (bit_above c.args.word c.args.place 64 (omega arith) c.if-place-lt64.false)
