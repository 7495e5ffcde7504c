use Rattle.std.proofs.Common.{rules, max, arith}
use Rattle.fault.specs.declared.refusal.Refusal.TheVariants.{TablePair}
use Rattle.fault.proofs.Trying.{passes}
use Rattle.table.specs.Form.{states}
use Rattle.table.specs.Rules.{PairOk}
use Rattle.table.proofs.checking.check_pairs.Goals as goal

pub returns : goal.returns
returns c =
    let b = c.args.bytes.now in
    passes (PairOk b) TablePair (max (states b) 1) _ c.first.result c.first.ensures.tried (omega (arith, c.max-places.ensures)) (λ k r h s. search rules)
