use Rattle.std.proofs.Common.{rules}
use Rattle.fault.specs.declared.refusal.Refusal.TheVariants.{TableNormal}
use Rattle.fault.proofs.Trying.{passes}
use Rattle.table.specs.Form.{states}
use Rattle.table.specs.Rules.{NormalAt}
use Rattle.table.proofs.normal.check_lists.Goals as goal

pub returns : goal.returns
returns c =
    let b = c.args.table.now.bytes.now in
    passes (NormalAt b) TableNormal (states b) _ c.first.result c.first.ensures.tried c.states-places.ensures (λ k r h s. search rules)
