use Rattle.std.proofs.Common.{rules}
use Rattle.fault.specs.declared.refusal.Refusal.TheVariants.{TableStep}
use Rattle.fault.proofs.Trying.{passes}
use Rattle.table.specs.Form.{all_steps}
use Rattle.table.specs.Rules.{StepOk}
use Rattle.table.proofs.checking.check_steps.Goals as goal

pub returns : goal.returns
returns c =
    let b = c.args.bytes.now in
    passes (StepOk b) TableStep (all_steps b) _ c.first.result c.first.ensures.tried c.steps_in-places.ensures (λ k r h s. search rules)
