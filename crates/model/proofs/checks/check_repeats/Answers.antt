use Rattle.std.proofs.Common.{rules}
use Rattle.fault.proofs.Trying.{passes}
use Rattle.fault.specs.declared.refusal.Refusal.TheVariants.{FileRepeat}
use Rattle.model.specs.File.{rows}
use Rattle.model.specs.Rules.{RowNew}
use Rattle.model.proofs.checks.check_repeats.Goals as goal

pub returns : goal.returns
returns c = passes (RowNew c.args.file.bytes.now) FileRepeat (rows c.args.file.bytes.now) _ c.first.result c.first.ensures.tried c.rows.ensures.value (λ k b h p. search rules)
