use Rattle.std.proofs.Common.{rules}
use Rattle.fault.proofs.Trying.{passes}
use Rattle.fault.specs.declared.refusal.Refusal.TheVariants.{FileRow}
use Rattle.model.specs.File.{rows}
use Rattle.model.specs.Rules.{RowOk}
use Rattle.model.proofs.checks.check_rows.Goals as goal

pub returns : goal.returns
returns c = passes (RowOk c.args.file.bytes.now) FileRow (rows c.args.file.bytes.now) _ c.first.result c.first.ensures.tried c.rows.ensures.value (λ k b h p. search rules)
