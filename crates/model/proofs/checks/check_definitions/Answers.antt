use Rattle.std.proofs.Common.{rules}
use Rattle.fault.proofs.Trying.{passes}
use Rattle.fault.specs.declared.refusal.Refusal.TheVariants.{FileDefinition}
use Rattle.model.specs.File.{definitions}
use Rattle.model.specs.Rules.{DefinitionOk}
use Rattle.model.proofs.checks.check_definitions.Goals as goal

pub returns : goal.returns
returns c = passes (DefinitionOk c.args.file.bytes.now) FileDefinition (definitions c.args.file.bytes.now) _ c.first.result c.first.ensures.tried c.definitions.ensures.value (λ k b h p. search rules)
