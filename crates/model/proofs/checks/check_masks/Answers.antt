use Rattle.std.proofs.Common.{rules}
use Rattle.fault.proofs.Trying.{passes}
use Rattle.fault.specs.declared.refusal.Refusal.TheVariants.{FileMask}
use Rattle.model.specs.File.{masks}
use Rattle.model.specs.Rules.{MaskOk}
use Rattle.model.proofs.checks.check_masks.Goals as goal

pub returns : goal.returns
returns c = passes (MaskOk c.args.file.bytes.now) FileMask (masks c.args.file.bytes.now) _ c.first.result c.first.ensures.tried c.masks.ensures.value (λ k b h p. search rules)
