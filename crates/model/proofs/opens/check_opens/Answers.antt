use Rattle.std.proofs.Common.{rules}
use Rattle.fault.proofs.Trying.{passes}
use Rattle.fault.specs.declared.refusal.Refusal.TheVariants.{ModelOpen}
use Rattle.model.specs.File.{definitions}
use Rattle.model.specs.Models.{drafted_file}
use Rattle.model.specs.Rules.{OpenOk}
use Rattle.model.proofs.opens.check_opens.Goals as goal

pub returns : goal.returns
returns c =
    passes (OpenOk (drafted_file c.args.draft.now)) ModelOpen (definitions (drafted_file c.args.draft.now)) _ c.first.result c.first.ensures.tried c.definitions.ensures.value (λ k b h p. search rules)
