use Rattle.std.proofs.Common.{rules, refl}
use Rattle.fault.proofs.Trying.{passes}
use Rattle.fault.specs.declared.refusal.Refusal.TheVariants.{FilePair}
use Rattle.model.specs.Rules.{PairOk}
use Rattle.model.proofs.checks.check_pairs.Goals as goal

pub returns : goal.returns
returns c = passes (PairOk c.args.file.bytes.now) FilePair 3 _ c.first.result c.first.ensures.tried refl (λ k b h p. search rules)
