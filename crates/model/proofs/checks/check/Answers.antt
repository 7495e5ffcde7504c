use Rattle.fault.proofs.Exactly.{exactly}
use Rattle.model.specs.Rules.{file_rules, rules_in_order}
use Rattle.model.proofs.checks.check.Goals as goal

pub returns : goal.returns
unfolding file_rules
returns c = exactly (rules_in_order c.args.bytes.now) c.judge.result c.judge.ensures
