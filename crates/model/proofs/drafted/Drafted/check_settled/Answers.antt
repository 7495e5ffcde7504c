use Rattle.fault.proofs.Exactly.{alone, exactly}
use Rattle.model.specs.Rules.{open_rule, settle_rules}
use Rattle.model.proofs.drafted.Drafted.check_settled.Goals as goal

pub returns : goal.returns
unfolding settle_rules
returns c = exactly (settle_rules _) c.check_opens.result (alone (open_rule _) c.check_opens.result c.check_opens.ensures)
