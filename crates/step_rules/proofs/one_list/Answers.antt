use Rattle.model.specs.Models.{settled_file}
use Rattle.step_rules.specs.Models.{under}
use Rattle.step_rules.proofs.Falling.{bodies_fall}
use Rattle.step_rules.proofs.Unique.{exists, unique}
use Rattle.step_rules.proofs.one_list.Goals as goal

pub returns : goal.returns
returns c R p =
    let b = settled_file c.args.model.now in
    let x = exists (under R b) (bodies_fall b c.args.model.now.lower) p in
    (x.0, x.1, λ m h. unique x.1 h)
