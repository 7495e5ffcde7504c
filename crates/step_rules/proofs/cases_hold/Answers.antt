use Rattle.std.proofs.Common.{refl}
use Rattle.step_rules.specs.Lists.{at_once, by_left, by_both, by_name}
use Rattle.step_rules.proofs.cases_hold.Goals as goal

pub returns : goal.returns
returns c =
    (by_both refl (at_once refl) (at_once refl), (by_left refl (at_once refl), (by_both refl (at_once refl) (at_once refl), (by_both refl (at_once refl) (at_once refl), (by_both refl (at_once refl) (at_once refl), (by_left refl (at_once refl), (by_both refl (at_once refl) (at_once refl), (by_name (at_once refl), tt))))))))
