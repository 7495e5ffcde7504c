use Rattle.step_rules.specs.Lists.{to}
use Rattle.step_rules.proofs.Derived.{derived, listed}
use Rattle.step_rules.proofs.lists_the_steps.Goals as goal

pub returns : goal.returns
returns c = λ D p l ls x q. (λ h. derived ls (to x q) h, λ s. listed ls x q s)
