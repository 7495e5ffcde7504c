use Rattle.audit.proofs.Once.{empty_answer}
use Rattle.audit_cases.proofs.audit_nothing.Goals as goal

pub returns : goal.returns
returns g c = empty_answer (g.D.System.means c.args.design.now) (g.S.System.means c.args.spec.now) c.audit.result c.audit.ensures.exact
