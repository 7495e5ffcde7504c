use Rattle.std.proofs.Common.{rules}
use Rattle.systems.proofs.Entries.{step_few, drop_entry, drop_none}
use Rattle.systems.proofs.list.StepsAtIterator.next.Goals as goal

pub returns-in_err-step-clause-steps : goal.returns-in_err-step-clause-steps
returns-in_err-step-clause-steps g c =
    let none = drop_none ((g.D.System.means c.args.self.now.system.now).steps c.args.self.now.at) c.args.self.now.k in
    search rules

pub overflow_add-self : goal.overflow_add-self
overflow_add-self g c =
    let few = step_few (g.D.System.means c.args.self.now.system.now) c.args.self.now.at c.args.self.now.k c.in_ok-step.step in
    let lawful = g.met.D.System.lawful c.args.self.now.system.now in
    search rules

pub returns-clause-steps : goal.returns-clause-steps
returns-clause-steps g c =
    drop_entry ((g.D.System.means c.args.self.now.system.now).steps c.args.self.now.at) c.args.self.now.k c.in_ok-step.step (search rules)

pub returns-clause-goes : goal.returns-clause-goes
returns-clause-goes g c =
    let e = drop_entry ((g.D.System.means c.args.self.now.system.now).steps c.args.self.now.at) c.args.self.now.k c.in_ok-step.step (search rules) in
    search rules
