use Rattle.std.proofs.Common.{rules}
use Rattle.table.specs.Form.{steps_of}
use Rattle.table.proofs.Entries.{nth_within, drop_entry, drop_none}
use Rattle.table.proofs.list.StepsOfIterator.next.Goals as goal

pub returns-in_err-step-clause-steps : goal.returns-in_err-step-clause-steps
returns-in_err-step-clause-steps c =
    let none = drop_none (steps_of c.args.self.now.table.bytes.now c.args.self.now.state) c.args.self.now.k in
    search rules

pub overflow_add-self : goal.overflow_add-self
overflow_add-self c =
    let within = nth_within (steps_of c.args.self.now.table.bytes.now c.args.self.now.state) c.args.self.now.k c.in_ok-step.step in
    let few = c.in_ok-step.ensures.lawful.short c.args.self.now.state in
    search rules

pub returns-clause-steps : goal.returns-clause-steps
returns-clause-steps c =
    drop_entry (steps_of c.args.self.now.table.bytes.now c.args.self.now.state) c.args.self.now.k c.in_ok-step.step (search rules)

pub returns-clause-goes : goal.returns-clause-goes
returns-clause-goes c =
    let e = drop_entry (steps_of c.args.self.now.table.bytes.now c.args.self.now.state) c.args.self.now.k c.in_ok-step.step (search rules) in
    search rules
