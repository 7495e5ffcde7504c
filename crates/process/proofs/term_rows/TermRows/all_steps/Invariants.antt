use Rattle.std.proofs.Common.{◌≡◌, ◌*◌, ◌≤◌, take}
use Rattle.process.specs.Ordered.{order_in, steps_in}
use Rattle.process.proofs.term_rows.TermRows.all_steps.Given as goal

abbrev pub invariant-loop-r : goal.invariant-loop-r
invariant-loop-r l = (l.all ≡ steps_in l.self.work.now (take l.r-index (order_in l.self.work.now l.n))) × (l.all ≤ 256 * l.r-index)
