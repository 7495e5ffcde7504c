use Rattle.std.proofs.Common.{ℕ, ◌+◌, List, sym, subst, arith, length}
use Rattle.table.specs.Form.{start}
use Rattle.systems.specs.Meaning.{Steps}
use Rattle.systems.specs.Tables.{table_lts}
use Rattle.normalise.specs.Writing.{Under}
use Rattle.normalise.proofs.Frames.{under_past, under_more}
use Rattle.normalise.proofs.Counts.{large_step}
use Rattle.normalise.proofs.small.Nodes.write_list.Goals as goal
use Rattle.normalise.proofs.small.Nodes.write_list.Goals.{in-Some+else-place-room, in_default}

pub returns-then-place-room : goal.returns-then-place-room
returns-then-place-room c =
    let g = c.in-Some.ensures in
    large_step (Steps (table_lts c.args.self.now.of.table.bytes.now)) (start c.args.self.now.of.table.bytes.now) c.args.self.now.sets.now (length c.args.self.now.sets.now) c.requires.nodes _ c.loop-event.out c.args.n c.loop-event.event c.args.begun c.loop-event.count g.0 c.loop-event.invariant c.requires.inside (omega arith) c.loop-event-test.true g.1 (omega arith)

pub loop-event-preserved : goal.loop-event-preserved
loop-event-preserved c =
    let U : List ℕ → ℕ → Type 0 =
    λ b k. Under (Steps (table_lts c.args.self.now.of.table.bytes.now)) c.args.self.now.sets.now (length c.args.self.now.sets.now) b c.args.n (c.loop-event.event + 1) c.args.begun k in
    elim c.match-target.branch [
      | in-Some+else-place-room w ↦
          subst (λ (b : List ℕ). U b c.match-target.count) (sym w.out-is)
          (subst (λ (k : ℕ). U w.put_step.new.out k) (sym w.count-is)
          (under_more (Steps (table_lts c.args.self.now.of.table.bytes.now)) c.args.self.now.sets.now (length c.args.self.now.sets.now) c.loop-event.out _ c.args.n c.loop-event.event c.args.begun c.loop-event.count w.in-Some.k c.requires.inside (omega arith) c.loop-event-test.true w.in-Some.ensures (omega arith) (omega arith) w.put_step.ensures c.loop-event.invariant))
      | in_default w ↦
          subst (λ (b : List ℕ). U b c.match-target.count) (sym w.out-is)
          (subst (λ (k : ℕ). U c.loop-event.out k) (sym w.count-is)
          (under_past (Steps (table_lts c.args.self.now.of.table.bytes.now)) c.args.self.now.sets.now (length c.args.self.now.sets.now) c.loop-event.out c.args.n c.loop-event.event c.args.begun c.loop-event.count w.in_default.ensures c.loop-event.invariant))
    ]
