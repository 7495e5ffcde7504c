use Rattle.std.proofs.Common.{◌+◌, ◌*◌, ap}
use Rattle.process.proofs.Sizing.{size_refused}
use Rattle.process.proofs.term_rows.TermRows.table_size.Goals as goal

pub returns-then-size-room : goal.returns-then-size-room
returns-then-size-room c =
    λ cap. size_refused _ c.args.start c.args.self.now.rows.now c.args.self.now.work.now c.args.n c.requires c.args.room _ (ap (λ z. 8 + 8 * c.args.n + 4 * z) c.all_steps.ensures.value) c.if-size-room.true cap
