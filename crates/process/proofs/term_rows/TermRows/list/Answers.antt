use Rattle.std.proofs.Common.{ℕ, Option, unwrap_or, subst, sym, ap}
use Rattle.model.specs.File.{process}
use Rattle.model.specs.Models.{settled_file}
use Rattle.model.specs.declared.drafted.Settled.{Settled}
use Rattle.process.specs.Noted.{Knows, Refuses}
use Rattle.process.proofs.Knowing.{read_option}
use Rattle.process.proofs.Lending.{model_kept}
use Rattle.process.proofs.Listing.{model_row, listed_row, refused_row}
use Rattle.process.proofs.Taking.{at_break}
use Rattle.process.proofs.term_rows.TermRows.list.Goals as goal

pub returns-in_err-begin-clause-listed : goal.returns-in_err-begin-clause-listed
returns-in_err-begin-clause-listed c =
    at_break _ _ _ c.from_residual.ensures.0 (λ room. c.in_err-begin.ensures.begun (process (settled_file c.args.self.now.model.now) c.args.r) room)

pub steps-requires-clause-within : goal.steps-requires-clause-within
steps-requires-clause-within c =
    let s = c.begin.new.self in
    (model_row c.args.self.now.model.now s.rows.now s.work.now c.args.r c.in_ok-begin.ensures.begun.loaded.begun c.requires.row).0

pub returns-in_err-steps-clause-listed : goal.returns-in_err-steps-clause-listed
returns-in_err-steps-clause-listed c =
    let y = c.in_ok-begin.ensures in
    let s = c.begin.new.self in
    let f = subst (λ (z : Settled). Refuses z s.rows.now s.work.now c.args.r) (model_kept y.lent.2) c.in_err-steps.ensures.learned in
    at_break _ _ _ c.from_residual-in_err-steps.ensures.0 (refused_row c.args.self.now.model.now s.rows.now s.work.now c.args.r y.begun c.requires.row _ y.lent.3 f)

pub returns-clause-listed : goal.returns-clause-listed
returns-clause-listed c =
    let y = c.in_ok-begin.ensures in
    let s = c.begin.new.self in
    let s' = c.steps.new.self in
    let k = subst (λ (z : Settled). Knows z s.rows.now s'.rows.now s.work.now s'.work.now c.args.r) (model_kept y.lent.2) c.in_ok-steps.ensures.learned in
    listed_row c.args.self.now.model.now s.rows.now s.work.now _ _ c.args.r _ y.begun.loaded c.requires.row k (read_option s'.work.now c.args.r _ _ k.done c.known.ensures (sym (ap (λ (o : Option ℕ). unwrap_or o 0) c.unwrap.ensures)))
