use Rattle.std.proofs.Common.{ℕ, ◌+◌, ◌*◌, ◌<◌, List, get_or, vec_items, vec_len, arith, rules}
use Rattle.process.specs.Slots.{blank_step}
use Rattle.process_text.specs.Shown.{step_text}
use Rattle.process_text.proofs.Showing.{listed_at, slot_known, shows}
use Rattle.process_text.proofs.steps_over.Goals as goal

pub push_lines-requires : goal.push_lines-requires
push_lines-requires c k h =
    let x = c.in-Ok.ensures in
    let few = (listed_at _ _ _ _ _ _ x).few in
    let low : k < 256 = omega arith in
    let known : c.args.row < vec_len c.list_steps.new.work.lens = slot_known _ _ _ _ _ _ x in
    search rules

pub returns-in_ok-push_lines-in-Ok : goal.returns-in_ok-push_lines-in-Ok
returns-in_ok-push_lines-in-Ok c =
    let x = c.in-Ok.ensures in
    let each : ℕ → List ℕ = λ k. step_text c.list_steps.new.rows (get_or (vec_items c.list_steps.new.work.pool) (c.args.row * 256 + k) blank_step) in
    shows _ _ _ _ c.list_steps.new.rows c.list_steps.new.work x _ _ c.in_ok-out-in-Ok.ensures.ok (c.in_ok-push_lines-in-Ok.ensures.each each (λ k s h p. search rules))
