use Rattle.std.proofs.Common.{◌≡◌, ℕ, min, length, IfOk, vec_len, string_bytes, subst, arith}
use Rattle.std.proofs.lemmas.Result.{IfOk-from_err}
use Rattle.model.specs.Models.{settled_file}
use Rattle.process_text.specs.Shown.{ShowsSteps}
use Rattle.process_text.proofs.show_steps.Goals as goal

pub returns-in_err-work : goal.returns-in_err-work
returns-in_err-work c = IfOk-from_err _ _ c.from_residual-in_err-work.ensures.0

pub returns : goal.returns
returns c =
    let e : min (length c.as_mut_slice.result.now) (vec_len c.in_ok-work.work.lens) ≡ 8192 = omega (arith, c.as_mut_slice.ensures.len, c.in_ok-work.ensures, c.in_ok-rows.ensures.len) in
    subst (λ (z : ℕ). IfOk c.steps_over.result (λ s. ShowsSteps (settled_file c.args.model.now) c.args.row z (string_bytes s))) e c.steps_over.ensures
