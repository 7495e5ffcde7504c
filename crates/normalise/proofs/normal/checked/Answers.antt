use Rattle.std.proofs.Common.{ℕ, length, Result, sym, refl, subst, inl}
use Rattle.std.proofs.lemmas.Result.{err_from_is_err_and}
use Rattle.fault.specs.declared.refusal.Fault.{Fault}
use Rattle.fault.specs.Judged.{FirstRefused}
use Rattle.table.specs.Rules.{table_rules}
use Rattle.normalise.specs.Made.{Normalised}
use Rattle.normalise.proofs.normal.checked.Goals as goal

pub returns-in_err-check : goal.returns-in_err-check
returns-in_err-check c =
    let y = err_from_is_err_and c.from_residual.result c.from_residual.ensures.1 in
    subst (λ (r : Result ℕ Fault). Normalised c.args.bytes.now (length c.args.rows.now) c.args.out.now c.args.out.now r) (sym y.1)
    (inl (subst (λ (f : Fault). FirstRefused (table_rules c.args.bytes.now) f) (sym y.2) (c.in_err-check.ensures.told c.in_err-check.field-0.0 refl), refl))
