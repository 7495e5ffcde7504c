use Rattle.std.proofs.Common.{◌≡◌, Err, sym, subst, rules}
use Rattle.fault.specs.Judged.{Exact}
use Rattle.table.specs.Rules.{table_rules, normal_rule, normal_rules}
use Rattle.table.proofs.Taking.{refused_before, judged_by}
use Rattle.table.proofs.normal.check_normal.Goals as goal

pub returns-in_err-check : goal.returns-in_err-check
returns-in_err-check c =
    let b = c.args.bytes.now in
    let e : c.from_residual.result ≡ Err c.in_err-check.field-0.0 = search rules in
    subst (Exact (normal_rules b)) (sym e) (refused_before (table_rules b) (normal_rule b) c.check.result c.check.ensures c.in_err-check.field-0.0 c.in_err-check.was)

pub returns : goal.returns
returns c =
    let b = c.args.bytes.now in
    judged_by (table_rules b) (normal_rule b) c.check.result c.check.ensures c.check_lists.result (search rules) c.check_lists.ensures
