use Rattle.std.proofs.Common.{lit<}
use Rattle.table.specs.Rules.{table_rules}
use Rattle.table.proofs.Bare.{bare_sized, bare_pairs, bare_formed, bare_ended}
use Rattle.table.proofs.Taking.{exact_decides, taken_bare}
use Rattle.table.proofs.view.Table.take_up.Goals as goal

pub returns : goal.returns
returns c =
    taken_bare (table_rules c.args.bytes.now) c.args.bytes.now c.is_ok.result (exact_decides _ _ _ c.check.ensures c.is_ok.ensures.value) c.if-is_ok.false

pub invariant_of-result : goal.invariant_of-result
invariant_of-result c =
    let m = (exact_decides (table_rules c.args.bytes.now) _ _ c.check.ensures c.is_ok.ensures.value).0 c.if-is_ok.true in
    record { sized = m.0 0 (lit< tt); pairs = m.1.0; formed = λ k h. (m.1.1.0 k h).0; ended = λ k h. (m.1.1.0 k h).1 }

pub invariant_of-result-2 : goal.invariant_of-result-2
invariant_of-result-2 c = record { sized = bare_sized; pairs = bare_pairs; formed = bare_formed; ended = bare_ended }
