use Rattle.table.specs.Rules.{normal_rules}
use Rattle.table.proofs.Bare.{bare_sized, bare_pairs, bare_formed, bare_ended, bare_normal}
use Rattle.table.proofs.Taking.{exact_decides, taken_bare}
use Rattle.table.proofs.view.NormalTable.take_up.Goals as goal

pub returns : goal.returns
returns c =
    taken_bare (normal_rules c.args.bytes.now) c.args.bytes.now c.is_ok.result (exact_decides _ _ _ c.check_normal.ensures c.is_ok.ensures.value) c.if-is_ok.false

pub invariant_of-result-2 : goal.invariant_of-result-2
invariant_of-result-2 c = record { sized = bare_sized; pairs = bare_pairs; formed = bare_formed; ended = bare_ended }

pub invariant_of-result-3 : goal.invariant_of-result-3
invariant_of-result-3 c = record { normal = ∣ bare_normal ∣₁ }
