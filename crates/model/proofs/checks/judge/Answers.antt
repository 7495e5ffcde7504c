use Rattle.std.proofs.Common.{lit<}
use Rattle.model.proofs.checks.judge.Goals as goal

pub check_heights-requires : goal.check_heights-requires
check_heights-requires c =
    record { few = (c.in_ok-check_pairs.ensures 1 (lit< tt)).high; fit = c.in_ok-check_rows.ensures }
