use Rattle.std.proofs.Common.{◌≡◌, [], length, take, drop}
use Rattle.first_seen.specs.Seen.{gathered}
use Rattle.first_seen_cases.proofs.gather.gather.Given as goal

abbrev pub invariant-loop-x : goal.invariant-loop-x
invariant-loop-x g l =
    (length l.list.rows.now ≡ length l.initial.list.rows.now)
    × (l.list.rows.ghost_name ≡ l.initial.list.rows.ghost_name)
    × (gathered g.T.Same.alike (length l.initial.list.rows.now) (drop l.x-index l.xs) (take l.list.len l.list.rows.now)
    ≡ gathered g.T.Same.alike (length l.initial.list.rows.now) l.xs [])
