use Rattle.std.proofs.Common.{◌≡◌, ℕ, ◌<◌, ◌≤◌, get_or, drop}
use Rattle.script.specs.Lines.{Digit, value}
use Rattle.script.proofs.reading.number.Given as goal

abbrev pub invariant-loop-b : goal.invariant-loop-b
invariant-loop-b l =
    (value l.n (drop l.b-index l.digits) ≡ value 0 l.digits) × (l.n ≤ 65535) × ((k : ℕ) → k < l.b-index → Digit (get_or l.digits k 0))
