use Rattle.std.proofs.Common.{◌≡◌, ℕ, ◌<◌, ◌≤◌, length, get_or}
use Rattle.model.specs.File.{process}
use Rattle.model.specs.Terms.{height}
use Rattle.model.proofs.heights.check_heights.Given as goal

abbrev pub invariant-loop-place : goal.invariant-loop-place
invariant-loop-place l =
    (length l.heights ≡ 4096)
    × ((k : ℕ) → k < l.place → get_or l.heights k 0 ≡ height (process l.file.bytes.now k))
    × ((k : ℕ) → k < l.place → height (process l.file.bytes.now k) ≤ 64)
