use Rattle.std.proofs.Common.{string_bytes}
use Rattle.model_text.specs.Lines.{Appends}
use Rattle.model_text.proofs.lines.push_lines.Given as goal

abbrev pub invariant-loop-k : goal.invariant-loop-k
invariant-loop-k g l = Appends string_bytes (goal.F-post g l.line) l.k (string_bytes l.initial.out) (string_bytes l.out)
