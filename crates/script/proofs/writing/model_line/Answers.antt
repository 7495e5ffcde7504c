use Rattle.std.proofs.Common.{rules}
use Rattle.script.specs.Texts.{model_line_lem}
use Rattle.script.proofs.writing.model_line.Goals as goal

pub returns : goal.returns
unfolding model_line_lem
returns c = search rules
