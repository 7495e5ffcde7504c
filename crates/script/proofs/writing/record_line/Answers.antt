use Rattle.std.proofs.Common.{rules}
use Rattle.script.specs.Texts.{record_text}
use Rattle.script.proofs.writing.record_line.Goals as goal

pub returns : goal.returns
unfolding record_text
returns c = search rules
