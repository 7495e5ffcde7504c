use Rattle.std.proofs.Common.{rules}
use Rattle.model.specs.File.{row_at}
use Rattle.model.proofs.file.File.row_at.Goals as goal

pub returns-in-None : goal.returns-in-None
unfolding row_at
returns-in-None c = search rules

pub returns-in-Some : goal.returns-in-Some
unfolding row_at
returns-in-Some c = search rules
