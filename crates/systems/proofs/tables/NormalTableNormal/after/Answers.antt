use Rattle.std.proofs.Common.{◌∙◌}
use Rattle.table.specs.Form.{steps_of}
use Rattle.systems.proofs.Tabling.{taken_follow}
use Rattle.systems.proofs.tables.NormalTableNormal.after.Goals as goal

pub returns : goal.returns
returns c = c.after.ensures.value ∙ taken_follow (steps_of c.args.self.now.table.bytes.now c.args.at) c.args.event
