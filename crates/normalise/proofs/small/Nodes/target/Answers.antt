use Rattle.std.proofs.lemmas.Bool.Decides.{not_from_Decides}
use Rattle.normalise.proofs.Closes.{some_member}
use Rattle.normalise.proofs.Visits.{led}
use Rattle.normalise.proofs.small.Nodes.target.Goals as goal

pub returns : goal.returns
returns c =
    let some = some_member _ (not_from_Decides _ c.is_empty.ensures c.if-is_empty.false) in
    led _ _ c.args.self.now.sets.now c.args.n c.args.event c.advance-set.result some.0 c.requires.nodes c.requires.inside c.requires.loud c.requires.low c.advance-set.ensures some.1 c.find.result c.find.ensures.found
