use Rattle.std.proofs.Common.{rules}
use Rattle.model_text.specs.Text.{refusal_text_lem}
use Rattle.model_text.proofs.refusal_text.Goals as goal

pub returns : goal.returns
unfolding refusal_text_lem
returns c = search rules
