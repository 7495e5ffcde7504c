-- What the names and the mask numbers of a model's file stand for. Assumes nothing.
use Rattle.std.specs.Prelude.{ℕ, cond, List, nat_lt}
use Rattle.lent_bytes.specs.Bits.{bit}
use Rattle.model.specs.File.{masks, definitions, mask_at_lem, body}
use Rattle.model.specs.Terms.{Term, none}
use Rattle.step_rules.specs.Derives.{RuleSet, joint_termination, Env}

-- the body of definition d; a name past the definitions, which no model has, stands for nothing
abbrev pub body_of : List ℕ → ℕ → Term
body_of b d = cond (nat_lt d (definitions b)) (body b d) none

-- mask k; a mask past the masks, which no model has, is empty
abbrev pub mask_of : List ℕ → ℕ → ℕ
mask_of b k = cond (nat_lt k (masks b)) (mask_at_lem b k) 0

-- the processes of a file under a set of rules
abbrev pub under : RuleSet → List ℕ → Env
under R b = record { rules = R; body = body_of b; mask = λ k x. bit (mask_of b k) x }

-- the processes of a file under the rules that this repository compiles
abbrev pub env : List ℕ → Env
env b = under joint_termination b
