-- Worked cases: the lists of a few processes, from the definitions. Assumes nothing.
use Rattle.std.specs.Prelude.{◌&&◌, List, [], ◌∷◌, ◌==◌}
use Rattle.model.specs.declared.op.Op.TheVariants.{Stop, Skip, Prefix, External, Sequence, Parallel, Hide, Name}
use Rattle.model.specs.Terms.{Term, none, node}
use Rattle.step_rules.specs.Derives.{joint_termination, Env, ended}
use Rattle.step_rules.specs.Lists.{TermStep, to, Lists}

-- events a = 2 and b = 3
abbrev pub STOP : Term
STOP = node Stop none none

abbrev pub SKIP : Term
SKIP = node Skip none none

abbrev pub a⟶ : Term → Term
a⟶ p = node (Prefix 2) p none

abbrev pub b⟶ : Term → Term
b⟶ p = node (Prefix 3) p none

abbrev pub N : Term
N = node (Name 0) none none

-- mask 0 is empty and mask 1 has a; definition 0 is N = a -> N
abbrev pub case_env : Env
case_env = record { rules = joint_termination; body = λ d. a⟶ N; mask = λ k x. (k == 1) && (x == 2) }

pub record Case : Type 0 where
  pub process : Term
  pub steps : List TermStep

abbrev pub case : Term → List TermStep → Case
case p l = record { process = p; steps = l }

abbrev pub worked : List Case
worked =
    case (node External SKIP (a⟶ STOP)) (to 1 ended ∷ to 2 STOP ∷ [])
    ∷ case (node Sequence SKIP (a⟶ STOP)) (to 0 (a⟶ STOP) ∷ [])
    ∷ case (node (Parallel 1) (a⟶ STOP) (b⟶ STOP)) (to 3 (node (Parallel 1) (a⟶ STOP) STOP) ∷ [])
    ∷ case (node (Parallel 0) SKIP STOP) []
    ∷ case (node (Parallel 0) SKIP SKIP) (to 1 ended ∷ [])
    ∷ case (node (Hide 1) (a⟶ STOP) none) (to 0 (node (Hide 1) STOP none) ∷ [])
    ∷ case (node External (a⟶ STOP) (a⟶ STOP)) (to 2 STOP ∷ [])
    ∷ case N (to 2 N ∷ [])
    ∷ []

abbrev pub AllListed : List Case → Type 0
AllListed [] = Unit {0}
AllListed (c ∷ cs) = Lists case_env c.process c.steps × AllListed cs

-- each process of the list has exactly the steps beside it
abbrev pub CasesHold : Type 0
CasesHold = AllListed worked
