-- What the lists of steps promise. Assumes nothing.
use Rattle.std.specs.Prelude.{◌≡◌, ℕ, List}
use Rattle.model.specs.Terms.{Term}
use Rattle.step_rules.specs.Derives.{RuleSet, Env, Derives}
use Rattle.step_rules.specs.Lists.{TermStep, to, Lists, Mem}
use Rattle.step_rules.specs.Models.{under}

-- an event and a term are listed exactly when the rules derive the step
abbrev pub ListsTheSteps : Type 0
ListsTheSteps =
    (D : Env) (p : Term) (l : List TermStep) → Lists D p l → (x : ℕ) (q : Term) → (Mem (to x q) l → Derives D p x q) × (Derives D p x q → Mem (to x q) l)

-- every term has one list in the model of the file b
abbrev pub OneList : List ℕ → Type 0
OneList b =
    (R : RuleSet) (p : Term) → (l : List TermStep) × Lists (under R b) p l × ((m : List TermStep) → Lists (under R b) p m → m ≡ l)
