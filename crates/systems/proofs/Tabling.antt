-- What a table answers, read as steps of a system.
use Rattle.std.proofs.Common.{◌≡◌, ℕ, cond, eqb, List, [], ◌∷◌, map, Some, refl, ap}
use Rattle.table.specs.declared.step.Step.{Step}
use Rattle.table.specs.Steps.{follow as table_follow}
use Rattle.systems.specs.Meaning.{follow}
use Rattle.systems.specs.Tables.{taken}
pub use Rattle.systems.specs.Keeping.{table_short, table_lawful, table_lone}

-- where an event leads
pub taken_follow : (xs : List Step) (e : ℕ) → table_follow xs e ≡ follow (map taken xs) e
taken_follow [] e = refl
taken_follow (x ∷ xs) e = ap (λ o. cond (eqb x.event e) (Some x.target) o) (taken_follow xs e)
