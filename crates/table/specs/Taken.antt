-- What bytes are taken up as. Assumes nothing.
use Rattle.std.specs.Prelude.{◌≡◌, ℕ, List, [], ◌∷◌}
use Rattle.fault.specs.Judged.{Rule, Meets}
use Rattle.table.specs.Form.{states, start, steps_of}

-- the bytes of the table of one state without steps
abbrev pub bare : List ℕ
bare = 0 ∷ 1 ∷ 0 ∷ 0 ∷ 0 ∷ 0 ∷ 0 ∷ 0 ∷ 0 ∷ 0 ∷ 0 ∷ 0 ∷ 0 ∷ 0 ∷ 0 ∷ 0 ∷ []

pub record Bare (b : List ℕ) : Type 0 where
  pub bytes : b ≡ bare
  pub one : states b ≡ 1
  pub first : start b ≡ 0
  pub none : (s : ℕ) → steps_of b s ≡ []

-- bytes that meet the rules are taken up as they are, any others as the bare table
pub record Taken (rules : List Rule) (given taken : List ℕ) : Type 0 where
  pub whole : Meets rules → taken ≡ given
  pub refused : (Meets rules → ⊥) → Bare taken
