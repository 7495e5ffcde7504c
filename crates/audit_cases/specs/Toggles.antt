-- A toggle: event 2 switches it on, event 3 off. Assumes nothing.
use Rattle.std.proofs.Common.{ℕ, cond, List, [], ◌∷◌, ◌==◌, rules}
use Rattle.systems.specs.Meaning.{Lts, Lawful, Lone}

abbrev pub switches : ℕ → List (ℕ × ℕ)
switches s = cond (s == 0) ((2, 1) ∷ []) (cond (s == 1) ((3, 0) ∷ []) [])

abbrev pub toggle : Lts ℕ
toggle = record { first = 0; steps = switches }

-- what every system keeps, and every normal one, it keeps
pub toggle_keeps : Lawful toggle
toggle_keeps = record { few = λ s. search rules; low = λ s t k e h. search rules; ended = λ s t k h. search rules }

pub toggle_keeps_lone : Lone toggle
toggle_keeps_lone = record { loud = λ s t k. search rules; once = λ s t u j k e p q. search rules }
