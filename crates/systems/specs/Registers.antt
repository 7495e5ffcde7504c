-- The count register. Assumes nothing.
use Rattle.std.specs.Prelude.{ℕ, ◌+◌, ◌-◌, ◌<◌, ◌≤◌, cond, List, [], ◌∷◌, ◌==◌, ◌≢◌, nat_lt}
use Rattle.systems.specs.Meaning.{Lts}

-- an event from 2 to 63
abbrev pub Visible : ℕ → Type 0
Visible e = (2 ≤ e) × (e < 64)

-- three visible events, no two of them equal
abbrev pub Apart : (up down iszero : ℕ) → Type 0
Apart up down iszero = (Visible up × Visible down × Visible iszero) × ((up ≢ down) × (up ≢ iszero) × (down ≢ iszero))

-- what the register offers besides up: at 0 iszero, which stays there, elsewhere down
abbrev pub lower : (down iszero at : ℕ) → ℕ × ℕ
lower down iszero at = cond (at == 0) (iszero, 0) (down, at - 1)

-- up below the limit, then what it offers besides; nothing past the limit
abbrev pub counts : (limit up down iszero at : ℕ) → List (ℕ × ℕ)
counts limit up down iszero at =
    cond (nat_lt at limit) ((up, at + 1) ∷ (lower down iszero at ∷ []))
    (cond (at == limit) (lower down iszero at ∷ []) [])

-- the register starts at 0
abbrev pub register : (limit up down iszero : ℕ) → Lts ℕ
register limit up down iszero = record { first = 0; steps = counts limit up down iszero }
