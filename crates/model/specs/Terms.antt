-- Process terms, their height, and the definitions that are open in them. Assumes nothing.
use Rattle.std.specs.Prelude.{ℕ, ◌+◌, max}
use Rattle.model.specs.declared.op.Op.{Op}
use Rattle.model.specs.declared.op.Op.TheVariants.{External, Sequence, Parallel, Hide, Interrupt, Name}

-- an operator over its parts; `none` stands where the operator has no part
pub data Term : Type 0 where
  none : Term
  node : Op → Term → Term → Term

-- a process without parts, and a name, has height 1; another has one more than its highest part
abbrev pub height : Term → ℕ
height none = 0
height (node o p q) = 1 + max (height p) (height q)

-- definition d is open in a term: it can be unfolded there before any event or internal choice.
-- A name has its own definition open; prefix and internal choice have none
pub data Open : Term → ℕ → Type 0 where
  name : {d : ℕ} {p q : Term} → Open (node (Name d) p q) d
  sequence : {p q : Term} {d : ℕ} → Open p d → Open (node Sequence p q) d
  hiding : {m : ℕ} {p q : Term} {d : ℕ} → Open p d → Open (node (Hide m) p q) d
  external_left : {p q : Term} {d : ℕ} → Open p d → Open (node External p q) d
  external_right : {p q : Term} {d : ℕ} → Open q d → Open (node External p q) d
  parallel_left : {m : ℕ} {p q : Term} {d : ℕ} → Open p d → Open (node (Parallel m) p q) d
  parallel_right : {m : ℕ} {p q : Term} {d : ℕ} → Open q d → Open (node (Parallel m) p q) d
  interrupt_left : {p q : Term} {d : ℕ} → Open p d → Open (node Interrupt p q) d
  interrupt_right : {p q : Term} {d : ℕ} → Open q d → Open (node Interrupt p q) d
