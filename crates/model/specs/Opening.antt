-- The open definitions of a row as the bits of a number. Assumes nothing.
use Rattle.std.specs.Prelude.{◌≡◌, ℕ, ◌^◌, ◌<◌, cond, List, Decides, bit_or, nat_lt, slice_index}
use Rattle.lent_bytes.specs.Bits.{bit}
use Rattle.model.specs.declared.op.Op.{Op}
use Rattle.model.specs.declared.op.Op.TheVariants.{Stop, Skip, Omega, Prefix, External, Internal, Sequence, Parallel, Hide, Interrupt, Name}
use Rattle.model.specs.Terms.{Open, Term, none, node}
use Rattle.model.specs.File.{process}

-- the open definitions of an operator, by those of its parts
abbrev pub open_set_lem : Op → ℕ → ℕ → ℕ
open_set_lem Stop a b = 0
open_set_lem Skip a b = 0
open_set_lem Omega a b = 0
open_set_lem (Prefix x) a b = 0
open_set_lem External a b = bit_or a b
open_set_lem Internal a b = 0
open_set_lem Sequence a b = a
open_set_lem (Parallel m) a b = bit_or a b
open_set_lem (Hide m) a b = a
open_set_lem Interrupt a b = bit_or a b
open_set_lem (Name d) a b = cond (nat_lt d 64) (2 ^ d) 0

-- the open definitions of a term, as bits
abbrev pub open_of : Term → ℕ
open_of none = 0
open_of (node o p q) = open_set_lem o (open_of p) (open_of q)

-- a number whose bits are the definitions open in a term
abbrev pub OpenBits : ℕ → Term → Type 0
OpenBits w t = (e : ℕ) → Decides (bit w e) (Open t e)

-- the one number that is the open definitions of a term
pub record OpenedAs (w : ℕ) (t : Term) : Type 0 where
  pub value : w ≡ open_of t
  pub bits : OpenBits w t

-- the open definitions of each of the first n rows
abbrev pub OpenedBelow : List ℕ → List ℕ → ℕ → Type 0
OpenedBelow b sets n = (k : ℕ) → k < n → OpenedAs (slice_index sets k) (process b k)
