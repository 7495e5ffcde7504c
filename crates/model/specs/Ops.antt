-- Operators: which kind of a file stands for which, and what a row's fields hold for each. Assumes nothing.
use Rattle.std.specs.Prelude.{ℕ, List, [], ◌∷◌, Some, None, Option, slice_index_or}
use Rattle.model.specs.declared.op.Op.{Op}
use Rattle.model.specs.declared.op.Op.TheVariants.{Stop, Skip, Omega, Prefix, External, Internal, Sequence, Parallel, Hide, Interrupt, Name}
use Rattle.model.specs.declared.op.Use.{Use}
use Rattle.model.specs.declared.op.Use.TheVariants.{Unused, Event, Mask, Part, Definition}
use Rattle.model.specs.declared.op.Shape.{Shape}

abbrev pub shaped : Use → Use → Use → Shape
shaped a l r = record { argument = a; left = l; right = r }

-- the one table of what argument, left and right hold
abbrev pub shape : Op → Shape
shape Stop = shaped Unused Unused Unused
shape Skip = shaped Unused Unused Unused
shape Omega = shaped Unused Unused Unused
shape (Prefix a) = shaped Event Part Unused
shape External = shaped Unused Part Part
shape Internal = shaped Unused Part Part
shape Sequence = shaped Unused Part Part
shape (Parallel m) = shaped Mask Part Part
shape (Hide m) = shaped Mask Part Unused
shape Interrupt = shaped Unused Part Part
shape (Name d) = shaped Unused Definition Unused

-- the operators by their kind, 0 to 10; kind 2, the ended process, stands in no file
abbrev pub ops : ℕ → ℕ → List (Option Op)
ops argument left =
    Some Stop
    ∷ Some Skip
    ∷ None
    ∷ Some (Prefix argument)
    ∷ Some External
    ∷ Some Internal
    ∷ Some Sequence
    ∷ Some (Parallel argument)
    ∷ Some (Hide argument)
    ∷ Some Interrupt
    ∷ Some (Name left)
    ∷ []

abbrev pub op_of : ℕ → ℕ → ℕ → Option Op
op_of kind argument left = slice_index_or (ops argument left) kind None
