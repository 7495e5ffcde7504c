-- When two operators, and two rows, are the same: kind, argument and parts. Assumes nothing.
use Rattle.std.specs.Prelude.{ℕ, Bool, ◌&&◌, ◌==◌}
use Rattle.model.specs.declared.op.Op.{Op}
use Rattle.model.specs.declared.op.Op.TheVariants.{Stop, Skip, Omega, Prefix, External, Internal, Sequence, Parallel, Hide, Interrupt, Name}
use Rattle.model.specs.declared.op.Row.{Row}

-- the number of an operator, and its argument
abbrev pub kind : Op → ℕ
kind Stop = 0
kind Skip = 1
kind Omega = 2
kind (Prefix a) = 3
kind External = 4
kind Internal = 5
kind Sequence = 6
kind (Parallel k) = 7
kind (Hide k) = 8
kind Interrupt = 9
kind (Name d) = 10

abbrev pub argument : Op → ℕ
argument Stop = 0
argument Skip = 0
argument Omega = 0
argument (Prefix a) = a
argument External = 0
argument Internal = 0
argument Sequence = 0
argument (Parallel k) = k
argument (Hide k) = k
argument Interrupt = 0
argument (Name d) = d

abbrev pub same_op : Op → Op → Bool
same_op a b = kind a == kind b && argument a == argument b

abbrev pub same_row : Row → Row → Bool
same_row a b = same_op a.op b.op && (a.left == b.left && a.right == b.right)
