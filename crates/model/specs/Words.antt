-- A row as text, in the usual notation of CSP. Assumes nothing.
use Rattle.std.specs.Prelude.{ℕ, List, ◌++◌, codes, decimal}
use Rattle.model.specs.declared.op.Op.{Op}
use Rattle.model.specs.declared.op.Op.TheVariants.{Stop, Skip, Omega, Prefix, External, Internal, Sequence, Parallel, Hide, Interrupt, Name}
use Rattle.model.specs.declared.op.Row.{Row}

-- rows are R and a number, masks M and a number, definitions N and a number
abbrev pub op_text : Op → ℕ → ℕ → List ℕ
op_text Stop l r = codes "STOP"
op_text Skip l r = codes "SKIP"
op_text Omega l r = codes "OMEGA"
op_text (Prefix a) l r = decimal a ++ (codes " -> R" ++ decimal l)
op_text External l r = codes "R" ++ (decimal l ++ (codes " [] R" ++ decimal r))
op_text Internal l r = codes "R" ++ (decimal l ++ (codes " |~| R" ++ decimal r))
op_text Sequence l r = codes "R" ++ (decimal l ++ (codes " ; R" ++ decimal r))
op_text (Parallel m) l r = codes "R" ++ (decimal l ++ (codes " [|M" ++ (decimal m ++ (codes "|] R" ++ decimal r))))
op_text (Hide m) l r = codes "R" ++ (decimal l ++ (codes " \\ M" ++ decimal m))
op_text Interrupt l r = codes "R" ++ (decimal l ++ (codes " /\\ R" ++ decimal r))
op_text (Name d) l r = codes "N" ++ decimal d

abbrev pub row_text_lem : Row → List ℕ
row_text_lem r = op_text r.op r.left r.right
