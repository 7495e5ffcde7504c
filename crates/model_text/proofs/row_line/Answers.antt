use Rattle.std.proofs.Common.{◌≡◌, ℕ, List, ◌++◌, IfOk, string_bytes, codes, decimal, subst}
use Rattle.model.specs.declared.op.Row.{Row}
use Rattle.model.specs.File.{rows, row_at}
use Rattle.model.specs.Words.{row_text_lem}
use Rattle.model_text.specs.Text.{row_line_lem}
use Rattle.model_text.proofs.Readers.{read_there}
use Rattle.model_text.proofs.row_line.Goals as goal

pub returns : goal.returns
unfolding row_line_lem
returns c =
    let b : List ℕ = c.args.file.bytes.now in
    let i : ℕ = c.args.i in
    let e : c.unwrap-row.result ≡ row_at b i = read_there i (rows b) _ _ _ c.requires c.row.ensures c.unwrap-row.ensures in
    subst (λ (r : Row). IfOk c.format.result (λ s. string_bytes s ≡ codes "R" ++ (decimal i ++ (codes " = " ++ (row_text_lem r ++ codes "\n"))))) e c.format.ensures.ok
