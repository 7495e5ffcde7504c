use Rattle.std.proofs.Common.{◌<◌, ap, ◌∙◌, arith}
use Rattle.std.proofs.lemmas.List.{length-take}
use Rattle.model.specs.File.{rows}
use Rattle.model.specs.Models.{settled_file}
use Rattle.process.proofs.Listing.{refused_answer}
use Rattle.process.proofs.list.list_steps.Goals as goal

pub returns-in_err-n : goal.returns-in_err-n
returns-in_err-n c =
    let e = c.rows.ensures.value ∙ ap rows c.file.ensures in
    let t = c.if-row-rows.false in
    let h : c.args.row < rows (settled_file c.args.model.now) = omega arith in
    let m = c.min-cap.ensures in
    let n = c.len.ensures in
    let l = length-take c.min-cap.result c.args.rows.now in
    refused_answer _ _ _ _ _ _ _ c.from_residual.ensures.1 h (omega arith) c.in_err-n.ensures
