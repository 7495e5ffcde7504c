use Rattle.std.proofs.Common.{◌≡◌, ◌<◌, ◌≤◌, [], ◌∷◌, ◌++◌, length, replicate, sym, ap, ◌∙◌, arith}
use Rattle.std.proofs.lemmas.List.{take_more_set, take_all, replicate_more}
use Rattle.first_seen.proofs.guard.clear.Goals as goal

pub loop-row-preserved : goal.loop-row-preserved
loop-row-preserved g c =
    let i = c.loop-row.row-index in
    let h : i < length c.loop-row.rows = omega arith in
    take_more_set c.loop-row.rows i c.blank.result h
    ∙ ap (λ ys. ys ++ (c.blank.result ∷ [])) c.loop-row.invariant
    ∙ ap (λ y. replicate i g.T.Blank.blank ++ (y ∷ [])) c.blank.ensures
    ∙ replicate_more i g.T.Blank.blank

pub returns : goal.returns
returns g c =
    let i = c.loop-row.row-index in
    let h : length c.loop-row.rows ≤ i = omega arith in
    let e : i ≡ length c.args.rows.now = omega arith in
    sym (take_all i c.loop-row.rows h) ∙ c.loop-row.invariant ∙ ap (λ n. replicate n g.T.Blank.blank) e
