use Rattle.std.proofs.Common.{◌≡◌, ℕ, ◌+◌, ◌*◌, ◌&&◌, ltb, List, ◌++◌, get_or, IfOk, Some, None, vec_items, vec_len, string_bytes, codes, decimal, rules, Option, unwrap_or, sym, ap, ◌∙◌, subst}
use Rattle.std.proofs.lemmas.Bool.{cond-true, and_from, lt-ltb}
use Rattle.model.specs.declared.op.Row.{Row}
use Rattle.model.specs.Rows.{blank}
use Rattle.model.specs.Words.{row_text_lem}
use Rattle.process.specs.declared.step.Step.{Step}
use Rattle.process.specs.Slots.{blank_step}
use Rattle.process_text.specs.Shown.{step_text}
use Rattle.process_text.proofs.step_line.Goals as goal

pub returns : goal.returns
unfolding step_text
returns c =
    let rs : List Row = c.args.rows.now in
    let w = c.args.work.now in
    let pool : List Step = vec_items w.pool in
    let x : Step = c.unwrap-step.result in
    let y : Step = get_or pool (c.args.row * 256 + c.args.k) blank_step in
    let found : c.step.result ≡ Some y =
    c.step.ensures ∙ cond-true (ltb c.args.row (vec_len w.lens) && ltb c.args.k 256) (Some y) None (and_from _ _ (lt-ltb _ _ c.requires.slot) (lt-ltb _ _ c.requires.step))
    in
    let e : x ≡ y = ap (λ (o : Option Step). unwrap_or o y) (sym c.unwrap-step.ensures ∙ found) in
    let P : ℕ → ℕ → Row → Type 0 = λ a n r. IfOk c.format.result (λ z. string_bytes z ≡ decimal a ++ (codes " -> R" ++ (decimal n ++ (codes " = " ++ (row_text_lem r ++ codes "\n"))))) in
    let g : c.unwrap_or_default-process.result ≡ get_or rs x.next blank = search rules in
    subst (λ (z : Step). P z.event z.next (get_or rs z.next blank)) e (subst (P x.event x.next) g c.format.ensures.ok)
