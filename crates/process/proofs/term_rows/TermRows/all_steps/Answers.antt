use Rattle.std.proofs.Common.{Option, unwrap_or, is_some, ◌+◌, ℕ, ◌<◌, sym, ap, ◌∙◌, List, get_or, arith}
use Rattle.process.proofs.Sizing.{states_read, state_known, turn}
use Rattle.process.proofs.term_rows.TermRows.all_steps.Goals as goal

pub known-requires : goal.known-requires
known-requires c =
    let s = states_read _ c.args.start c.args.self.now.rows.now c.args.self.now.work.now c.args.n c.requires c.deref.result.now c.deref.ensures.value in
    let l = s.1 in
    let t = c.loop-r-test.true in
    let i = c.loop-r.r-index in
    let h : i < c.args.n = omega arith in
    (state_known _ c.args.start c.args.self.now.rows.now c.args.self.now.work.now c.args.n c.requires i _ h (ap (λ (z : List ℕ). get_or z i 0) s.0)).3

pub unwrap-all-requires : goal.unwrap-all-requires
unwrap-all-requires c =
    let s = states_read _ c.args.start c.args.self.now.rows.now c.args.self.now.work.now c.args.n c.requires c.deref.result.now c.deref.ensures.value in
    let l = s.1 in
    let t = c.loop-r-test.true in
    let i = c.loop-r.r-index in
    let h : i < c.args.n = omega arith in
    let q = state_known _ c.args.start c.args.self.now.rows.now c.args.self.now.work.now c.args.n c.requires i _ h (ap (λ (z : List ℕ). get_or z i 0) s.0) in
    ap is_some (c.known.ensures ∙ q.1)

pub overflow_add-all : goal.overflow_add-all
overflow_add-all c =
    let a = c.loop-r.invariant.1 in
    let f = c.requires.few in
    let q = turn _ c.args.start c.args.self.now.rows.now c.args.self.now.work.now c.args.n c.requires c.deref.result.now c.deref.ensures.value c.loop-r.r-index c.unwrap-all.result c.known.result c.loop-r-test.true c.known.ensures (sym (ap (λ (o : Option ℕ). unwrap_or o 0) c.unwrap-all.ensures)) in
    let k = q.0 in
    let h = q.1 in
    omega arith

pub loop-r-preserved : goal.loop-r-preserved
loop-r-preserved c =
    let x = c.loop-r.invariant in
    let a = x.1 in
    let q = turn _ c.args.start c.args.self.now.rows.now c.args.self.now.work.now c.args.n c.requires c.deref.result.now c.deref.ensures.value c.loop-r.r-index c.unwrap-all.result c.known.result c.loop-r-test.true c.known.ensures (sym (ap (λ (o : Option ℕ). unwrap_or o 0) c.unwrap-all.ensures)) in
    let k = q.0 in
    (ap (λ z. z + c.unwrap-all.result) x.0 ∙ sym q.2, omega arith)
