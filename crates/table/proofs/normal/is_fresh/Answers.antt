use Rattle.std.proofs.Common.{ℕ, ◌*◌, ◌^◌, ◌%◌, ◌<◌, length, drop, rules, sym, subst, ap, ◌∙◌, refl}
use lib.Bits.{bit_or}
use Rattle.std.proofs.lemmas.Nat.{one_shl}
use Rattle.std.proofs.lemmas.List.{length_push}
use Rattle.std.proofs.lemmas.Bool.{false≢true, both_ways}
use Rattle.table.specs.Form.{size, steps_of}
use Rattle.table.specs.Met.{Fresh}
use Rattle.table.proofs.Entries.{entry_next, entry_end, lawful, placed, places, event_at, normal_from, from_normal}
use Rattle.table.proofs.Meeting.{MeetsAll, met_none, fresh_none, not_fresh, fresh_more, met_more}
use Rattle.table.proofs.normal.is_fresh.Goals as goal

pub loop-step-init : goal.loop-step-init
loop-step-init c =
    let at = places c.args.table.now.bytes.now c.args.state in
    (met_none at, fresh_none at)

pub returns-then-bit_at : goal.returns-then-bit_at
returns-then-bit_at c =
    let b = c.args.table.now.bytes.now in
    let xs = steps_of b c.args.state in
    let here = entry_next (λ s. drop s.k (steps_of s.table.bytes.now s.state)) xs (search rules) c.loop-step.yielded c.loop-step.step-iterator c.loop-step.yielded_by c.next.result c.next.new.self c.next.ensures.steps c.in-Some.step c.in-Some.is in
    let p = placed b c.args.state (length c.loop-step.yielded) c.in-Some.step here in
    let is = event_at b c.args.state (length c.loop-step.yielded) c.in-Some.step here in (
      λ e. absurd (false≢true e),
      λ n. absurd (not_fresh (places b c.args.state) (length c.loop-step.yielded) c.loop-step.met c.loop-step.invariant.0 c.in-Some.step.event (size b c.args.state) (sym is)
          (sym c.bit_at.ensures ∙ c.if-bit_at.true) p.within (from_normal b c.args.state p.state n)),
    )

pub overflow_shl-met : goal.overflow_shl-met
overflow_shl-met c =
    let t = c.args.table.now in
    let b = t.bytes.now in
    let xs = steps_of b c.args.state in
    let here = entry_next (λ s. drop s.k (steps_of s.table.bytes.now s.state)) xs (search rules) c.loop-step.yielded c.loop-step.step-iterator c.loop-step.yielded_by c.next.result c.next.new.self c.next.ensures.steps c.in-Some.step c.in-Some.is in
    (lawful b t.pairs t.formed t.ended).events c.args.state (length c.loop-step.yielded) c.in-Some.step here

pub loop-step-preserved : goal.loop-step-preserved
loop-step-preserved c =
    let t = c.args.table.now in
    let b = t.bytes.now in
    let n = length c.loop-step.yielded in
    let e : ℕ = c.in-Some.step.event in
    let at = places b c.args.state in
    let xs = steps_of b c.args.state in
    let here = entry_next (λ s. drop s.k (steps_of s.table.bytes.now s.state)) xs (search rules) c.loop-step.yielded c.loop-step.step-iterator c.loop-step.yielded_by c.next.result c.next.new.self c.next.ensures.steps c.in-Some.step c.in-Some.is in
    let is = sym (event_at b c.args.state n c.in-Some.step here) in
    let low : e < 64 = (lawful b t.pairs t.formed t.ended).events c.args.state n c.in-Some.step here in
    let next = bit_or c.loop-step.met (1 * 2 ^ e % 2 ^ 64) in
    let more = sym (length_push c.loop-step.yielded c.in-Some.step) in (
      subst (λ (m : ℕ). MeetsAll at m next) more (met_more at n c.loop-step.met c.loop-step.invariant.0 e next is (ap (bit_or c.loop-step.met) (one_shl e 64 low))),
      subst (Fresh at) more (fresh_more at n c.loop-step.met c.loop-step.invariant.0 e is (λ q. both_ways c.bit_at.result c.if-bit_at.false (c.bit_at.ensures ∙ q)) c.loop-step.invariant.1),
    )

pub returns : goal.returns
returns c =
    let b = c.args.table.now.bytes.now in
    let xs = steps_of b c.args.state in
    let all = entry_end (λ s. drop s.k (steps_of s.table.bytes.now s.state)) xs (search rules) c.loop-step.yielded c.loop-step.step-iterator c.loop-step.yielded_by c.next.result c.next.new.self c.next.ensures.steps c.in-None.is in
    (λ _. normal_from b c.args.state (subst (Fresh (places b c.args.state)) all c.loop-step.invariant.1), λ _. refl)
