use Rattle.std.proofs.Common.{◌≡◌, ℕ, ◌+◌, ◌<◌, ◌≤◌, Some, sym, ap, ◌∙◌, arith}
use Rattle.table.specs.Form.{states, offset, size, step}
use Rattle.table.proofs.Entries.{steps_none, steps_past, steps_at, lawful}
use Rattle.table.proofs.view.Table.step.Goals as goal

pub returns-then-state-states_of : goal.returns-then-state-states_of
returns-then-state-states_of c =
    let t = c.args.self.now in
    let out : states t.bytes.now ≤ c.args.state = omega (arith, c.states_of.ensures) in
    record { entry = sym (steps_none t.bytes.now c.args.state c.args.k out); lawful = lawful t.bytes.now t.pairs t.formed t.ended }

pub returns-then-k-size : goal.returns-then-k-size
returns-then-k-size c =
    let t = c.args.self.now in
    let here : c.args.state < states t.bytes.now = omega (arith, c.states_of.ensures) in
    let past : size t.bytes.now c.args.state ≤ c.args.k = omega (arith, c.size_of-size.ensures) in
    record { entry = sym (steps_past t.bytes.now c.args.state c.args.k here past); lawful = lawful t.bytes.now t.pairs t.formed t.ended }

pub returns : goal.returns
returns c =
    let t = c.args.self.now in
    let here : c.args.state < states t.bytes.now = omega (arith, c.states_of.ensures) in
    let within : c.args.k < size t.bytes.now c.args.state = omega (arith, c.size_of-size.ensures) in
    let is : c.step_at.result ≡ step t.bytes.now (offset t.bytes.now c.args.state + c.args.k) = c.step_at.ensures ∙ ap (λ (o : ℕ). step t.bytes.now (o + c.args.k)) c.offset_of-from.ensures in
    record {
      entry = ap Some is ∙ sym (steps_at t.bytes.now c.args.state c.args.k here within);
      lawful = lawful t.bytes.now t.pairs t.formed t.ended;
    }
