use Rattle.std.proofs.Common.{◌≡◌, eqb, drop, find, option_map, rules, tests}
use Rattle.std.proofs.lemmas.Iterator.Consumers.{YieldsList-from_first}
use Rattle.std.proofs.lemmas.Iterator.Search.{find_from_yields_List}
use Rattle.table.specs.declared.step.Step.{Step}
use Rattle.table.specs.Form.{steps_of}
use Rattle.table.specs.Steps.{follow}
use Rattle.table.proofs.Entries.{lawful}
use Rattle.table.proofs.Following.{lone_of, leads_by, follow_by}
use Rattle.table.proofs.view.NormalTable.after.Goals as goal

pub returns : goal.returns
returns c =
    let t = c.args.self.now.table in
    let b = t.bytes.now in
    let xs = steps_of b c.args.state in
    let once = lone_of b c.args.self.now.normal in
    let led : c.map.result ≡ option_map (λ (x : Step). x.target) c.find.result = search (rules, tests) in
    let found : option_map (λ (x : Step). x) c.find.result ≡ find (λ (x : Step). eqb x.event c.args.event) xs =
    find_from_yields_List (λ (x : Step). eqb x.event c.args.event) c.find.new.self _ c.find.result c.find.ensures.ran (YieldsList-from_first (λ y. y) (λ s. drop s.k (steps_of s.table.bytes.now s.state)) xs (search rules)) (λ x r q k. search (rules, tests)) in
    let is : c.map.result ≡ follow xs c.args.event = follow_by xs c.args.event c.map.result c.find.result led found in
    record {
      value = is;
      leads = leads_by xs c.args.event c.map.result (once.once c.args.state) is;
      lawful = lawful b t.pairs t.formed t.ended;
      lone = once;
    }
