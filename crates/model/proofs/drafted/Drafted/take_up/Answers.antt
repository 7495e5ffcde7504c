use Rattle.model.proofs.drafted.Drafted.take_up.Goals as goal

pub invariant_of-result : goal.invariant_of-result
invariant_of-result c =
    let f = c.usable-bytes.ensures.facts in
    record {
      few = f.few;
      left = f.left;
      right = f.right;
      visible = f.visible;
      known = f.known;
      named = f.named;
      apart = f.apart;
      low = f.low;
      bodied = f.bodied;
    }
