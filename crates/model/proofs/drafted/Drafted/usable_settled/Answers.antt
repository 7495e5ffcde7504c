-- A settled draft keeps its bytes, and no other answer is true of it; a refused one is the file without rows.
use Rattle.std.proofs.Common.{sym, refl}
use Rattle.model.specs.Sound.{empty_file}
use Rattle.fault.proofs.Exactly.{never_both}
use Rattle.model.proofs.Facts.{facts_empty, lower_settled, lower_empty}
use Rattle.model.proofs.drafted.Drafted.usable_settled.Goals as goal

pub returns-in-Ok : goal.returns-in-Ok
returns-in-Ok c =
    let x = c.in-Ok.ensures in
    let m = c.args.self.now in
    record {
      taken = record { settled = λ _. refl; refused = λ f t. absurd (never_both f (x.only_told f t)) };
      facts = record { few = m.few; left = m.left; right = m.right; visible = m.visible; known = m.known; named = m.named; apart = m.apart; low = m.low; bodied = m.bodied };
      lower = lower_settled _ (x.ok refl);
    }

pub returns-in-Err : goal.returns-in-Err
unfolding empty_file
returns-in-Err c =
    let x = c.in-Err.ensures in
    record {
      taken = record { settled = λ m. absurd (never_both _ (sym (x.only_ok m))); refused = λ f t. refl };
      facts = facts_empty;
      lower = lower_empty;
    }
