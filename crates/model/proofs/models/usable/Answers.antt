-- An accepted file is itself, and no other answer is true of it; a refused one is the file without rows.
use Rattle.std.proofs.Common.{sym, refl}
use Rattle.model.specs.Sound.{empty_file}
use Rattle.fault.proofs.Exactly.{never_both}
use Rattle.model.proofs.Facts.{facts_formed, facts_empty}
use Rattle.model.proofs.models.usable.Goals as goal

pub returns-in-Ok : goal.returns-in-Ok
returns-in-Ok c =
    let x = c.in-Ok.ensures in
    record {
      taken = record { formed = λ _. refl; refused = λ f t. absurd (never_both f (x.only_told f t)) };
      facts = facts_formed _ (x.ok refl);
    }

pub returns-in-Err : goal.returns-in-Err
unfolding empty_file
returns-in-Err c =
    let x = c.in-Err.ensures in
    record {
      taken = record { formed = λ m. absurd (never_both _ (sym (x.only_ok m))); refused = λ f t. refl };
      facts = facts_empty;
    }
