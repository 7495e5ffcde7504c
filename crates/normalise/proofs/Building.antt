-- All nodes written are all there is: the table is theirs, and nothing larger was wanted.
use Rattle.std.proofs.Common.{◌≡◌, ℕ, ◌≤◌, min, List, length, take, Some, None, Option, sym, subst, inl, inr, arith}
use Rattle.std.specs.List.{slice_get}
use Rattle.std.proofs.lemmas.List.{length-take}
use Rattle.systems.specs.Meaning.{Steps, Lawful}
use Rattle.systems.specs.Tables.{table_lts}
use Rattle.systems.proofs.Entries.{some_not_none}
use Rattle.sets.specs.declared.state_set.StateSet.{StateSet}
use Rattle.normalise.specs.Closure.{Rel}
use Rattle.normalise.specs.Made.{TableMade, TableWritten, Filled, Built}
use Rattle.normalise.specs.Nodes.{Found}
use Rattle.normalise.specs.Rooms.{Wants}
use Rattle.normalise.proofs.Finals.{KeptLaw, normal_of}
use Rattle.normalise.proofs.Pigeons.{found_few}
use Rattle.normalise.proofs.Whole.{not_large}

pub law_of : (b : List ℕ) → Lawful (table_lts b) → KeptLaw (Steps (table_lts b))
law_of b m =
    record {
      low = λ i e j s. m.low i j s.0 e s.1;
      ended = λ i j s e k t.
          some_not_none (e, k) (sym (subst (λ (xs : List (ℕ × ℕ)). slice_get xs t.0 ≡ Some (e, k)) (m.ended i j s.0 s.1) t.1));
    }

pub filled : (R : Rel) (s : ℕ) (rows : List StateSet) (len many bytes : ℕ) (out : List ℕ) (k : ℕ) → KeptLaw R → Found R s rows len len 1 → len ≤ many → length out ≡ bytes → TableMade R rows len out k → Filled R s many bytes out k
filled R s rows len many bytes out k law f q z t =
    let w = t.whole in
    record {
      table = normal_of R s rows len (take k out) t.steps f law w;
      within = t.within;
      rest = t.rest;
      room = wanted;
    }
  where
    wanted : Wants R s many bytes → ⊥
    wanted (inl m) = found_few R s rows len many q f m
    wanted (inr m) =
        not_large R s rows len (take k out) t.steps f t.whole.written (min bytes 1048576)
        (omega (arith, t.whole.sized, t.whole.limit, length-take k out, t.within)) m

pub built : (R : Rel) (s : ℕ) (rows : List StateSet) (len many bytes : ℕ) (out : List ℕ) (r : Option ℕ) → KeptLaw R → Found R s rows len len 1 → len ≤ many → length out ≡ bytes → TableWritten R s rows len bytes out r → Built R s many bytes out r
built R s rows len many bytes out None law f q z t = inr t
built R s rows len many bytes out (Some k) law f q z t = filled R s rows len many bytes out k law f q z t
