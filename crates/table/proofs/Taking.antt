-- A check that is exact decides whether every rule holds, what it gives of some rules goes into a check of more, and what holds
-- of the rules holds of the view.
use Rattle.std.proofs.Common.{◌≡◌, ℕ, Bool, false, List, [], ◌∷◌, ◌++◌, is_ok, Ok, Err, Decides, refl, inl, inr, arith}
use Rattle.std.proofs.lemmas.Bool.{both_ways}
use Rattle.std.proofs.lemmas.Bool.Decides.{not_from_Decides}
use Rattle.fault.specs.Judged.{Rule, Answer, Meets, Exact, Passes, Judged, FirstRefused}
use Rattle.fault.specs.declared.refusal.Fault.{Fault}
use Rattle.fault.proofs.Exactly.{exactly}
use Rattle.table.specs.Taken.{Taken, bare}
use Rattle.table.proofs.Bare.{bare_is}

pub exact_decides : (cs : List Rule) (r : Answer) (t : Bool) → Exact cs r → t ≡ is_ok r → Decides t (Meets cs)
exact_decides cs (Ok u) t x e = (λ _. x.ok refl, λ _. e)
exact_decides cs (Err f) t x e =
    (λ h. absurd (both_ways t e h), λ m. let q = x.only_ok m in let z : ◌≡◌ {A = ℕ} 0 1 = cc in absurd (omega arith))

-- one rule more: what the rules before it refuse, and its own answer where they hold
first_more : (cs ds : List Rule) (f : Fault) → FirstRefused cs f → FirstRefused (cs ++ ds) f
first_more [] ds f r = absurd r
first_more (c ∷ cs) ds f (inl r) = inl r
first_more (c ∷ cs) ds f (inr r) = inr (r.0, first_more cs ds f r.1)

judged_last : (cs : List Rule) (c : Rule) (r : Answer) → Meets cs → Passes c r → Judged (cs ++ c ∷ []) r
judged_last [] c (Ok u) m p = (p, tt)
judged_last [] c (Err f) m p = inl p
judged_last (d ∷ cs) c (Ok u) m p = (m.0, judged_last cs c (Ok u) m.1 p)
judged_last (d ∷ cs) c (Err f) m p = inr (m.0, judged_last cs c (Err f) m.1 p)

module _ (cs : List Rule) (c : Rule) (r : Answer) (x : Exact cs r) where
  pub refused_before : (f : Fault) → r ≡ Err f → Exact (cs ++ c ∷ []) (Err f)
  refused_before f e = exactly (cs ++ c ∷ []) (Err f) (first_more cs (c ∷ []) f (x.told f e))

  pub judged_by : (q : Answer) → r ≡ Ok tt → Passes c q → Exact (cs ++ c ∷ []) q
  judged_by q e p = exactly (cs ++ c ∷ []) q (judged_last cs c q (x.ok e) p)

module _ (cs : List Rule) (b : List ℕ) (t : Bool) (d : Decides t (Meets cs)) where
  pub taken_bare : t ≡ false → Taken cs b bare
  taken_bare e = record { whole = λ m. absurd (not_from_Decides t d e m); refused = λ _. bare_is }
