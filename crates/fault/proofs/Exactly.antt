-- Two answers that are judged by the same rules are equal: a rule's first failing place is one place,
-- and a rule that holds everywhere refuses nothing.
use Rattle.std.proofs.Common.{◌≡◌, ℕ, List, [], ◌∷◌, Ok, Err, sym, refl, ap, ◌∙◌, subst, inl, inr, ⊎_elim, arith}
use Rattle.std.proofs.lemmas.Bool.{cases_order}
use Rattle.fault.specs.declared.refusal.Fault.{Fault}
use Rattle.fault.specs.First.{FirstFail}
use Rattle.fault.specs.Judged.{Rule, Passes, Refused, Everywhere, Meets, FirstRefused, Judged, Exact, Answer, fault}

pub first_once : (P : ℕ → Type 0) (n m p q : ℕ) → FirstFail P n p → FirstFail P m q → p ≡ q
first_once P n m p q f g =
    ⊎_elim (λ e. e) (⊎_elim (λ l. absurd (f.fails (g.before p l))) (λ l. absurd (g.fails (f.before q l)))) (cases_order p q)

pub same_fault : (f g : Fault) → f.refusal ≡ g.refusal → f.place ≡ g.place → f ≡ g
same_fault f g a b = ap (λ n. fault n f.place) a ∙ ap (λ p. fault g.refusal p) b

not_both : (c : Rule) (f : Fault) → Refused c f → Everywhere c → ⊥
not_both c f r h = r.first.fails (h f.place r.first.within)

errs : (cs : List Rule) (f g : Fault) → FirstRefused cs f → FirstRefused cs g → f ≡ g
errs [] f g a b = absurd a
errs (c ∷ cs) f g (inl a) (inl b) = same_fault f g (a.told ∙ sym b.told) (first_once _ _ _ _ _ a.first b.first)
errs (c ∷ cs) f g (inl a) (inr b) = absurd (not_both c f a b.0)
errs (c ∷ cs) f g (inr a) (inl b) = absurd (not_both c g b a.0)
errs (c ∷ cs) f g (inr a) (inr b) = errs cs f g a.1 b.1

mixed : (cs : List Rule) (g : Fault) → Meets cs → FirstRefused cs g → ⊥
mixed [] g a b = absurd b
mixed (c ∷ cs) g a (inl b) = not_both c g b a.0
mixed (c ∷ cs) g a (inr b) = mixed cs g a.1 b.1

pub judged_once : (cs : List Rule) (r s : Answer) → Judged cs r → Judged cs s → r ≡ s
judged_once cs (Ok u) (Ok v) a b = refl
judged_once cs (Ok u) (Err g) a b = absurd (mixed cs g a b)
judged_once cs (Err f) (Ok v) a b = absurd (mixed cs f b a)
judged_once cs (Err f) (Err g) a b = ap Err (errs cs f g a b)

-- a judged answer is exact both ways
pub exactly : (cs : List Rule) (r : Answer) → Judged cs r → Exact cs r
exactly cs r j =
    record {
      ok = λ e. subst (Judged cs) e j;
      only_ok = λ m. judged_once cs r (Ok tt) j m;
      told = λ f e. subst (Judged cs) e j;
      only_told = λ f t. judged_once cs r (Err f) j t;
    }

-- no answer is both
pub never_both : (f : Fault) → ◌≡◌ {A = Answer} (Ok tt) (Err f) → ⊥
never_both f e = let z : ◌≡◌ {A = ℕ} 0 1 = cc in omega arith

-- one rule is a list of one
pub alone : (c : Rule) (r : Answer) → Passes c r → Judged (c ∷ []) r
alone c (Ok u) h = (h, tt)
alone c (Err f) h = inl h
