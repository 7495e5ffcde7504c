use Rattle.std.proofs.Common.{◌+◌, ◌^◌, ◌≤◌, arith, pow_mono}
use Rattle.std.proofs.lemmas.Bool.{eqb-true, eq-eqb, le-leb}
use Rattle.std.proofs.lemmas.Nat.{pow_pos, div_below}
use Rattle.lent_bytes.proofs.Bitwise.{below_from_shift}
use Rattle.model.proofs.checks.within.Goals as goal

pub returns-else-e-ge62 : goal.returns-else-e-ge62
returns-else-e-ge62 c = (
  λ e. below_from_shift c.args.mask (c.args.e + 2) (eqb-true _ _ e),
  λ h. eq-eqb _ _ (omega (arith, div_below c.args.mask (2 ^ (c.args.e + 2)) 1 (pow_pos (c.args.e + 2)) (omega arith))),
)

pub returns-then-e-ge62 : goal.returns-then-e-ge62
returns-then-e-ge62 c = (λ _. let h : 64 ≤ c.args.e + 2 = omega arith in let p : 2 ^ 64 ≤ 2 ^ (c.args.e + 2) = pow_mono h in omega arith, λ _. le-leb 62 c.args.e c.if-e-ge62.true)
