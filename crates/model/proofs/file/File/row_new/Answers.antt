use Rattle.std.proofs.Common.{◌≡◌, ℕ, ◌≢◌, List, rules, refl, arith}
use Rattle.std.proofs.lemmas.Iterator.{cases_from_all, YieldsList-from_range}
use borrow.Author.Tests.{tests}
use Rattle.model.specs.File.{row_bytes_lem}
use Rattle.model.proofs.Apart.{decides_below}
use Rattle.model.proofs.file.File.row_new.Goals as goal

pub returns : goal.returns
returns c =
    let b : List ℕ = c.args.self.now.bytes.now in
    let i : ℕ = c.args.i in
    decides_below (row_bytes_lem b) (row_bytes_lem b i) i c.all.result (cases_from_all _ _ _ (λ k. row_bytes_lem b k ≢ row_bytes_lem b i) (λ k. row_bytes_lem b k ≡ row_bytes_lem b i) c.all.ensures.ran (YieldsList-from_range 0 i i refl (omega arith)) (λ x q k. search (rules, tests)) (λ x q k. search (rules, tests)))
