-- A row whose steps were listed is one of the model's, so it has a slot, and its lines are those of the slot's steps.
use Rattle.std.proofs.Common.{◌≡◌, ℕ, ◌+◌, ◌*◌, ◌<◌, ◌≤◌, List, [], ◌++◌, length, get_or, Ok, vec_items, vec_len, ap, ◌∙◌, ⊎_elim, arith}
use Rattle.std.specs.List.{range_with_len, flat_map}
use Rattle.std.proofs.lemmas.List.{length-append, length-take}
use Rattle.std.proofs.lemmas.Bool.{cases_lt}
use Rattle.model.specs.declared.op.Row.{Row}
use Rattle.model.specs.File.{rows, rows_of}
use Rattle.model.proofs.Formed.{rows_length}
use Rattle.process.specs.declared.work.Workspace.{Workspace}
use Rattle.process.specs.Listed.{ListedAt, StepsListed}
use Rattle.process.specs.Slots.{blank_step, slot}
use Rattle.process_text.specs.Shown.{ShowsSteps, listed, step_text}
use Rattle.process_text.proofs.Slotting.{slot_joined}

module _ (b : List ℕ) (r cap n : ℕ) (rs : List Row) (w : Workspace) (x : StepsListed b r cap rs w (Ok n)) where
  pub row_known : r < rows b
  row_known = ⊎_elim (λ h. h) (λ h. absurd (let e = x.no_row h in let z : ◌≡◌ {A = ℕ} 0 1 = cc in omega arith)) (cases_lt r (rows b))

  pub listed_at : ListedAt b rs w r n
  listed_at = x.row row_known

  pub slot_known : r < vec_len w.lens
  slot_known =
      let l = listed_at in
      let h = row_known in
      omega (arith, l.slots, rows_length b, ap length l.begun.1, length-append (rows_of b) l.begun.0, length-take w.used rs)

  pub shows : (head text : List ℕ) → head ≡ [] → text ≡ head ++ flat_map (λ k. step_text rs (get_or (vec_items w.pool) (r * 256 + k) blank_step)) (range_with_len 0 n) → ShowsSteps b r cap text
  shows head text none e =
      let l = listed_at in
      let s = slot_known in
      let few = l.few in
      let whole : r * 256 + n ≤ length (vec_items w.pool) = omega (arith, w.pool.ok.0, w.sizes) in
      let each : ℕ → List ℕ = λ k. step_text rs (get_or (vec_items w.pool) (r * 256 + k) blank_step) in
      listed rs w.used (slot w r n) row_known l.begun l.lists (e ∙ ap (λ (z : List ℕ). z ++ flat_map each (range_with_len 0 n)) none ∙ slot_joined (step_text rs) blank_step (vec_items w.pool) (r * 256) n whole)
