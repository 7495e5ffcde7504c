-- What the type of a model says of its bytes, and what taking up gives. Assumes nothing.
use Rattle.std.specs.Prelude.{◌≡◌, ℕ, ◌+◌, ◌<◌, ◌≤◌, List, [], ◌∷◌, ◌++◌}
use Rattle.fault.specs.Judged.{Meets, FirstRefused}
use Rattle.fault.specs.declared.refusal.Fault.{Fault}
use Rattle.model.specs.declared.op.Op.TheVariants.{Prefix, Name}
use Rattle.model.specs.declared.op.Use.TheVariants.{Part}
use Rattle.model.specs.Ops.{shape}
use Rattle.model.specs.Terms.{Open, height}
use Rattle.model.specs.File.{events, masks, rows, definitions, definition_at_lem, row_at, process, body}
use Rattle.model.specs.Rules.{file_rules, settle_rules}

-- how many of each there are
abbrev pub Few : List ℕ → Type 0
Few b = (events b ≤ 62) × (masks b ≤ 64) × (rows b ≤ 4096) × (definitions b ≤ 64)

-- parts stand before wholes
abbrev pub LeftBefore : List ℕ → Type 0
LeftBefore b = (i : ℕ) → i < rows b → (shape (row_at b i).op).left ≡ Part → (row_at b i).left < i

abbrev pub RightBefore : List ℕ → Type 0
RightBefore b = (i : ℕ) → i < rows b → (shape (row_at b i).op).right ≡ Part → (row_at b i).right < i

-- a prefix has a visible event of the model, and a name one of its definitions
abbrev pub Visible : List ℕ → Type 0
Visible b = (i : ℕ) → i < rows b → (a : ℕ) → (row_at b i).op ≡ Prefix a → 2 ≤ a

abbrev pub Known : List ℕ → Type 0
Known b = (i : ℕ) → i < rows b → (a : ℕ) → (row_at b i).op ≡ Prefix a → a < events b + 2

abbrev pub Named : List ℕ → Type 0
Named b = (i : ℕ) → i < rows b → (d : ℕ) → (row_at b i).op ≡ Name d → d < definitions b

-- no row repeats an earlier one
abbrev pub Apart : List ℕ → Type 0
Apart b = (i : ℕ) → i < rows b → (j : ℕ) → (j < i) × (row_at b j ≡ row_at b i) → ⊥

-- no process is higher than 64
abbrev pub Low : List ℕ → Type 0
Low b = (i : ℕ) → i < rows b → height (process b i) ≤ 64

-- a definition's body is a row
abbrev pub Bodied : List ℕ → Type 0
Bodied b = (d : ℕ) → d < definitions b → definition_at_lem b d < rows b

-- the body of definition d has only definitions below d open
abbrev pub Lower : List ℕ → Type 0
Lower b = (d : ℕ) → d < definitions b → (e : ℕ) → Open (body b d) e → e < d

-- all of this but the last: what a drafted model's type says
pub record Facts (b : List ℕ) : Type 0 where
  pub few : Few b
  pub left : LeftBefore b
  pub right : RightBefore b
  pub visible : Visible b
  pub known : Known b
  pub named : Named b
  pub apart : Apart b
  pub low : Low b
  pub bodied : Bodied b

-- a section of no bytes, right after the head
abbrev pub no_section : List ℕ
no_section = 0 ∷ 0 ∷ 0 ∷ 28 ∷ 0 ∷ 0 ∷ 0 ∷ 0 ∷ []

-- the file without masks, rows and definitions, which stands in for a refused one
unfoldable pub empty_file : List ℕ
empty_file = (0 ∷ 1 ∷ 0 ∷ 3 ∷ []) ++ (no_section ++ (no_section ++ no_section))

-- what a file that was taken up gives: itself if it is well formed, and the one without rows if it is refused
pub record TakenUp (b taken : List ℕ) : Type 0 where
  pub formed : Meets (file_rules b) → taken ≡ b
  pub refused : (f : Fault) → FirstRefused (file_rules b) f → taken ≡ empty_file

-- the same of a drafted model that was settled
pub record SettledUp (b taken : List ℕ) : Type 0 where
  pub settled : Meets (settle_rules b) → taken ≡ b
  pub refused : (f : Fault) → FirstRefused (settle_rules b) f → taken ≡ empty_file
