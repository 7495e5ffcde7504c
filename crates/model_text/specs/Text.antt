-- A model as text: its alphabet, masks, rows and definitions in the usual notation of CSP. Assumes nothing.
use Rattle.std.specs.Prelude.{◌≡◌, ℕ, ◌+◌, ◌%◌, ◌^◌, cond, List, [], ◌++◌, codes, decimal, ◌==◌}
use Rattle.std.specs.List.{range_with_len, flat_map}
use Rattle.lent_bytes.specs.Bits.{bit}
use Rattle.fault.specs.declared.refusal.Fault.{Fault}
use Rattle.fault.specs.Judged.{Meets, FirstRefused}
use Rattle.fault.specs.Words.{code_text, told}
use Rattle.model.specs.File.{events, masks, rows, definitions, mask_at_lem, row_at, definition_at_lem, body}
use Rattle.model.specs.Opening.{open_of}
use Rattle.model.specs.Rules.{file_rules, settle_rules}
use Rattle.model.specs.Words.{row_text_lem}

-- one member of a set, after a comma unless it is the lowest
abbrev pub member_text_lem : List ℕ → ℕ → ℕ → List ℕ
member_text_lem mark w e = cond (bit w e) (cond (w % 2 ^ e == 0) [] (codes ", ") ++ (mark ++ decimal e)) []

-- the bits of a number as a set, each member after the mark
unfoldable pub set_text_lem : List ℕ → ℕ → List ℕ
set_text_lem mark w = codes "{" ++ (flat_map (member_text_lem mark w) (range_with_len 0 64) ++ codes "}")

-- the visible events, 2 to E + 1
abbrev pub alphabet_text_lem : ℕ → List ℕ
alphabet_text_lem e = cond (e == 0) (codes "alphabet {}\n") (codes "alphabet {2.." ++ (decimal (e + 1) ++ codes "}\n"))

unfoldable pub mask_line_lem : List ℕ → ℕ → List ℕ
mask_line_lem b k = codes "M" ++ (decimal k ++ (codes " = " ++ (set_text_lem [] (mask_at_lem b k) ++ codes "\n")))

unfoldable pub row_line_lem : List ℕ → ℕ → List ℕ
row_line_lem b i = codes "R" ++ (decimal i ++ (codes " = " ++ (row_text_lem (row_at b i) ++ codes "\n")))

-- a definition, and the definitions that are open in its body
unfoldable pub definition_line_lem : List ℕ → ℕ → List ℕ
definition_line_lem b d =
    codes "N" ++ (decimal d ++ (codes " = R" ++ (decimal (definition_at_lem b d) ++ (codes " opens " ++ (set_text_lem (codes "N") (open_of (body b d)) ++ codes "\n")))))

unfoldable pub model_text_lem : List ℕ → List ℕ
model_text_lem b =
    alphabet_text_lem (events b) ++ flat_map (mask_line_lem b) (range_with_len 0 (masks b)) ++ flat_map (row_line_lem b) (range_with_len 0 (rows b)) ++ flat_map (definition_line_lem b) (range_with_len 0 (definitions b))

-- a refusal after a word: its number and place, then a line in words
unfoldable pub refusal_text_lem : List ℕ → Fault → List ℕ
refusal_text_lem word f =
    word ++ (codes " " ++ (code_text f ++ (codes "\n" ++ (told f ++ codes "\n"))))

-- a refused model
abbrev pub refused_text_lem : Fault → List ℕ
refused_text_lem f = refusal_text_lem (codes "MODEL") f

-- what is shown of a file: the first refusal of the check, else that of settling, else the model
pub record Shows (b text : List ℕ) : Type 0 where
  pub file : (f : Fault) → FirstRefused (file_rules b) f → text ≡ refused_text_lem f
  pub settling : (f : Fault) → Meets (file_rules b) → FirstRefused (settle_rules b) f → text ≡ refused_text_lem f
  pub whole : Meets (file_rules b) → Meets (settle_rules b) → text ≡ model_text_lem b
