use Rattle.std.proofs.Common.{string_bytes, rules}
use Rattle.model.specs.Models.{drafted_file}
use Rattle.model_text.specs.Text.{mask_line_lem, row_line_lem, definition_line_lem}
use Rattle.model_text.proofs.Assembled.{assembled}
use Rattle.model_text.proofs.model_text.Goals as goal

pub returns : goal.returns
returns c =
    assembled (drafted_file c.args.draft.now) c.file-file.result.bytes.now (string_bytes c.in_ok-out.out) (string_bytes c.push_lines.new.out) (string_bytes c.push_lines-2.new.out) (string_bytes c.push_lines-3.new.out) c.events.result c.masks.result c.rows.result c.definitions.result c.file-file.ensures c.events.ensures c.masks.ensures.value c.rows.ensures.value c.definitions.ensures.value c.in_ok-out.ensures (c.in_ok-push_lines.ensures.each (mask_line_lem c.file-file.result.bytes.now) (λ k s h p. search rules)) (c.in_ok-push_lines-2.ensures.each (row_line_lem c.file-file.result.bytes.now) (λ k s h p. search rules)) (c.in_ok-push_lines-3.ensures.each (definition_line_lem (drafted_file c.args.draft.now)) (λ k s h p. search rules))
