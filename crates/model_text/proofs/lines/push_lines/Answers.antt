use Rattle.std.proofs.Common.{string_bytes, ◌∙◌, arith}
use Rattle.model_text.proofs.Grown.{grown}
use Rattle.model_text.proofs.lines.push_lines.Goals as goal

pub loop-k-preserved : goal.loop-k-preserved
loop-k-preserved g c =
    record {
      each = λ text makes. grown text (string_bytes c.args.out.now) (string_bytes c.loop-k.out) _ _ c.loop-k.k (c.loop-k.invariant.each text (λ k s h. makes k s (omega arith))) (c.deref.ensures ∙ makes c.loop-k.k c.in_ok-piece.piece (omega arith) c.in_ok-piece.ensures) c.in_ok-push_str.ensures.bytes;
    }
