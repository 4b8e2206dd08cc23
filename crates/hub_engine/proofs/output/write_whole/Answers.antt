use Rattle.std.proofs.Common.{◌++◌, take, drop, sym, ap, ◌∙◌, append_assoc}
use Rattle.std.proofs.lemmas.List.{take-append-drop}
use Rattle.hub_engine.proofs.Bytes.{appends_more, whole_rest}
use Rattle.hub_engine.proofs.output.write_whole.Goals as goal

pub loop-rest-preserved : goal.loop-rest-preserved
loop-rest-preserved g c =
    let sent = c.loop-rest.invariant in
    let rest = c.loop-rest.rest.now in
    let n = c.in_ok-count.count in (
      sent.0 ++ take n rest,
      sent.1 ∙ ap (λ t. sent.0 ++ t) (sym (take-append-drop n rest)) ∙ sym (append_assoc sent.0 (take n rest) (drop n rest)) ∙ ap (λ t. (sent.0 ++ take n rest) ++ t) (sym (whole_rest rest n)),
      appends_more (g.W.Write.contents c.args.writer.now.writer) (g.W.Write.contents c.loop-rest.writer.writer) (g.W.Write.contents c.write_once.new.self.writer) sent.0 (take n rest) sent.2 c.in_ok-count.ensures.bytes,
      c.in_ok-count.ensures.failures ∙ sent.3,
      c.in_ok-count.ensures.asked.1 ∙ sent.4,
    )
