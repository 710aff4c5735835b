use Rattle.std.proofs.Common.{sym, subst, ◌∙◌}
use Rattle.reuse_print.proofs.OutputLemmas.{Written, more_written, whole_rest}
use Rattle.reuse_print.proofs.output.write_text.Goals as goal

pub parts-preserved : goal.parts-preserved
parts-preserved g c =
    let old = g.O.Sink.contents c.args.out.now in
    let mid = g.O.Sink.contents c.parts.out in
    let new = g.O.Sink.contents c.write_part.new.self in
    let text = c.args.text.now in
    record {
      written =
          subst (λ l. Written old new text l) (sym (whole_rest c.in-Ok.taken c.parts.rest.now))
          (more_written old mid new text c.parts.rest.now c.in-Ok.taken c.parts.invariant.written
          c.in-Ok.ensures.bytes);
      kept = c.in-Ok.ensures.kept ∙ c.parts.invariant.kept;
    }
