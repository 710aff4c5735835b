use Rattle.std.proofs.Common.{◌∙◌, ap, subst}
use Rattle.std.proofs.lemmas.List.{take_all}
use Rattle.reuse_change.specs.Files.{tree_of}
use Rattle.reuse_store.proofs.AskedLemmas.{reads_more}
use Rattle.reuse_report.specs.Drawn.{AreDiffs}
use Rattle.reuse_report.specs.WriterFaults.{IsOfDiff}
use Rattle.reuse_report.proofs.DiffLemmas.{handed, of_diff_after}
use Rattle.reuse_report.proofs.DrawnLemmas.{drawn_step}
use Rattle.reuse_report.proofs.drawn.draw_all.Goals as goal

pub loop-change-preserved : goal.loop-change-preserved
loop-change-preserved g c =
    let so_far = c.loop-change.invariant in
    let read = c.draw_one.ensures.reads in
    record {
      reads = reads_more g.S.Store _ _ _ so_far.reads read;
      drawn = λ honest before after tree steps.
          let was = read.was_honest honest in
          drawn_step c.args.direction before after c.args.changes.now c.loop-change.change-index c.change-item.result
          c.loop-change.text.items c.draw_one.new.text.items c.loop-change-test.true c.change-item.is
          steps (so_far.drawn was before after tree steps)
          (c.in_ok-draw_one.ensures.drawn honest before after (ap tree_of (so_far.reads.files was) ∙ tree));
    }

pub returns-clause-drawn : goal.returns-clause-drawn
returns-clause-drawn g c honest before after tree steps =
    let changes = c.args.changes.now in
    subst (λ l. AreDiffs before after l c.loop-change.text.items)
    (take_all c.loop-change.change-index changes c.loop-change-test.false)
    (c.loop-change.invariant.drawn honest before after tree steps)

pub returns-in_err-draw_one-clause-fault : goal.returns-in_err-draw_one-clause-fault
returns-in_err-draw_one-clause-fault g c =
    let store = g.S.Store in
    let old = c.args.store.now in
    let new = c.draw_one.new.store in
    let fault = c.in_err-draw_one.field-0.0 in
    handed (IsOfDiff store old new) fault c.from_residual.result c.from_residual.ensures.1 (of_diff_after store old
    c.loop-change.store new fault c.loop-change.invariant.reads.failures c.in_err-draw_one.ensures.fault)
