use Rattle.std.proofs.Common.{◌≡◌, sym, ap, subst, ◌∙◌}
use Rattle.std.specs.FinMap.{get}
use Rattle.std.specs.Result.{is_ok}
use Rattle.reuse_text.specs.declared.TheConstants.{LONGEST_FILE}
use Rattle.reuse_store.specs.Store.{reading_of}
use Rattle.reuse_store.proofs.BatchReading.{pushed}
use Rattle.reuse_store.proofs.apply_changes.read_batch.Goals as goal

pub loop-change-preserved : goal.loop-change-preserved
loop-change-preserved g c =
    pushed g.S.Store c.args.changes.now c.args.store.now c.loop-change.change-index c.loop-change-test.true _
    c.loop-change.store c.read.new.self c.loop-change.batch.items c.push.new.self.items _ c.push.ensures.items
    (sym c.map_err.ensures.variant ∙ ap is_ok c.in_ok-map_err.was) c.change-item.is c.loop-change.invariant
    c.read.ensures.reads
    (λ honest. subst (λ path. c.in_ok-reading.reading ≡ reading_of (get (g.S.Store.files c.loop-change.store) path)
    LONGEST_FILE) c.path.ensures (c.in_ok-reading.ensures.reading honest))
