use Rattle.std.proofs.Common.{◌≡◌, ◌++◌, ◌∙◌, sym, ap, subst}
use Rattle.reuse_change.specs.Files.{tree_of}
use Rattle.reuse_store.proofs.AskedLemmas.{reads_more}
use Rattle.reuse_plan.specs.Shown.{ShowsPlace}
use Rattle.reuse_plan.specs.FileTask.{chooses}
use Rattle.reuse_plan.specs.Selected.{expanded}
use Rattle.reuse_plan.proofs.PlaceLemmas.{expanded_more}
use Rattle.reuse_plan.proofs.select.expanded.Goals as goal

pub loop-place-preserved : goal.loop-place-preserved
loop-place-preserved g c = record {
  reads = reads_more g.S.Store _ _ _ c.loop-place.invariant.reads c.push_expanded.ensures.reads;
  found = λ honest sorted are.
      let before = c.push_expanded.ensures.reads.was_honest honest in
      let same = c.loop-place.invariant.reads.files before in
      let chosen = chooses c.args.asked.now in
      let tree = tree_of (g.S.Store.files c.args.store.now) in
      let place = c.place-item.result in
      let here = subst (ShowsPlace chosen c.args.paths.now tree) (sym c.place-item.is)
      (are c.loop-place.place-index place c.loop-place-test.true) in
      let adds =
      subst (λ f. c.push_expanded.new.found.items ≡ c.loop-place.found.items ++ expanded chosen (tree_of f) place) same
      (c.in_ok-push_expanded.ensures.adds honest sorted
      (subst (λ f. ShowsPlace chosen c.args.paths.now (tree_of f) place) (sym same) here)) in
      expanded_more chosen tree c.args.places.now c.loop-place.place-index place c.loop-place.found.items
      c.push_expanded.new.found.items c.loop-place-test.true (c.loop-place.invariant.found before sorted are)
      (adds ∙ ap (λ p. c.loop-place.found.items ++ expanded chosen tree p) c.place-item.is);
}
