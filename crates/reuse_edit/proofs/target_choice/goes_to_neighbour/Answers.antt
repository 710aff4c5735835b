use Rattle.std.proofs.Common.{◌≡◌, ◌∙◌, ◌||◌, is_some, sym, ap}
use Rattle.std.specs.FinMap.{get}
use Rattle.reuse_change.specs.Listing.{is_among}
use Rattle.reuse_store.proofs.TreeLemmas.{among_keys}
use Rattle.reuse_edit.specs.Annotate.{neighbour_of, goes_to_neighbour_unread}
use Rattle.reuse_edit.specs.AnnotationPlan.{own_of}
use Rattle.reuse_edit.proofs.target_choice.goes_to_neighbour.Goals as goal
use Rattle.reuse_edit.proofs.target_choice.goes_to_neighbour.Goals.{then-is_among, else-is_among}

pub returns : goal.returns
returns c tree are =
    let asked = c.args.asked.now in
    let path = c.args.path.now in
    let unread = goes_to_neighbour_unread asked.scope.now (own_of asked) path in
    let there : c.is_among.result ≡ is_some (get tree (neighbour_of path)) =
    c.is_among.ensures are.ordered ∙ ap (is_among c.args.paths.now) (c.as_slice.ensures ∙ c.in_ok-neighbour.ensures)
    ∙ are.beside ∙ among_keys tree (neighbour_of path) in
    elim c.if-is_among.branch [
      | then-is_among w ↦ w.result-is ∙ w.if-is_among.true ∙ ap (λ b. b || unread) (sym w.if-is_among.true ∙ there)
      | else-is_among w ↦
          w.result-is ∙ w.goes_to_neighbour_unread.ensures ∙ ap (λ b. b || unread) (sym w.if-is_among.false ∙ there)
    ]
