use Rattle.reuse_command.specs.declared.command.Command.TheVariants.{Annotate}
use Rattle.reuse_plan.proofs.AnnotationPathOutcomes.{annotation_accepted, annotates}
use Rattle.reuse_plan.proofs.OneAnnotation.{stays_or_text, one_tree}
use Rattle.reuse_session.proofs.lemmas.session.LeftByRuns.{left_by_run}
use Rattle.reuse_session.proofs.laws.annotations_change_chosen_places_alone.Goals as goal

pub returns : goal.returns
returns c =
    let kept = c.adding_texts_keeps_other_bytes.ensures in
    record {
      accepted = λ places additions how scope tree. annotation_accepted places additions how scope tree kept.replaced
          kept.inserted kept.neighbour_replaced kept.neighbour_inserted;
      made = λ places additions how scope tree after h. annotates kept.replaced kept.inserted kept.neighbour_replaced
          kept.neighbour_inserted places additions how scope tree after h;
      one = λ places additions how scope before after other this that.
          one_tree places additions how scope before after other this that;
      left = λ places additions how scope when old new reply runs.
          annotates kept.replaced kept.inserted kept.neighbour_replaced kept.neighbour_inserted places additions how
          scope old.tree new.tree
          (left_by_run (Annotate places additions how scope) when old new reply runs);
      texts = λ places additions how scope before after made plain utf8 are path.
          stays_or_text c.added_texts_make_texts.ensures.files c.added_texts_make_texts.ensures.neighbours
          additions how scope plain utf8 are places before after made path;
    }
