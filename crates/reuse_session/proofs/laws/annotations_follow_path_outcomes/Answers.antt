use Rattle.reuse_plan.proofs.AnnotationPathOutcomes.{skipped_reported, reported_skipped_all, left_stays}
use Rattle.reuse_session.proofs.laws.annotations_follow_path_outcomes.Goals as goal

pub returns : goal.returns
returns c =
    let kept = c.adding_texts_keeps_other_bytes.ensures in
    record {
      skipped = λ places additions how scope own tree path styles.
          skipped_reported places additions how scope own tree styles path;
      reported = λ places additions how scope own tree after path styles accepted.
          reported_skipped_all places additions how scope own tree styles kept.replaced kept.inserted
          kept.neighbour_replaced kept.neighbour_inserted after accepted path;
      stays = λ places additions how scope own tree after path styles accepted.
          left_stays places additions how scope own tree styles kept.replaced kept.inserted kept.neighbour_replaced
          kept.neighbour_inserted after accepted path;
    }
