use Rattle.reuse_undo.proofs.lemmas.run.OneCallLemmas.{answered_once, answered_refused}
use Rattle.reuse_undo.proofs.run.locked.answer_in.Goals as goal

pub returns-in-Some : goal.returns-in-Some
returns-in-Some g c =
    record {
      ready = c.with_styles-folder.result.0;
      refusal = c.with_styles-folder.result.2;
      asks = c.with_styles-folder.ensures;
      answers = answered_refused _ _ _ _ _ _ _ _ _ c.in-Some.is;
    }

pub returns : goal.returns
returns g c =
    record {
      ready = c.with_styles-folder.result.0;
      refusal = c.with_styles-folder.result.2;
      asks = c.with_styles-folder.ensures;
      answers = answered_once _ _ _ _ _ _ _ _ _ _ _ c.in_default.is c.is_listing.ensures c.answer-folder.ensures;
    }
