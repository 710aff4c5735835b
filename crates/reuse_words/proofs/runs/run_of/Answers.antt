use Rattle.std.proofs.Common.{sym, subst, ap, ◌∙◌, length}
use Rattle.std.specs.Prelude.{IfSome}
use Rattle.reuse_words.specs.Words.{words_in}
use Rattle.reuse_words.specs.Runs.{first_run}
use Rattle.reuse_words.proofs.RunLemmas.{Within, first_within_contents}
use Rattle.reuse_words.proofs.runs.run_of.Goals as goal

pub returns-clause-within : goal.returns-clause-within
returns-clause-within c =
    subst (λ o. IfSome o (Within (length c.args.contents.now)))
    (sym (c.first_run.ensures
    ∙ ap (first_run c.as_slice.result.now) (c.as_slice-2.ensures.value ∙ c.in_ok-rows.ensures)))
    (first_within_contents c.as_slice.result.now (words_in c.args.punct.now) c.args.contents.now)
