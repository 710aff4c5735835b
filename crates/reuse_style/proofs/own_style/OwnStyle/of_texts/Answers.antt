use Rattle.std.proofs.Common.{◌∙◌, sym, ap}
use Rattle.reuse_style.specs.Marks.{marks_fault, punctuation_in}
use Rattle.reuse_style.specs.CommentViews.{texts_view}
use Rattle.reuse_style.proofs.CommentLemmas.{good_if, good_style_is}
use Rattle.reuse_style.proofs.own_style.OwnStyle.of_texts.Goals as goal

pub invariant_of-result : goal.invariant_of-result
invariant_of-result c = (
  good_if c.in_ok-comments.comments
      (ap (λ marks. marks_fault marks) (sym c.lent-2.ensures) ∙ sym c.marks_fault.ensures ∙ c.in_default.is),
  (c.in_ok-punctuation.ensures ∙ ap punctuation_in c.lent.ensures, tt),
)

pub returns-clause-style : goal.returns-clause-style
returns-clause-style c =
    good_style_is c.args.name.now (texts_view c.args.texts.now) _ c.in_ok-name.ensures.ok c.in_ok-comments.ensures
