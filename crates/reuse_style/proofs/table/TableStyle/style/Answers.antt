use Rattle.std.proofs.Common.{◌≡◌, true, sym, ap, subst, ◌∙◌}
use Rattle.reuse_style.specs.Marks.{CommentMarks, is_good, punctuation_in}
use Rattle.reuse_style.specs.Styles.{table_good}
use Rattle.reuse_style.proofs.SameLemmas.{same_style, table_punctuated}
use Rattle.reuse_style.proofs.table.TableStyle.style.Goals as goal

pub new-requires-clause-good : goal.new-requires-clause-good
new-requires-clause-good c =
    subst (λ (marks : CommentMarks). is_good marks ≡ true) (sym c.comments.ensures) (table_good c.args.self)

pub new-requires-clause-derived : goal.new-requires-clause-derived
new-requires-clause-derived c =
    c.punctuation.ensures ∙ table_punctuated c.args.self ∙ ap punctuation_in (sym c.comments.ensures)

pub returns : goal.returns
returns c = same_style _ _ (c.new.ensures.name ∙ c.name.ensures) (c.new.ensures.marks ∙ c.comments.ensures)
