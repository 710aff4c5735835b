use Rattle.std.proofs.Common.{ap, ◌∙◌}
use Rattle.std.specs.Prelude.{codes}
use Rattle.toml.specs.View.{members_view}
use Rattle.reuse_style.specs.Taken.{take_text, is_done}
use Rattle.reuse_style.proofs.CommentDocumentLemmas.{style_texts}
use Rattle.reuse_style.proofs.comment_texts.texts_of_style.Goals as goal

pub returns : goal.returns
returns c =
    style_texts _ _ _ _ _ _ _ _ _ _ _ _ _ _ _ _ _ _ _
    (c.in_ok-closer.ensures ∙ ap (λ ms. take_text (codes "close") (members_view ms)) c.iter-entries.ensures.rest)
    c.in_ok-first_lines.ensures c.in_ok-front_matter.ensures c.in_ok-last_line.ensures
    c.in_ok-lead.ensures c.in_ok-marker.ensures c.in_ok-line_lead.ensures c.in_ok-middle.ensures
    c.in_ok-opener.ensures (ap (λ ms. is_done (members_view ms)) c.in-None.ensures.steps.0)
