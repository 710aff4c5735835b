use Rattle.std.proofs.Common.{ℕ, List, Bor, Option, ap, sym, ◌∙◌}
use Rattle.std.specs.Option.{option_map}
use Rattle.toml.specs.Data.{member}
use Rattle.toml.specs.View.{view, members_view, table_view}
use Rattle.reuse_style.specs.declared.comment_texts.CommentTexts.{CommentTexts as LentTexts}
use Rattle.reuse_style.specs.CommentFile.{comments_in_table}
use Rattle.reuse_style.specs.CommentViews.{texts_view}
use Rattle.reuse_style.proofs.CommentLemmas.{named_pushed}
use Rattle.reuse_style.proofs.comment_texts.comments_in_table.Goals as goal

pub loop-name-preserved : goal.loop-name-preserved
loop-name-preserved c =
    named_pushed (λ (t : Bor (List ℕ) × LentTexts). (t.0.now, texts_view t.1))
    (comments_in_table (table_view c.args.comments.now)) c.loop-name.named.items c.push.new.self.items
    (c.as_str.result, c.in-Some-2.texts) (view c.in-Some.value.now) (members_view c.next.new.self)
    (members_view c.loop-name.entries)
    c.in_ok-push.ensures.items
    (ap (λ (o : Option LentTexts). option_map texts_view o) (sym c.in-Some-2.is) ∙ c.in_ok-texts.ensures)
    (ap members_view c.in-Some.ensures.steps ∙ ap (λ (k : List ℕ). member k (view c.in-Some.value.now)
    (members_view c.next.new.self)) (sym c.as_str.ensures.value))
    c.loop-name.invariant
