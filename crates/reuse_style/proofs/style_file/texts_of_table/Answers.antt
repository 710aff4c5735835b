use Rattle.std.proofs.Common.{[], ℕ, List, Bor, ap, sym, ◌∙◌}
use Rattle.toml.specs.Data.{member}
use Rattle.toml.specs.View.{view, members_view, table_view}
use Rattle.reuse_style.specs.StyleFile.{texts_in}
use Rattle.reuse_style.proofs.StyleFileLemmas.{texts_pushed}
use Rattle.reuse_style.proofs.style_file.texts_of_table.Goals as goal

pub loop-name-preserved : goal.loop-name-preserved
loop-name-preserved c =
    texts_pushed [] (λ (t : Bor (List ℕ) × Bor (List ℕ)). (t.0.now, t.1.now))
    (texts_in (table_view c.args.names.now)) c.loop-name.texts.items c.push.new.self.items
    (c.as_str-in-Some.result, c.in-Some-as_str.text) (view c.in-Some.value.now) (members_view c.next.new.self)
    (members_view c.loop-name.entries)
    c.in_ok-push.ensures.items c.in-Some-as_str.ensures
    (ap members_view c.in-Some.ensures.steps ∙ ap (λ (k : List ℕ). member k (view c.in-Some.value.now)
    (members_view c.next.new.self)) (sym c.as_str-in-Some.ensures.value))
    c.loop-name.invariant
