use Rattle.std.proofs.Common.{ℕ, List, Option, ap, ◌∙◌}
use Rattle.std.specs.Prelude.{find}
use Rattle.reuse_style.specs.Kinds.{candidates, kind_by, kind_of_file, kinds_by}
use Rattle.reuse_style.specs.Rules.{line_fits}
use Rattle.reuse_style.proofs.style_table.StyleTable.style_of.Goals as goal

pub returns : goal.returns
unfolding kind_of_file
returns c =
    let own = kinds_by c.args.self.now in
    let path = c.args.name.now in
    c.kind_by.ensures ∙ ap (kind_by own path) c.first_rule.ensures
    ∙ ap (λ (line : Option (List ℕ)). kind_by own path (find (line_fits line) (candidates own path)))
    c.first_line.ensures
