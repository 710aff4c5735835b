use Rattle.std.proofs.Common.{sym, ap, ◌∙◌, true, false, Some}
use Rattle.std.specs.Option.{option_copied}
use Rattle.reuse_style.specs.declared.style.Kind.{Kind}
use Rattle.reuse_style.specs.Kinds.{kinds_by}
use Rattle.reuse_style.proofs.RuleLemmas.{unread_found}
use Rattle.reuse_style.proofs.style_table.StyleTable.style_unread.Goals as goal

pub returns-then-asks_for_line : goal.returns-then-asks_for_line
returns-then-asks_for_line c =
    sym (unread_found (kinds_by c.args.self.now) c.args.name.now (option_copied c.first_rule-rule.result) true
    c.first_rule-rule.ensures c.if-asks_for_line.ensures)

pub returns-else-asks_for_line : goal.returns-else-asks_for_line
returns-else-asks_for_line c =
    ap (λ (kind : Kind). Some kind) c.kind_by.ensures
    ∙ sym (unread_found (kinds_by c.args.self.now) c.args.name.now (option_copied c.first_rule-rule.result) false
    c.first_rule-rule.ensures c.if-asks_for_line.ensures)
