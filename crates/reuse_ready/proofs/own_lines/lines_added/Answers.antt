use Rattle.std.proofs.Common.{◌∙◌, List, ap, sym, subst, map}
use Rattle.std.specs.Borrow.{Bor}
use Rattle.std.specs.Option.{option_copied}
use Rattle.reuse_style.specs.Names.{lookup}
use Rattle.reuse_ready.specs.Additions.{missing_names, missing_rules, missing_tables, style_lines}
use Rattle.reuse_ready.specs.Additions.{with_lines}
use Rattle.reuse_ready.specs.Refused.{IsAdditionRefused}
use Rattle.reuse_ready.specs.declared.additions.NameAddition.{NameAddition}
use Rattle.reuse_ready.specs.declared.additions.TableAddition.{TableAddition}
use Rattle.reuse_ready.specs.declared.additions.RuleAddition.{RuleAddition}
use Rattle.reuse_ready.specs.declared.own_lines.AddedLines.{AddedLines}
use Rattle.reuse_ready.proofs.OwnLemmas.{lines_are}
use Rattle.reuse_ready.proofs.own_lines.lines_added.Goals as goal

pub returns-clause-refusal : goal.returns-clause-refusal
returns-clause-refusal c =
    let own = c.args.own.now in
    let styles = option_copied own.styles in
    let comments = option_copied own.comments in
    let added : AddedLines = record {
      styles = c.in_ok-style_lines.field-0;
      comments = c.in_ok-comment_lines.field-0;
    } in
    let lent_names = λ (names : List (Bor NameAddition)). map (λ (name : Bor NameAddition). name.now) names in
    let lent_tables = λ (tables : List (Bor TableAddition)). map (λ (table : Bor TableAddition). table.now) tables in
    let lent_rules = λ (rules : List (Bor RuleAddition)). map (λ (rule : Bor RuleAddition). rule.now) rules in
    subst (λ expected. IsAdditionRefused expected c.in-Err.refusal)
    (sym (lines_are c.args.additions.now styles comments (lookup own.names.now.entries) own.own_comments.now.styles
    (lent_names c.deref-4.result.now) (lent_tables c.deref-2.result.now) (lent_rules c.deref-3.result.now) added
    c.in_ok-styles.styles c.in_ok-comments.comments
    (ap lent_names c.deref-4.ensures.value ∙ c.in_ok-names.ensures
    ∙ ap (missing_names (lookup own.names.now.entries)) c.as_slice.ensures)
    (ap lent_tables c.deref-2.ensures.value ∙ c.in_ok-tables.ensures
    ∙ ap (missing_tables own.own_comments.now.styles) c.as_slice-2.ensures)
    (ap lent_rules c.deref-3.ensures.value ∙ c.in_ok-rules.ensures
    ∙ ap (missing_rules comments) c.as_slice-3.ensures)
    (c.in_ok-style_lines.ensures
    ∙ ap (λ ns. style_lines styles (lent_names ns)) (c.deref.ensures.value ∙ sym c.deref-4.ensures.value))
    c.in_ok-comment_lines.ensures
    (c.in_ok-styles.ensures ∙ ap (with_lines styles) c.as_slice-4.ensures)
    (c.in_ok-comments.ensures ∙ ap (with_lines comments) c.as_slice-5.ensures)))
    (c.in-Err.ensures.refusal added)
