use Rattle.std.proofs.Common.{◌≡◌, ℕ, Bool, List, sym, ap, ◌∙◌}
use Rattle.std.specs.Prelude.{find}
use Rattle.std.specs.List.{filter}
use Rattle.reuse_style.specs.Kinds.{OwnEntries, has_part, kinds_by, part_of}
use Rattle.reuse_style.specs.Names.{lookup, table_of_names}
use Rattle.reuse_style.specs.Passing.{passes}
use Rattle.reuse_style.specs.Rules.{Rule, CommentRules, may_fit}
use Rattle.reuse_style.proofs.RuleLemmas.{named_candidates, no_candidates}
use Rattle.reuse_style.proofs.style_table.StyleTable.first_rule.Goals as goal

pub returns-then-has_part : goal.returns-then-has_part
returns-then-has_part c =
    let own = kinds_by c.args.self.now in
    let path = c.args.name.now in
    let part_is = c.last_part-part.ensures ∙ ap part_of c.as_bytes.ensures.value in
    sym (ap (find (passes c.args.line)) (no_candidates own path
    (ap (has_part own.names) (sym part_is) ∙ sym c.if-has_part.ensures)))

pub returns : goal.returns
returns c =
    let own = kinds_by c.args.self.now in
    let path = c.args.name.now in
    let p = passes c.args.line in
    let part_is : c.last_part-part.result.now ≡ part_of path =
    c.last_part-part.ensures ∙ ap part_of c.as_bytes.ensures.value in
    let rules_are : c.as_slice.result.now ≡ own.comments.rules =
    c.as_slice.ensures.value ∙ ap (λ (o : CommentRules). o.rules) c.own.view_is
    ∙ ap (λ (o : OwnEntries). o.comments.rules) c.self.view_is in
    let e = named_candidates own path (ap (has_part own.names) (sym part_is) ∙ sym c.if-has_part.ensures) in
    c.first_fit.ensures
    ∙ ap (λ (b : Bool). find p (filter (may_fit b c.last_part-part.result.now) c.as_slice.result.now))
    c.table_has_part.ensures
    ∙ ap (λ (x : List ℕ). find p (filter (may_fit (has_part (lookup table_of_names) x) x) c.as_slice.result.now))
    part_is
    ∙ ap (λ (rules : List Rule).
    find p (filter (may_fit (has_part (lookup table_of_names) (part_of path)) (part_of path)) rules)) rules_are
    ∙ ap (find p) (sym e)
