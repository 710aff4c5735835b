use Rattle.std.proofs.Common.{List, sym, ap, ◌∙◌}
use Rattle.std.specs.Prelude.{find}
use Rattle.std.specs.List.{filter}
use Rattle.reuse_style.specs.Passing.{passes}
use Rattle.reuse_style.specs.Rules.{Rule, may_fit}
use Rattle.reuse_style.proofs.RuleLemmas.{find_here, find_next}
use Rattle.reuse_style.proofs.rule.first_fit.Goals as goal

pub returns-then-can_be_first : goal.returns-then-can_be_first
returns-then-can_be_first c =
    let p = passes c.args.line in
    let q = may_fit c.args.in_table c.args.name.now in
    sym (find_here p q c.in-Some.rule.now c.in-Some.others.now (sym c.if-can_be_first.ensures))
    ∙ ap (λ (rules : List Rule). find p (filter q rules)) (sym c.in-Some.ensures.cases.0) ∙ c.loop-rule.invariant

pub loop-rule-preserved : goal.loop-rule-preserved
loop-rule-preserved c =
    let p = passes c.args.line in
    let q = may_fit c.args.in_table c.args.name.now in
    sym (find_next p q c.in-Some.rule.now c.in-Some.others.now (sym c.if-can_be_first.ensures))
    ∙ ap (λ (rules : List Rule). find p (filter q rules)) (sym c.in-Some.ensures.cases.0) ∙ c.loop-rule.invariant
