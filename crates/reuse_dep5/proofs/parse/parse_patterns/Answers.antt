-- The words of a line and those of the later lines.
use Rattle.std.proofs.Common.{◌≡◌, ℕ, ◌+◌, ◌<◌, List, ◌∷◌, ◌++◌, length, drop, get_or, Result, Ok, sym, ap, subst, ◌∙◌}
use Rattle.std.proofs.lemmas.List.{append-nil, drop_all, drop_more}
use Rattle.std.proofs.lemmas.Result.{err_from_is_err_and}
use Rattle.reuse_dep5.specs.declared.refusal.Dep5Refusal.{Dep5Refusal}
use Rattle.reuse_dep5.specs.Answers.{IsRefusalOf}
use Rattle.reuse_dep5.specs.PatternValue.{PatternValue}
use Rattle.reuse_dep5.specs.SourceText.{NumberedLine}
use Rattle.reuse_dep5.specs.PatternText.{line_words, words_of, patterns_of}
use Rattle.reuse_dep5.specs.Steps.Parsing.{with_patterns}
use Rattle.reuse_dep5.proofs.parse.parse_patterns.Goals as goal

words_more : (lines : List NumberedLine) (i : ℕ) (line : NumberedLine) → i < length lines → line ≡ get_or lines i line
    → line_words line ++ words_of (drop (i + 1) lines) ≡ words_of (drop i lines)
words_more lines i line within is =
    ap (λ l. words_of (l ∷ drop (i + 1) lines)) is ∙ ap words_of (sym (drop_more lines i line within))

pub loop-line-preserved : goal.loop-line-preserved
loop-line-preserved c =
    sym (c.in_ok-push_patterns.ensures (words_of (drop (c.loop-line.line-index + 1) c.args.value.now)))
    ∙ ap (λ ws. with_patterns c.loop-line.patterns.items (patterns_of ws))
    (words_more c.args.value.now c.loop-line.line-index c.line-item.result c.loop-line-test.true c.line-item.is)
    ∙ c.loop-line.invariant

pub returns-in_err-push_patterns : goal.returns-in_err-push_patterns
returns-in_err-push_patterns c =
    let p = err_from_is_err_and c.from_residual.result c.from_residual.ensures.1 in
    rw (p.1, p.2)
    (subst (λ (r : Result (List PatternValue) Dep5Refusal). IsRefusalOf c.in_err-push_patterns.field-0.0 r)
    (ap (λ ws. with_patterns c.loop-line.patterns.items (patterns_of ws)) (words_more c.args.value.now
    c.loop-line.line-index c.line-item.result c.loop-line-test.true c.line-item.is) ∙ c.loop-line.invariant)
    (c.in_err-push_patterns.ensures (words_of (drop (c.loop-line.line-index + 1) c.args.value.now))))

pub returns : goal.returns
returns c =
    sym c.loop-line.invariant ∙ ap (λ ls. with_patterns c.loop-line.patterns.items (patterns_of (words_of ls)))
    (drop_all c.loop-line.line-index c.args.value.now c.loop-line-test.false)
    ∙ ap Ok (append-nil c.loop-line.patterns.items)
