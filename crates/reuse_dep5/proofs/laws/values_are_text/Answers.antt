use Rattle.std.proofs.Common.{ℕ, List}
use Rattle.reuse_text.specs.Text.{after_mark}
use Rattle.reuse_dep5.specs.SourceText.{NumberedLine, dep5_lines, paragraphs}
use Rattle.reuse_dep5.specs.Fields.{value_of}
use Rattle.reuse_dep5.specs.PatternText.{words_of}
use Rattle.reuse_dep5.specs.LastMatch.{EachPasses}
use Rattle.reuse_dep5.proofs.TextLemmas.{HasText, each_weaker, dep5_text, value_text, words_text}
use Rattle.reuse_dep5.proofs.laws.values_are_text.Goals as goal

pub returns-clause-lines : goal.returns-clause-lines
returns-clause-lines c = λ bytes utf8.
    each_weaker (EachPasses HasText) (λ (p : List NumberedLine). (name : List ℕ) → EachPasses HasText (value_of name p))
    (λ p each name. value_text name p each) (paragraphs (dep5_lines bytes))
    (dep5_text bytes (c.lines_are_one.ensures.joined (after_mark bytes))
    (c.lines_are_one.ensures.well_formed (after_mark bytes)) utf8)

pub returns-clause-words : goal.returns-clause-words
returns-clause-words c = λ bytes utf8.
    each_weaker (EachPasses HasText)
    (λ (p : List NumberedLine). (name : List ℕ) → EachPasses HasText (words_of (value_of name p)))
    (λ p each name. words_text (value_of name p) (value_text name p each)) (paragraphs (dep5_lines bytes))
    (dep5_text bytes (c.lines_are_one.ensures.joined (after_mark bytes))
    (c.lines_are_one.ensures.well_formed (after_mark bytes)) utf8)
