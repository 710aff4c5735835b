-- The marks of a style's form are those of its comment.
use Rattle.std.proofs.Common.{◌≡◌, Option, None, Some, refl, subst}
use Rattle.std.specs.Option.{option_map}
use Rattle.reuse_style.specs.declared.style.Style.{Style}
use Rattle.reuse_style.specs.declared.marks.Form.TheVariants.{Single, Multi}
use Rattle.reuse_style.specs.Marks.{LineForm, BlockForm}
use Rattle.reuse_style.specs.Styles.{punctuation_of, line_comment_of, block_comment_of}
use Rattle.reuse_style.proofs.GoodLemmas.{IsLineGood, IsGoodLine, IsBlockGood, IsGoodBlock, line_good, block_good}
use Rattle.reuse_header.specs.Marks.{LineMarks, marks_of_line, marks_of_block, marks_of}

-- what holds of the marks of a comment of single lines, holds of those of the style
pub of_line : (style : Style) (marks : LineMarks) (P : Option LineForm → LineMarks → Type 0)
    → marks_of style Single ≡ Some marks
    → ((form : LineForm) → line_comment_of style ≡ Some form → IsGoodLine (punctuation_of style) form
    → P (Some form) (marks_of_line form))
    → P (line_comment_of style) marks
of_line style marks P e holds = by (line_comment_of style) refl (line_good style) e
  where
    by : (o : Option LineForm) → line_comment_of style ≡ o → IsLineGood (punctuation_of style) o
        → option_map marks_of_line o ≡ Some marks → P o marks
    by None is good f = absurd (let none : ⊥ = cc f in none)
    by (Some form) is good f =
        let same : marks_of_line form ≡ marks = cc f in subst (P (Some form)) same (holds form is good)

-- and so it is with those of a comment over several lines
pub of_block : (style : Style) (marks : LineMarks) (P : Option BlockForm → LineMarks → Type 0)
    → marks_of style Multi ≡ Some marks
    → ((form : BlockForm) → block_comment_of style ≡ Some form → IsGoodBlock (punctuation_of style) form
    → P (Some form) (marks_of_block form))
    → P (block_comment_of style) marks
of_block style marks P e holds = by (block_comment_of style) refl (block_good style) e
  where
    by : (o : Option BlockForm) → block_comment_of style ≡ o → IsBlockGood (punctuation_of style) o
        → option_map marks_of_block o ≡ Some marks → P o marks
    by None is good f = absurd (let none : ⊥ = cc f in none)
    by (Some form) is good f =
        let same : marks_of_block form ≡ marks = cc f in subst (P (Some form)) same (holds form is good)
