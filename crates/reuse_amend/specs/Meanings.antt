-- What a licence expression means: the tree that the grammar reads in it, in which AND binds before OR (docs/RULES.md,
-- "Licence expressions").
use Rattle.std.specs.Prelude.{◌≡◌, ℕ, Bool, true, false, not, ◌&&◌, List, [], ◌∷◌, ◌++◌, filter, fold}
use Rattle.std.specs.Prelude.{if◌then◌else◌, codes}
use Rattle.std.specs.Str.{bytes_eq}
use Rattle.reuse_notice.specs.declared.expressions.Token.{Token}
use Rattle.reuse_notice.specs.declared.expressions.Token.TheVariants.{Open, Close, Operator, With, Identifier}
use Rattle.reuse_amend.specs.declared.replacements.Replacement.{Replacement}
use Rattle.reuse_amend.specs.Pieces.{pieces_of, is_identifier}

-- a licence, perhaps with an exception, or two of which both (AND) or one (OR) is meant
pub data Meaning : Type 0 where
  licence : List ℕ → Meaning
  excepted : Meaning → List ℕ → Meaning
  both : Meaning → Meaning → Meaning
  either : Meaning → Meaning → Meaning

-- how tightly a phrase is bound: an operand of AND, an operand of OR, or a whole expression
pub data Rank : Type 0 where
  Operand : Rank
  Conjunction : Rank
  Whole : Rank

-- a phrase of the grammar: a licence (with a + or without), a licence with an exception, an expression in parentheses,
-- operands joined by AND, and those joined by OR; an operator is in capitals or not
pub data Phrase : Rank → Type 0 where
  name : List ℕ → Bool → Phrase Operand
  name_with : List ℕ → Bool → Bool → List ℕ → Phrase Operand
  group : Phrase Whole → Phrase Operand
  operand : Phrase Operand → Phrase Conjunction
  joined_by_and : Phrase Conjunction → Bool → Phrase Operand → Phrase Conjunction
  conjunction : Phrase Conjunction → Phrase Whole
  joined_by_or : Phrase Whole → Bool → Phrase Conjunction → Phrase Whole

-- its tokens, each with its bytes
abbrev pub written : {rank : Rank} → Phrase rank → List (List ℕ × Token)
written (name text plus) = (text, Identifier plus) ∷ []
written (name_with text plus capitals exception) =
    (text, Identifier plus) ∷ (if capitals then codes "WITH" else codes "with", With)
    ∷ (exception, Identifier false) ∷ []
written (group inner) = (codes "(", Open) ∷ written inner ++ (codes ")", Close) ∷ []
written (operand inner) = written inner
written (joined_by_and left capitals right) =
    written left ++ (if capitals then codes "AND" else codes "and", Operator) ∷ written right
written (conjunction inner) = written inner
written (joined_by_or left capitals right) =
    written left ++ (if capitals then codes "OR" else codes "or", Operator) ∷ written right

-- what it means; parentheses only say what belongs together
abbrev pub meant : {rank : Rank} → Phrase rank → Meaning
meant (name text plus) = licence text
meant (name_with text plus capitals exception) = excepted (licence text) exception
meant (group inner) = meant inner
meant (operand inner) = meant inner
meant (joined_by_and left capitals right) = both (meant left) (meant right)
meant (conjunction inner) = meant inner
meant (joined_by_or left capitals right) = either (meant left) (meant right)

-- the tokens of a text, each with its bytes, without the spaces between them
abbrev pub words_of : List ℕ → List (List ℕ × Token)
words_of text = filter (λ p. not (bytes_eq p.0 (codes " "))) (pieces_of text)

-- the text is an expression with this meaning
pub record Means (text : List ℕ) (meaning : Meaning) : Type 0 where
  pub phrase : Phrase Whole
  pub is_written : written phrase ≡ words_of text
  pub is_meant : meant phrase ≡ meaning

-- an exception, replaced: only an identifier takes its place
abbrev pub exception_replaced : Replacement → List ℕ → List ℕ
exception_replaced r exception = if bytes_eq exception r.old && is_identifier r.new then r.new else exception

-- a meaning with another one in the place of each licence that is the old text
abbrev pub meaning_replaced : Replacement → Meaning → Meaning → Meaning
meaning_replaced r new (licence text) = if bytes_eq text r.old then new else licence text
meaning_replaced r new (excepted base exception) =
    excepted (meaning_replaced r new base) (exception_replaced r exception)
meaning_replaced r new (both left right) = both (meaning_replaced r new left) (meaning_replaced r new right)
meaning_replaced r new (either left right) = either (meaning_replaced r new left) (meaning_replaced r new right)

-- ---- replacements in turn

-- a replacement of an identifier, and what its NEW means
abbrev pub IsMeant : Replacement × Meaning → Type 0
IsMeant p = (is_identifier p.0.old ≡ true) × Means p.0.new p.1

-- a meaning in which one replacement is made after the other, each in what those before it made
abbrev pub meaning_in_turn : List (Replacement × Meaning) → Meaning → Meaning
meaning_in_turn replacements meaning = fold (λ m p. meaning_replaced p.0 p.1 m) meaning replacements
