-- The grammar of a dep5 over its paragraphs, and the first fault of one that is none (Debian copyright format 1.0).
use Rattle.std.specs.Prelude.{◌≡◌, ◌≢◌, ◌⊎◌, ℕ, true, List, [], ◌∷◌, ◌++◌, None}
use Rattle.std.specs.List.{list_any}
use Rattle.std.specs.Str.{IsUtf8}
use Rattle.reuse_dep5.specs.declared.refusal.Dep5Refusal.{Dep5Refusal}
use Rattle.reuse_dep5.specs.declared.refusal.Dep5Refusal.TheVariants.{NotUtf8, BadDep5}
use Rattle.reuse_dep5.specs.declared.refusal.Dep5Cause.{Dep5Cause}
use Rattle.reuse_dep5.specs.declared.refusal.Dep5Cause.TheVariants.{Empty, NoField, Orphan, Repeated, NoFormat, NoKind}
use Rattle.reuse_dep5.specs.declared.refusal.Dep5Cause.TheVariants.{Missing, BadEscape}
use Rattle.reuse_dep5.specs.SourceText.{NumberedLine, is_continuation, dep5_lines, paragraphs}
use Rattle.reuse_dep5.specs.Fields.{is_field, field_name, has_name, text_of, nonempty_lines, first_line}
use Rattle.reuse_dep5.specs.PatternText.{words_of, word_pieces}
use Rattle.reuse_dep5.specs.Dep5.{first_number, format_value, files_value, copyright_value, license_value}

-- a field line; a continuation; a field whose name stands in the lines before it
abbrev pub IsFieldLine : NumberedLine → Type 0
IsFieldLine line = is_field line.content ≡ true

abbrev pub IsContinuation : NumberedLine → Type 0
IsContinuation line = is_continuation line.content ≡ true

abbrev pub IsRepetition : List NumberedLine → NumberedLine → Type 0
IsRepetition before line = list_any (λ (l : NumberedLine). has_name (field_name line.content) l.content) before ≡ true

-- what is wrong with a line of a paragraph, behind the lines that stand before it in the paragraph
abbrev pub IsLineFault : List NumberedLine → NumberedLine → Dep5Cause → Type 0
IsLineFault before line NoField = (¬ IsFieldLine line) × (¬ IsContinuation line)
IsLineFault before line Orphan = (before ≡ []) × IsContinuation line
IsLineFault before line Repeated = IsFieldLine line × IsRepetition before line
IsLineFault before line _ = ⊥

-- the lines are fields: nothing is wrong with any of them
abbrev pub AreFields : List NumberedLine → Type 0
AreFields p = (before : List NumberedLine) (line : NumberedLine) (after : List NumberedLine)
    → p ≡ before ++ line ∷ after → (cause : Dep5Cause) → ¬ IsLineFault before line cause

-- the first line with which something is wrong
pub record IsFirstLineFault (p : List NumberedLine) (number : ℕ) (cause : Dep5Cause) : Type 0 where
  pub before : List NumberedLine
  pub line : NumberedLine
  pub after : List NumberedLine
  pub stands : p ≡ before ++ line ∷ after
  pub sound : AreFields before
  pub fault : IsLineFault before line cause
  pub named : number ≡ line.number

-- the first paragraph: fields, among them a `Format` with a text
pub record IsHeader (p : List NumberedLine) : Type 0 where
  pub fields : AreFields p
  pub format : text_of (format_value p) ≢ []

-- what a Files paragraph must have: a pattern, a notice and a short name
pub record HasParts (p : List NumberedLine) : Type 0 where
  pub pattern : words_of (files_value p) ≢ []
  pub notice : nonempty_lines (copyright_value p) ≢ []
  pub short_name : first_line (license_value p) ≢ []

-- each word is a pattern
abbrev pub ArePatterns : List NumberedLine → Type 0
ArePatterns [] = Unit {0}
ArePatterns (word ∷ words) = (word_pieces word.content ≢ None) × ArePatterns words

-- a later paragraph: a Files paragraph, or a stand-alone licence
pub record IsFilesParagraph (p : List NumberedLine) : Type 0 where
  pub fields : AreFields p
  pub files : files_value p ≢ []
  pub parts : HasParts p
  pub patterns : ArePatterns (words_of (files_value p))

pub record IsLicenceParagraph (p : List NumberedLine) : Type 0 where
  pub fields : AreFields p
  pub no_files : files_value p ≡ []
  pub licence : license_value p ≢ []

abbrev pub IsLater : List NumberedLine → Type 0
IsLater p = IsFilesParagraph p ⊎ IsLicenceParagraph p

abbrev pub AreLater : List (List NumberedLine) → Type 0
AreLater [] = Unit {0}
AreLater (p ∷ ps) = IsLater p × AreLater ps

-- the paragraphs of a dep5
abbrev pub IsGrammatical : List (List NumberedLine) → Type 0
IsGrammatical [] = ⊥
IsGrammatical (p ∷ ps) = IsHeader p × AreLater ps

-- what is wrong with a header: a line, else the `Format`
abbrev pub IsHeaderFault : List NumberedLine → ℕ → Dep5Cause → Type 0
IsHeaderFault p number cause =
    IsFirstLineFault p number cause
    ⊎ (AreFields p × (text_of (format_value p) ≡ []) × (number ≡ first_number p) × (cause ≡ NoFormat))

-- the first word that is no pattern
pub record IsFirstBadWord (words : List NumberedLine) (number : ℕ) : Type 0 where
  pub before : List NumberedLine
  pub word : NumberedLine
  pub after : List NumberedLine
  pub stands : words ≡ before ++ word ∷ after
  pub sound : ArePatterns before
  pub fault : word_pieces word.content ≡ None
  pub named : number ≡ word.number

-- what is wrong with a later paragraph: a line, else what it has or lacks, else a pattern
abbrev pub IsPartFault : List NumberedLine → ℕ → Dep5Cause → Type 0
IsPartFault p number NoKind = (files_value p ≡ []) × (license_value p ≡ []) × (number ≡ first_number p)
IsPartFault p number Missing = (files_value p ≢ []) × (¬ HasParts p) × (number ≡ first_number p)
IsPartFault p number BadEscape = (files_value p ≢ []) × HasParts p × IsFirstBadWord (words_of (files_value p)) number
IsPartFault p number _ = ⊥

abbrev pub IsLaterFault : List NumberedLine → ℕ → Dep5Cause → Type 0
IsLaterFault p number cause = IsFirstLineFault p number cause ⊎ (AreFields p × IsPartFault p number cause)

-- the first paragraph with which something is wrong, among those after the header
pub record IsFirstLaterFault (ps : List (List NumberedLine)) (number : ℕ) (cause : Dep5Cause) : Type 0 where
  pub before : List (List NumberedLine)
  pub p : List NumberedLine
  pub after : List (List NumberedLine)
  pub stands : ps ≡ before ++ p ∷ after
  pub sound : AreLater before
  pub fault : IsLaterFault p number cause

-- the first fault of paragraphs that are no dep5
abbrev pub IsFirstFault : List (List NumberedLine) → ℕ → Dep5Cause → Type 0
IsFirstFault [] number cause = (number ≡ 1) × (cause ≡ Empty)
IsFirstFault (p ∷ ps) number cause = IsHeaderFault p number cause ⊎ (IsHeader p × IsFirstLaterFault ps number cause)

-- the text of a dep5
abbrev pub IsDep5Text : List ℕ → Type 0
IsDep5Text bytes = IsUtf8 bytes × IsGrammatical (paragraphs (dep5_lines bytes))

-- what is wrong with a text that is none: it is no UTF-8, else the first fault of its paragraphs
abbrev pub IsTextFault : List ℕ → Dep5Refusal → Type 0
IsTextFault bytes NotUtf8 = ¬ IsUtf8 bytes
IsTextFault bytes (BadDep5 number cause) = IsUtf8 bytes × IsFirstFault (paragraphs (dep5_lines bytes)) number cause
IsTextFault bytes _ = ⊥
