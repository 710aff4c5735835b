-- A table, a file `REUSE.toml`: its path, and what amending makes of it.
use Rattle.std.proofs.Common.{◌≡◌, ◌⊎◌, inl, inr, ℕ, ◌≤◌, Bool, true, false, not, ◌&&◌, ◌||◌, cond, List, [], length}
use Rattle.std.proofs.Common.{take, drop, Option, Some, None, Result, Ok, Err, refl, sym, ap, ◌∙◌, bytes_eq, codes}
use Rattle.std.proofs.Common.{nat_eq}
use Rattle.std.specs.List.{ends_with}
use Rattle.reuse_command.specs.Reading.{get, Files}
use Rattle.std.proofs.lemmas.Bool.{false≢true, false_from_ne_true, and_parts}
use Rattle.std.proofs.lemmas.Slice.Eq.{bytes_eq-Decides}
use Rattle.reuse_text.specs.Text.{spliced}
use Rattle.reuse_text.specs.declared.TheConstants.{LONGEST_FILE}
use Rattle.reuse_amend.specs.declared.amendments.Amendments.{Amendments}
use Rattle.reuse_toml.specs.declared.toml_change.TomlSplice.{TomlSplice}
use Rattle.reuse_toml.specs.declared.toml_values.AmendTomlRefusal.{AmendTomlRefusal}
use Rattle.reuse_toml.specs.declared.toml_values.AmendTomlRefusal.TheVariants.{BadExpression, CannotBeAmended, TooLong}
use Rattle.reuse_toml.specs.declared.toml_values.AmendTomlRefusal.TheVariants.{Memory}
use Rattle.reuse_toml.specs.TomlAmending.{toml_amendment_of}
use Rattle.reuse_toml.specs.TomlAnswers.{IsTomlAnswer}
use Rattle.reuse_toml.proofs.TomlLawLemmas as toml
use Rattle.reuse_header.specs.Annotation as header
use Rattle.reuse_change.specs.Change.{sealed_splice}
use Rattle.reuse_edit.specs.Amend.{table_refused_by, table_edit, table_amendment}
use Rattle.reuse_edit.specs.AmendmentPlan.{IsWithin}
use Rattle.reuse_edit.specs.Annotate.{edit_by}
use Rattle.reuse_edit.specs.Tables.{toml_path, is_table}
use Rattle.reuse_command.specs.Covered.{last_part, is_outside, has_stem, is_covered}
use Rattle.reuse_edit.specs.Edit.{Edit}
use Rattle.reuse_edit.specs.Answered.{IsRefusalOf, MakesEdit}
use Rattle.reuse_edit.proofs.EditResults.{no_edit, some_edit, same_edit}
use Rattle.reuse_edit.proofs.SpliceLemmas.{makes_splice}

-- ---- its path

-- it isn't covered
not_named : (o a b t d e f : Bool) → (not o && not (a || b || t || d || e || f)) ≡ true → t ≡ false
not_named o a b false d e f h = refl
not_named true a b true d e f h = absurd (false≢true h)
not_named false true b true d e f h = absurd (false≢true h)
not_named false false true true d e f h = absurd (false≢true h)
not_named false false false true d e f h = absurd (false≢true h)

pub not_table : (path : List ℕ) → is_covered path ≡ true → is_table path ≡ false
not_table path covered =
    let name = last_part path in
    let other = not_named (is_outside path) (ends_with nat_eq name (codes ".license"))
    (ends_with nat_eq name (codes ".spdx")) (bytes_eq name toml_path) (has_stem (codes "LICENSE") name)
    (has_stem (codes "LICENCE") name) (has_stem (codes "COPYING") name) covered in
    false_from_ne_true (is_table path) (λ e.
    false≢true (sym other ∙ (and_parts (not (is_outside path)) (bytes_eq name toml_path) e).1))

-- the path of a file that is selected is covered, or that of a table
abbrev pub IsWorkable : List ℕ → Type 0
IsWorkable path = (is_covered path ≡ true) ⊎ (is_table path ≡ true)

-- it is in no folder whose files are not covered
within : (a b : Bool) → (not a && b) ≡ true → a ≡ false
within true b e = absurd (false≢true e)
within false b e = refl

pub workable_within : (path : List ℕ) → IsWorkable path → is_outside path ≡ false
workable_within path (inl covered) = within (is_outside path) _ covered
workable_within path (inr table) = within (is_outside path) _ table

-- and its name is that of one
pub table_named : (path : List ℕ) → is_table path ≡ true → last_part path ≡ toml_path
table_named path table = (bytes_eq-Decides (last_part path) toml_path).0
    (and_parts (not (is_outside path)) (bytes_eq (last_part path) toml_path) table).1

-- ---- what amending makes of it

-- the change as an edit of a file
abbrev pub as_edit : TomlSplice → header.Edit
as_edit change = record { start = change.at; old_len = change.old; front = []; text = []; back = change.new }

pub of_change : (path bytes : List ℕ) (expected : Result (Option TomlSplice) AmendTomlRefusal) (edit : Edit)
    → table_amendment path bytes expected ≡ some_edit edit
    → (change : TomlSplice) × (expected ≡ Ok (Some change)) × (table_edit path bytes change ≡ edit)
of_change path bytes (Ok None) edit e = absurd (cc)
of_change path bytes (Ok (Some change)) edit e = (change, refl, same_edit (table_edit path bytes change) edit e)
of_change path bytes (Err refusal) edit e = absurd (cc)

module _ (amendments : Amendments) (bytes : List ℕ) (change : TomlSplice)
    (is : toml_amendment_of amendments bytes ≡ Ok (Some change)) where
  -- it changes something
  pub table_differs : bytes_eq (spliced bytes change.at change.old change.new) bytes ≡ false
  table_differs = false_from_ne_true (bytes_eq (spliced bytes change.at change.old change.new) bytes) (λ e.
      toml.another amendments bytes change is
      ((bytes_eq-Decides (spliced bytes change.at change.old change.new) bytes).0 e))

  pub as_edit_by : (path : List ℕ)
      → edit_by path path bytes (Ok (as_edit change)) ≡ some_edit (table_edit path bytes change)
  as_edit_by path = ap (λ b. cond b no_edit (some_edit (table_edit path bytes change))) table_differs

  -- the change of the file
  pub table_made : (tree : Files) (path : List ℕ) → get tree path ≡ Some bytes → length bytes ≤ LONGEST_FILE
      → MakesEdit tree (table_amendment path bytes (Ok (Some change)))
      (Some (sealed_splice path bytes change.at (take change.old (drop change.at bytes)) change.new))
  table_made tree path here short = (
    table_edit path bytes change,
    refl,
    makes_splice bytes change.at change.old (toml.within amendments bytes change is) tree path change.new here short
        (toml.fitting amendments bytes change is) table_differs,
  )

-- ---- by what a call answers

pub within_answer : (amendments : Amendments) (bytes : List ℕ) (made : Result (Option TomlSplice) AmendTomlRefusal)
    → IsTomlAnswer (toml_amendment_of amendments bytes) made → IsWithin bytes made
within_answer amendments bytes (Ok (Some change)) is = toml.within amendments bytes change is
within_answer amendments bytes (Ok None) is = tt
within_answer amendments bytes (Err refusal) is = tt

pub table_refused : (path bytes : List ℕ) (expected : Result (Option TomlSplice) AmendTomlRefusal)
    (refusal : AmendTomlRefusal) → IsTomlAnswer expected (Err refusal)
    → IsRefusalOf (table_amendment path bytes expected) (table_refused_by path refusal)
table_refused path bytes expected BadExpression is = ap (table_amendment path bytes) is
table_refused path bytes expected CannotBeAmended is = ap (table_amendment path bytes) is
table_refused path bytes expected TooLong is = ap (table_amendment path bytes) is
table_refused path bytes expected (Memory e) is = tt
