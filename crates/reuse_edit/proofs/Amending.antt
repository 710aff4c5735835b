-- The edit of an amendment: it is of a covered file that is there, or of its neighbour that is, or of a table.
use Rattle.std.proofs.Common.{◌≡◌, ◌⊎◌, inl, inr, ℕ, ◌≤◌, Bool, true, false, not, nat_lt, List, length, Option, Some}
use Rattle.std.proofs.Common.{None, IsSome, is_some, Result, Ok, Err, refl, sym, ap, cond, ◌∙◌}
use Rattle.reuse_command.specs.Reading.{get, Files}
use Rattle.std.proofs.lemmas.Bool.{false≢true, ltb-false}
use Rattle.reuse_toml.specs.TomlAmending.{toml_amendment_of}
use Rattle.reuse_header.specs.declared.amendment.AmendHeaderRefusal.{AmendHeaderRefusal}
use Rattle.reuse_style.specs.declared.style.Style.{Style}
use Rattle.reuse_header.specs.Amendment.{amendment_of, neighbour_amendment_of}
use Rattle.reuse_header.specs.Annotation as header
use Rattle.reuse_header.specs.Neighbour.{is_text}
use Rattle.reuse_tags.specs.Everywhere.{amended_everywhere}
use Rattle.reuse_text.specs.declared.TheConstants.{LONGEST_FILE}
use Rattle.reuse_change.specs.Listing.{is_folder}
use Rattle.reuse_command.specs.Command.{values_of}
use Rattle.reuse_edit.specs.Amend.{style_for, is_passed_over, amendment_edit, amend_neighbour, amend_block}
use Rattle.reuse_edit.specs.Amend.{amend_beside, amend_own_text, amend_inside, amend_covered, text_edit}
use Rattle.reuse_edit.specs.Amend.{table_amendment, amend_table, amended_where, amended_at, remove_block, removal_edit}
use Rattle.reuse_edit.specs.Amend.{some_text}
use Rattle.reuse_edit.specs.Annotate.{neighbour_of, edit_by}
use Rattle.reuse_edit.specs.Tables.{is_table}
use Rattle.reuse_command.specs.Covered.{is_covered}
use Rattle.reuse_edit.specs.Edit.{Edit, dropped}
use Rattle.reuse_edit.specs.Removed.{left_beside, left_inside}
use Rattle.reuse_style.specs.Kinds.{OwnKinds}
use Rattle.reuse_command.specs.declared.command.FileAmendment.{FileAmendment}
use Rattle.reuse_command.specs.declared.command.FileAmendment.TheVariants.{InHeader, Everywhere, Remove}
use Rattle.reuse_command.specs.declared.header_fault.HeaderFault.TheVariants as faults
use Rattle.reuse_command.specs.declared.command.Place.TheVariants as place
use Rattle.reuse_command.specs.declared.command.Scope.{Scope}
use Rattle.reuse_command.specs.declared.reply.Refusal.{Refusal}
use Rattle.reuse_command.specs.declared.reply.Refusal.TheVariants as refusals
use Rattle.reuse_edit.proofs.Results.{both_err, err_or}
use Rattle.reuse_edit.proofs.BetweenLemmas.{between, between_by}
use Rattle.reuse_edit.proofs.EditResults.{some_edit, unskipped}
use Rattle.reuse_edit.proofs.TableLemmas.{IsWorkable, as_edit, as_edit_by, of_change}

not_false : (b : Bool) → not b ≡ false → b ≡ true
not_false true e = refl
not_false false e = absurd (false≢true (sym e))

-- the neighbour
pub record IsBeside (path at : List ℕ) : Type 0 where
  pub same : at ≡ neighbour_of path
  pub few : length (neighbour_of path) ≤ 4096

-- an edit of these bytes, at a place: one of some of them, or it takes the file away
abbrev pub IsEditOf : List ℕ → List ℕ → List ℕ → Edit → Type 0
IsEditOf path at bytes edit =
    ((one : header.Edit) × (edit_by path at bytes (Ok one) ≡ some_edit edit)) ⊎ (dropped at bytes ≡ edit)

pub record AmendsThere (tree : Files) (path : List ℕ) (edit : Edit) : Type 0 where
  pub is_file : IsSome (get tree path)
  pub workable : IsWorkable path
  pub at : List ℕ
  pub bytes : List ℕ
  pub here : get tree at ≡ Some bytes
  pub by : IsEditOf path at bytes edit
  pub placed : (at ≡ path) ⊎ IsBeside path at

module _ (path : List ℕ) (edit : Edit) where
  abbrev EditOf : List ℕ → List ℕ → Type 0
  EditOf at bytes = IsEditOf path at bytes edit

  of_expected : (at bytes : List ℕ) (expected : Result (Option header.Edit) AmendHeaderRefusal)
      → amendment_edit path at bytes expected ≡ some_edit edit → EditOf at bytes
  of_expected at bytes (Ok None) e = absurd (cc)
  of_expected at bytes (Ok (Some one)) e = inl (one, e)
  of_expected at bytes (Err refusal) e = absurd (cc)

  of_text : (at bytes : List ℕ) (made : Option (List ℕ)) → text_edit path at bytes made ≡ some_edit edit
      → EditOf at bytes
  of_text at bytes None e = absurd (cc)
  of_text at bytes (Some new) e =
      let fits = err_or (nat_lt LONGEST_FILE (length new)) (refusals.Header path faults.TooLong) _ (Some edit) e in
      inl (between bytes new, sym (between_by bytes new path at) ∙ fits.1)

  of_left : (at bytes : List ℕ) (left : Result (Option (List ℕ)) Refusal)
      → removal_edit at bytes left ≡ some_edit edit → EditOf at bytes
  of_left at bytes (Err refusal) e = absurd (cc)
  of_left at bytes (Ok None) e = let same : dropped at bytes ≡ edit = cc in inr same
  of_left at bytes (Ok (Some new)) e = inl (between bytes new, sym (between_by bytes new path at) ∙ e)

  of_beside : (amendment : FileAmendment) (bytes : List ℕ) → amend_beside amendment path bytes ≡ some_edit edit
      → EditOf (neighbour_of path) bytes
  of_beside (InHeader values) bytes e = of_expected (neighbour_of path) bytes (neighbour_amendment_of values bytes) e
  of_beside (Everywhere values) bytes e =
      let text = err_or (not (is_text bytes)) (refusals.Header path faults.NotText) _ (Some edit) e in
      of_text (neighbour_of path) bytes (amended_everywhere values bytes) text.1
  of_beside (Remove values removal) bytes e =
      of_left (neighbour_of path) bytes (left_beside values removal path bytes) e

  -- the neighbour's edit is one of its bytes
  pub beside_edit : (amendment : FileAmendment) (bytes : List ℕ)
      → amend_neighbour amendment path bytes ≡ some_edit edit → EditOf (neighbour_of path) bytes
  beside_edit amendment bytes e =
      let few = err_or (nat_lt 4096 (length (neighbour_of path))) (refusals.TooLong path) _ (Some edit) e in
      let short = err_or (nat_lt LONGEST_FILE (length bytes)) (refusals.TooLong path) _ (Some edit) few.1 in
      of_beside amendment bytes short.1

  of_own_text : (amendment : FileAmendment) (scope : Scope) (own : OwnKinds) (bytes : List ℕ)
      → amend_own_text amendment scope own path bytes ≡ some_edit edit → EditOf path bytes
  of_own_text (Everywhere values) scope own bytes e = of_text path bytes (amended_everywhere values bytes) e
  of_own_text (InHeader values) scope own bytes e = of_style (style_for scope own path bytes) e
    where
      of_style : (style : Option Style) → amend_block values path bytes style ≡ some_edit edit → EditOf path bytes
      of_style None h = absurd (cc)
      of_style (Some style) h = of_expected path bytes (amendment_of style values bytes) h
  of_own_text (Remove values removal) scope own bytes e = of_style (style_for scope own path bytes) e
    where
      of_style : (style : Option Style) → remove_block values removal path bytes style ≡ some_edit edit
          → EditOf path bytes
      of_style None h = absurd (cc)
      of_style (Some style) h = of_left path bytes (some_text (left_inside values removal style path bytes)) h

  -- the file's is one of its own
  pub own_edit : (amendment : FileAmendment) (scope : Scope) (own : OwnKinds) (bytes : List ℕ)
      → amend_inside amendment scope own path bytes ≡ some_edit edit → EditOf path bytes
  own_edit amendment scope own bytes e =
      let read = unskipped (is_passed_over amendment scope own path bytes) _ edit e in
      let short = err_or (nat_lt LONGEST_FILE (length bytes)) (refusals.TooLong path) _ (Some edit) read.1 in
      let text = unskipped (not (is_text bytes)) _ edit short.1 in
      of_own_text amendment scope own bytes text.1

module _ (amendment : FileAmendment) (scope : Scope) (own : OwnKinds) (tree : Files) (path : List ℕ)
    (edit : Edit) where
  abbrev Here : Type 0
  Here = AmendsThere tree path edit

  of_neighbour : (bytes : List ℕ) → IsSome (get tree path) → is_covered path ≡ true
      → get tree (neighbour_of path) ≡ Some bytes → amend_neighbour amendment path bytes ≡ some_edit edit → Here
  of_neighbour bytes some covered here e =
      let few = err_or (nat_lt 4096 (length (neighbour_of path))) (refusals.TooLong path) _ (Some edit) e in
      record {
        is_file = some;
        workable = inl covered;
        at = neighbour_of path;
        bytes = bytes;
        here = here;
        by = beside_edit path edit amendment bytes e;
        placed = inr (record { same = refl; few = ltb-false 4096 (length (neighbour_of path)) few.0 });
      }

  of_inside : (bytes : List ℕ) → get tree path ≡ Some bytes → is_covered path ≡ true
      → amend_inside amendment scope own path bytes ≡ some_edit edit → Here
  of_inside bytes here covered e =
      record {
        is_file = ap is_some here;
        workable = inl covered;
        at = path;
        bytes = bytes;
        here = here;
        by = own_edit path edit amendment scope own bytes e;
        placed = inl refl;
      }

  of_covered : (bytes : List ℕ) (beside : Option (List ℕ)) → get tree path ≡ Some bytes → is_covered path ≡ true
      → get tree (neighbour_of path) ≡ beside
      → amend_covered amendment scope own path bytes beside ≡ some_edit edit → Here
  of_covered bytes (Some beside) here covered is e = of_neighbour beside (ap is_some here) covered is e
  of_covered bytes None here covered is e = of_inside bytes here covered e

  of_table : (bytes : List ℕ) → get tree path ≡ Some bytes → is_table path ≡ true
      → amend_table (values_of amendment) path bytes ≡ some_edit edit → Here
  of_table bytes here table e =
      let short = err_or (nat_lt LONGEST_FILE (length bytes)) (refusals.TooLong path)
      (table_amendment path bytes (toml_amendment_of (values_of amendment) bytes)) (Some edit) e in
      let change = of_change path bytes (toml_amendment_of (values_of amendment) bytes) edit short.1 in
      record {
        is_file = ap is_some here;
        workable = inr table;
        at = path;
        bytes = bytes;
        here = here;
        by = inl (
          as_edit change.0,
          as_edit_by (values_of amendment) bytes change.0 change.1 path ∙ ap some_edit change.2,
        );
        placed = inl refl;
      }

  of_file : (file : Option (List ℕ)) → get tree path ≡ file
      → amended_where amendment scope own tree path file ≡ some_edit edit → Here
  of_file None is e = absurd
      (both_err (is_folder tree path) (refusals.IsFolder (place.Path path)) (refusals.NoSuchPath path) (Some edit) e)
  of_file (Some bytes) is e = by_table (is_table path) refl e
    where
      by_table : (table : Bool) → is_table path ≡ table → cond table (amend_table (values_of amendment) path bytes)
          (cond (not (is_covered path)) (Err (refusals.NotCovered path))
          (amend_covered amendment scope own path bytes (get tree (neighbour_of path)))) ≡ some_edit edit → Here
      by_table true t h = of_table bytes is t h
      by_table false t h =
          let k = err_or (not (is_covered path)) (refusals.NotCovered path)
          (amend_covered amendment scope own path bytes (get tree (neighbour_of path))) (Some edit) h in
          of_covered bytes (get tree (neighbour_of path)) is (not_false (is_covered path) k.0) refl k.1

  pub amends_there : amended_at amendment scope own tree path ≡ some_edit edit
      → AmendsThere tree path edit
  amends_there e = of_file (get tree path) refl e
