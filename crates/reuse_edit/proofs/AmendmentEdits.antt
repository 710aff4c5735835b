-- The change of a place, by what an amendment makes of its bytes.
use Rattle.std.proofs.Common.{◌≡◌, ℕ, ◌+◌, ◌≤◌, Bool, true, false, cond, not, List, length, take, drop, nat_lt, Option}
use Rattle.std.proofs.Common.{Some, None, IsSome, Result, Ok, Err, refl, ap, ◌∙◌}
use Rattle.std.specs.Str.{bytes_eq}
use Rattle.reuse_command.specs.Reading.{get, Files}
use Rattle.std.proofs.lemmas.Bool.{false≢true}
use Rattle.reuse_toml.specs.TomlAmending.{toml_amendment_of}
use Rattle.reuse_header.specs.declared.amendment.AmendHeaderRefusal.{AmendHeaderRefusal}
use Rattle.reuse_header.specs.declared.amendment.AmendHeaderRefusal.TheVariants.{BadExpression, NothingLeft, Header}
use Rattle.reuse_header.specs.declared.annotation.HeaderRefusal.TheVariants.{NotText, NoSuchForm, HoldsCloser, TooLong}
use Rattle.reuse_header.specs.declared.annotation.HeaderRefusal.TheVariants.{Unsettled, Memory}
use Rattle.reuse_header.specs.declared.annotation.Splice.{Splice}
use Rattle.reuse_header.specs.Amendment.{amendment_answer, IsExpectedAmendment}
use Rattle.reuse_header.specs.Annotation as header
use Rattle.reuse_header.specs.Neighbour.{is_text}
use Rattle.reuse_text.specs.declared.TheConstants.{LONGEST_FILE}
use Rattle.reuse_edit.specs.Amend.{amend_refused_by, amendment_edit, amend_covered, amended_where, amend_table}
use Rattle.reuse_edit.specs.Amend.{amend_beside, table_amendment}
use Rattle.reuse_edit.specs.AmendmentPlan.{Expected, Fits, own_of, amended_by, beside_by, inside_by, table_by}
use Rattle.reuse_edit.specs.AmendmentPlan.{is_passed_over_by, own_text_by}
use Rattle.reuse_edit.specs.Annotate.{neighbour_of}
use Rattle.reuse_edit.specs.Tables.{is_table}
use Rattle.reuse_command.specs.Command.{values_of}
use Rattle.reuse_command.specs.Covered.{is_covered}
use Rattle.reuse_edit.specs.Edit.{Edit}
use Rattle.reuse_edit.specs.Answered.{IsRefusalOf}
use Rattle.reuse_edit.specs.declared.annotation.Amendment.{Amendment}
use Rattle.reuse_command.specs.declared.reply.Refusal.{Refusal}
use Rattle.reuse_command.specs.declared.reply.Refusal.TheVariants as refusals
use Rattle.reuse_edit.proofs.EditLemmas.{edited_to, refused}
use Rattle.reuse_edit.proofs.TableLemmas.{not_table}

-- what is known of each edit is known of an amendment
pub fits_amendment : (bytes : List ℕ) (expected : Expected) → ((edit : header.Edit) → expected ≡ Ok (Some edit)
    → (edit.start + edit.old_len ≤ length bytes) × (length (header.edited bytes edit) ≤ LONGEST_FILE))
    → Fits bytes expected
fits_amendment bytes (Ok (Some edit)) each = each edit refl
fits_amendment bytes (Ok None) each = tt
fits_amendment bytes (Err refusal) each = tt

-- ---- by what a call answers

abbrev answered : Option Splice → Result (Option Splice) AmendHeaderRefusal
answered splice = Ok splice

-- where it answers none, none is made
pub none_made : (path at file : List ℕ) (expected : Expected) → amendment_answer file expected ≡ answered None
    → amendment_edit path at file expected ≡ edited_to None
none_made path at file (Ok None) e = refl
none_made path at file (Err refusal) e = absurd (cc)
none_made path at file (Ok (Some edit)) e = by_test (bytes_eq (header.edited file edit) file) e
  where
    by_test : (b : Bool) → answered (cond b None (Some (record {
      at = edit.start;
      old = take edit.old_len (drop edit.start file);
      new = header.new_bytes edit;
    }))) ≡ answered None → cond b (edited_to None) (edited_to (Some (record {
      path = at;
      removed = take edit.old_len (drop edit.start file);
      written = header.new_bytes edit;
      file = Some (header.edited file edit);
    }))) ≡ edited_to None
    by_test true e = refl
    by_test false e = absurd (cc)

-- where it answers one, that is the one of an edit
pub some_made : (file : List ℕ) (expected : Expected) (splice : Splice)
    → amendment_answer file expected ≡ answered (Some splice) → (edit : header.Edit) × (expected ≡ Ok (Some edit))
some_made file (Ok None) splice e = absurd (cc)
some_made file (Err refusal) splice e = absurd (cc)
some_made file (Ok (Some edit)) splice e = (edit, refl)

err_made : (path at file : List ℕ) (expected : Expected) (refusal : AmendHeaderRefusal)
    → amendment_answer file expected ≡ Err refusal
    → amendment_edit path at file expected ≡ Err (amend_refused_by path refusal)
err_made path at file (Ok None) refusal e = absurd (cc)
err_made path at file (Ok (Some edit)) refusal e = absurd (cc)
err_made path at file (Err other) refusal e = let same : other ≡ refusal = cc in
    ap (λ r. Err (amend_refused_by path r)) same

-- its refusal is the one of the path
pub refused_made : (path at file : List ℕ) (expected : Expected) (refusal : AmendHeaderRefusal)
    → IsExpectedAmendment {X = Option Splice} (amendment_answer file expected) (Err refusal)
    → IsRefusalOf (amendment_edit path at file expected) (amend_refused_by path refusal)
refused_made path at file expected BadExpression is = err_made path at file expected BadExpression is
refused_made path at file expected NothingLeft is = err_made path at file expected NothingLeft is
refused_made path at file expected (Header NotText) is = err_made path at file expected (Header NotText) is
refused_made path at file expected (Header NoSuchForm) is = err_made path at file expected (Header NoSuchForm) is
refused_made path at file expected (Header HoldsCloser) is = err_made path at file expected (Header HoldsCloser) is
refused_made path at file expected (Header TooLong) is = err_made path at file expected (Header TooLong) is
refused_made path at file expected (Header Unsettled) is = err_made path at file expected (Header Unsettled) is
refused_made path at file expected (Header (Memory e)) is = tt

-- ---- by the tests of the code

module _ (asked : Amendment) (path bytes : List ℕ) where
  abbrev by_neighbour : Result (Option Edit) Refusal
  by_neighbour = amend_beside asked.amendment.now path bytes

  pub beside_is : nat_lt 4096 (length (neighbour_of path)) ≡ false → nat_lt LONGEST_FILE (length bytes) ≡ false
      → beside_by asked path bytes ≡ amend_beside asked.amendment.now path bytes
  beside_is few short =
      ap (λ b. cond b (refused (refusals.TooLong path))
      (cond (nat_lt LONGEST_FILE (length bytes)) (refused (refusals.TooLong path)) by_neighbour)) few
      ∙ ap (λ b. cond b (refused (refusals.TooLong path)) by_neighbour) short

  abbrev by_table : Result (Option Edit) Refusal
  by_table = table_amendment path bytes (toml_amendment_of (values_of asked.amendment.now) bytes)

  pub table_is : nat_lt LONGEST_FILE (length bytes) ≡ false → table_by asked path bytes
      ≡ table_amendment path bytes (toml_amendment_of (values_of asked.amendment.now) bytes)
  table_is short = ap (λ b. cond b (refused (refusals.TooLong path)) by_table) short

  abbrev by_length : Result (Option Edit) Refusal
  by_length = cond (nat_lt LONGEST_FILE (length bytes)) (refused (refusals.TooLong path))
      (cond (not (is_text bytes)) (edited_to None) (own_text_by asked path bytes))

  pub passed_over_is : is_passed_over_by asked path bytes ≡ true → inside_by asked path bytes ≡ edited_to None
  passed_over_is passed = ap (λ b. cond b (edited_to None) by_length) passed

  pub inside_is : (text : Bool) → is_passed_over_by asked path bytes ≡ false
      → nat_lt LONGEST_FILE (length bytes) ≡ false → is_text bytes ≡ text
      → inside_by asked path bytes ≡ cond (not text) (edited_to None) (own_text_by asked path bytes)
  inside_is text read short is =
      ap (λ b. cond b (edited_to None) by_length) read
      ∙ ap (λ b. cond b (refused (refusals.TooLong path)) (cond (not (is_text bytes)) (edited_to None)
      (own_text_by asked path bytes))) short
      ∙ ap (λ b. cond (not b) (edited_to None) (own_text_by asked path bytes)) is

module _ (asked : Amendment) (tree : Files) (path : List ℕ) where
  abbrev covered_by : List ℕ → Option (List ℕ) → Result (Option Edit) Refusal
  covered_by bytes beside = amend_covered asked.amendment.now asked.scope.now (own_of asked) path bytes beside

  -- it is a table, or another file
  abbrev by_file : List ℕ → Bool → Result (Option Edit) Refusal
  by_file bytes table = cond table (amend_table (values_of asked.amendment.now) path bytes)
      (cond (not (is_covered path)) (refused (refusals.NotCovered path)) (covered_by bytes (get tree (neighbour_of path))))

  pub goes_to_table : (bytes : List ℕ) → get tree path ≡ Some bytes → is_table path ≡ true
      → amended_by asked tree path ≡ table_by asked path bytes
  goes_to_table bytes here table =
      ap (amended_where asked.amendment.now asked.scope.now (own_of asked) tree path) here ∙ ap (by_file bytes) table

  pub uncovered_is : (file : Option (List ℕ)) → IsSome file → is_table path ≡ false → is_covered path ≡ false
      → amended_where asked.amendment.now asked.scope.now (own_of asked) tree path file ≡ refused
      (refusals.NotCovered path)
  uncovered_is None some other e = absurd (false≢true some)
  uncovered_is (Some bytes) some other e = ap (by_file bytes) other
      ∙ ap (λ b. cond (not b) (refused (refusals.NotCovered path)) (covered_by bytes (get tree (neighbour_of path)))) e

  covered_is : (bytes : List ℕ) (beside : Option (List ℕ)) → get tree path ≡ Some bytes → is_covered path ≡ true
      → get tree (neighbour_of path) ≡ beside → amended_by asked tree path ≡ covered_by bytes beside
  covered_is bytes beside here covered is =
      ap (amended_where asked.amendment.now asked.scope.now (own_of asked) tree path) here
      ∙ ap (by_file bytes) (not_table path covered)
      ∙ ap (λ t. cond (not t) (refused (refusals.NotCovered path)) (covered_by bytes (get tree (neighbour_of path))))
      covered ∙ ap (covered_by bytes) is

  -- the neighbour is there
  pub goes_to_neighbour : (bytes beside : List ℕ) → get tree path ≡ Some bytes → is_covered path ≡ true
      → get tree (neighbour_of path) ≡ Some beside → amended_by asked tree path ≡ beside_by asked path beside
  goes_to_neighbour bytes beside here covered is = covered_is bytes (Some beside) here covered is

  -- it isn't
  pub goes_inside : (bytes : List ℕ) → get tree path ≡ Some bytes → is_covered path ≡ true
      → get tree (neighbour_of path) ≡ None → amended_by asked tree path ≡ inside_by asked path bytes
  goes_inside bytes here covered is = covered_is bytes None here covered is
