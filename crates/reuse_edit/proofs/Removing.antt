-- The text that is left where something is taken out of a header, by what is made of it.
use Rattle.std.proofs.Common.{◌≡◌, ℕ, ◌+◌, ◌≤◌, Bool, true, false, cond, List, length, take, drop, Option, Some, None}
use Rattle.std.proofs.Common.{Result, Ok, Err, refl, sym, ap, subst, arith}
use Rattle.std.specs.Str.{bytes_eq}
use Rattle.reuse_text.specs.declared.TheConstants.{LONGEST_FILE}
use Rattle.reuse_header.specs.declared.annotation.HeaderRefusal.{HeaderRefusal}
use Rattle.reuse_header.specs.declared.annotation.HeaderRefusal.TheVariants.{NotText, NoSuchForm, HoldsCloser, TooLong}
use Rattle.reuse_header.specs.declared.annotation.HeaderRefusal.TheVariants.{Unsettled, Memory}
use Rattle.reuse_header.specs.declared.annotation.Splice.{Splice}
use Rattle.reuse_header.specs.declared.amendment.AmendHeaderRefusal.{AmendHeaderRefusal}
use Rattle.reuse_header.specs.declared.amendment.AmendHeaderRefusal.TheVariants.{BadExpression, NothingLeft, Header}
use Rattle.reuse_header.specs.Amendment.{amended_file, amendment_answer, IsExpectedAmendment}
use Rattle.reuse_header.specs.Annotation as header
use Rattle.reuse_header.specs.Splices.{IsExpected}
use Rattle.reuse_words.specs.Removal.{edit_answer, IsExpectedChange, block_untagged, leaves_nothing, neighbour_answer}
use Rattle.reuse_words.specs.Removal.{neighbour_change_of, neighbour_untagged_of}
use Rattle.reuse_words.specs.declared.removal.NeighbourChange.{NeighbourChange}
use Rattle.std.specs.Option.{option_map_or, option_map}
use Rattle.reuse_text.specs.Text.{after_mark}
use Rattle.reuse_text.proofs.TextLemmas.{text_of-lines_of}
use Rattle.reuse_style.specs.declared.style.Style.{Style}
use Rattle.reuse_header.specs.Header.{HeaderSpan, header_of, span_in}
use Rattle.reuse_words.specs.Amended.{block_without, neighbour_without_texts_of}
use Rattle.reuse_words.specs.declared.removal.NeighbourChange.TheVariants.{Changed, Emptied, Unchanged}
use Rattle.reuse_words.proofs.FileLawLemmas.{neighbour_fits, removal_fits, texts_out_fit}
use Rattle.reuse_words.proofs.NeighbourLawLemmas.{neighbour_out_fits}
use Rattle.reuse_command.specs.declared.command.HeaderRemoval.{HeaderRemoval}
use Rattle.reuse_command.specs.declared.command.HeaderRemoval.TheVariants as removals
use Rattle.reuse_edit.specs.AmendmentPlan.{Expected, ExpectedRemoval, FitsRemoval, IsChangeWithin, IsRemovalWithin}
use Rattle.reuse_edit.specs.AmendmentPlan.{IsSpliceWithin}
use Rattle.reuse_edit.proofs.LeftLemmas.{removed_len, spliced_len}
use Rattle.reuse_edit.specs.HeaderFaults.{amend_refused_by, refused_by}
use Rattle.reuse_command.specs.Reading.{get, Files}
use Rattle.sha2.specs.Sha256.{sha256}
use Rattle.reuse_change.specs.Change.{sealed_drop}
use Rattle.reuse_edit.specs.Edit.{dropped}
use Rattle.reuse_edit.specs.Answered.{CarriesOutEdit, IsRefusalOf}
use Rattle.reuse_edit.specs.Removed.{amended_or_refused, neighbour_left, neighbour_removal_of, or_refused, removal_of}
use Rattle.reuse_edit.specs.Removed.{text_left}

-- ---- the values

err_text : (path file : List ℕ) (expected : Expected) (refusal : AmendHeaderRefusal)
    → amendment_answer file expected ≡ Err refusal
    → amended_or_refused path (amended_file file expected) ≡ Err (amend_refused_by path refusal)
err_text path file (Ok None) refusal e = absurd (cc)
err_text path file (Ok (Some edit)) refusal e = absurd (cc)
err_text path file (Err other) refusal e = let same : other ≡ refusal = cc in
    ap (λ r. Err (amend_refused_by path r)) same

-- the refusal is that of the file
pub refused_text : (path file : List ℕ) (expected : Expected) (refusal : AmendHeaderRefusal)
    → IsExpectedAmendment {X = Option Splice} (amendment_answer file expected) (Err refusal)
    → IsRefusalOf (amended_or_refused path (amended_file file expected)) (amend_refused_by path refusal)
refused_text path file expected BadExpression is = err_text path file expected BadExpression is
refused_text path file expected NothingLeft is = err_text path file expected NothingLeft is
refused_text path file expected (Header NotText) is = err_text path file expected (Header NotText) is
refused_text path file expected (Header NoSuchForm) is = err_text path file expected (Header NoSuchForm) is
refused_text path file expected (Header HoldsCloser) is = err_text path file expected (Header HoldsCloser) is
refused_text path file expected (Header TooLong) is = err_text path file expected (Header TooLong) is
refused_text path file expected (Header Unsettled) is = err_text path file expected (Header Unsettled) is
refused_text path file expected (Header (Memory e)) is = tt

-- ---- what is taken out

err_left : (path file : List ℕ) (expected : ExpectedRemoval) (refusal : HeaderRefusal)
    → edit_answer file expected ≡ Err refusal
    → or_refused path (text_left file expected) ≡ Err (refused_by path refusal)
err_left path file (Ok None) refusal e = absurd (cc)
err_left path file (Ok (Some edit)) refusal e = absurd (cc)
err_left path file (Err other) refusal e = let same : other ≡ refusal = cc in
    ap (λ r. Err (refused_by path r)) same

pub refused_left : (path file : List ℕ) (expected : ExpectedRemoval) (refusal : HeaderRefusal)
    → IsExpected (edit_answer file expected) (Err refusal)
    → IsRefusalOf (or_refused path (text_left file expected)) (refused_by path refusal)
refused_left path file expected NotText is = err_left path file expected NotText is
refused_left path file expected NoSuchForm is = err_left path file expected NoSuchForm is
refused_left path file expected HoldsCloser is = err_left path file expected HoldsCloser is
refused_left path file expected TooLong is = err_left path file expected TooLong is
refused_left path file expected Unsettled is = err_left path file expected Unsettled is
refused_left path file expected (Memory e) is = tt

err_beside : (path file : List ℕ) (expected : Result NeighbourChange HeaderRefusal) (refusal : HeaderRefusal)
    → expected ≡ Err refusal
    → or_refused path (neighbour_left file expected) ≡ Err (refused_by path refusal)
err_beside path file expected refusal e = ap (λ x. or_refused path (neighbour_left file x)) e

pub refused_beside : (path file : List ℕ) (expected : Result NeighbourChange HeaderRefusal) (refusal : HeaderRefusal)
    → IsExpectedChange expected (Err refusal)
    → IsRefusalOf (or_refused path (neighbour_left file expected)) (refused_by path refusal)
refused_beside path file expected NotText is = err_beside path file expected NotText is
refused_beside path file expected NoSuchForm is = err_beside path file expected NoSuchForm is
refused_beside path file expected HoldsCloser is = err_beside path file expected HoldsCloser is
refused_beside path file expected TooLong is = err_beside path file expected TooLong is
refused_beside path file expected Unsettled is = err_beside path file expected Unsettled is
refused_beside path file expected (Memory e) is = tt

-- ---- a file that goes

pub drop_carried : (tree : Files) (at old clone bytes : List ℕ) → clone ≡ at → bytes ≡ old → get tree at ≡ Some old
    → length old ≤ LONGEST_FILE → CarriesOutEdit tree (sealed_drop clone bytes) (dropped at old)
drop_carried tree at old clone bytes cloned same here short =
    subst (λ p. CarriesOutEdit tree (sealed_drop p bytes) (dropped at old)) (sym cloned)
    (subst (λ b. CarriesOutEdit tree (sealed_drop at b) (dropped at old)) (sym same) (record {
      path = refl;
      removed = refl;
      written = refl;
      proper = tt;
      small = short;
      applies = record { range = (here, refl); from = ap (option_map sha256) here; to = tt };
      sealed = refl;
    }))

-- ---- an edit fits its file

abbrev FitsIn : List ℕ → header.Edit → Type 0
FitsIn bytes edit = (edit.start + edit.old_len ≤ length bytes) × (length (header.edited bytes edit) ≤ LONGEST_FILE)

fits_removal : (bytes : List ℕ) (expected : ExpectedRemoval)
    → ((edit : header.Edit) → expected ≡ Ok (Some edit) → FitsIn bytes edit) → FitsRemoval bytes expected
fits_removal bytes (Ok (Some edit)) each = each edit refl
fits_removal bytes (Ok None) each = tt
fits_removal bytes (Err refusal) each = tt

pub fits_block : (removal : HeaderRemoval) (style : Style) (bytes : List ℕ) → length bytes ≤ LONGEST_FILE
    → FitsRemoval bytes (removal_of removal style bytes)
fits_block removal style bytes short =
    fits_removal bytes (removal_of removal style bytes) (λ edit e. by_removal removal edit e)
  where
    by_removal : (asked : HeaderRemoval) (edit : header.Edit) → removal_of asked style bytes ≡ Ok (Some edit)
        → FitsIn bytes edit
    by_removal (removals.Texts texts) edit e = by_block (option_map (span_in bytes) (header_of style bytes)) refl e
      where
        by_block : (found : Option HeaderSpan) → option_map (span_in bytes) (header_of style bytes) ≡ found
            → option_map_or (block_without style texts bytes) found (Ok None) ≡ Ok (Some edit) → FitsIn bytes edit
        by_block None is h = absurd (cc)
        by_block (Some span) is h =
            let f = texts_out_fit style texts bytes span edit (text_of-lines_of (after_mark bytes)) is e in
            (f.within, f.short)
    by_removal removals.Header edit e = by_block (option_map (span_in bytes) (header_of style bytes)) refl e
      where
        by_block : (found : Option HeaderSpan) → option_map (span_in bytes) (header_of style bytes) ≡ found
            → option_map_or (block_untagged style bytes) found (Ok None) ≡ Ok (Some edit) → FitsIn bytes edit
        by_block None is h = absurd (cc)
        by_block (Some span) is h =
            let f = removal_fits style bytes span edit (text_of-lines_of (after_mark bytes)) is e short in
            (f.within, f.short)

module _ (bytes : List ℕ) (edit : header.Edit) where
  abbrev made : Splice
  made = record { at = edit.start; old = take edit.old_len (drop edit.start bytes); new = header.new_bytes edit }

  splice_within : length bytes ≤ LONGEST_FILE → FitsIn bytes edit → IsSpliceWithin bytes made
  splice_within short fits = (
    omega (arith, fits.0, removed_len bytes edit.start edit.old_len fits.0),
    omega (
      arith,
      fits.1,
      spliced_len bytes (header.new_bytes edit) edit.start edit.old_len fits.0,
      removed_len bytes edit.start edit.old_len fits.0,
    ),
  )

abbrev answered : Option Splice → Result (Option Splice) HeaderRefusal
answered splice = Ok splice

same_splice : (one other : Splice) → answered (Some one) ≡ answered (Some other) → one ≡ other
same_splice one other e = cc

pub removal_within : (bytes : List ℕ) (expected : ExpectedRemoval) (given : Result (Option Splice) HeaderRefusal)
    → length bytes ≤ LONGEST_FILE → FitsRemoval bytes expected
    → ((splice : Splice) → given ≡ Ok (Some splice) → edit_answer bytes expected ≡ answered (Some splice))
    → IsRemovalWithin bytes given
removal_within bytes expected (Err refusal) short fits answer = tt
removal_within bytes expected (Ok None) short fits answer = tt
removal_within bytes (Err refusal) (Ok (Some splice)) short fits answer = let e = answer splice refl in absurd (cc)
removal_within bytes (Ok None) (Ok (Some splice)) short fits answer = let e = answer splice refl in absurd (cc)
removal_within bytes (Ok (Some edit)) (Ok (Some splice)) short fits answer =
    by_test (bytes_eq (header.edited bytes edit) bytes) (answer splice refl)
  where
    it : Splice
    it = record { at = edit.start; old = take edit.old_len (drop edit.start bytes); new = header.new_bytes edit }

    by_test : (b : Bool) → answered (cond b None (Some it)) ≡ answered (Some splice)
        → IsRemovalWithin bytes (Ok (Some splice))
    by_test true e = absurd (cc)
    by_test false e = subst (λ s. IsRemovalWithin bytes (Ok (Some s))) (same_splice it splice e)
        (splice_within bytes edit short fits)

-- what becomes of a neighbour stands within it
abbrev changed : NeighbourChange → Result NeighbourChange HeaderRefusal
changed change = Ok change

change_within : (bytes : List ℕ) (expected : ExpectedRemoval) (splice : Splice) → length bytes ≤ LONGEST_FILE
    → FitsRemoval bytes expected → neighbour_answer bytes expected ≡ changed (Changed splice)
    → IsSpliceWithin bytes splice
change_within bytes (Err refusal) splice short fits e = absurd (cc)
change_within bytes (Ok None) splice short fits e = absurd (cc)
change_within bytes (Ok (Some edit)) splice short fits e = by_same (bytes_eq (header.edited bytes edit) bytes) e
  where
    it : Splice
    it = record { at = edit.start; old = take edit.old_len (drop edit.start bytes); new = header.new_bytes edit }

    by_empty : (b : Bool) → changed (cond b Emptied (Changed it)) ≡ changed (Changed splice)
        → IsSpliceWithin bytes splice
    by_empty true h = absurd (cc)
    by_empty false h = let same : it ≡ splice = cc in
        subst (IsSpliceWithin bytes) same (splice_within bytes edit short fits)

    by_same : (b : Bool) → changed (neighbour_change_of bytes (cond b None (Some it))) ≡ changed (Changed splice)
        → IsSpliceWithin bytes splice
    by_same true h = absurd (cc)
    by_same false h = by_empty (leaves_nothing bytes it) h

fits_beside : (removal : HeaderRemoval) (bytes : List ℕ) (splice : Splice) → length bytes ≤ LONGEST_FILE
    → neighbour_removal_of removal bytes ≡ changed (Changed splice) → IsSpliceWithin bytes splice
fits_beside (removals.Texts texts) bytes splice short e =
    change_within bytes (neighbour_without_texts_of texts bytes) splice short
    (fits_removal bytes (neighbour_without_texts_of texts bytes) (λ edit is.
    let f = neighbour_out_fits bytes edit text_of-lines_of texts is in (f.within, f.short))) e
fits_beside removals.Header bytes splice short e =
    change_within bytes (neighbour_untagged_of bytes) splice short
    (fits_removal bytes (neighbour_untagged_of bytes) (λ edit is.
    let f = neighbour_fits bytes edit text_of-lines_of is in (f.within, f.short))) e

pub beside_within : (removal : HeaderRemoval) (bytes : List ℕ) (given : Result NeighbourChange HeaderRefusal)
    → length bytes ≤ LONGEST_FILE → IsExpectedChange (neighbour_removal_of removal bytes) given
    → IsChangeWithin bytes given
beside_within removal bytes (Ok Unchanged) short is = tt
beside_within removal bytes (Ok Emptied) short is = tt
beside_within removal bytes (Ok (Changed splice)) short is = fits_beside removal bytes splice short is
beside_within removal bytes (Err refusal) short is = tt
