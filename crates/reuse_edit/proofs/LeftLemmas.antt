-- What amend leaves at a place, by what it makes of its bytes.
use Rattle.std.proofs.Common.{◌≡◌, ◌∙◌, ℕ, ◌+◌, ◌-◌, ◌≤◌, Bool, true, false, cond, not, ◌&&◌, nat_lt, List, length}
use Rattle.std.proofs.Common.{take, drop, ◌++◌, length-append, Option, Some, None, Result, Ok, Err, refl, sym, ap}
use Rattle.std.proofs.Common.{subst, arith}
use Rattle.std.specs.Str.{bytes_eq}
use Rattle.std.proofs.lemmas.Bool.{and_right}
use Rattle.reuse_command.specs.Reading.{get, Files}
use Rattle.reuse_header.specs.Neighbour.{is_text}
use Rattle.reuse_tags.specs.Left.{leaves_values}
use Rattle.std.proofs.lemmas.List.{length-take-le, length-drop}
use Rattle.reuse_text.specs.Text.{spliced}
use Rattle.reuse_amend.specs.declared.amendments.Amendments.{Amendments}
use Rattle.reuse_command.specs.Command.{values_of}
use Rattle.reuse_header.specs.Annotation as header
use Rattle.reuse_header.specs.declared.amendment.AmendHeaderRefusal.{AmendHeaderRefusal}
use Rattle.reuse_header.specs.declared.annotation.Splice.{Splice}
use Rattle.reuse_header.specs.Amendment.{amendment_answer}
use Rattle.reuse_text.specs.declared.TheConstants.{LONGEST_FILE}
use Rattle.reuse_edit.specs.Amend.{amendment_edit}
use Rattle.reuse_edit.specs.AmendmentPlan.{AnswersAmended, AnswersPath, AnswersText, Expected, Fits, IsMadeWithin}
use Rattle.reuse_edit.specs.AmendmentPlan.{amended_by, inside_by, left_by, names_behind, own_of}
use Rattle.reuse_edit.specs.Annotate.{neighbour_of}
use Rattle.reuse_edit.specs.Edit.{Edit}
use Rattle.reuse_edit.specs.Left.{still_names, still_tells}
use Rattle.reuse_edit.specs.Tables.{is_table}
use Rattle.reuse_edit.specs.declared.annotation.Amendment.{Amendment}
use Rattle.reuse_edit.specs.declared.left.Amended.{Amended}
use Rattle.reuse_command.specs.declared.reply.Refusal.{Refusal}
use Rattle.reuse_edit.proofs.Amending.{own_edit}
use Rattle.reuse_edit.proofs.EditLemmas.{edited_to}
use Rattle.reuse_edit.proofs.TellingLemmas.{edit_place, own_text_tells}

abbrev answered : Option Splice → Result (Option Splice) AmendHeaderRefusal
answered splice = Ok splice

same_splice : (one other : Splice) → answered (Some one) ≡ answered (Some other) → one ≡ other
same_splice one other e = cc

-- what an edit takes away is as long as it says
pub removed_len : (bytes : List ℕ) (start old_len : ℕ) → start + old_len ≤ length bytes
    → length (take old_len (drop start bytes)) ≡ old_len
removed_len bytes start old_len within =
    length-take-le old_len (drop start bytes) (omega (arith, within, length-drop start bytes))

-- a text is as long as what stays of it and what comes
pub spliced_len : (bytes new : List ℕ) (start old_len : ℕ) → start + old_len ≤ length bytes
    → length (spliced bytes start old_len new) ≡ length bytes - old_len + length new
spliced_len bytes new start old_len within =
    let front = take start bytes in
    let back = drop (start + old_len) bytes in
    let sum : length (front ++ new ++ back) ≡ length front + length new + length back =
    length-append (front ++ new) back ∙ ap (λ n. n + length back) (length-append front new) in
    omega (arith, sum, length-take-le start bytes (omega (arith, within)), length-drop (start + old_len) bytes, within)

module _ (bytes : List ℕ) (edit : header.Edit) where
  abbrev made : Splice
  made = record { at = edit.start; old = take edit.old_len (drop edit.start bytes); new = header.new_bytes edit }

  abbrev it : List ℕ → Edit
  it at = record {
    path = at;
    removed = take edit.old_len (drop edit.start bytes);
    written = header.new_bytes edit;
    file = Some (header.edited bytes edit);
  }

module _ (a : Amendments) (path at bytes : List ℕ) where
  -- where amending makes nothing of the bytes
  pub names_same : (expected : Expected) → amendment_answer bytes expected ≡ answered None
      → still_names a bytes ≡ names_behind a bytes (amendment_edit path at bytes expected)
  names_same (Err refusal) e = absurd (cc)
  names_same (Ok None) e = refl
  names_same (Ok (Some edit)) e = by_test (bytes_eq (header.edited bytes edit) bytes) e
    where
      by_test : (b : Bool) → answered (cond b None (Some (made bytes edit))) ≡ answered None
          → still_names a bytes ≡ names_behind a bytes (cond b (edited_to None) (edited_to (Some (it bytes edit at))))
      by_test true e = refl
      by_test false e = absurd (cc)

  -- where it makes this change
  pub names_changed : (expected : Expected) (splice : Splice) → Fits bytes expected
      → amendment_answer bytes expected ≡ answered (Some splice)
      → still_names a (spliced bytes splice.at (length splice.old) splice.new)
      ≡ names_behind a bytes (amendment_edit path at bytes expected)
  names_changed (Err refusal) splice fits e = absurd (cc)
  names_changed (Ok None) splice fits e = absurd (cc)
  names_changed (Ok (Some edit)) splice fits e = by_test (bytes_eq (header.edited bytes edit) bytes) e
    where
      by_test : (b : Bool) → answered (cond b None (Some (made bytes edit))) ≡ answered (Some splice)
          → still_names a (spliced bytes splice.at (length splice.old) splice.new)
          ≡ names_behind a bytes (cond b (edited_to None) (edited_to (Some (it bytes edit at))))
      by_test true e = absurd (cc)
      by_test false e =
          ap (λ s. still_names a (spliced bytes s.at (length s.old) s.new)) (sym (same_splice (made bytes edit) splice e))
          ∙ ap (λ n. still_names a (spliced bytes edit.start n (header.new_bytes edit)))
          (removed_len bytes edit.start edit.old_len fits.0)

-- what a call makes of a text stands within it
pub made_within : (bytes : List ℕ) (expected : Expected) (made : Result (Option Splice) AmendHeaderRefusal)
    → length bytes ≤ LONGEST_FILE → Fits bytes expected
    → ((splice : Splice) → made ≡ Ok (Some splice) → amendment_answer bytes expected ≡ answered (Some splice))
    → IsMadeWithin bytes made
made_within bytes expected (Err refusal) short fits answer = tt
made_within bytes expected (Ok None) short fits answer = tt
made_within bytes (Err refusal) (Ok (Some splice)) short fits answer = let e = answer splice refl in absurd (cc)
made_within bytes (Ok None) (Ok (Some splice)) short fits answer = let e = answer splice refl in absurd (cc)
made_within bytes (Ok (Some edit)) (Ok (Some splice)) short fits answer =
    by_test (bytes_eq (header.edited bytes edit) bytes) (answer splice refl)
  where
    within : IsMadeWithin bytes (Ok (Some (made bytes edit)))
    within = (
      omega (arith, fits.0, removed_len bytes edit.start edit.old_len fits.0),
      omega (
        arith,
        fits.1,
        spliced_len bytes (header.new_bytes edit) edit.start edit.old_len fits.0,
        removed_len bytes edit.start edit.old_len fits.0,
      ),
    )

    by_test : (b : Bool) → answered (cond b None (Some (made bytes edit))) ≡ answered (Some splice)
        → IsMadeWithin bytes (Ok (Some splice))
    by_test true e = absurd (cc)
    by_test false e = subst (λ s. IsMadeWithin bytes (Ok (Some s))) (same_splice (made bytes edit) splice e) within

-- ---- by the tests of the code

-- bytes that are no text leave nothing
pub no_text_left : (a : Amendments) (bytes : List ℕ) → is_text bytes ≡ false → still_names a bytes ≡ false
no_text_left a bytes is =
    let front = not (nat_lt LONGEST_FILE (length bytes)) && leaves_values a bytes in
    ap (λ b. front && b) is ∙ and_right front false refl

-- what is answered of a path by its edit is answered of it in the tree
module _ (asked : Amendment) (tree : Files) (path : List ℕ) where
  pub answers_path : (given : Result (Option Edit) Refusal) (result : Result Amended Refusal)
      → is_table path ≡ false → amended_by asked tree path ≡ given → AnswersPath asked tree path given result
      → AnswersAmended tree (amended_by asked tree path) (left_by asked tree path) result
  answers_path given result table goes answers =
      let tells = still_tells (values_of asked.amendment.now) tree path in
      let left : left_by asked tree path ≡ tells given =
      ap (λ b. not b && tells (amended_by asked tree path)) table ∙ ap tells goes in
      subst (λ g. AnswersAmended tree g (left_by asked tree path) result) (sym goes)
      (subst (λ l. AnswersAmended tree given l result) (sym left) answers)

  -- no table is left
  pub no_table_left : is_table path ≡ true → false ≡ left_by asked tree path
  no_table_left table = sym (ap (λ b. not b
      && still_tells (values_of asked.amendment.now) tree path (amended_by asked tree path)) table)

  -- what is answered of a file's own text is answered of the path, where it has no neighbour
  pub own_answers : (bytes : List ℕ) → get tree path ≡ Some bytes → get tree (neighbour_of path) ≡ None
      → (result : Result Amended Refusal) → AnswersText asked tree bytes (inside_by asked path bytes) result
      → AnswersPath asked tree path (inside_by asked path bytes) result
  own_answers bytes here alone (Err refusal) answers = answers
  own_answers bytes here alone (Ok amended) answers = (
    answers.0,
    answers.1 ∙ own_text_tells (values_of asked.amendment.now) tree path bytes here alone (inside_by asked path bytes)
        (λ edit is. edit_place path path bytes edit
        (own_edit path edit asked.amendment.now asked.scope.now (own_of asked) bytes is)),
  )
