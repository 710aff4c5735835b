-- A text that gives way to another one, in the bytes that differ.
use Rattle.std.proofs.Common.{◌≡◌, ℕ, ◌+◌, ◌-◌, ◌≤◌, Bool, true, false, cond, List, [], length, take, drop, Some, None}
use Rattle.std.proofs.Common.{Ok, refl, sym, ap, subst, ◌∙◌, nat_eq, nat_lt, arith, length-drop}
use Rattle.std.specs.Str.{bytes_eq}
use Rattle.std.proofs.lemmas.List.Sums.{common_prefix_len-le}
use Rattle.std.proofs.lemmas.Slice.Eq.{bytes_eq-Decides}
use Rattle.reuse_command.specs.Reading.{get, Files}
use Rattle.reuse_text.specs.Text.{spliced}
use Rattle.reuse_text.specs.declared.TheConstants.{LONGEST_FILE}
use Rattle.reuse_header.specs.Annotation as header
use Rattle.reuse_change.specs.Change.{sealed_splice}
use Rattle.reuse_edit.specs.Annotate.{edit_by}
use Rattle.reuse_text.specs.Difference.{difference_of, same_front, same_end_behind}
use Rattle.reuse_text.proofs.DifferenceLemmas.{difference-made}
use Rattle.reuse_edit.specs.Edit.{edit_between, exchanged}
use Rattle.reuse_edit.specs.Answered.{CarriesOutEdit, MakesEdit}
use Rattle.reuse_amend.specs.declared.amendments.Amendments.{Amendments}
use Rattle.reuse_command.specs.declared.header_fault.HeaderFault.TheVariants as faults
use Rattle.reuse_command.specs.declared.reply.Refusal.TheVariants as refusals
use Rattle.reuse_edit.specs.Amend.{text_edit}
use Rattle.reuse_edit.specs.AmendmentPlan.{names_behind}
use Rattle.reuse_edit.specs.Left.{still_names}
use Rattle.reuse_edit.proofs.EditLemmas.{edited_to, refused}
use Rattle.reuse_edit.proofs.SpliceLemmas.{makes_splice}

-- what differs lies in the text, and what comes for it makes the other one
difference_is : (old new : List ℕ) → (let d = difference_of old new in (d.at + d.old_len ≤ length old)
    × (spliced old d.at d.old_len (take d.new_len (drop d.at new)) ≡ new))
unfolding difference_of
difference_is old new =
    let front = same_front old new in
    let end = same_end_behind front old new in
    let few = common_prefix_len-le nat_eq old new in (
      omega (arith, few.0),
      subst (λ (n : ℕ). spliced old front (n - end) (take (length new - front - end) (drop front new)) ≡ new)
          (length-drop front old)
          (subst (λ (n : ℕ). spliced old front (length (drop front old) - end) (take (n - end) (drop front new)) ≡ new)
          (length-drop front new) (difference-made old new front end refl refl)),
    )

module _ (old new : List ℕ) where
  -- the other text as an edit of the first
  abbrev pub between : header.Edit
  between =
      let d = difference_of old new in
      record { start = d.at; old_len = d.old_len; front = []; text = []; back = take d.new_len (drop d.at new) }

  pub between_makes : header.edited old between ≡ new
  between_makes = (difference_is old new).1

  pub between_by : (path at : List ℕ) → edited_to (edit_between at old new) ≡ edit_by path at old (Ok between)
  between_by path at =
      let d = difference_of old new in
      subst (λ (made : List ℕ). edited_to (edit_between at old new) ≡ cond (bytes_eq made old) (edited_to None)
      (edited_to (Some (record {
        path = at;
        removed = take d.old_len (drop d.at old);
        written = take d.new_len (drop d.at new);
        file = Some made;
      })))) (sym between_makes) (by_test (bytes_eq new old))
    where
      by_test : (b : Bool) → edited_to (cond b None (Some (exchanged at old new (difference_of old new))))
          ≡ cond b (edited_to None) (edited_to (Some (exchanged at old new (difference_of old new))))
      by_test true = refl
      by_test false = refl

  -- where they are the same, nothing is edited
  pub same_between : (at : List ℕ) → bytes_eq new old ≡ true → edit_between at old new ≡ None
  same_between at same = ap (λ b. cond b None (Some (exchanged at old new (difference_of old new)))) same

  pub other_between : (at : List ℕ) → bytes_eq new old ≡ false
      → edit_between at old new ≡ Some (exchanged at old new (difference_of old new))
  other_between at other = ap (λ b. cond b None (Some (exchanged at old new (difference_of old new)))) other

  -- the change that carries the edit out
  pub exchanges : (tree : Files) (at : List ℕ) → get tree at ≡ Some old → length old ≤ LONGEST_FILE
      → length new ≤ LONGEST_FILE → bytes_eq new old ≡ false → (let d = difference_of old new in CarriesOutEdit tree
      (sealed_splice at old d.at (take d.old_len (drop d.at old)) (take d.new_len (drop d.at new)))
      (exchanged at old new d))
  exchanges tree at here short fits other =
      let d = difference_of old new in
      let coming = take d.new_len (drop d.at new) in
      let is = difference_is old new in
      subst (λ (made : List ℕ). CarriesOutEdit tree (sealed_splice at old d.at (take d.old_len (drop d.at old)) coming)
      (record { path = at; removed = take d.old_len (drop d.at old); written = coming; file = Some made })) is.1
      (makes_splice old d.at d.old_len is.0 tree at coming here short
      (subst (λ (made : List ℕ). length made ≤ LONGEST_FILE) (sym is.1) fits)
      (ap (λ (made : List ℕ). bytes_eq made old) is.1 ∙ other))

  -- the change is made where there is one
  pub makes_exchange : (tree : Files) (at : List ℕ) → get tree at ≡ Some old → length old ≤ LONGEST_FILE
      → length new ≤ LONGEST_FILE → bytes_eq new old ≡ false
      → (let d = difference_of old new in MakesEdit tree (edited_to (edit_between at old new))
      (Some (sealed_splice at old d.at (take d.old_len (drop d.at old)) (take d.new_len (drop d.at new)))))
  makes_exchange tree at here short fits other = (
    exchanged at old new (difference_of old new),
    ap edited_to (other_between at other),
    exchanges tree at here short fits other,
  )

  -- what is left of what is named is left in the other text
  pub names_between : (a : Amendments) (at : List ℕ)
      → still_names a new ≡ names_behind a old (edited_to (edit_between at old new))
  names_between a at = by_test (bytes_eq new old) refl
    where
      by_test : (b : Bool) → bytes_eq new old ≡ b → still_names a new
          ≡ names_behind a old (edited_to (cond b None (Some (exchanged at old new (difference_of old new)))))
      by_test true e = ap (still_names a) ((bytes_eq-Decides new old).0 e)
      by_test false e = refl

  -- a text that isn't too long takes the place of the other
  pub text_is : (path at : List ℕ) → nat_lt LONGEST_FILE (length new) ≡ false
      → text_edit path at old (Some new) ≡ edited_to (edit_between at old new)
  text_is path at fits = ap (λ b. cond b (refused (refusals.Header path faults.TooLong))
      (edited_to (edit_between at old new))) fits

  pub text_refused : (path at : List ℕ) → nat_lt LONGEST_FILE (length new) ≡ true
      → text_edit path at old (Some new) ≡ refused (refusals.Header path faults.TooLong)
  text_refused path at long = ap (λ b. cond b (refused (refusals.Header path faults.TooLong))
      (edited_to (edit_between at old new))) long
