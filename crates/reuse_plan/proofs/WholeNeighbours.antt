-- What a neighbour says gives way to one text where something is taken out of it. It goes exactly where that leaves
-- nothing but its byte order mark of more.
use Rattle.std.proofs.Common.{◌≡◌, ◌∙◌, ℕ, ◌+◌, ◌-◌, ◌≤◌, ◌==◌, ◌&&◌, not, Bool, true, false, cond, List, [], ◌∷◌, ◌++◌}
use Rattle.std.proofs.Common.{length, length-append, take, drop, Option, Some, None, Result, Ok, Err, nat_lt, refl, sym}
use Rattle.std.proofs.Common.{ap, ap₂, subst, arith}
use Rattle.std.specs.Str.{bytes_eq}
use Rattle.std.proofs.lemmas.Bool.{and_parts, and_right, false≢true}
use Rattle.std.proofs.lemmas.Bool.Decides.{Decides-eqb}
use Rattle.std.proofs.lemmas.List.{append-nil, drop_all, length-drop}
use Rattle.std.proofs.lemmas.Slice.Eq.{bytes_eq-Decides}
use Rattle.reuse_text.specs.Text.{is_empty, mark_len_of, spliced}
use Rattle.reuse_text.specs.declared.TheConstants.{LONGEST_FILE}
use Rattle.reuse_text.proofs.TextLemmas.{text_of-lines_of}
use Rattle.reuse_notice.specs.Contents.{free_of}
use Rattle.reuse_notice.specs.Infos.{info_of, says_nothing}
use Rattle.reuse_notice.specs.declared.infos.Info.{Info}
use Rattle.reuse_header.specs.declared.annotation.HeaderRefusal.{HeaderRefusal}
use Rattle.reuse_header.specs.declared.annotation.HeaderRefusal.TheVariants.{NotText, TooLong}
use Rattle.reuse_header.specs.declared.annotation.Splice.{Splice}
use Rattle.reuse_header.specs.Annotation.{Edit, edited, kind_of_file, new_bytes, replacement, text_end, text_start}
use Rattle.reuse_header.specs.Comment.{comment_text, neighbour_comment_written}
use Rattle.reuse_header.specs.Neighbour.{is_text, neighbour_edit, neighbour_end, neighbour_stands, neighbour_written}
use Rattle.reuse_header.specs.Neighbour.{replaced_contents}
use Rattle.reuse_header.specs.Writing.{block_text, neighbour_marks}
use Rattle.reuse_header.proofs.SpanLemmas.{neighbour_end-within}
use Rattle.reuse_header.proofs.WrittenLemmas.{settled_ok}
use Rattle.reuse_words.specs.Amended.{free_to_write, neighbour_without_texts_of, texts_in, written_if_some}
use Rattle.reuse_words.specs.Information.{with_free, without_texts}
use Rattle.reuse_words.specs.Removal.{leaves_nothing, neighbour_answer, neighbour_change_of, neighbour_untagged_of}
use Rattle.reuse_words.specs.Removal.{some_edit}
use Rattle.reuse_words.specs.declared.removal.NeighbourChange.TheVariants.{Changed, Emptied}
use Rattle.reuse_words.proofs.FileLawLemmas.{written_some}
use Rattle.reuse_plan.specs.Amended.{left_unless_emptied}
use Rattle.reuse_edit.specs.Removed.{neighbour_left}
use Rattle.reuse_edit.proofs.LeftLemmas.{removed_len}
use Rattle.reuse_edit.proofs.Results.{same_Ok}

-- an edit puts a text in the place of all that a neighbour says
abbrev pub IsWhole : List ℕ → Edit → Type 0
IsWhole file edit = (text : List ℕ) × (edit ≡ replacement (mark_len_of file) (neighbour_end file) text)

-- ---- the edits that take something out

done_edit : (made : Result Edit HeaderRefusal) (edit : Edit) → some_edit made ≡ Ok (Some edit) → made ≡ Ok edit
done_edit (Ok made) edit e = let same : made ≡ edit = cc in ap (λ (x : Edit). Ok x) same
done_edit (Err refusal) edit e = absurd (cc)

no_edit : (made : Result Edit HeaderRefusal) → some_edit made ≡ Ok None → ⊥
no_edit (Ok made) e = cc
no_edit (Err refusal) e = cc

fits_edit : (long : Bool) (first edit : Edit) → cond long (Err TooLong) (Ok first) ≡ Ok edit → edit ≡ first
fits_edit true first edit e = absurd (cc)
fits_edit false first edit e = cc

module _ (file : List ℕ) where
  abbrev contents : List (List ℕ)
  contents = replaced_contents true file

  abbrev info : Info
  info = info_of [] contents

  pub untagged_whole : (edit : Edit) → neighbour_untagged_of file ≡ Ok (Some edit) → IsWhole file edit
  unfolding neighbour_untagged_of neighbour_comment_written
  untagged_whole edit e = by_tests (is_text file) (says_nothing info) e
    where
      comment : List ℕ
      comment = comment_text neighbour_marks (kind_of_file file) (free_of [] contents)

      first : Edit
      first = replacement (mark_len_of file) (neighbour_end file) comment

      by_tests : (text nothing : Bool)
          → cond text (cond nothing (Ok None) (some_edit (neighbour_comment_written file (free_of [] contents))))
          (Err NotText) ≡ Ok (Some edit) → IsWhole file edit
      by_tests false nothing h = absurd (cc)
      by_tests true true h = absurd (cc)
      by_tests true false h = (
        comment,
        fits_edit (nat_lt LONGEST_FILE (length (edited file first))) first edit
            (done_edit (neighbour_comment_written file (free_of [] contents)) edit h),
      )

  -- nothing is taken out where nothing is said
  pub untagged_none : neighbour_untagged_of file ≡ Ok None → says_nothing info ≡ true
  unfolding neighbour_untagged_of
  untagged_none e = by_tests (is_text file) (says_nothing info) refl e
    where
      by_tests : (text nothing : Bool) → says_nothing info ≡ nothing
          → cond text (cond nothing (Ok None) (some_edit (neighbour_comment_written file (free_of [] contents))))
          (Err NotText) ≡ Ok None → says_nothing info ≡ true
      by_tests false nothing is h = absurd (cc)
      by_tests true true is h = is
      by_tests true false is h = absurd (no_edit (neighbour_comment_written file (free_of [] contents)) h)

  pub without_whole : (texts : List (List (List ℕ))) (edit : Edit)
      → neighbour_without_texts_of texts file ≡ Ok (Some edit) → IsWhole file edit
  unfolding neighbour_without_texts_of neighbour_written neighbour_edit
  without_whole texts edit e = by_text (is_text file) e
    where
      by_text : (text : Bool)
          → cond text (written_if_some (λ free. neighbour_written true file (with_free [] info free))
          (free_to_write info.free (without_texts [] (texts_in None texts) info.free))) (Err NotText) ≡ Ok (Some edit)
          → IsWhole file edit
      by_text false h = absurd (cc)
      by_text true h =
          let made = written_some (λ free. neighbour_written true file (with_free [] info free))
          (free_to_write info.free (without_texts [] (texts_in None texts) info.free)) edit h in
          let text = block_text neighbour_marks (kind_of_file file) (with_free [] info made.0) in
          let first = replacement (mark_len_of file) (neighbour_end file) text in (
            text,
            (settled_ok (edited file first) first edit
                (neighbour_stands true (edited file first) (text_start first) (text_end first)) made.2).same,
          )

-- ---- what they leave

no_bytes : (bytes : List ℕ) → is_empty bytes ≡ true → bytes ≡ []
no_bytes [] e = refl
no_bytes (byte ∷ bytes) e = absurd (false≢true e)

nothing_long : (bytes : List ℕ) → length bytes ≡ 0 → bytes ≡ []
nothing_long [] e = refl
nothing_long (byte ∷ bytes) e = absurd (omega (arith, e))

-- the change that an edit is
abbrev pub change_of : List ℕ → Edit → Splice
change_of file edit = record {
  at = edit.start;
  old = take edit.old_len (drop edit.start file);
  new = new_bytes edit;
}

module _ (file : List ℕ) where
  abbrev m : ℕ
  m = mark_len_of file

  abbrev end : ℕ
  end = neighbour_end file

  ends : (m ≤ end) × (end ≤ length file)
  ends = neighbour_end-within text_of-lines_of file

  -- no text takes the place of the whole
  leaves_none : (text : List ℕ) → text ≡ [] → end ≡ length file
      → leaves_nothing file (change_of file (replacement m end text)) ≡ true
  leaves_none text none all =
      let new : is_empty ([] ++ (text ++ [])) ≡ true = ap (λ (xs : List ℕ). is_empty ([] ++ (xs ++ []))) none in
      let at : (m == m) ≡ true = (Decides-eqb m m).1 refl in
      let old = length (take (end - m) (drop m file)) in
      let size : (m + old == length file) ≡ true = (Decides-eqb (m + old) (length file)).1 (omega (
        arith,
        all,
        ends.0,
        removed_len file m (end - m) (omega (arith, ends.0, ends.1)),
      )) in
      ap₂ (λ a b. a && b) (ap₂ (λ a b. a && b) new at) size

module _ (file : List ℕ) (edit : Edit) (whole : IsWhole file edit)
    (around : edited file edit
    ≡ take (mark_len_of file) file ++ edit.text ++ drop (neighbour_end file) file)
    (within : edit.start + edit.old_len ≤ length file) where
  abbrev mark : List ℕ
  mark = take (mark_len_of file) file

  abbrev it : Splice
  it = change_of file edit

  spliced_is : spliced file edit.start (length (take edit.old_len (drop edit.start file))) (new_bytes edit)
      ≡ edited file edit
  spliced_is = ap (λ n. spliced file edit.start n (new_bytes edit)) (removed_len file edit.start edit.old_len within)

  -- where nothing is left, the byte order mark alone is
  mark_alone : leaves_nothing file it ≡ true → edited file edit ≡ mark
  mark_alone e =
      let old = take edit.old_len (drop edit.start file) in
      let front = is_empty (new_bytes edit) && edit.start == mark_len_of file in
      let parts = and_parts front (edit.start + length old == length file) e in
      let more = and_parts (is_empty (new_bytes edit)) (edit.start == mark_len_of file) parts.0 in
      let new = no_bytes (new_bytes edit) more.0 in
      let at : edit.start ≡ mark_len_of file = (Decides-eqb edit.start (mark_len_of file)).0 more.1 in
      let end : edit.start + edit.old_len ≡ length file =
      ap (λ n. edit.start + n) (sym (removed_len file edit.start edit.old_len within))
      ∙ (Decides-eqb (edit.start + length old) (length file)).0 parts.1 in
      ap₂ (λ (xs : List ℕ) (n : ℕ). take edit.start file ++ xs ++ drop n file) new end
      ∙ ap (λ (xs : List ℕ). take edit.start file ++ [] ++ xs) (drop_all (length file) file (omega (arith)))
      ∙ ap (λ (xs : List ℕ). xs ++ []) (append-nil (take edit.start file)) ∙ append-nil (take edit.start file)
      ∙ ap (λ n. take n file) at

  -- where that alone is, nothing is left
  none_but_mark : edited file edit ≡ mark → leaves_nothing file it ≡ true
  none_but_mark e =
      let behind = drop (neighbour_end file) file in
      let size : length mark + length edit.text + length behind ≡ length mark =
      sym (length-append (mark ++ edit.text) behind
      ∙ ap (λ n. n + length behind) (length-append mark edit.text)) ∙ ap length (sym around ∙ e) in
      let text : whole.0 ≡ edit.text = sym (ap (λ (x : Edit). x.text) whole.1) in
      let none : whole.0 ≡ [] = text ∙ nothing_long edit.text (omega (arith, size)) in
      let all : neighbour_end file ≡ length file =
      omega (arith, size, length-drop (neighbour_end file) file, (ends file).1) in
      subst (λ (x : Edit). leaves_nothing file (change_of file x) ≡ true) (sym whole.1)
      (leaves_none file whole.0 none all)

  pub left_is : (left : Option (List ℕ)) → neighbour_left file (neighbour_answer file (Ok (Some edit))) ≡ Ok left
      → left ≡ left_unless_emptied file (edited file edit)
  left_is left h = by_same (bytes_eq (edited file edit) file) refl h
    where
      unless : Bool → Bool → Option (List ℕ)
      unless is_mark is_same = cond (is_mark && not is_same) None (Some (edited file edit))

      by_empty : (b : Bool) → leaves_nothing file it ≡ b → bytes_eq (edited file edit) file ≡ false
          → neighbour_left file (Ok (cond b Emptied (Changed it))) ≡ Ok left
          → left ≡ left_unless_emptied file (edited file edit)
      by_empty true l is e = sym (same_Ok None left e)
          ∙ sym (ap₂ unless ((bytes_eq-Decides (edited file edit) mark).1 (mark_alone l)) is)
      by_empty false l is e = sym (same_Ok (Some (spliced file it.at (length it.old) it.new)) left e)
          ∙ ap (λ (xs : List ℕ). Some xs) spliced_is ∙ sym (ap (λ b. unless b (bytes_eq (edited file edit) file))
          (of_test (bytes_eq (edited file edit) mark) refl))
        where
          of_test : (b : Bool) → bytes_eq (edited file edit) mark ≡ b → b ≡ false
          of_test true t =
              absurd (false≢true (sym l ∙ none_but_mark ((bytes_eq-Decides (edited file edit) mark).0 t)))
          of_test false t = refl

      by_same : (b : Bool) → bytes_eq (edited file edit) file ≡ b
          → neighbour_left file (Ok (neighbour_change_of file (cond b None (Some it)))) ≡ Ok left
          → left ≡ left_unless_emptied file (edited file edit)
      by_same true is e = sym (same_Ok (Some file) left e)
          ∙ ap (λ (xs : List ℕ). Some xs) (sym ((bytes_eq-Decides (edited file edit) file).0 is))
          ∙ sym (ap (unless (bytes_eq (edited file edit) mark)) is
          ∙ ap (λ b. cond b None (Some (edited file edit))) (and_right (bytes_eq (edited file edit) mark) false refl))
      by_same false is e = by_empty (leaves_nothing file it) refl is e
