-- What annotating makes of a file that is text is text.
use Rattle.std.proofs.Common.{◌≡◌, ℕ, zero, suc, Bool, true, false, List, [], ◌∷◌, ◌++◌, length, length-append}
use Rattle.std.proofs.Common.{append_assoc, take, drop, Option, None, Some, refl, sym, ap, subst, ◌∙◌, inl, inr, arith}
use Rattle.std.specs.Prelude.{Result, Ok, Err, ◌||◌, nat_eq, unwrap_or, ◌⊎◌}
use Rattle.std.specs.List.{list_all, list_any}
use Rattle.std.specs.Option.{option_map, option_to_list}
use Rattle.std.proofs.Math.Seq.{drop-append_seam, take-append_seam}
use Rattle.std.proofs.lemmas.Bool.{false≢true, and_parts}
use Rattle.std.proofs.lemmas.Bool.Decides.{nat_tests}
use Rattle.reuse_text.specs.Text.{AreLines, lines_of, text_of, file_lines, after_mark, mark_len_of}
use Rattle.reuse_notice.specs.declared.adding.Additions.{Additions}
use Rattle.reuse_notice.specs.Tags.{is_blank}
use Rattle.reuse_notice.specs.Plain.{ArePlain, AreUtf8}
use Rattle.reuse_notice.proofs.SoundLemmas.{IsSound, is_low, sound_nil, sound_append, sound_before}
use Rattle.reuse_header.specs.declared.blocks.BlockSize.{BlockSize}
use Rattle.reuse_style.specs.declared.style.Style.{Style}
use Rattle.reuse_style.specs.declared.marks.Form.{Form}
use Rattle.reuse_style.specs.declared.marks.Form.TheVariants.{Single, Multi}
use Rattle.reuse_header.specs.declared.annotation.How.{How}
use Rattle.reuse_header.specs.declared.annotation.HeaderRefusal.{HeaderRefusal}
use Rattle.reuse_style.specs.Styles.{punctuation_of}
use Rattle.reuse_header.specs.Marks.{LineMarks, marks_of}
use Rattle.reuse_header.specs.Body.{PlacedLines, body_lines, open_contents, place_in}
use Rattle.reuse_header.specs.Blocks.{block_at}
use Rattle.reuse_header.specs.Header.{Header, HeaderSpan, span_in, header_of, lines_inside}
use Rattle.reuse_header.specs.Writing.{new_info, block_lines}
use Rattle.reuse_header.specs.Annotation.{Edit, edited, chosen_form, replaced_block, old_contents, kind_of_file}
use Rattle.reuse_header.specs.Annotation.{annotation_of, annotated, made_by}
use Rattle.reuse_header.specs.Split.{begins_in, bytes_of, size_of, IsHeaderBlock}
use Rattle.reuse_header.specs.Neighbour.{is_text}
use Rattle.reuse_header.proofs.SayableLemmas.{Each}
use Rattle.reuse_header.specs.LowerLaws.{Merges}
use Rattle.reuse_header.proofs.PartLemmas.{each_dropped}
use Rattle.reuse_header.proofs.SplitLemmas.{begins_in-nil}
use Rattle.reuse_header.proofs.CutLemmas.{span_cuts, before_body, place_behind, file_size}
use Rattle.reuse_header.proofs.KeptLemmas.{replacing_keeps_others, inserting_keeps_others}
use Rattle.reuse_header.proofs.WrittenLemmas.{error_is_ok}
use Rattle.reuse_header.proofs.LawLemmas.{written_block, text_lines}
use Rattle.reuse_header.proofs.LineSoundLemmas.{SoundLine, mark_sound, lines_sound, open_sound, bytes_sound, blank_low}
use Rattle.reuse_header.proofs.LineSoundLemmas.{each_parts, cut_at_line}
use Rattle.reuse_header.proofs.InfoSoundLemmas.{AreLow, AreSound, new_sound, additions_sound}
use Rattle.reuse_header.proofs.BlockSoundLemmas.{AreLineMarks, line_marks, AreBlockMarks, block_marks}
use Rattle.reuse_header.proofs.BlockSoundLemmas.{block_contents_sound}
use Rattle.reuse_header.proofs.MarkLemmas.{low_punctuation}
use Rattle.reuse_header.proofs.FormLemmas.{of_line, of_block}
use Rattle.reuse_header.proofs.MadeTextLemmas.{AreSoundMarks, block_sound, ended_sound, insertion_sound, text_is}
use Rattle.reuse_header.proofs.MadeTextLemmas.{text_made}

-- ---- the marks and the punctuation of a style

pub marks_sound : (style : Style) (form : Form) (marks : LineMarks) → marks_of style form ≡ Some marks
    → AreSoundMarks marks
unfolding Each
marks_sound style Single marks e = of_line style marks (λ o m. AreSoundMarks m) e
    (λ form is good. let are = subst AreLineMarks is (line_marks style) in
    record { lead = are.1; mark = are.0; first = tt; last = tt })
marks_sound style Multi marks e = of_block style marks (λ o m. AreSoundMarks m) e
    (λ form is good. let are = subst AreBlockMarks is (block_marks style) in record {
      lead = are.lead;
      mark = middle_or_none form.middle are.middle;
      first = (are.opener, tt);
      last = (are.last_line, tt);
    })
  where
    middle_or_none : (middle : Option (List ℕ)) → Each IsSound (option_to_list middle) → IsSound (unwrap_or middle [])
    middle_or_none None m = sound_nil
    middle_or_none (Some middle) m = m.0

low_among : (punct : List ℕ) → list_all is_low punct ≡ true → (b : ℕ) → list_any (λ p. nat_eq p b) punct ≡ true
    → is_low b ≡ true
low_among [] low b e = absurd (false≢true e)
low_among (p ∷ punct) low b e = by (nat_eq p b) refl e (λ f. low_among punct parts.1 b f)
  where
    parts : (is_low p ≡ true) × (list_all is_low punct ≡ true)
    parts = and_parts (is_low p) (list_all is_low punct) low

    same : nat_eq p b ≡ true → p ≡ b
    same t = grind (arith, nat_tests)

    by : (t : Bool) → nat_eq p b ≡ t → (t || list_any (λ q. nat_eq q b) punct) ≡ true
        → (list_any (λ q. nat_eq q b) punct ≡ true → is_low b ≡ true) → is_low b ≡ true
    by true is f later = ap is_low (sym (same is)) ∙ parts.0
    by false is f later = later f

pub low_filler : (punct : List ℕ) → list_all is_low punct ≡ true → AreLow punct
low_filler punct low b e = by (is_blank b) refl e
  where
    by : (t : Bool) → is_blank b ≡ t → (t || list_any (λ p. nat_eq p b) punct) ≡ true → is_low b ≡ true
    by true is f = blank_low b is
    by false is f = low_among punct low b f

-- ---- the block that is found

-- a comment block begins where it is said to
begins_at : (style : Style) (contents : List (List ℕ)) (inside line : ℕ) (block : BlockSize)
    → begins_in style inside contents line ≡ Some block → block_at style (drop line contents) ≡ Some block
unfolding begins_in
begins_at style [] inside line block is =
    absurd (let none : None ≡ Some block = sym (begins_in-nil style inside line) ∙ is in let no : ⊥ = cc none in no)
begins_at style (c ∷ contents) zero zero block is = is
begins_at style (c ∷ contents) zero (suc line) block is =
    begins_at style contents (lines_inside (block_at style (c ∷ contents))) line block is
begins_at style (c ∷ contents) (suc inside) zero block is = absurd (let no : ⊥ = cc is in no)
begins_at style (c ∷ contents) (suc inside) (suc line) block is = begins_at style contents inside line block is

-- no block is found where there is no header
no_header : (file : List ℕ) (header : Option Header) → option_map (span_in file) header ≡ None → header ≡ None
no_header file None e = refl
no_header file (Some h) e = absurd (let no : ⊥ = cc e in no)

-- what a block says, and the bytes in front of it and behind it
pub record IsFoundSound (file : List ℕ) (span : HeaderSpan) : Type 0 where
  pub contents : Each IsSound span.contents
  pub before : IsSound (take span.start file)
  pub behind : IsSound (drop span.end file)

module _ (joined : (text : List ℕ) → text_of (lines_of text) ≡ text) (well : (text : List ℕ) → AreLines (lines_of text))
    (style : Style) (file : List ℕ) (sound : IsSound file) where
  lines_are : Each SoundLine (file_lines file)
  lines_are = lines_sound (lines_of (after_mark file)) (mark_len_of file) (well (after_mark file))
      (subst IsSound (sym (joined (after_mark file))) (mark_sound file sound).1)

  body : PlacedLines
  body = body_lines style (file_lines file)

  parts_are : (let first = (before_body style (file_lines file)).0 in
      Each SoundLine first × Each SoundLine (body_lines style (file_lines file)))
  parts_are = let first = before_body style (file_lines file) in each_parts SoundLine first.0
      (body_lines style (file_lines file)) (subst (λ (xs : PlacedLines). Each SoundLine xs) first.1 lines_are)

  found_sound : (span : HeaderSpan) → IsHeaderBlock style file span → IsFoundSound file span
  found_sound span (before, h, front, at) =
      let lines = body_lines style (file_lines file) in
      let behind_first = (each_parts SoundLine before (h.block ++ h.after)
      (subst (λ (xs : PlacedLines). Each SoundLine xs) at.split.joined parts_are.1)).1 in
      let two = each_parts SoundLine h.block h.after behind_first in
      let block = bytes_sound h.block two.0 in
      let after = bytes_sound h.after two.1 in
      let rest = bytes_of h.block ++ bytes_of h.after in
      let size = length-append front (bytes_of h.block) in
      let ends : span.end ≡ length (front ++ bytes_of h.block) = omega (arith, at.end, size) in
      let whole : file ≡ (front ++ bytes_of h.block) ++ bytes_of h.after =
      at.bytes ∙ sym (append_assoc front (bytes_of h.block) (bytes_of h.after)) in
      let taken : take span.start file ≡ front =
      ap (λ (k : ℕ). take k file) at.start ∙ ap (take (length front)) at.bytes ∙ take-append_seam front rest in
      let dropped : drop span.end file ≡ bytes_of h.after =
      ap (λ (k : ℕ). drop k file) ends ∙ ap (drop (length (front ++ bytes_of h.block))) whole
      ∙ drop-append_seam (front ++ bytes_of h.block) (bytes_of h.after) in
      record {
        contents = subst (λ (cs : List (List ℕ)). Each IsSound cs) (sym (at.contents ∙ at.split.contents))
            (block_contents_sound style (drop (length before) (open_contents lines)) (size_of h)
            (begins_at style (open_contents lines) 0 (length before) (size_of h) at.split.begins_there)
            (each_dropped IsSound (length before) (open_contents lines) (open_sound lines parts_are.1)));
        before = subst IsSound (sym taken) (sound_before front rest (subst IsSound at.bytes sound)
            (sound_append (bytes_of h.block) (bytes_of h.after) block after).utf8);
        behind = subst IsSound (sym dropped) after;
      }

  -- ---- the new file

  found : Option HeaderSpan
  found = option_map (span_in file) (header_of style file)

  pub span_sound : (span : HeaderSpan) → option_map (span_in file) (header_of style file) ≡ Some span
      → IsFoundSound file span
  span_sound span is = found_sound span (span_cuts style file span (joined (after_mark file)) is)

  old_sound : (replace : Bool) (o : Option HeaderSpan) → option_map (span_in file) (header_of style file) ≡ o
      → Each IsSound (old_contents (replaced_block replace o))
  unfolding Each
  old_sound true None is = tt
  old_sound true (Some span) is = (span_sound span is).contents
  old_sound false o is = tt

  text_sound : Merges → (how : How) (additions : Additions) (edit : Edit) → AreSound additions
      → annotation_of style how additions file ≡ Ok edit → IsSound edit.text
  text_sound merges how additions edit are e =
      let here = option_map (span_in file) (header_of style file) in
      let block = written_block style how additions file here edit refl e in
      let info = new_info (punctuation_of style) (old_contents (replaced_block how.replace here)) how.merge additions in
      let says = new_sound merges (punctuation_of style) (low_filler (punctuation_of style) (low_punctuation style))
      (old_contents (replaced_block how.replace here)) how.merge additions (old_sound how.replace here refl) are in
      subst IsSound (sym (block.1.text_is ∙ text_lines block.0 (kind_of_file file) info))
      (ended_sound (kind_of_file file) (block_lines block.0 info)
      (block_sound block.0 (marks_sound style (chosen_form style how.form here) block.0 block.1.marks_are) info says))

  made_sound : Merges → (how : How) (additions : Additions) (edit : Edit) → AreSound additions
      → annotation_of style how additions file ≡ Ok edit → IsSound (edited file edit)
  made_sound merges how additions edit are e =
      by (option_map (span_in file) (header_of style file)) refl how.replace refl
    where
      text : IsSound edit.text
      text = text_sound merges how additions edit are e

      inserted : (how.replace ≡ false) ⊎ (header_of style file ≡ None) → IsSound (edited file edit)
      inserted either =
          let first = before_body style (file_lines file) in
          let lines = body_lines style (file_lines file) in
          let place = place_in file lines in
          let at = place_behind file (lines_of (after_mark file)) (mark_len_of file) first.0 lines first.1
          (file_size file (joined (after_mark file))) in
          let cut = cut_at_line file first.0 lines place (joined (after_mark file)) first.1 at in
          insertion_sound file place edit (inserting_keeps_others style how additions file edit either e)
          (subst IsSound (sym cut.0) (sound_append (take (mark_len_of file) file) (bytes_of first.0)
          (mark_sound file sound).0 (bytes_sound first.0 parts_are.0))) text
          (subst IsSound (sym cut.1) (bytes_sound lines parts_are.1))

      by : (o : Option HeaderSpan) → option_map (span_in file) (header_of style file) ≡ o → (replace : Bool)
          → how.replace ≡ replace → IsSound (edited file edit)
      by None is replace as_asked = inserted (inr (no_header file (header_of style file) is))
      by (Some span) is false as_asked = inserted (inl as_asked)
      by (Some span) is true as_asked =
          let there = span_sound span is in
          subst IsSound
          (sym (replacing_keeps_others style how additions file edit span (joined (after_mark file)) as_asked e is))
          (sound_append (take span.start file ++ edit.text) (drop span.end file)
          (sound_append (take span.start file) edit.text there.before text) there.behind)

-- what is made of a file is text
pub file_is_text : ((text : List ℕ) → text_of (lines_of text) ≡ text) → ((text : List ℕ) → AreLines (lines_of text))
    → Merges → (style : Style) (how : How) (additions : Additions) (file made : List ℕ) → ArePlain additions
    → AreUtf8 additions
    → is_text file ≡ true → annotated style how additions file ≡ Ok made → is_text made ≡ true
file_is_text joined well merges style how additions file made plain utf8 text e =
    by (annotation_of style how additions file) refl e
  where
    by : (answer : Result Edit HeaderRefusal) → annotation_of style how additions file ≡ answer
        → made_by file answer ≡ Ok made → is_text made ≡ true
    by (Err refusal) is k = absurd (error_is_ok refusal made k)
    by (Ok edit) is k =
        let same : edited file edit ≡ made = cc k in
        ap is_text (sym same) ∙ text_made (edited file edit) (made_sound joined well style file
        (text_is file text) merges how additions edit (additions_sound additions plain utf8) is)
