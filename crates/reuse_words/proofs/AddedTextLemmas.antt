-- What adding information and texts makes of text is text.
use Rattle.std.proofs.Common.{◌≡◌, ℕ, Bool, true, false, List, [], ◌∷◌, ◌++◌, map, take, drop, Option, None, Some, refl}
use Rattle.std.proofs.Common.{sym, ap, subst, ◌∙◌, cond, inl, inr}
use Rattle.std.specs.Prelude.{Result, Ok, Err, All, ◌⊎◌, not, nat_lt, length}
use Rattle.std.specs.List.{list_any}
use Rattle.std.specs.Option.{option_map}
use Rattle.reuse_text.specs.Text.{AreLines, lines_of, file_lines, after_mark, mark_len_of}
use Rattle.reuse_text.specs.Text.{text_of as bytes_in}
use Rattle.reuse_notice.specs.declared.infos.Info.{Info}
use Rattle.reuse_notice.specs.declared.adding.Additions.{Additions}
use Rattle.reuse_notice.specs.Contents.{is_nil, free_of}
use Rattle.reuse_notice.specs.Plain.{ArePlain, AreUtf8}
use Rattle.reuse_notice.specs.Tags.{is_blank, drop_end}
use Rattle.reuse_notice.proofs.SoundLemmas.{IsSound, sound_nil, sound_append, sound_end}
use Rattle.reuse_style.specs.declared.style.Style.{Style}
use Rattle.reuse_style.specs.declared.marks.Form.{Form}
use Rattle.reuse_style.specs.Styles.{punctuation_of}
use Rattle.reuse_header.specs.declared.annotation.How.{How}
use Rattle.reuse_header.specs.Body.{PlacedLines, body_lines, is_barrier, place_in}
use Rattle.reuse_header.specs.Tagged.{has_tag}
use Rattle.reuse_header.specs.Header.{Header, HeaderSpan, span_in, header_of}
use Rattle.reuse_header.specs.LowerLaws.{Merges}
use Rattle.reuse_header.specs.Marks.{marks_of}
use Rattle.reuse_header.specs.Neighbour.{is_text, neighbour_end, replaced_contents}
use Rattle.reuse_header.specs.Split.{bytes_of}
use Rattle.reuse_header.specs.Writing.{new_info, block_lines, block_text, ended_by, neighbour_marks}
use Rattle.reuse_header.specs.Annotation.{Edit, edited, chosen_form, kind_of_file, old_contents, replaced_block}
use Rattle.reuse_header.proofs.CutLemmas.{before_body, place_behind, file_size}
use Rattle.reuse_header.proofs.FileTextLemmas.{low_filler, marks_sound, span_sound}
use Rattle.reuse_header.proofs.InfoSoundLemmas.{additions_sound, new_sound}
use Rattle.reuse_header.proofs.LawLemmas.{neighbour_text, text_lines}
use Rattle.reuse_header.proofs.LineSoundLemmas.{SoundLine, blank_low, bytes_sound, cut_at_line, each_parts, lines_sound}
use Rattle.reuse_header.proofs.LineSoundLemmas.{mark_sound}
use Rattle.reuse_header.proofs.MadeTextLemmas.{behind_end, block_sound, contents_are, ended_sound, insertion_sound}
use Rattle.reuse_header.proofs.MadeTextLemmas.{no_marks, no_punctuation, text_is, text_made}
use Rattle.reuse_header.proofs.MarkLemmas.{low_punctuation}
use Rattle.reuse_header.proofs.SayableLemmas.{Each, all_of_each}
use Rattle.reuse_words.specs.Information.{gap_of, info_with}
use Rattle.reuse_words.specs.Amended.{texts_in}
use Rattle.reuse_words.specs.Added.{neighbour_text_annotation_of, text_annotation_of}
use Rattle.reuse_words.specs.Texts.{AreTexts, every_mark, has_control, lines_in, text_of, text_of_lines}
use Rattle.reuse_words.specs.declared.text.TheConstants.{LONGEST_TEXT}
use Rattle.reuse_words.specs.declared.text.TextRefusal.{TextRefusal}
use Rattle.reuse_words.specs.declared.text.TextRefusal.TheVariants as refusals
use Rattle.reuse_words.proofs.AddedLawLemmas.{texts_added, texts_insert, texts_replace}
use Rattle.reuse_words.proofs.AddedNeighbourLemmas.{info_beside, is_beside, is_written, beside_inserts, beside_replaces}
use Rattle.reuse_words.proofs.GapLemmas.{gap_sound, texts_sound, texts_in_sound, free_sound, info_sound_with}

-- ---- what is read as a text

refused : (refusal : TextRefusal) (text : List (List ℕ)) → Err refusal ≡ Ok text → ⊥
refused refusal text e = cc

-- behind a test that refuses
behind : (test : Bool) (refusal : TextRefusal) (rest : Result (List (List ℕ)) TextRefusal) (text : List (List ℕ))
    → cond test (Err refusal) rest ≡ Ok text → (test ≡ false) × (rest ≡ Ok text)
behind true refusal rest text e = absurd (refused refusal text e)
behind false refusal rest text e = (refl, e)

holds : (b : Bool) → not b ≡ false → b ≡ true
holds true e = refl
holds false e = absurd (let none : ⊥ = cc e in none)

lines_said : (lines text : List (List ℕ)) → text_of_lines lines ≡ Ok text → text ≡ free_of [] lines
lines_said lines text e =
    let first = behind (list_any (has_tag every_mark) lines) refusals.HoldsTag _ text e in
    let second = behind (list_any is_barrier lines) refusals.HoldsBarrier _ text first.1 in
    let third = behind (is_nil (free_of [] lines)) refusals.Empty (Ok (free_of [] lines)) text second.1 in
    let same : free_of [] lines ≡ text = cc third.1 in sym same

read_from : (file : List ℕ) (text : List (List ℕ)) → text_of file ≡ Ok text
    → (is_text file ≡ true) × (text ≡ free_of [] (lines_in file))
read_from file text e =
    let first = behind (nat_lt LONGEST_TEXT (length file)) refusals.TooLong _ text e in
    let second = behind (not (is_text file)) refusals.NotText _ text first.1 in
    let third = behind (has_control file) refusals.ControlByte (text_of_lines (lines_in file)) text second.1 in
    (holds (is_text file) second.0, lines_said (lines_in file) text third.1)

each_trimmed : (lines : PlacedLines) → Each SoundLine lines
    → Each IsSound (map (λ line. drop_end is_blank line.1.content) lines)
unfolding Each
each_trimmed [] h = tt
each_trimmed (line ∷ lines) h = (sound_end is_blank blank_low line.1.content h.0, each_trimmed lines h.1)

each_made : (lines : List (List ℕ)) → Each IsSound lines → Each (λ line. is_text line ≡ true) lines
unfolding Each
each_made [] h = tt
each_made (line ∷ lines) h = (text_made line h.0, each_made lines h.1)

module _ (joined : (text : List ℕ) → bytes_in (lines_of text) ≡ text)
    (well : (text : List ℕ) → AreLines (lines_of text)) where
  lines_are : (file : List ℕ) → IsSound file → Each SoundLine (file_lines file)
  lines_are file sound = lines_sound (lines_of (after_mark file)) (mark_len_of file) (well (after_mark file))
      (subst IsSound (sym (joined (after_mark file))) (mark_sound file sound).1)

  -- each line of a text that was read is text
  pub read_is_text : (file : List ℕ) (text : List (List ℕ)) → text_of file ≡ Ok text
      → All (λ line. is_text line ≡ true) text
  read_is_text file text e =
      let read = read_from file text e in
      all_of_each (λ line. is_text line ≡ true) text
      (subst (Each (λ (line : List ℕ). is_text line ≡ true)) (sym read.1) (each_made (free_of [] (lines_in file))
      (free_sound [] (lines_in file) (each_trimmed (file_lines file) (lines_are file (text_is file read.0))))))

  -- ---- a file

  no_header : (file : List ℕ) (header : Option Header) → option_map (span_in file) header ≡ None → header ≡ None
  no_header file None e = refl
  no_header file (Some h) e = absurd (let no : ⊥ = cc e in no)

  module _ (merges : Merges) (style : Style) (how : How) (additions : Additions) (texts : List (List (List ℕ)))
      (file : List ℕ) (edit : Edit) (plain : ArePlain additions) (utf8 : AreUtf8 additions) (are : AreTexts texts)
      (sound : IsSound file) (e : text_annotation_of style how additions texts file ≡ Ok edit) where
    old_sound : (replace : Bool) (o : Option HeaderSpan) → option_map (span_in file) (header_of style file) ≡ o
        → Each IsSound (old_contents (replaced_block replace o))
    unfolding Each
    old_sound true None is = tt
    old_sound true (Some span) is = (span_sound joined well style file sound span is).contents
    old_sound false o is = tt

    text_sound : IsSound edit.text
    text_sound =
        let found = option_map (span_in file) (header_of style file) in
        let form = chosen_form style how.form found in
        let old = old_contents (replaced_block how.replace found) in
        let punct = punctuation_of style in
        let said = new_info punct old how.merge additions in
        let gap = gap_of (marks_of style form) in
        let info = info_with punct (texts_in (marks_of style form) texts) said in
        let added = texts_added style how additions texts file edit (joined (after_mark file)) e in
        let says = new_sound merges punct (low_filler punct (low_punctuation style)) old how.merge additions
        (old_sound how.replace found refl) (additions_sound additions plain utf8) in
        let sound_info = info_sound_with punct (texts_in (marks_of style form) texts) said
        (texts_in_sound gap texts (gap_sound style form) (texts_sound texts are)) says in
        subst IsSound (sym (added.text.text_is ∙ text_lines added.marks (kind_of_file file) info))
        (ended_sound (kind_of_file file) (block_lines added.marks info)
        (block_sound added.marks (marks_sound style form added.marks added.text.marks_are) info sound_info))

    inserted : (how.replace ≡ false) ⊎ (header_of style file ≡ None) → IsSound (edited file edit)
    inserted either =
        let first = before_body style (file_lines file) in
        let lines = body_lines style (file_lines file) in
        let parts = each_parts SoundLine first.0 lines
        (subst (λ (xs : PlacedLines). Each SoundLine xs) first.1 (lines_are file sound)) in
        let place = place_in file lines in
        let at = place_behind file (lines_of (after_mark file)) (mark_len_of file) first.0 lines first.1
        (file_size file (joined (after_mark file))) in
        let cut = cut_at_line file first.0 lines place (joined (after_mark file)) first.1 at in
        insertion_sound file place edit
        (texts_insert style how additions texts file edit (joined (after_mark file)) e either)
        (subst IsSound (sym cut.0) (sound_append (take (mark_len_of file) file) (bytes_of first.0)
        (mark_sound file sound).0 (bytes_sound first.0 parts.0))) text_sound
        (subst IsSound (sym cut.1) (bytes_sound lines parts.1))

    made_sound : IsSound (edited file edit)
    made_sound = by (option_map (span_in file) (header_of style file)) refl how.replace refl
      where
        by : (o : Option HeaderSpan) → option_map (span_in file) (header_of style file) ≡ o → (replace : Bool)
            → how.replace ≡ replace → IsSound (edited file edit)
        by None is replace as_asked = inserted (inr (no_header file (header_of style file) is))
        by (Some span) is false as_asked = inserted (inl as_asked)
        by (Some span) is true as_asked =
            let there = span_sound joined well style file sound span is in
            subst IsSound
            (sym (texts_replace style how additions texts file edit (joined (after_mark file)) e span as_asked is))
            (sound_append (take span.start file ++ edit.text) (drop span.end file)
            (sound_append (take span.start file) edit.text there.before text_sound) there.behind)

    pub file_made_text : is_text (edited file edit) ≡ true
    file_made_text = text_made (edited file edit) made_sound

  -- ---- a neighbour

  module _ (merges : Merges) (how : How) (additions : Additions) (texts : List (List (List ℕ))) (file : List ℕ)
      (edit : Edit) (plain : ArePlain additions) (utf8 : AreUtf8 additions) (are : AreTexts texts)
      (e : neighbour_text_annotation_of how additions texts file ≡ Ok edit) where
    text : is_text file ≡ true
    text = (is_written how additions texts file edit e).0

    beside_contents : (replace : Bool) → Each IsSound (replaced_contents replace file)
    unfolding Each
    beside_contents true = contents_are joined well file text
    beside_contents false = tt

    block : IsSound edit.text
    block =
        let kind = kind_of_file file in
        let info = info_beside how additions texts file in
        let said = new_info [] (replaced_contents how.replace file) how.merge additions in
        let says = new_sound merges [] no_punctuation (replaced_contents how.replace file) how.merge additions
        (beside_contents how.replace) (additions_sound additions plain utf8) in
        let sound_info = info_sound_with [] (texts_in None texts) said
        (texts_in_sound [] texts sound_nil (texts_sound texts are)) says in
        let same : edit.text ≡ ended_by kind (block_lines neighbour_marks info) =
        ap (λ (x : Edit). x.text) (is_beside how additions texts file edit e).same
        ∙ neighbour_text how.replace file (block_text neighbour_marks kind info)
        ∙ text_lines neighbour_marks kind info in
        subst IsSound (sym same) (ended_sound kind (block_lines neighbour_marks info)
        (block_sound neighbour_marks no_marks info sound_info))

    beside_sound : IsSound (edited file edit)
    beside_sound = by how.replace refl
      where
        mark : List ℕ
        mark = take (mark_len_of file) file

        by : (replace : Bool) → how.replace ≡ replace → IsSound (edited file edit)
        by true replaced =
            subst IsSound (sym (beside_replaces how additions texts file edit e joined replaced))
            (sound_append (mark ++ edit.text) (drop (neighbour_end file) file)
            (sound_append mark edit.text (mark_sound file (text_is file text)).0 block)
            (behind_end joined well file text))
        by false added = insertion_sound file (mark_len_of file) edit
            (beside_inserts how additions texts file edit e added) (mark_sound file (text_is file text)).0 block
            (mark_sound file (text_is file text)).1

    -- the neighbour is text, and so is what is made of it
    pub neighbour_made_text : (is_text file ≡ true) × (is_text (edited file edit) ≡ true)
    neighbour_made_text = (text, text_made (edited file edit) beside_sound)
