-- What annotating makes of a neighbour that is text is text.
use Rattle.std.proofs.Common.{◌≡◌, ℕ, Bool, true, false, List, [], ◌∷◌, ◌++◌, map, take, drop, Some, refl, sym, ap}
use Rattle.std.proofs.Common.{subst, ◌∙◌}
use Rattle.std.specs.Prelude.{Result, Ok, Err, not, ◌&&◌, ◌||◌, if◌then◌else◌, codes}
use Rattle.std.specs.List.{list_all, list_any}
use Rattle.std.specs.Option.{option_to_list}
use Rattle.std.specs.Str.{is_utf8}
use Rattle.std.proofs.lemmas.Bool.{false≢true, and_parts}
use Rattle.std.proofs.lemmas.Str.{IsUtf8-from_is_utf8, is_utf8-from_IsUtf8}
use Rattle.reuse_text.specs.declared.LineKind.{LineKind}
use Rattle.reuse_text.specs.Text.{AreLines, ending_bytes, lines_of, text_of, file_lines, after_mark, mark_len_of}
use Rattle.reuse_notice.specs.declared.infos.Info.{Info}
use Rattle.reuse_notice.specs.declared.adding.Additions.{Additions}
use Rattle.reuse_notice.specs.Tags.{is_blank}
use Rattle.reuse_notice.specs.Plain.{ArePlain, AreUtf8}
use Rattle.reuse_notice.proofs.SoundLemmas.{is_nul, IsSound, is_low, sound_nil, sound_low, sound_append, sound_end}
use Rattle.reuse_header.specs.declared.annotation.How.{How}
use Rattle.reuse_header.specs.Marks.{LineMarks}
use Rattle.reuse_header.specs.declared.annotation.HeaderRefusal.{HeaderRefusal}
use Rattle.reuse_header.specs.declared.annotation.HeaderRefusal.TheVariants.{NotText}
use Rattle.reuse_header.specs.Body.{open_contents}
use Rattle.reuse_header.specs.Header.{neighbour_contents}
use Rattle.reuse_header.specs.Writing.{new_info, neighbour_marks, contributor_text, licence_text, joined, set_off}
use Rattle.reuse_header.specs.Writing.{separator_of, holder_lines, licence_lines, free_lines, inner_lines, block_lines}
use Rattle.reuse_header.specs.Writing.{block_text, ended_by}
use Rattle.reuse_header.specs.Annotation.{Edit, edited, ending_if, kind_of_file, made_by}
use Rattle.reuse_header.specs.Neighbour.{is_text, closed_lines, neighbour_end, replaced_contents, neighbour_written}
use Rattle.reuse_header.specs.Neighbour.{neighbour_annotation_of, neighbour_annotated}
use Rattle.reuse_header.specs.Laws.{IsInsertion, neighbour_info_written}
use Rattle.reuse_header.proofs.SayableLemmas.{Each, each_both}
use Rattle.reuse_header.specs.LowerLaws.{Merges}
use Rattle.reuse_header.proofs.AgainLemmas.{each-joined, each-set_off}
use Rattle.reuse_header.proofs.BarrierLemmas.{open_lines, lines_cut, end_behind}
use Rattle.reuse_header.proofs.KeptLemmas.{neighbour_replacing_keeps_others, neighbour_inserting_keeps_others}
use Rattle.reuse_header.proofs.WrittenLemmas.{error_is_ok}
use Rattle.reuse_header.proofs.LawLemmas.{neighbour_ok, neighbour_text, text_lines}
use Rattle.reuse_header.proofs.LineSoundLemmas.{cut_at_line, SoundLine, mark_sound, ending_sound, lines_sound}
use Rattle.reuse_header.proofs.LineSoundLemmas.{open_sound, closed_sound, bytes_sound, blank_low, contents_sound}
use Rattle.reuse_header.proofs.InfoSoundLemmas.{AreLow, IsSoundInfo, AreSound, new_sound, additions_sound}

-- ---- the block

each_mapped : (f : List ℕ → List ℕ) (texts : List (List ℕ)) → ((t : List ℕ) → IsSound t → IsSound (f t))
    → Each IsSound texts → Each IsSound (map f texts)
unfolding Each
each_mapped f [] w h = tt
each_mapped f (t ∷ texts) w h = (w t h.0, each_mapped f texts w h.1)

-- the marks of lines
pub record AreSoundMarks (marks : LineMarks) : Type 0 where
  pub lead : IsSound marks.lead
  pub mark : IsSound marks.mark
  pub first : Each IsSound (option_to_list marks.first)
  pub last : Each IsSound (option_to_list marks.last)

pub block_sound : (marks : LineMarks) → AreSoundMarks marks → (info : Info) → IsSoundInfo info
    → Each IsSound (block_lines marks info)
unfolding block_lines inner_lines
block_sound marks are info h =
    let separator : IsSound (separator_of marks) = sound_end is_blank blank_low marks.lead are.lead in
    let tagged : (tag : List ℕ) → list_all is_low tag ≡ true → list_any is_nul tag ≡ false → (v : List ℕ) → IsSound v
    → IsSound (marks.lead ++ (tag ++ v)) =
    λ tag low clean v s. sound_append marks.lead (tag ++ v) are.lead (sound_append tag v (sound_low tag low clean) s) in
    let notices =
    each_mapped (λ t. marks.lead ++ t) info.notices (λ t s. sound_append marks.lead t are.lead s) h.notices in
    let contributors = each_mapped (λ v. marks.lead ++ contributor_text v) info.contributors
    (λ v s. tagged (codes "SPDX-FileContributor: ") refl refl v s) h.contributors in
    -- REUSE-IgnoreStart
    let licences = each_mapped (λ v. marks.lead ++ licence_text v) info.licences
    (λ v s. tagged (codes "SPDX-License-Identifier: ") refl refl v s) h.licences in
    -- REUSE-IgnoreEnd
    let free = each_mapped (λ c. marks.mark ++ c) info.free (λ c s. sound_append marks.mark c are.mark s) h.free in
    let holders = each_both IsSound (map (λ t. marks.lead ++ t) info.notices)
    (map (λ v. marks.lead ++ contributor_text v) info.contributors) notices contributors in
    let inner = each_both IsSound (joined (separator_of marks) (holder_lines marks info) (licence_lines marks info))
    (set_off (separator_of marks) (free_lines marks info))
    (each-joined IsSound (separator_of marks) (holder_lines marks info)
    (licence_lines marks info) separator holders licences)
    (each-set_off IsSound (separator_of marks) (free_lines marks info) separator free) in
    each_both IsSound (option_to_list marks.first ++ inner_lines marks info) (option_to_list marks.last)
    (each_both IsSound (option_to_list marks.first) (inner_lines marks info) are.first inner) are.last

pub ended_sound : (kind : LineKind) (lines : List (List ℕ)) → Each IsSound lines → IsSound (ended_by kind lines)
unfolding Each
ended_sound kind [] h = sound_nil
ended_sound kind (line ∷ lines) h =
    sound_append (line ++ ending_bytes (Some kind)) (ended_by kind lines)
    (sound_append line (ending_bytes (Some kind)) h.0 (ending_sound kind)) (ended_sound kind lines h.1)

-- ---- texts

-- without punctuation, blank bytes alone stand in front of a tag
pub no_punctuation : AreLow []
no_punctuation b e = by (is_blank b) refl e
  where
    by : (x : Bool) → is_blank b ≡ x → (x || false) ≡ true → is_low b ≡ true
    by true p h = blank_low b p
    by false p h = absurd (false≢true h)

pub text_is : (bytes : List ℕ) → is_text bytes ≡ true → IsSound bytes
text_is bytes h = let parts = and_parts (is_utf8 bytes) (not (list_any is_nul bytes)) h in record {
  utf8 = IsUtf8-from_is_utf8 bytes parts.0;
  clean = not_true (list_any is_nul bytes) parts.1;
}
  where
    not_true : (b : Bool) → not b ≡ true → b ≡ false
    not_true true e = absurd (false≢true e)
    not_true false e = refl

pub text_made : (bytes : List ℕ) → IsSound bytes → is_text bytes ≡ true
text_made bytes s =
    ap (λ (b : Bool). b && not (list_any is_nul bytes)) (is_utf8-from_IsUtf8 bytes s.utf8) ∙ ap not s.clean

-- no marks
pub no_marks : AreSoundMarks neighbour_marks
unfolding Each
no_marks = record { lead = sound_nil; mark = sound_nil; first = tt; last = tt }

-- ---- a text that is put into a file

ending_if_sound : (wanted : Bool) (kind : LineKind) → IsSound (ending_if wanted kind)
ending_if_sound true kind = ending_sound kind
ending_if_sound false kind = sound_nil

pub insertion_sound : (file : List ℕ) (place : ℕ) (edit : Edit) → IsInsertion file place edit
    → IsSound (take place file) → IsSound edit.text → IsSound (drop place file) → IsSound (edited file edit)
insertion_sound file place edit is before text behind =
    let kind = kind_of_file file in
    let front : IsSound edit.front = subst IsSound (sym is.front.2) (sound_append (ending_if is.front.0 kind)
    (ending_if is.front.1 kind) (ending_if_sound is.front.0 kind) (ending_if_sound is.front.1 kind)) in
    let back : IsSound edit.back = subst IsSound (sym is.back.1) (ending_if_sound is.back.0 kind) in
    let new = sound_append edit.front (edit.text ++ edit.back) front (sound_append edit.text edit.back text back) in
    subst IsSound (sym is.made) (sound_append (take place file ++ (edit.front ++ (edit.text ++ edit.back)))
    (drop place file) (sound_append (take place file) (edit.front ++ (edit.text ++ edit.back)) before new) behind)

-- ---- a neighbour

module _ (joined : (text : List ℕ) → text_of (lines_of text) ≡ text) (well : (text : List ℕ) → AreLines (lines_of text))
    (file : List ℕ) (text : is_text file ≡ true) where
  sound : IsSound file
  sound = text_is file text

  lines_are : Each SoundLine (file_lines file)
  lines_are = lines_sound (lines_of (after_mark file)) (mark_len_of file) (well (after_mark file))
      (subst IsSound (sym (joined (after_mark file))) (mark_sound file sound).1)

  pub contents_are : Each IsSound (neighbour_contents file)
  contents_are = contents_sound (open_contents (file_lines file)) (open_sound (file_lines file) lines_are)

  old_contents : (replace : Bool) → Each IsSound (replaced_contents replace file)
  unfolding Each
  old_contents true = contents_are
  old_contents false = tt

  pub behind_end : IsSound (drop (neighbour_end file) file)
  behind_end =
      let cut = cut_at_line file (open_lines (file_lines file)) (closed_lines (file_lines file)) (neighbour_end file)
      (joined (after_mark file)) (lines_cut (file_lines file)) (end_behind file (joined (after_mark file))) in
      subst IsSound (sym cut.1)
      (bytes_sound (closed_lines (file_lines file)) (closed_sound (file_lines file) lines_are))

  made_sound : Merges → (how : How) (additions : Additions) (edit : Edit) → AreSound additions
      → neighbour_annotation_of how additions file ≡ Ok edit → is_text (edited file edit) ≡ true
  made_sound merges how additions edit plain e = text_made (edited file edit) (by how.replace refl)
    where
      kind : LineKind
      kind = kind_of_file file

      info : Info
      info = neighbour_info_written how additions file

      mark : List ℕ
      mark = take (mark_len_of file) file

      same : edit.text ≡ ended_by kind (block_lines neighbour_marks info)
      same = ap (λ (x : Edit). x.text) (neighbour_ok how additions file edit e).same ∙ neighbour_text how.replace file
          (block_text neighbour_marks kind info) ∙ text_lines neighbour_marks kind info

      block : IsSound edit.text
      block = subst IsSound (sym same) (ended_sound kind (block_lines neighbour_marks info)
          (block_sound neighbour_marks no_marks info (new_sound merges [] no_punctuation
          (replaced_contents how.replace file) how.merge additions (old_contents how.replace) plain)))

      by : (replace : Bool) → how.replace ≡ replace → IsSound (edited file edit)
      by true replaced =
          subst IsSound (sym (neighbour_replacing_keeps_others how additions file edit joined replaced e))
          (sound_append (mark ++ edit.text) (drop (neighbour_end file) file)
          (sound_append mark edit.text (mark_sound file sound).0 block) behind_end)
      by false added = insertion_sound file (mark_len_of file) edit
          (neighbour_inserting_keeps_others how additions file edit added e) (mark_sound file sound).0 block
          (mark_sound file sound).1

is_text_first : (how : How) (additions : Additions) (file : List ℕ) (edit : Edit)
    → neighbour_annotation_of how additions file ≡ Ok edit → is_text file ≡ true
unfolding neighbour_annotation_of
is_text_first how additions file edit e = by (is_text file) refl e
  where
    by : (b : Bool) → is_text file ≡ b → (if b then neighbour_written how.replace file
        (new_info [] (replaced_contents how.replace file) how.merge additions) else Err NotText) ≡ Ok edit
        → is_text file ≡ true
    by true is k = is
    by false is k = absurd (error_is_ok NotText edit k)

-- a neighbour that is annotated is text, and so is what is made of it
pub neighbour_is_text : ((text : List ℕ) → text_of (lines_of text) ≡ text)
    → ((text : List ℕ) → AreLines (lines_of text)) → Merges → (how : How) (additions : Additions) (file made : List ℕ)
    → ArePlain additions → AreUtf8 additions
    → neighbour_annotated how additions file ≡ Ok made → (is_text file ≡ true) × (is_text made ≡ true)
neighbour_is_text joined well merges how additions file made plain utf8 e =
    by (neighbour_annotation_of how additions file) refl e
  where
    by : (answer : Result Edit HeaderRefusal) → neighbour_annotation_of how additions file ≡ answer
        → made_by file answer ≡ Ok made → (is_text file ≡ true) × (is_text made ≡ true)
    by (Err refusal) is k = absurd (error_is_ok refusal made k)
    by (Ok edit) is k =
        let same : edited file edit ≡ made = cc k in
        let text = is_text_first how additions file edit is in (
          text,
          ap is_text (sym same)
              ∙ made_sound joined well file text merges how additions edit (additions_sound additions plain utf8) is,
        )
