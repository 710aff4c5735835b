-- What amending makes of text is text.
use Rattle.std.proofs.Common.{◌≡◌, ℕ, Bool, true, false, List, [], ◌∷◌, ◌++◌, take, drop, Option, None, Some, refl, sym}
use Rattle.std.proofs.Common.{ap, subst, ◌∙◌, inl, inr}
use Rattle.std.specs.Prelude.{Ok, Err, IsUtf8, if◌then◌else◌}
use Rattle.std.specs.List.{AllByRecursion}
use Rattle.std.specs.Option.{option_map}
use Rattle.reuse_text.specs.Text.{AreLines, lines_of, text_of, after_mark, mark_len_of}
use Rattle.reuse_notice.specs.declared.infos.Info.{Info}
use Rattle.reuse_amend.specs.declared.amendments.Amendments.{Amendments}
use Rattle.reuse_amend.specs.declared.replacements.Replacement.{Replacement}
use Rattle.reuse_notice.specs.Infos.{info_of}
use Rattle.reuse_notice.specs.Plain.{IsPlain}
use Rattle.reuse_amend.specs.Amending.{text_amended, notice_amended, amended}
use Rattle.reuse_amend.specs.Settled.{WritePlainTexts, WriteUtf8Texts, HasFourDigits}
use Rattle.reuse_amend.proofs.UnnamedLemmas.{are_amended}
use Rattle.reuse_notice.proofs.SoundLemmas.{IsSound, sound_append}
use Rattle.reuse_amend.proofs.ShapeLemmas.{plain_sound, sound_kept}
use Rattle.reuse_amend.proofs.InPlaceLemmas.{becomes}
use Rattle.reuse_amend.proofs.AbsentLemmas.{sound_amended}
use Rattle.reuse_style.specs.declared.style.Style.{Style}
use Rattle.reuse_header.specs.declared.annotation.HeaderRefusal.TheVariants.{NotText}
use Rattle.reuse_header.specs.declared.amendment.AmendHeaderRefusal.TheVariants.{Header as HeaderRefused}
use Rattle.reuse_style.specs.Styles.{punctuation_of}
use Rattle.reuse_header.specs.Header.{HeaderSpan, span_in, header_of, neighbour_contents}
use Rattle.reuse_header.specs.Writing.{block_text, block_lines, neighbour_marks, ended_by}
use Rattle.reuse_header.specs.Annotation.{Edit, edited, kind_of_file}
use Rattle.reuse_header.specs.Neighbour.{is_text, neighbour_end, neighbour_written, replaced_contents}
use Rattle.reuse_header.specs.Amendment.{amended_information, written_if, amendment_of, neighbour_amendment_of}
use Rattle.reuse_header.specs.Amendment.{amended_file}
use Rattle.reuse_header.proofs.SayableLemmas.{Each}
use Rattle.reuse_header.proofs.LawLemmas.{text_of_edit, text_lines, neighbour_text}
use Rattle.reuse_header.proofs.LineSoundLemmas.{mark_sound}
use Rattle.reuse_header.proofs.InfoSoundLemmas.{IsSoundInfo, info_sound}
use Rattle.reuse_header.proofs.MadeTextLemmas.{block_sound, ended_sound, no_punctuation, no_marks, text_is, text_made}
use Rattle.reuse_header.proofs.MadeTextLemmas.{contents_are, behind_end}
use Rattle.reuse_header.proofs.FileTextLemmas.{marks_sound, low_filler, span_sound}
use Rattle.reuse_header.proofs.MarkLemmas.{low_punctuation}
use Rattle.reuse_header.proofs.AmendmentLawLemmas.{amendment_ok, amending_replaces, none_stays, neighbour_amendment_ok}
use Rattle.reuse_header.proofs.AmendmentLawLemmas.{amending_replaces_neighbour}
use Rattle.reuse_header.proofs.AmendedLemmas.{text_kept_by, Turns, turned}
use Rattle.reuse_header.proofs.SecondLemmas.{of_edit, both}

-- ---- the information

sound_new : (rs : List Replacement) → AllByRecursion (λ r. IsPlain r.new) rs → AllByRecursion (λ r. IsUtf8 r.new) rs
    → AllByRecursion (λ r. IsSound r.new) rs
sound_new [] plain utf8 = tt
sound_new (r ∷ rs) plain utf8 = (plain_sound r.new plain.0 utf8.0, sound_new rs plain.1 utf8.1)

-- the new texts are UTF-8 without NUL, and a year has four digits
pub record WriteText (a : Amendments) : Type 0 where
  pub plain : WritePlainTexts a
  pub utf8 : WriteUtf8Texts a
  pub short : HasFourDigits a.until

sound_turns : (a : Amendments) → WriteText a → Turns a IsSound IsSound IsSound
sound_turns a w = record {
  notice = notice;
  contributor = λ text s. text_kept_by IsSound a.replaced_contributors text
      (sound_new a.replaced_contributors w.plain.contributors w.utf8.contributors) s;
  licence = λ value new s e. sound_kept a.replaced_licences
      (sound_new a.replaced_licences w.plain.licences w.utf8.licences) value new s e;
}
  where
    notice : (text new : List ℕ) → IsSound text → notice_amended a text ≡ Some new → IsSound new
    notice text new s e = elim (becomes a text new e) [
      | inl same ↦ subst IsSound same s
      | inr n ↦ (let new_are = sound_new a.replaced_holders w.plain.holders w.utf8.holders in
          subst IsSound n.written
          (sound_amended a text n.parts (text_amended a.replaced_holders n.parts.holder) n.read w.short s
          (λ old. text_kept_by IsSound a.replaced_holders n.parts.holder new_are old)))
    ]

amended_sound : (a : Amendments) → WriteText a → (old new : Info) → amended a old ≡ Some new → IsSoundInfo old
    → IsSoundInfo new
amended_sound a w old new e h =
    let t =
    turned a IsSound IsSound IsSound (sound_turns a w) old new e
    (record { notices = h.notices; contributors = h.contributors; licences = h.licences }) in
    record {
      notices = t.notices;
      contributors = t.contributors;
      licences = t.licences;
      free = subst (Each IsSound) (sym (are_amended a old new e).new_free) h.free;
    }

-- a neighbour that isn't text is refused
was_text : (a : Amendments) (file made : List ℕ) → amended_file file (neighbour_amendment_of a file) ≡ Ok made
    → is_text file ≡ true
unfolding neighbour_amendment_of
was_text a file made e = by (is_text file) refl e
  where
    by : (t : Bool) → is_text file ≡ t
        → amended_file file (if t then written_if (neighbour_written true file)
        (amended_information a (info_of [] (replaced_contents true file))) else Err (HeaderRefused NotText)) ≡ Ok made
        → is_text file ≡ true
    by true is e' = is
    by false is e' = absurd (let none : ⊥ = cc e' in none)

-- ---- files

module _ (joined : (text : List ℕ) → text_of (lines_of text) ≡ text)
    (well : (text : List ℕ) → AreLines (lines_of text)) where
  block_is_text : (style : Style) (a : Amendments) (file : List ℕ) (edit : Edit) (span : HeaderSpan) → WriteText a
      → is_text file ≡ true → option_map (span_in file) (header_of style file) ≡ Some span
      → amendment_of style a file ≡ Ok (Some edit) → is_text (edited file edit) ≡ true
  block_is_text style a file edit span write text found e =
      let w = amendment_ok style a file edit span e found in
      let punct = punctuation_of style in
      let kind = kind_of_file file in
      let there = span_sound joined well style file (text_is file text) span found in
      let says =
      amended_sound a write (info_of punct span.contents) w.info w.is.made
      (info_sound punct (low_filler punct (low_punctuation style)) span.contents there.contents) in
      let same : edit.text ≡ ended_by kind (block_lines w.marks w.info) =
      ap (λ (x : Edit). x.text) w.written.same ∙ text_of_edit style file (block_text w.marks kind w.info) (Some span)
      ∙ text_lines w.marks kind w.info in
      let block =
      subst IsSound (sym same)
      (ended_sound kind (block_lines w.marks w.info)
      (block_sound w.marks (marks_sound style span.form w.marks w.marks_are) w.info says)) in
      text_made (edited file edit)
      (subst IsSound (sym (amending_replaces style a file edit span (joined (after_mark file)) e found))
      (sound_append (take span.start file ++ edit.text) (drop span.end file)
      (sound_append (take span.start file) edit.text there.before block) there.behind))

  edit_is_text : (style : Style) (a : Amendments) (file : List ℕ) (edit : Edit) → WriteText a → is_text file ≡ true
      → amendment_of style a file ≡ Ok (Some edit) → is_text (edited file edit) ≡ true
  edit_is_text style a file edit write text e = by (option_map (span_in file) (header_of style file)) refl
    where
      by : (o : Option HeaderSpan) → option_map (span_in file) (header_of style file) ≡ o
          → is_text (edited file edit) ≡ true
      by None found = absurd (both (amendment_of style a file) edit (none_stays style a file found) e)
      by (Some span) found = block_is_text style a file edit span write text found e

  pub amended_is_text : (style : Style) (a : Amendments) (file made : List ℕ) → WriteText a → is_text file ≡ true
      → amended_file file (amendment_of style a file) ≡ Ok made → is_text made ≡ true
  amended_is_text style a file made write text e =
      of_edit (λ m. is_text m ≡ true) file made (amendment_of style a file) e (λ none. text)
      (λ edit is. edit_is_text style a file edit write text is)

  -- ---- neighbour files

  neighbour_edit_is_text : (a : Amendments) (file : List ℕ) (edit : Edit) → WriteText a → is_text file ≡ true
      → neighbour_amendment_of a file ≡ Ok (Some edit) → is_text (edited file edit) ≡ true
  neighbour_edit_is_text a file edit write text e =
      let w = neighbour_amendment_ok a file edit e in
      let kind = kind_of_file file in
      let mark = take (mark_len_of file) file in
      let says =
      amended_sound a write (info_of [] (neighbour_contents file)) w.info w.is.made
      (info_sound [] no_punctuation (neighbour_contents file) (contents_are joined well file text)) in
      let same : edit.text ≡ ended_by kind (block_lines neighbour_marks w.info) =
      ap (λ (x : Edit). x.text) w.same ∙ neighbour_text true file (block_text neighbour_marks kind w.info)
      ∙ text_lines neighbour_marks kind w.info in
      let block =
      subst IsSound (sym same)
      (ended_sound kind (block_lines neighbour_marks w.info) (block_sound neighbour_marks no_marks w.info says)) in
      text_made (edited file edit) (subst IsSound (sym (amending_replaces_neighbour a file edit joined e))
      (sound_append (mark ++ edit.text) (drop (neighbour_end file) file)
      (sound_append mark edit.text (mark_sound file (text_is file text)).0 block) (behind_end joined well file text)))

  pub neighbour_amended_is_text : (a : Amendments) (file made : List ℕ) → WriteText a
      → amended_file file (neighbour_amendment_of a file) ≡ Ok made → (is_text file ≡ true) × (is_text made ≡ true)
  neighbour_amended_is_text a file made write e =
      let text = was_text a file made e in (
        text,
        of_edit (λ m. is_text m ≡ true) file made (neighbour_amendment_of a file) e (λ none. text)
            (λ edit is. neighbour_edit_is_text a file edit write text is),
      )
