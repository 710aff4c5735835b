-- Amended information reads back, and its lines are contents, where the new texts are plain.
use Rattle.std.proofs.Common.{◌≡◌, ℕ, Bool, true, false, cond, List, [], ◌∷◌, map, Option, None, Some, refl, sym, subst}
use Rattle.std.proofs.Common.{inl, inr}
use Rattle.std.specs.Prelude.{not, filter_map, All}
use Rattle.std.specs.Option.{option_map, option_and_then}
use Rattle.std.specs.List.{AllByRecursion}
use Rattle.std.specs.Str.{bytes_eq}
use Rattle.reuse_text.specs.declared.LineKind.{LineKind}
use Rattle.reuse_text.specs.Text.{AreLines, lines_of, after_mark}
use Rattle.reuse_notice.specs.declared.infos.Info.{Info}
use Rattle.reuse_amend.specs.declared.amendments.Amendments.{Amendments}
use Rattle.reuse_amend.specs.declared.replacements.Replacement.{Replacement}
use Rattle.reuse_notice.specs.Tags.{trimmed, stripped, tag_of}
use Rattle.reuse_notice.specs.Contents.{notice_text, contributor_value, licence_value, is_blank_content}
use Rattle.reuse_notice.specs.Infos.{info_of}
use Rattle.reuse_notice.specs.MergeSteps.{is_among}
use Rattle.reuse_notice.specs.Plain.{IsPlain}
use Rattle.reuse_notice.specs.Sets.{IsSorted}
use Rattle.reuse_notice.specs.TextLists.{without}
use Rattle.reuse_amend.specs.Amending.{text_replaced, text_amended, licence_amended, each_made, parts_amended}
use Rattle.reuse_amend.specs.Amending.{notice_amended, amended}
use Rattle.reuse_amend.specs.NoticeParts.{Parts, parts_text, parts_of}
use Rattle.reuse_amend.specs.Settled.{WritePlainTexts}
use Rattle.reuse_amend.proofs.UnnamedLemmas.{are_amended}
use Rattle.reuse_amend.proofs.ShapeLemmas.{IsWhole, plain_whole, whole_kept, feedless_kept}
use Rattle.reuse_amend.proofs.JoinedLemmas.{parts_whole}
use Rattle.reuse_amend.proofs.InPlaceLemmas.{becomes}
use Rattle.reuse_amend.proofs.ShapedLemmas.{begin_kept, end_kept}
use Rattle.reuse_amend.proofs.AbsentLemmas.{absent_amended}
use Rattle.reuse_style.specs.declared.style.Style.{Style}
use Rattle.reuse_style.specs.declared.marks.Form.{Form}
use Rattle.reuse_style.specs.Styles.{punctuation_of}
use Rattle.reuse_header.specs.Marks.{LineMarks, marks_of}
use Rattle.reuse_header.specs.Blocks.{without_returns}
use Rattle.reuse_header.specs.Header.{HeaderSpan, span_in, header_of, neighbour_contents}
use Rattle.reuse_header.specs.Writing.{contributor_text, licence_text, block_lines, neighbour_marks}
use Rattle.reuse_header.specs.Reading.{IsSayable}
use Rattle.reuse_header.specs.Laws.{AreContents}
use Rattle.reuse_header.specs.LowerLaws.{Known}
use Rattle.reuse_header.proofs.SayableLemmas.{IsValue, notice_read, Each, all_of_each, each_of_all, each_set}
use Rattle.reuse_header.proofs.SayableLemmas.{contributor_again, licence_again, contributor_read, licence_read}
use Rattle.reuse_header.proofs.SayableLemmas.{info_sayable, found_clean, neighbour_clean}
use Rattle.reuse_header.proofs.PlainLemmas.{NoFillers, letters, no_letters, plain_value, begins_notice}
use Rattle.reuse_header.proofs.InfoLemmas.{each_said_of, each_filtered}
use Rattle.reuse_header.proofs.FeedLemmas.{Feedless, HasNoFeed, is_feed, feed_low, plain_feedless, found_feedless}
use Rattle.reuse_header.proofs.FeedLemmas.{neighbour_feedless, info_feedless}
use Rattle.reuse_header.proofs.LinesLemmas.{sayable_contents, sayable_neighbour}

-- ---- what holds of each old text and of each new one holds of what becomes of the old

pub all_by : {X : Type 0} (P Q : X → Type 0) (xs : List X) → ((x : X) → P x → Q x) → AllByRecursion P xs
    → AllByRecursion Q xs
all_by P Q [] f h = tt
all_by P Q (x ∷ xs) f h = (f x h.0, all_by P Q xs f h.1)

module _ (P : List ℕ → Type 0) where
  each_made_of : (f : List ℕ → Option (List ℕ)) (xs ys : List (List ℕ)) → ((x y : List ℕ) → P x → f x ≡ Some y → P y)
      → Each P xs → each_made f xs ≡ Some ys → Each P ys
  unfolding Each each_made
  each_made_of f [] ys w h e = let same : [] ≡ ys = cc e in subst (Each P) same tt
  each_made_of f (x ∷ xs) ys w h e =
      by (λ others rest. each_made_of f xs others w h.1 rest) (f x) refl (each_made f xs) refl e
    where
      by : ((others : List (List ℕ)) → each_made f xs ≡ Some others → Each P others) → (o : Option (List ℕ)) → f x ≡ o
          → (os : Option (List (List ℕ))) → each_made f xs ≡ os
          → option_and_then (λ made. option_map (λ others. made ∷ others) os) o ≡ Some ys → Each P ys
      by again None first os rest e' = absurd (let none : ⊥ = cc e' in none)
      by again (Some made) first None rest e' = absurd (let none : ⊥ = cc e' in none)
      by again (Some made) first (Some others) rest e' =
          let same : made ∷ others ≡ ys = cc e' in subst (Each P) same (w x made h.0 first, again others rest)

  each_mapped : (f : List ℕ → List ℕ) (xs : List (List ℕ)) → ((x : List ℕ) → P x → P (f x)) → Each P xs
      → Each P (map f xs)
  unfolding Each
  each_mapped f [] w h = tt
  each_mapped f (x ∷ xs) w h = (w x h.0, each_mapped f xs w h.1)

  pub text_kept_by : (rs : List Replacement) (text : List ℕ) → AllByRecursion (λ r. P r.new) rs → P text
      → P (text_amended rs text)
  text_kept_by [] text new h = h
  text_kept_by (r ∷ rs) text new h = text_kept_by rs (text_replaced text r) new.1 (by (bytes_eq text r.old))
    where
      by : (b : Bool) → P (cond b r.new text)
      by true = new.0
      by false = h

-- what has to be known of the texts
pub record Turns (a : Amendments) (N C L : List ℕ → Type 0) : Type 0 where
  pub notice : (text new : List ℕ) → N text → notice_amended a text ≡ Some new → N new
  pub contributor : (text : List ℕ) → C text → C (text_amended a.replaced_contributors text)
  pub licence : (value new : List ℕ) → L value → licence_amended a.replaced_licences value ≡ Some new → L new

pub record Holds (N C L : List ℕ → Type 0) (info : Info) : Type 0 where
  pub notices : Each N info.notices
  pub contributors : Each C info.contributors
  pub licences : Each L info.licences

pub turned : (a : Amendments) (N C L : List ℕ → Type 0) → Turns a N C L → (old new : Info) → amended a old ≡ Some new
    → Holds N C L old → Holds N C L new
turned a N C L w old new e h =
    let parts = are_amended a old new e in
    record {
      notices = subst (Each N) (sym parts.new_notices)
          (each_set N _ (each_said_of N (notice_amended a) old.notices w.notice h.notices));
      contributors = subst (Each C) (sym parts.new_contributors)
          (each_set C _ (each_filtered C (λ text. not (is_among a.removed_contributors text)) _
          (each_mapped C (text_amended a.replaced_contributors) old.contributors w.contributor h.contributors)));
      licences = subst (Each L) (sym parts.new_licences)
          (each_set L _ (each_filtered L (λ text. not (is_among a.removed_licences text)) parts.licences (each_made_of L
          (licence_amended a.replaced_licences) old.licences parts.licences w.licence h.licences parts.made)));
    }

-- ---- amended information reads back

holder_whole : (a : Amendments) → WritePlainTexts a → (text : List ℕ) (p : Parts) → parts_of text ≡ Some p
    → IsWhole (text_amended a.replaced_holders p.holder)
holder_whole a plain text p read =
    text_kept_by IsWhole a.replaced_holders p.holder
    (all_by (λ r. IsPlain r.new) (λ r. IsWhole r.new) a.replaced_holders (λ r h. plain_whole r.new h) plain.holders)
    (parts_whole text p read)

licence_value_kept : (a : Amendments) → WritePlainTexts a → (value new : List ℕ) → IsValue value
    → licence_amended a.replaced_licences value ≡ Some new → IsValue new
licence_value_kept a plain value new is e =
    let whole = whole_kept a.replaced_licences
    (all_by (λ r. IsPlain r.new) (λ r. IsWhole r.new) a.replaced_licences
    (λ r h. let v = plain_value r.new h in record { some = v.some; trim = v.trim }) plain.licences)
    value new (record { some = is.some; trim = is.trim }) e in
    record { some = whole.some; trim = whole.trim }

sayable_turns : Known → (punct : List ℕ) → NoFillers punct → (a : Amendments) → WritePlainTexts a
    → Turns a (λ t. notice_text (tag_of punct t) ≡ Some t) (λ v. contributor_value
    (tag_of punct (contributor_text v)) ≡ Some v) (λ v. licence_value (tag_of punct (licence_text v)) ≡ Some v)
sayable_turns known punct fillers a plain = record {
  notice = notice;
  contributor = λ text said.
      contributor_again punct (text_amended a.replaced_contributors text) fillers.s
      (text_kept_by IsValue a.replaced_contributors text (all_by (λ r. IsPlain r.new)
      (λ r. IsValue r.new) a.replaced_contributors (λ r h. plain_value r.new h) plain.contributors)
      (contributor_read (stripped punct (contributor_text text)) text said));
  licence = λ value new said e. licence_again punct new fillers.s
      (licence_value_kept a plain value new (licence_read (stripped punct (licence_text value)) value said) e);
}
  where
    notice : (text new : List ℕ) → notice_text (tag_of punct text) ≡ Some text → notice_amended a text ≡ Some new
        → notice_text (tag_of punct new) ≡ Some new
    notice text new said e = elim (becomes a text new e) [
      | inl same ↦ subst (λ (t : List ℕ). notice_text (tag_of punct t) ≡ Some t) same said
      | inr w ↦ (let n = notice_read punct text said in
          let whole = holder_whole a plain text w.parts w.read in
          subst (λ (t : List ℕ). notice_text (tag_of punct t) ≡ Some t) w.written
          (begins_notice punct fillers known.none
          (parts_text (parts_amended a w.parts (text_amended a.replaced_holders w.parts.holder)))
          (begin_kept a text w.parts (text_amended a.replaced_holders w.parts.holder) n.prefix w.read n.found whole)
          (end_kept a text w.parts (text_amended a.replaced_holders w.parts.holder) w.read whole n.end)))
    ]

amended_sayable : Known → (punct : List ℕ) → NoFillers punct → (a : Amendments) → WritePlainTexts a → (old new : Info)
    → amended a old ≡ Some new → IsSayable punct old → IsSayable punct new
amended_sayable known punct fillers a plain old new e s =
    let N = λ (t : List ℕ). notice_text (tag_of punct t) ≡ Some t in
    let C = λ (v : List ℕ). contributor_value (tag_of punct (contributor_text v)) ≡ Some v in
    let L = λ (v : List ℕ). licence_value (tag_of punct (licence_text v)) ≡ Some v in
    let F = λ (c : List ℕ). (tag_of punct c ≡ None) × (without_returns c ≡ c) in
    let parts = are_amended a old new e in
    let h = turned a N C L (sayable_turns known punct fillers a plain) old new e (record {
      notices = each_of_all N old.notices s.notices;
      contributors = each_of_all C old.contributors s.contributors;
      licences = each_of_all L old.licences s.licences;
    }) in
    record {
      notices = all_of_each N new.notices h.notices;
      contributors = all_of_each C new.contributors h.contributors;
      licences = all_of_each L new.licences h.licences;
      free = subst (λ (free : List (List ℕ)). All F free) (sym parts.new_free) s.free;
      free_ends = subst (λ (free : List (List ℕ)). trimmed (is_blank_content punct) free ≡ free)
          (sym parts.new_free) s.free_ends;
      notices_sorted = subst (λ (texts : List (List ℕ)). IsSorted texts) (sym parts.new_notices)
          (known.sorted (filter_map (notice_amended a) old.notices));
      contributors_sorted = subst (λ (texts : List (List ℕ)). IsSorted texts) (sym parts.new_contributors)
          (known.sorted (without a.removed_contributors (map (text_amended a.replaced_contributors) old.contributors)));
      licences_sorted = subst (λ (texts : List (List ℕ)). IsSorted texts) (sym parts.new_licences)
          (known.sorted (without a.removed_licences parts.licences));
    }

-- ---- and holds no LF

feedless_turns : (a : Amendments) → WritePlainTexts a → Turns a Feedless Feedless Feedless
feedless_turns a plain = record {
  notice = notice;
  contributor = λ text f. text_kept_by Feedless a.replaced_contributors text (all_by (λ r. IsPlain r.new)
      (λ r. Feedless r.new) a.replaced_contributors (λ r h. plain_feedless r.new h) plain.contributors) f;
  licence = λ value new f e. feedless_kept a.replaced_licences (all_by (λ r. IsPlain r.new)
      (λ r. Feedless r.new) a.replaced_licences (λ r h. plain_feedless r.new h) plain.licences) value new f e;
}
  where
    notice : (text new : List ℕ) → Feedless text → notice_amended a text ≡ Some new → Feedless new
    notice text new f e = elim (becomes a text new e) [
      | inl same ↦ subst Feedless same f
      | inr w ↦ (let new_are = all_by (λ r. IsPlain r.new) (λ r. Feedless r.new) a.replaced_holders
          (λ r h. plain_feedless r.new h) plain.holders in
          subst Feedless w.written
          (absent_amended is_feed feed_low a text w.parts (text_amended a.replaced_holders w.parts.holder) w.read f
          (λ old. text_kept_by Feedless a.replaced_holders w.parts.holder new_are old)))
    ]

amended_feedless : (a : Amendments) → WritePlainTexts a → (old new : Info) → amended a old ≡ Some new → HasNoFeed old
    → HasNoFeed new
amended_feedless a plain old new e h =
    let t =
    turned a Feedless Feedless Feedless (feedless_turns a plain) old new e
    (record { notices = h.notices; contributors = h.contributors; licences = h.licences }) in
    record {
      notices = t.notices;
      contributors = t.contributors;
      licences = t.licences;
      free = subst (Each Feedless) (sym (are_amended a old new e).new_free) h.free;
    }

-- ---- what is written of a header block, and of a neighbour

pub amended_reads : Known → ((text : List ℕ) → AreLines (lines_of text))
    → (style : Style) (a : Amendments) (file : List ℕ) (span : HeaderSpan) (new : Info) (kind : LineKind) (form : Form)
    (marks : LineMarks)
    → WritePlainTexts a → option_map (span_in file) (header_of style file) ≡ Some span
    → amended a (info_of (punctuation_of style) span.contents) ≡ Some new → marks_of style form ≡ Some marks
    → (IsSayable (punctuation_of style) new) × (AreContents kind (block_lines marks new))
amended_reads known are style a file span new kind form marks plain found e is =
    let punct = punctuation_of style in
    let old = info_of punct span.contents in
    let s =
    amended_sayable known punct (letters style) a plain old new e
    (info_sayable known.sorted punct span.contents (letters style).s (found_clean style file span found)) in
    let f =
    amended_feedless a plain old new e
    (info_feedless punct span.contents (found_feedless style file span (are (after_mark file)) found)) in
    (s, sayable_contents style form marks kind new is s f)

pub amended_neighbour_reads : Known → ((text : List ℕ) → AreLines (lines_of text))
    → (a : Amendments) (file : List ℕ) (new : Info) (kind : LineKind) → WritePlainTexts a
    → amended a (info_of [] (neighbour_contents file)) ≡ Some new
    → (IsSayable [] new) × (AreContents kind (block_lines neighbour_marks new))
amended_neighbour_reads known are a file new kind plain e =
    let old = info_of [] (neighbour_contents file) in
    let s =
    amended_sayable known [] no_letters a plain old new e
    (info_sayable known.sorted [] (neighbour_contents file) no_letters.s (neighbour_clean file)) in
    let f =
    amended_feedless a plain old new e
    (info_feedless [] (neighbour_contents file) (neighbour_feedless file (are (after_mark file)))) in
    (s, sayable_neighbour kind new s f)
