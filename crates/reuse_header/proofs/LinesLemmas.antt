-- The lines of a written block are contents.
use Rattle.std.proofs.Common.{◌≡◌, ℕ, Bool, true, false, List, [], ◌∷◌, ◌++◌, map, Option, None, Some, refl, sym, ap}
use Rattle.std.proofs.Common.{◌∙◌, inl, inr}
use Rattle.std.specs.Prelude.{◌==◌, All, unwrap_or, codes}
use Rattle.std.specs.List.{list_all}
use Rattle.std.specs.Option.{option_map, option_to_list}
use Rattle.std.proofs.lemmas.Bool.{eqb-true}
use Rattle.reuse_text.specs.declared.LineKind.{LineKind}
use Rattle.reuse_text.specs.Text.{IsLine, AreLines, lines_of, after_mark, ends_in_return}
use Rattle.reuse_notice.specs.declared.infos.Info.{Info}
use Rattle.reuse_notice.specs.Tags.{is_blank, drop_front, drop_end, stripped, tag_of, is_filler}
use Rattle.reuse_notice.specs.Contents.{notice_text, contributor_value, licence_value}
use Rattle.reuse_notice.specs.Adding.{Arguments, additions_of}
use Rattle.reuse_notice.specs.Plain.{ArePlain}
use Rattle.reuse_notice.specs.Infos.{info_of, union_of}
use Rattle.reuse_style.specs.declared.style.Style.{Style}
use Rattle.reuse_style.specs.declared.marks.Form.{Form}
use Rattle.reuse_style.specs.declared.marks.Form.TheVariants.{Single, Multi}
use Rattle.reuse_header.specs.declared.annotation.How.{How}
use Rattle.reuse_header.specs.Ends.{is_return}
use Rattle.reuse_style.specs.Marks.{is_plain}
use Rattle.reuse_style.specs.Styles.{punctuation_of}
use Rattle.reuse_style.proofs.GoodLemmas.{AreGoodMiddle}
use Rattle.reuse_header.specs.Marks.{LineMarks, marks_of}
use Rattle.reuse_header.specs.Blocks.{without_returns}
use Rattle.reuse_header.specs.Header.{HeaderSpan, span_in, header_of, neighbour_contents}
use Rattle.reuse_header.specs.Writing.{new_info, contributor_text, licence_text, joined, set_off, separator_of}
use Rattle.reuse_header.specs.Writing.{holder_lines, licence_lines, free_lines, inner_lines, block_lines}
use Rattle.reuse_header.specs.Writing.{neighbour_marks}
use Rattle.reuse_header.specs.Annotation.{replaced_block, old_contents}
use Rattle.reuse_header.specs.Neighbour.{replaced_contents}
use Rattle.reuse_header.specs.Reading.{IsSayable}
use Rattle.reuse_header.specs.Laws.{AreContents, info_written, neighbour_info_written}
use Rattle.std.proofs.lemmas.Bool.{cases_Bool as truth}
use Rattle.reuse_header.proofs.SayableLemmas.{Each, all_of_each, each_of_all, each_both, notice_whole, value_whole}
use Rattle.reuse_header.proofs.SayableLemmas.{contributor_read, licence_read, info_sayable, union_sayable, found_clean}
use Rattle.reuse_header.proofs.SayableLemmas.{neighbour_clean}
use Rattle.reuse_header.proofs.PlainLemmas.{NoFillers, letters, no_letters, additions_sayable}
use Rattle.reuse_header.specs.LowerLaws.{Known}
use Rattle.reuse_header.proofs.MergedLemmas.{merged_sayable}
use Rattle.reuse_notice.proofs.NoneLemmas.{none_append}
use Rattle.reuse_header.proofs.FeedLemmas.{is_feed, Feedless, feedless_holds, HasNoFeed, found_feedless}
use Rattle.reuse_header.proofs.FeedLemmas.{neighbour_feedless, additions_feedless, new_feedless}
use Rattle.reuse_header.proofs.AgainLemmas.{each-joined, each-set_off}
use Rattle.reuse_header.proofs.FormLemmas.{of_line, of_block}
use Rattle.reuse_header.proofs.MarkLemmas.{plain_feedless, plain_ends, lead_plain, all-ended}
use Rattle.reuse_notice.proofs.BlankLemmas.{drop_end-twice}

-- ---- no CR at an end

pub ends_append : (xs ys : List ℕ) → ends_in_return xs ≡ false → ends_in_return ys ≡ false
    → ends_in_return (xs ++ ys) ≡ false
ends_append [] ys e f = f
ends_append (x ∷ []) [] e f = e
ends_append (x ∷ []) (y ∷ ys) e f = f
ends_append (x ∷ z ∷ xs) ys e f = ends_append (z ∷ xs) ys e f

not_nil : (x : ℕ) (xs : List ℕ) → [] ≡ x ∷ xs → ⊥
not_nil x xs e = cc e

-- bytes that keep their end end in no CR, where that is dropped
ends_kept : (test : ℕ → Bool) → test 13 ≡ true → (xs : List ℕ) → drop_end test xs ≡ xs → ends_in_return xs ≡ false
unfolding drop_end
ends_kept test drops [] e = refl
ends_kept test drops (x ∷ []) e = elim (truth (x == 13)) [
  | inl t ↦ (let all : list_all test (x ∷ []) ≡ true = let h : test x ≡ true = ap test (eqb-true x 13 t)
      ∙ drops in rw h refl in
      absurd (not_nil x [] (let none = rw all at e in none)))
  | inr f ↦ f
]
ends_kept test drops (x ∷ y ∷ xs) e = elim (truth (list_all test (x ∷ y ∷ xs))) [
  | inl t ↦ absurd (not_nil x (y ∷ xs) (let none = rw t at e in none))
  | inr f ↦ (let same = rw f at e in ends_kept test drops (y ∷ xs) (rest (drop_end test (y ∷ xs)) same))
]
  where
    rest : (ys : List ℕ) → x ∷ ys ≡ x ∷ y ∷ xs → ys ≡ y ∷ xs
    rest ys same = cc same

-- ---- the texts of lines

Fit : List ℕ → Type 0
Fit line = Feedless line × (ends_in_return line ≡ false)

fit_append : (xs ys : List ℕ) → Fit xs → Fit ys → Fit (xs ++ ys)
unfolding Fit
fit_append xs ys a b = (none_append is_feed xs ys a.0 b.0, ends_append xs ys a.1 b.1)

fit_notice : (punct text : List ℕ) → Feedless text → notice_text (tag_of punct text) ≡ Some text → Fit text
unfolding Fit
fit_notice punct text f e =
    let whole = notice_whole (stripped punct text) text e in (
      f,
      ends_kept is_blank refl text
          (ap (drop_end is_blank) whole ∙ drop_end-twice is_blank (drop_front (is_filler punct) text) ∙ sym whole),
    )

fit_contributor : (punct v : List ℕ) → Feedless v → contributor_value (tag_of punct (contributor_text v)) ≡ Some v
    → Fit (contributor_text v)
unfolding Fit
fit_contributor punct v f e =
    fit_append (codes "SPDX-FileContributor: ") v (refl, refl)
    (f, ends_kept is_blank refl v (value_whole v (contributor_read (stripped punct (contributor_text v)) v e)))

fit_licence : (punct v : List ℕ) → Feedless v → licence_value (tag_of punct (licence_text v)) ≡ Some v
    → Fit (licence_text v)
unfolding Fit
fit_licence punct v f e =
    -- REUSE-IgnoreStart
    fit_append (codes "SPDX-License-Identifier: ") v (refl, refl)
    (f, ends_kept is_blank refl v (value_whole v (licence_read (stripped punct (licence_text v)) v e)))
    -- REUSE-IgnoreEnd

fit_free : (content : List ℕ) → Feedless content → without_returns content ≡ content → Fit content
unfolding Fit
fit_free content f e = (f, ends_kept is_return refl content e)

-- ---- the marks of the forms

record FitMarks (marks : LineMarks) : Type 0 where
  pub lead : Fit marks.lead
  pub mark : Fit marks.mark
  pub separator : Fit (separator_of marks)
  pub first : Each Fit (option_to_list marks.first)
  pub last : Each Fit (option_to_list marks.last)

plain_fit : (bytes : List ℕ) → list_all is_plain bytes ≡ true → Fit bytes
unfolding Fit
plain_fit bytes e = (plain_feedless bytes e, plain_ends bytes e)

-- marks fit whose texts are plain
pub record ArePlainMarks (marks : LineMarks) : Type 0 where
  pub lead : list_all is_plain marks.lead ≡ true
  mark : list_all is_plain marks.mark ≡ true
  first : Each (λ line. list_all is_plain line ≡ true) (option_to_list marks.first)
  last : Each (λ line. list_all is_plain line ≡ true) (option_to_list marks.last)

plain_marks_fit : (marks : LineMarks) → ArePlainMarks marks → FitMarks marks
unfolding Each
plain_marks_fit marks plain = record {
  lead = plain_fit marks.lead plain.lead;
  mark = plain_fit marks.mark plain.mark;
  separator = plain_fit (separator_of marks) (all-ended is_plain is_blank marks.lead plain.lead);
  first = each_fit (option_to_list marks.first) plain.first;
  last = each_fit (option_to_list marks.last) plain.last;
}
  where
    each_fit : (lines : List (List ℕ)) → Each (λ line. list_all is_plain line ≡ true) lines → Each Fit lines
    each_fit [] h = tt
    each_fit (line ∷ lines) h = (plain_fit line h.0, each_fit lines h.1)

middle_plain : (middle : Option (List ℕ)) → AreGoodMiddle middle → list_all is_plain (unwrap_or middle []) ≡ true
middle_plain None good = refl
middle_plain (Some middle) good = good.0.plain

pub marks_plain : (style : Style) (form : Form) (marks : LineMarks) → marks_of style form ≡ Some marks
    → ArePlainMarks marks
unfolding Each
marks_plain style Single marks e = of_line style marks (λ o m. ArePlainMarks m) e (λ form is good. record {
  lead = lead_plain style form.marker form.lead good.marker.plain good.lead;
  mark = good.marker.plain;
  first = tt;
  last = tt;
})
marks_plain style Multi marks e = of_block style marks (λ o m. ArePlainMarks m) e (λ form is good.
    let middle = middle_plain form.middle good.middle in record {
      lead = lead_plain style (unwrap_or form.middle []) form.lead middle good.lead;
      mark = middle;
      first = (good.opener.plain, tt);
      last = (good.last_line.plain, tt);
    })

marks_fit : (style : Style) (form : Form) (marks : LineMarks) → marks_of style form ≡ Some marks → FitMarks marks
marks_fit style form marks e = plain_marks_fit marks (marks_plain style form marks e)

neighbour_fit : FitMarks neighbour_marks
unfolding Fit Each drop_end
neighbour_fit = record { lead = (refl, refl); mark = (refl, refl); separator = (refl, refl); first = tt; last = tt }

-- ---- the lines of a block

-- each text is without LF, and something else
both_each : (P : List ℕ → Type 0) (f : List ℕ → List ℕ) (texts : List (List ℕ))
    → ((t : List ℕ) → Feedless t → P t → Fit (f t)) → Each Feedless texts → Each P texts → Each Fit (map f texts)
unfolding Each
both_each P f [] w a b = tt
both_each P f (t ∷ texts) w a b = (w t a.0 b.0, both_each P f texts w a.1 b.1)

lines_fit : (punct : List ℕ) (marks : LineMarks) (info : Info) → FitMarks marks → IsSayable punct info → HasNoFeed info
    → Each Fit (block_lines marks info)
unfolding block_lines inner_lines
lines_fit punct marks info m s h =
    let N = λ (t : List ℕ). notice_text (tag_of punct t) ≡ Some t in
    let C = λ (v : List ℕ). contributor_value (tag_of punct (contributor_text v)) ≡ Some v in
    let L = λ (v : List ℕ). licence_value (tag_of punct (licence_text v)) ≡ Some v in
    let F = λ (c : List ℕ). (tag_of punct c ≡ None) × (without_returns c ≡ c) in
    let notices = both_each N (λ t. marks.lead ++ t) info.notices (λ t f e. fit_append marks.lead t m.lead
    (fit_notice punct t f e)) h.notices (each_of_all N info.notices s.notices) in
    let contributors = both_each C (λ v. marks.lead ++ contributor_text v) info.contributors
    (λ v f e. fit_append marks.lead (contributor_text v) m.lead (fit_contributor punct v f e)) h.contributors
    (each_of_all C info.contributors s.contributors) in
    let licences = both_each L (λ v. marks.lead ++ licence_text v) info.licences (λ v f e. fit_append marks.lead
    (licence_text v) m.lead (fit_licence punct v f e)) h.licences (each_of_all L info.licences s.licences) in
    let free = both_each F (λ c. marks.mark ++ c) info.free
    (λ c f e. fit_append marks.mark c m.mark (fit_free c f e.1)) h.free (each_of_all F info.free s.free) in
    let holders = each_both Fit (map (λ t. marks.lead ++ t) info.notices)
    (map (λ v. marks.lead ++ contributor_text v) info.contributors) notices contributors in
    let inner = each_both Fit (joined (separator_of marks) (holder_lines marks info) (licence_lines marks info))
    (set_off (separator_of marks) (free_lines marks info))
    (each-joined Fit (separator_of marks) (holder_lines marks info)
    (licence_lines marks info) m.separator holders licences)
    (each-set_off Fit (separator_of marks) (free_lines marks info) m.separator free) in
    each_both Fit (option_to_list marks.first ++ inner_lines marks info) (option_to_list marks.last)
    (each_both Fit (option_to_list marks.first) (inner_lines marks info) m.first inner) m.last

fit_contents : (kind : LineKind) (lines : List (List ℕ)) → Each Fit lines → AreContents kind lines
unfolding Each Fit
fit_contents kind lines h =
    all_of_each (λ line. IsLine (record { content = line; ending = Some kind })) lines (each lines h)
  where
    each : (lines : List (List ℕ)) → Each Fit lines
        → Each (λ line. IsLine (record { content = line; ending = Some kind })) lines
    each [] h = tt
    each (line ∷ lines) h = (
      record {
        no_feed = feedless_holds line h.0.0;
        bare_feed = λ e. h.0.1;
        unended = λ e. absurd (let none : ⊥ = cc e in none);
      },
      each lines h.1,
    )

-- the lines of a block that says what reads back
pub sayable_contents : (style : Style) (form : Form) (marks : LineMarks) (kind : LineKind) (info : Info)
    → marks_of style form ≡ Some marks → IsSayable (punctuation_of style) info → HasNoFeed info
    → AreContents kind (block_lines marks info)
sayable_contents style form marks kind info is s h = fit_contents kind (block_lines marks info)
    (lines_fit (punctuation_of style) marks info (marks_fit style form marks is) s h)

pub sayable_neighbour : (kind : LineKind) (info : Info) → IsSayable [] info → HasNoFeed info
    → AreContents kind (block_lines neighbour_marks info)
sayable_neighbour kind info s h =
    fit_contents kind (block_lines neighbour_marks info) (lines_fit [] neighbour_marks info neighbour_fit s h)

-- ---- the information that is written

new_sayable : Known → (punct : List ℕ) → NoFillers punct → (contents : List (List ℕ)) (merge : Bool)
    (arguments : Arguments) → All (λ c. without_returns c ≡ c) contents → ArePlain (additions_of arguments)
    → IsSayable punct (new_info punct contents merge (additions_of arguments))
unfolding new_info
new_sayable known punct letters contents merge arguments clean plain = by merge
  where
    united : IsSayable punct (union_of (info_of punct contents) (additions_of arguments))
    united = union_sayable known.sorted punct (info_of punct contents) (additions_of arguments)
        (info_sayable known.sorted punct contents letters.s clean)
        (additions_sayable known.none punct letters arguments plain)

    by : (merge : Bool) → IsSayable punct (new_info punct contents merge (additions_of arguments))
    by false = united
    by true = merged_sayable known.merges known.sorted known.none punct
        letters (union_of (info_of punct contents) (additions_of arguments)) (additions_of arguments) united

-- the old contents, if they are replaced
old_each : (P : List ℕ → Type 0) (style : Style) (file : List ℕ) (replace : Bool) (found : Option HeaderSpan)
    → option_map (span_in file) (header_of style file) ≡ found
    → ((span : HeaderSpan) → option_map (span_in file) (header_of style file) ≡ Some span → Each P span.contents)
    → Each P (old_contents (replaced_block replace found))
unfolding Each
old_each P style file true None is h = tt
old_each P style file false None is h = tt
old_each P style file false (Some span) is h = tt
old_each P style file true (Some span) is h = h span is

each_nil : (P : List ℕ → Type 0) → Each P []
unfolding Each
each_nil P = tt

pub written_sayable : Known → ((text : List ℕ) → AreLines (lines_of text)) → (style : Style) (how : How)
    (arguments : Arguments) (file : List ℕ) (kind : LineKind) (form : Form) (marks : LineMarks)
    → ArePlain (additions_of arguments) → marks_of style form ≡ Some marks
    → (IsSayable (punctuation_of style) (info_written style how (additions_of arguments) file))
    × (AreContents kind (block_lines marks (info_written style how (additions_of arguments) file)))
written_sayable known are style how arguments file kind form marks plain is =
    let found = option_map (span_in file) (header_of style file) in
    let contents = old_contents (replaced_block how.replace found) in
    let C = λ (c : List ℕ). without_returns c ≡ c in
    let clean = all_of_each C contents (old_each C style file how.replace found refl
    (λ span e. each_of_all C span.contents (found_clean style file span e))) in
    let feedless = old_each (λ c. Feedless c) style file how.replace found refl
    (λ span e. found_feedless style file span (are (after_mark file)) e) in
    let sayable = new_sayable known (punctuation_of style) (letters style) contents how.merge arguments clean plain in (
      sayable,
      fit_contents kind _ (lines_fit (punctuation_of style) marks _ (marks_fit style form marks is) sayable
          (new_feedless known.merges (punctuation_of style) contents how.merge (additions_of arguments) feedless
          (additions_feedless (additions_of arguments) plain))),
    )

pub neighbour_sayable : Known → ((text : List ℕ) → AreLines (lines_of text))
    → (how : How) (arguments : Arguments) (file : List ℕ) (kind : LineKind) → ArePlain (additions_of arguments)
    → (IsSayable [] (neighbour_info_written how (additions_of arguments) file))
    × (AreContents kind (block_lines neighbour_marks (neighbour_info_written how (additions_of arguments) file)))
neighbour_sayable known are how arguments file kind plain =
    let contents = replaced_contents how.replace file in
    let C = λ (c : List ℕ). without_returns c ≡ c in
    let clean =
    all_of_each C contents (old C how.replace (each_of_all C (neighbour_contents file) (neighbour_clean file))) in
    let feedless = old (λ c. Feedless c) how.replace (neighbour_feedless file (are (after_mark file))) in
    let sayable = new_sayable known [] no_letters contents how.merge arguments clean plain in (
      sayable,
      fit_contents kind _ (lines_fit [] neighbour_marks _ neighbour_fit sayable
          (new_feedless known.merges [] contents how.merge (additions_of arguments) feedless
          (additions_feedless (additions_of arguments) plain))),
    )
  where
    old : (P : List ℕ → Type 0) (replace : Bool) → Each P (neighbour_contents file)
        → Each P (replaced_contents replace file)
    old P true h = h
    old P false h = each_nil P
