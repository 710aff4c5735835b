-- The texts of contents and of additions hold no LF.
use Rattle.std.proofs.Common.{◌≡◌, ℕ, zero, suc, ◌+◌, ◌/◌, ◌%◌, ◌<◌, Bool, true, false, List, [], ◌∷◌, ◌++◌, length}
use Rattle.std.proofs.Common.{drop, map, Option, None, Some, refl, sym, ap, subst, ◌∙◌, arith}
use Rattle.std.specs.Prelude.{not, ◌&&◌, ◌==◌, if◌then◌else◌, Contains, codes, nat_eq}
use Rattle.std.specs.List.{list_any, starts_with}
use Rattle.std.specs.Option.{option_map}
use Rattle.std.proofs.lemmas.Bool.{false≢true, eqb-true, or_parts, false_from_ne_true}
use Rattle.reuse_text.specs.Text.{TextLine, AreLines, line_bytes, lines_of, placed, file_lines, after_mark, mark_len_of}
use Rattle.reuse_notice.specs.declared.prefixes.Prefix.{Prefix}
use Rattle.reuse_notice.specs.declared.prefixes.Prefix.TheVariants.{Spdx, SpdxC, SpdxSymbol, SpdxString, SpdxStringC}
use Rattle.reuse_notice.specs.declared.prefixes.Prefix.TheVariants.{SpdxStringSymbol, String, StringC, StringSymbol}
use Rattle.reuse_notice.specs.declared.prefixes.Prefix.TheVariants.{Symbol}
use Rattle.reuse_notice.specs.declared.tags.Years.{Years}
use Rattle.reuse_notice.specs.declared.infos.Info.{Info}
use Rattle.reuse_notice.specs.declared.adding.Additions.{Additions}
use Rattle.reuse_notice.specs.Prefixes.{prefix_text}
use Rattle.reuse_notice.specs.Tags.{NoticeText, is_blank, all_blank, is_filler, drop_front, trimmed, stripped}
use Rattle.reuse_notice.specs.Tags.{value_after, licence_lead, contributor_lead, years_front, prefix_of, notice_behind}
use Rattle.reuse_notice.specs.Tags.{notice_of}
use Rattle.reuse_notice.specs.Adding.{is_control, four_digits, years_text, notice_written}
use Rattle.reuse_notice.specs.Plain.{IsPlain, ArePlain}
use Rattle.reuse_notice.proofs.NoneLemmas.{or_none, none_append, none_drop, none_take, none_front, none_end}
use Rattle.reuse_notice.proofs.NoneLemmas.{none_trimmed, none_weaker}
use Rattle.reuse_notice.specs.Infos.{info_of}
use Rattle.reuse_style.specs.declared.style.Style.{Style}
use Rattle.reuse_header.specs.Ends.{is_return}
use Rattle.reuse_header.specs.Body.{body_lines, open_contents}
use Rattle.reuse_header.specs.Blocks.{without_returns}
use Rattle.reuse_header.specs.Header.{Header, HeaderSpan, span_in, header_of, neighbour_contents}
use Rattle.reuse_header.specs.Writing.{new_info}
use Rattle.reuse_header.proofs.SplitLemmas.{split_found}
use Rattle.reuse_header.proofs.SayableLemmas.{Each, each_of_all}
use Rattle.reuse_header.specs.LowerLaws.{Merges}
use Rattle.reuse_header.proofs.PartLemmas.{IsOfParts, each_open, each_in_body, each_dropped, each_content}
use Rattle.reuse_header.proofs.InfoLemmas.{EachText, EachAdded, Spreads, each_read, each_new}

-- ---- no LF

abbrev pub is_feed : ℕ → Bool
is_feed b = b == 10

pub feed_low : (b : ℕ) → is_feed b ≡ true → b < 32
feed_low b e = let same : b ≡ 10 = eqb-true b 10 e in omega (arith, same)

abbrev pub Feedless : List ℕ → Type 0
Feedless bytes = list_any is_feed bytes ≡ false

pub feedless_from : (bytes : List ℕ) → (Contains bytes 10 → ⊥) → Feedless bytes
feedless_from [] none = refl
feedless_from (b ∷ bytes) none =
    or_none (is_feed b) (list_any is_feed bytes)
    (false_from_ne_true (is_feed b) (λ t. none (zero, omega arith, eqb-true b 10 t)))
    (feedless_from bytes (λ c. none (suc c.0, omega (arith, c.1), c.2)))

pub feedless_holds : (bytes : List ℕ) → Feedless bytes → Contains bytes 10 → ⊥
feedless_holds [] e (k, low, is) = omega (arith, low)
feedless_holds (b ∷ bytes) e (zero, low, is) =
    false≢true (sym (or_parts (is_feed b) (list_any is_feed bytes) e).0 ∙ ap is_feed is)
feedless_holds (b ∷ bytes) e (suc k, low, is) =
    feedless_holds bytes (or_parts (is_feed b) (list_any is_feed bytes) e).1 (k, omega (arith, low), is)

-- ---- the contents of lines

abbrev FeedlessLine : ℕ × TextLine → Type 0
FeedlessLine line = Feedless line.1.content

placed_feedless : (lines : List TextLine) (start : ℕ) → AreLines lines → Each FeedlessLine (placed start lines)
unfolding Each
placed_feedless [] start are = tt
placed_feedless (line ∷ lines) start are =
    (feedless_from line.content are.0.no_feed, placed_feedless lines (start + length (line_bytes line)) are.2)

feedless_parts : IsOfParts Feedless
feedless_parts = record { front = none_take is_feed; back = none_drop is_feed }

returns_feedless : (content : List ℕ) → Feedless content → Feedless (without_returns content)
returns_feedless content e = none_end is_feed is_return content e

pub found_feedless : (style : Style) (file : List ℕ) (span : HeaderSpan) → AreLines (lines_of (after_mark file))
    → option_map (span_in file) (header_of style file) ≡ Some span → Each Feedless span.contents
found_feedless style file span are e = by_header (header_of style file) refl e
  where
    by_header : (header : Option Header) → header_of style file ≡ header → option_map (span_in file) header ≡ Some span
        → Each Feedless span.contents
    by_header None is e = absurd (let none : ⊥ = cc in none)
    by_header (Some h) is e =
        let there = split_found style (body_lines style (file_lines file)) h is in
        let same : h.contents ≡ span.contents = let e' : span_in file h ≡ span = cc in
        ap (λ (s : HeaderSpan). s.contents) e' in
        let lines = open_contents (body_lines style (file_lines file)) in
        let good = each_open Feedless (body_lines style (file_lines file))
        (each_in_body Feedless style (file_lines file)
        (placed_feedless (lines_of (after_mark file)) (mark_len_of file) are)) in
        subst (λ (cs : List (List ℕ)). Each Feedless cs) (sym there.1.contents ∙ same)
        (each_content Feedless feedless_parts style h.form (drop (length there.0) lines) true (length h.block)
        (each_dropped Feedless (length there.0) lines good))

pub neighbour_feedless : (file : List ℕ) → AreLines (lines_of (after_mark file))
    → Each Feedless (neighbour_contents file)
unfolding Each
neighbour_feedless file are = mapped (open_contents (file_lines file))
    (each_open Feedless (file_lines file) (placed_feedless (lines_of (after_mark file)) (mark_len_of file) are))
  where
    mapped : (cs : List (List ℕ)) → Each Feedless cs → Each Feedless (map without_returns cs)
    mapped [] h = tt
    mapped (c ∷ cs) h = (returns_feedless c h.0, mapped cs h.1)

-- ---- information

abbrev pub HasNoFeed : Info → Type 0
HasNoFeed info = EachText Feedless info

abbrev pub AreFeedless : Additions → Type 0
AreFeedless additions = EachAdded Feedless additions

stripped_feedless : (punct content : List ℕ) → Feedless content → Feedless (stripped punct content)
stripped_feedless punct content e = none_end is_feed is_blank _ (none_front is_feed (is_filler punct) content e)

value_feedless : (lead text v : List ℕ) → Feedless text → value_after lead text ≡ Some v → Feedless v
value_feedless lead text v h e = by (starts_with nat_eq text lead && not (all_blank (drop (length lead) text))) e
  where
    by : (b : Bool) → (if b then Some (trimmed is_blank (drop (length lead) text)) else None) ≡ Some v → Feedless v
    by true f = subst Feedless (let same : trimmed is_blank (drop (length lead) text) ≡ v = cc f in same)
        (none_trimmed is_feed is_blank (drop (length lead) text) (none_drop is_feed (length lead) text h))
    by false f = absurd (let none : ⊥ = cc f in none)

pub plain_feedless : (text : List ℕ) → IsPlain text → Feedless text
plain_feedless text plain = none_weaker is_control is_feed (λ b e. ap is_control (eqb-true b 10 e)) text plain.printable

each_plain : (texts : List (List ℕ)) → Each IsPlain texts → Each Feedless texts
unfolding Each
each_plain [] h = tt
each_plain (t ∷ texts) h = (plain_feedless t h.0, each_plain texts h.1)

pub additions_feedless : (additions : Additions) → ArePlain additions → AreFeedless additions
additions_feedless additions plain = record {
  notices = each_plain additions.notices (each_of_all IsPlain additions.notices plain.notices);
  contributors = each_plain additions.contributors (each_of_all IsPlain additions.contributors plain.contributors);
  licences = each_plain additions.licences (each_of_all IsPlain additions.licences plain.licences);
}

-- a notice that is written of a holder
digit_feedless : (n : ℕ) → is_feed (48 + n) ≡ false
digit_feedless n =
    false_from_ne_true (is_feed (48 + n)) (λ t. let e : 48 + n ≡ 10 = eqb-true (48 + n) 10 t in omega arith)

digits_feedless : (n : ℕ) → Feedless (four_digits n)
digits_feedless n =
    or_none _ _ (digit_feedless (n / 1000)) (or_none _ _ (digit_feedless (n / 100 % 10))
    (or_none _ _ (digit_feedless (n / 10 % 10)) (or_none _ _ (digit_feedless (n % 10)) refl)))

years_feedless : (years : Years) → Feedless (years_text years)
years_feedless years = by (years.low == years.high)
  where
    by : (b : Bool)
        → Feedless (if b then four_digits years.low else four_digits years.low ++ codes " - " ++ four_digits years.high)
    by true = digits_feedless years.low
    by false = none_append is_feed (four_digits years.low ++ codes " - ") (four_digits years.high) (none_append is_feed
        (four_digits years.low) (codes " - ") (digits_feedless years.low) refl) (digits_feedless years.high)

prefix_feedless : (prefix : Prefix) → Feedless (prefix_text prefix)
prefix_feedless Spdx = refl
prefix_feedless SpdxC = refl
prefix_feedless SpdxSymbol = refl
prefix_feedless SpdxString = refl
prefix_feedless SpdxStringC = refl
prefix_feedless SpdxStringSymbol = refl
prefix_feedless String = refl
prefix_feedless StringC = refl
prefix_feedless StringSymbol = refl
prefix_feedless Symbol = refl

pub written_feedless : (prefix : Prefix) (years : Option Years) (holder : List ℕ) → Feedless holder
    → Feedless (notice_written prefix years holder)
written_feedless prefix None holder h =
    none_append is_feed (prefix_text prefix) (32 ∷ holder) (prefix_feedless prefix) h
written_feedless prefix (Some years) holder h =
    none_append is_feed (prefix_text prefix ++ 32 ∷ years_text years) (32 ∷ holder)
    (none_append is_feed (prefix_text prefix) (32 ∷ years_text years) (prefix_feedless prefix) (years_feedless years)) h

pub holder_feedless : (text : List ℕ) (n : NoticeText) → notice_of text ≡ Some n → Feedless text → Feedless n.holder
holder_feedless text n e h = by (prefix_of text) e
  where
    by : (o : Option Prefix) → option_map (notice_behind text) o ≡ Some n → Feedless n.holder
    by None e = absurd (let none : ⊥ = cc e in none)
    by (Some p) e =
        let same : notice_behind text p ≡ n = cc e in
        let value = drop_front is_blank (drop (length (prefix_text p)) text) in
        subst (λ (m : NoticeText). Feedless m.holder) same
        (none_trimmed is_feed is_blank (drop (years_front value).1 value)
        (none_drop is_feed (years_front value).1 value (none_front is_feed is_blank (drop (length (prefix_text p)) text)
        (none_drop is_feed (length (prefix_text p)) text h))))

-- what is known of the parts of contents
feedless_spreads : (punct : List ℕ) → Spreads Feedless punct
feedless_spreads punct = record {
  inner = stripped_feedless punct;
  contributor = value_feedless contributor_lead;
  licence = value_feedless licence_lead;
  written = λ old text f w. subst Feedless (sym w.written)
      (written_feedless w.prefix w.years w.notice.holder (holder_feedless old w.notice w.read f));
}

pub info_feedless : (punct : List ℕ) (contents : List (List ℕ)) → Each Feedless contents
    → HasNoFeed (info_of punct contents)
info_feedless punct contents h = each_read Feedless punct (feedless_spreads punct) contents h

pub new_feedless : Merges → (punct : List ℕ) (contents : List (List ℕ)) (merge : Bool) (additions : Additions)
    → Each Feedless contents → AreFeedless additions → HasNoFeed (new_info punct contents merge additions)
new_feedless merges punct contents merge additions h a =
    each_new Feedless punct (feedless_spreads punct) merges contents merge additions h a
