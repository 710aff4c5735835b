-- Information that is read from contents, and joined with additions, reads back.
use Rattle.std.proofs.Common.{◌≡◌, ℕ, zero, suc, ◌<◌, Bool, true, false, cond, List, [], ◌∷◌, ◌++◌, length, drop, map}
use Rattle.std.proofs.Common.{nat_eq, Option, None, Some, refl, sym, ap, subst, ◌∙◌, inl, inr, arith}
use Rattle.std.specs.Prelude.{not, ◌&&◌, ◌||◌, ◌==◌, if◌then◌else◌, All, filter_map, codes, slice_index_or}
use Rattle.std.specs.List.{list_all, starts_with, cons_option}
use Rattle.std.specs.Option.{option_map, option_map_or, option_or, option_to_list, is_none}
use Rattle.std.specs.Ordering.{match_ordering}
use Rattle.std.specs.declared.cmp.Ordering.{Ordering}
use Rattle.std.specs.declared.cmp.Ordering.TheVariants.{Less, Equal, Greater}
use Rattle.reuse_notice.specs.declared.prefixes.Prefix.{Prefix}
use Rattle.reuse_notice.specs.declared.infos.Info.{Info}
use Rattle.reuse_notice.specs.declared.adding.Additions.{Additions}
use Rattle.reuse_notice.specs.Tags.{TagText, a_notice, a_contributor, a_licence, is_blank, all_blank, is_filler}
use Rattle.reuse_notice.specs.Tags.{drop_front, drop_end, trimmed, stripped, value_after, licence_lead}
use Rattle.reuse_notice.specs.Tags.{contributor_lead, prefix_of, notice_behind, tag_in, tag_of}
use Rattle.reuse_notice.specs.Contents.{notice_text, contributor_value, licence_value, is_blank_content, untagged}
use Rattle.reuse_notice.specs.Sets.{byte_order, with_text, set_of, IsSorted}
use Rattle.reuse_notice.specs.Infos.{info_of, union_of}
use Rattle.reuse_text.specs.Text.{file_lines}
use Rattle.reuse_style.specs.declared.style.Style.{Style}
use Rattle.reuse_style.specs.declared.marks.Form.{Form}
use Rattle.reuse_style.specs.declared.marks.Form.TheVariants.{Single, Multi}
use Rattle.reuse_header.specs.Ends.{is_return}
use Rattle.reuse_style.specs.Styles.{block_comment_of}
use Rattle.reuse_header.specs.Body.{body_lines, open_contents}
use Rattle.reuse_header.specs.Blocks.{without_returns, is_blank_content as is_blank_line, between_marks, single_content}
use Rattle.reuse_header.specs.Blocks.{multi_content, line_content, contents_from, contents_of}
use Rattle.reuse_header.specs.Header.{Header, HeaderSpan, span_in, header_of, neighbour_contents}
use Rattle.reuse_header.specs.Split.{size_of}
use Rattle.reuse_header.proofs.SplitLemmas.{split_found}
use Rattle.reuse_header.specs.Writing.{contributor_text, licence_text}
use Rattle.reuse_header.specs.Reading.{IsSayable, AreSayable}
use Rattle.std.proofs.lemmas.Bool.{cases_Bool as truth}
use Rattle.reuse_notice.proofs.BlankLemmas.{drop_end-twice}

-- ---- lists without what passes a test at their ends

module _ {X : Type 0} (front back : X → Bool) where
  -- what is trimmed stays as it is
  front_again : (xs : List X)
      → drop_front front (drop_end back (drop_front front xs)) ≡ drop_end back (drop_front front xs)
  unfolding drop_front drop_end
  front_again [] = refl
  front_again (x ∷ xs) = elim (truth (front x)) [
    | inl e ↦ rw e (front_again xs)
    | inr e ↦ (elim (truth (list_all back (x ∷ xs))) [
      | inl all ↦ rw (e, all) refl
      | inr some ↦ rw (e, some, e) refl
    ])
  ]

module _ {X : Type 0} (test : X → Bool) where
  trimmed_again : (xs : List X) → trimmed test (trimmed test xs) ≡ trimmed test xs
  trimmed_again xs = ap (drop_end test) (front_again test test xs) ∙ drop_end-twice test (drop_front test xs)

  none_behind : (xs ys : List X) → list_all test ys ≡ false → list_all test (xs ++ ys) ≡ false
  none_behind [] ys q = q
  none_behind (x ∷ xs) ys q = elim (truth (test x)) [
    | inl e ↦ rw e (none_behind xs ys q)
    | inr e ↦ rw e refl
  ]

  pub end_behind : (xs ys : List X) → list_all test ys ≡ false → drop_end test (xs ++ ys) ≡ xs ++ drop_end test ys
  unfolding drop_end
  end_behind [] ys q = refl
  end_behind (x ∷ xs) ys q = let e = none_behind (x ∷ xs) ys q in rw (e, end_behind xs ys q) refl

  some_front : (xs : List X) → list_all test xs ≡ false → list_all test (drop_front test xs) ≡ false
  unfolding drop_front
  some_front [] q = q
  some_front (x ∷ xs) q = elim (truth (test x)) [
    | inl e ↦ (let h = rw e at q in rw e (some_front xs h))
    | inr e ↦ rw (e, e) refl
  ]

  some_end : (xs : List X) → list_all test xs ≡ false → list_all test (drop_end test xs) ≡ false
  unfolding drop_end
  some_end [] q = q
  some_end (x ∷ xs) q = elim (truth (test x)) [
    | inl e ↦ (let h = rw e at q in rw (q, e) (some_end xs h))
    | inr e ↦ rw (q, e) refl
  ]

-- what holds of both holds of the one that a test picks
pub of_picked : {X : Type 0} (P : X → Type 0) (b : Bool) (x y : X) → P x → P y → P (if b then x else y)
of_picked P true x y p q = p
of_picked P false x y p q = q

-- ---- facts on each element

unfoldable pub Each : {X : Type 0} → (X → Type 0) → List X → Type 0
Each P [] = Unit {0}
Each P (x ∷ xs) = P x × Each P xs

module _ {X : Type 0} (P : X → Type 0) where
  pub all_of_each : (xs : List X) → Each P xs → All P xs
  unfolding Each
  all_of_each [] h = λ k d low. absurd (omega (arith, low))
  all_of_each (x ∷ xs) h = λ k d low. at_place (all_of_each xs h.1) k d low
    where
      at_place : All P xs → (k : ℕ) (d : X) → k < length (x ∷ xs) → P (slice_index_or (x ∷ xs) k d)
      at_place deep zero d low = h.0
      at_place deep (suc k) d low = deep k d (omega (arith, low))

  pub each_of_all : (xs : List X) → All P xs → Each P xs
  unfolding Each
  each_of_all [] h = tt
  each_of_all (x ∷ xs) h = (h 0 x (omega arith), each_of_all xs (λ k d low. h (suc k) d (omega (arith, low))))

  pub each_both : (xs ys : List X) → Each P xs → Each P ys → Each P (xs ++ ys)
  unfolding Each
  each_both [] ys a b = b
  each_both (x ∷ xs) ys a b = (a.0, each_both xs ys a.1 b)

  pub each_front : (test : X → Bool) (xs : List X) → Each P xs → Each P (drop_front test xs)
  unfolding Each drop_front
  each_front test [] h = tt
  each_front test (x ∷ xs) h = elim (truth (test x)) [ inl e ↦ rw e (each_front test xs h.1) | inr e ↦ rw e h ]

  pub each_end : (test : X → Bool) (xs : List X) → Each P xs → Each P (drop_end test xs)
  unfolding Each drop_end
  each_end test [] h = tt
  each_end test (x ∷ xs) h = elim (truth (list_all test (x ∷ xs))) [
    | inl e ↦ rw e tt
    | inr e ↦ rw e (h.0, each_end test xs h.1)
  ]

each_with : (P : List ℕ → Type 0) (text : List ℕ) (texts : List (List ℕ)) → P text → Each P texts
    → Each P (with_text text texts)
unfolding Each
each_with P text [] p h = (p, tt)
each_with P text (t ∷ texts) p h = by_order (byte_order text t) (each_with P text texts p h.1)
  where
    by_order : (o : Ordering) → Each P (with_text text texts)
        → Each P (match_ordering o (text ∷ t ∷ texts) (t ∷ texts) (t ∷ with_text text texts))
    by_order Less deep = (p, h)
    by_order Equal deep = h
    by_order Greater deep = (h.0, deep)

pub each_set : (P : List ℕ → Type 0) (texts : List (List ℕ)) → Each P texts → Each P (set_of texts)
unfolding Each set_of
each_set P [] h = tt
each_set P (t ∷ texts) h = each_with P t (set_of texts) h.0 (each_set P texts h.1)

each_said : (P : List ℕ → Type 0) (f : List ℕ → Option (List ℕ)) (xs : List (List ℕ))
    → ((x v : List ℕ) → f x ≡ Some v → P v) → Each P (filter_map f xs)
unfolding Each
each_said P f [] h = tt
each_said P f (x ∷ xs) h = by_value (f x) refl (each_said P f xs h)
  where
    by_value : (o : Option (List ℕ)) → f x ≡ o → Each P (filter_map f xs) → Each P (cons_option o (filter_map f xs))
    by_value None e deep = deep
    by_value (Some v) e deep = (h x v e, deep)

-- ---- what is read reads back

-- a notice's text is the whole of what is left of its content
pub notice_whole : (text t : List ℕ) → notice_text (tag_in text) ≡ Some t → t ≡ text
notice_whole text t e = by_tags (value_after licence_lead text) (value_after contributor_lead text) (prefix_of text) e
  where
    by_tags : (licence contributor : Option (List ℕ)) (prefix : Option Prefix)
        → notice_text (option_or (option_map a_licence licence) (option_or (option_map a_contributor contributor)
        (option_map a_notice (option_map (notice_behind text) prefix)))) ≡ Some t → t ≡ text
    by_tags (Some l) contributor prefix e = absurd (let none : ⊥ = cc in none)
    by_tags None (Some c) prefix e = absurd (let none : ⊥ = cc in none)
    by_tags None None None e = absurd (let none : ⊥ = cc in none)
    by_tags None None (Some p) e = cc

-- a text that is the whole of a notice has a prefix, and ends in no blank byte
pub record NoticeRead (text : List ℕ) : Type 0 where
  pub prefix : Prefix
  pub found : prefix_of text ≡ Some prefix
  pub end : drop_end is_blank text ≡ text

prefix_found : (text t : List ℕ) → notice_text (tag_in text) ≡ Some t
    → (prefix : Prefix) × (prefix_of text ≡ Some prefix)
prefix_found text t e =
    by_tags (value_after licence_lead text) (value_after contributor_lead text) (prefix_of text) refl e
  where
    by_tags : (licence contributor : Option (List ℕ)) (prefix : Option Prefix) → prefix_of text ≡ prefix
        → notice_text (option_or (option_map a_licence licence) (option_or (option_map a_contributor contributor)
        (option_map a_notice (option_map (notice_behind text) prefix)))) ≡ Some t
        → (prefix : Prefix) × (prefix_of text ≡ Some prefix)
    by_tags (Some l) contributor prefix is e = absurd (let none : ⊥ = cc in none)
    by_tags None (Some c) prefix is e = absurd (let none : ⊥ = cc in none)
    by_tags None None None is e = absurd (let none : ⊥ = cc in none)
    by_tags None None (Some p) is e = (p, is)

pub notice_read : (punct text : List ℕ) → notice_text (tag_of punct text) ≡ Some text → NoticeRead text
notice_read punct text e =
    let whole = notice_whole (stripped punct text) text e in
    let found = prefix_found (stripped punct text) text e in
    record {
      prefix = found.0;
      found = ap prefix_of whole ∙ found.1;
      end = ap (drop_end is_blank) whole ∙ drop_end-twice is_blank (drop_front (is_filler punct) text) ∙ sym whole;
    }

notice_again : (punct content t : List ℕ) → notice_text (tag_of punct content) ≡ Some t
    → notice_text (tag_of punct t) ≡ Some t
notice_again punct content t e =
    let whole = notice_whole (stripped punct content) t e in
    let again : stripped punct (stripped punct content) ≡ stripped punct content = ap (drop_end is_blank)
    (front_again (is_filler punct) is_blank content) ∙ drop_end-twice is_blank (drop_front (is_filler punct) content) in
    ap (λ (s : List ℕ). notice_text (tag_of punct s)) whole ∙ ap (λ (s : List ℕ). notice_text (tag_in s)) again ∙ e

-- a value without outer blank bytes
pub record IsValue (value : List ℕ) : Type 0 where
  pub some : all_blank value ≡ false
  pub trim : trimmed is_blank value ≡ value

value_read : (lead text v : List ℕ) → value_after lead text ≡ Some v → IsValue v
value_read lead text v e = by_test (starts_with nat_eq text lead) (all_blank (drop (length lead) text)) refl e
  where
    is_value : all_blank (drop (length lead) text) ≡ false → trimmed is_blank (drop (length lead) text) ≡ v → IsValue v
    is_value some same = record {
      some = ap all_blank (sym same) ∙ some_end is_blank (drop_front is_blank (drop (length lead) text))
          (some_front is_blank (drop (length lead) text) some);
      trim = ap (λ (xs : List ℕ). trimmed is_blank xs) (sym same)
          ∙ trimmed_again is_blank (drop (length lead) text) ∙ same;
    }

    by_test : (begins blank : Bool) → all_blank (drop (length lead) text) ≡ blank
        → (if begins && not blank then Some (trimmed is_blank (drop (length lead) text)) else None) ≡ Some v → IsValue v
    by_test true false is e = is_value is (let same : trimmed is_blank (drop (length lead) text) ≡ v = cc in same)
    by_test true true is e = absurd (let none : ⊥ = cc in none)
    by_test false blank is e = absurd (let none : ⊥ = cc in none)

pub contributor_is : (text v : List ℕ) → contributor_value (tag_in text) ≡ Some v
    → value_after contributor_lead text ≡ Some v
contributor_is text v e =
    by_tags (value_after licence_lead text) (value_after contributor_lead text) refl (prefix_of text) e
  where
    by_tags : (licence contributor : Option (List ℕ)) → value_after contributor_lead text ≡ contributor
        → (prefix : Option Prefix)
        → contributor_value (option_or (option_map a_licence licence) (option_or (option_map a_contributor contributor)
        (option_map a_notice (option_map (notice_behind text) prefix)))) ≡ Some v
        → value_after contributor_lead text ≡ Some v
    by_tags (Some l) contributor is prefix e = absurd (let none : ⊥ = cc in none)
    by_tags None (Some c) is prefix e = is ∙ e
    by_tags None None is None e = absurd (let none : ⊥ = cc in none)
    by_tags None None is (Some p) e = absurd (let none : ⊥ = cc in none)

pub licence_is : (text v : List ℕ) → licence_value (tag_in text) ≡ Some v → value_after licence_lead text ≡ Some v
licence_is text v e =
    by_tags (value_after licence_lead text) refl (value_after contributor_lead text) (prefix_of text) e
  where
    by_tags : (licence : Option (List ℕ)) → value_after licence_lead text ≡ licence
        → (contributor : Option (List ℕ)) (prefix : Option Prefix)
        → licence_value (option_or (option_map a_licence licence) (option_or (option_map a_contributor contributor)
        (option_map a_notice (option_map (notice_behind text) prefix)))) ≡ Some v
        → value_after licence_lead text ≡ Some v
    by_tags (Some l) is contributor prefix e = is ∙ e
    by_tags None is (Some c) prefix e = absurd (let none : ⊥ = cc in none)
    by_tags None is None None e = absurd (let none : ⊥ = cc in none)
    by_tags None is None (Some p) e = absurd (let none : ⊥ = cc in none)

pub contributor_read : (text v : List ℕ) → contributor_value (tag_in text) ≡ Some v → IsValue v
contributor_read text v e = value_read contributor_lead text v (contributor_is text v e)

pub licence_read : (text v : List ℕ) → licence_value (tag_in text) ≡ Some v → IsValue v
licence_read text v e = value_read licence_lead text v (licence_is text v e)

-- a value has no blank bytes at its end
pub value_whole : (v : List ℕ) → IsValue v → drop_end is_blank v ≡ v
value_whole v is = ap (drop_end is_blank) (sym is.trim) ∙ drop_end-twice is_blank (drop_front is_blank v) ∙ is.trim

-- a value behind its tag, where the first letter of the tag is no punctuation
value_stripped : (punct lead v : List ℕ) → is_filler punct 83 ≡ false → IsValue v
    → stripped punct ((83 ∷ lead) ++ v) ≡ (83 ∷ lead) ++ v
unfolding drop_front
value_stripped punct lead v e is =
    let front : drop_front (is_filler punct) ((83 ∷ lead) ++ v) ≡ (83 ∷ lead) ++ v = rw e refl in
    ap (drop_end is_blank) front ∙ end_behind is_blank (83 ∷ lead) v is.some
    ∙ ap (λ (xs : List ℕ). (83 ∷ lead) ++ xs) (value_whole v is)

contributor_said : (v : List ℕ) → IsValue v → contributor_value (tag_in (contributor_text v)) ≡ Some v
unfolding drop_front
contributor_said v is = let some = is.some in let trim = is.trim in rw (some, trim) refl

licence_said : (v : List ℕ) → IsValue v → licence_value (tag_in (licence_text v)) ≡ Some v
unfolding drop_front
licence_said v is = let some = is.some in let trim = is.trim in rw (some, trim) refl

pub contributor_again : (punct v : List ℕ) → is_filler punct 83 ≡ false → IsValue v
    → contributor_value (tag_of punct (contributor_text v)) ≡ Some v
contributor_again punct v e is = ap (λ (t : List ℕ). contributor_value (tag_in t))
    (value_stripped punct (codes "PDX-FileContributor: ") v e is) ∙ contributor_said v is

pub licence_again : (punct v : List ℕ) → is_filler punct 83 ≡ false → IsValue v
    → licence_value (tag_of punct (licence_text v)) ≡ Some v
licence_again punct v e is = ap (λ (t : List ℕ). licence_value (tag_in t))
    (value_stripped punct (codes "PDX-License-Identifier: ") v e is) ∙ licence_said v is

-- ---- the information in contents

free_each : (punct : List ℕ) (contents : List (List ℕ)) → Each (λ c. without_returns c ≡ c) contents
    → Each (λ c. (tag_of punct c ≡ None) × (without_returns c ≡ c)) (untagged punct contents)
unfolding Each
free_each punct [] h = tt
free_each punct (c ∷ contents) h = by_tag (tag_of punct c) refl (free_each punct contents h.1)
  where
    by_tag : (tag : Option TagText) → tag_of punct c ≡ tag
        → Each (λ c. (tag_of punct c ≡ None) × (without_returns c ≡ c)) (untagged punct contents)
        → Each (λ c. (tag_of punct c ≡ None) × (without_returns c ≡ c))
        (cond (is_none tag) (c ∷ untagged punct contents) (untagged punct contents))
    by_tag None e deep = ((e, h.0), deep)
    by_tag (Some t) e deep = deep

pub info_sayable : ((texts : List (List ℕ)) → IsSorted (set_of texts)) → (punct : List ℕ) (contents : List (List ℕ))
    → is_filler punct 83 ≡ false → All (λ c. without_returns c ≡ c) contents
    → IsSayable punct (info_of punct contents)
info_sayable sorted punct contents e good =
    let P = λ (t : List ℕ). notice_text (tag_of punct t) ≡ Some t in
    let Q = λ (v : List ℕ). contributor_value (tag_of punct (contributor_text v)) ≡ Some v in
    let R = λ (v : List ℕ). licence_value (tag_of punct (licence_text v)) ≡ Some v in
    let F = λ (c : List ℕ). (tag_of punct c ≡ None) × (without_returns c ≡ c) in
    record {
      notices = all_of_each P _ (each_set P _
          (each_said P (λ c. notice_text (tag_of punct c)) contents (λ c t is. notice_again punct c t is)));
      contributors = all_of_each Q _ (each_set Q _ (each_said Q (λ c. contributor_value (tag_of punct c)) contents
          (λ c v is. contributor_again punct v e (contributor_read (stripped punct c) v is))));
      licences = all_of_each R _ (each_set R _ (each_said R (λ c. licence_value (tag_of punct c)) contents
          (λ c v is. licence_again punct v e (licence_read (stripped punct c) v is))));
      free = all_of_each F _ (each_end F (is_blank_content punct) _ (each_front F (is_blank_content punct) _
          (free_each punct contents (each_of_all (λ c. without_returns c ≡ c) contents good))));
      free_ends = trimmed_again (is_blank_content punct) (untagged punct contents);
      notices_sorted = sorted _;
      contributors_sorted = sorted _;
      licences_sorted = sorted _;
    }

pub union_sayable : ((texts : List (List ℕ)) → IsSorted (set_of texts))
    → (punct : List ℕ) (info : Info) (additions : Additions) → IsSayable punct info → AreSayable punct additions
    → IsSayable punct (union_of info additions)
union_sayable sorted punct info additions s a =
    let P = λ (t : List ℕ). notice_text (tag_of punct t) ≡ Some t in
    let Q = λ (v : List ℕ). contributor_value (tag_of punct (contributor_text v)) ≡ Some v in
    let R = λ (v : List ℕ). licence_value (tag_of punct (licence_text v)) ≡ Some v in
    record {
      notices = all_of_each P _ (each_set P _ (each_both P info.notices additions.notices
          (each_of_all P info.notices s.notices) (each_of_all P additions.notices a.notices)));
      contributors = all_of_each Q _ (each_set Q _ (each_both Q info.contributors additions.contributors
          (each_of_all Q info.contributors s.contributors) (each_of_all Q additions.contributors a.contributors)));
      licences = all_of_each R _ (each_set R _ (each_both R info.licences additions.licences
          (each_of_all R info.licences s.licences) (each_of_all R additions.licences a.licences)));
      free = s.free;
      free_ends = s.free_ends;
      notices_sorted = sorted _;
      contributors_sorted = sorted _;
      licences_sorted = sorted _;
    }

-- ---- contents have no CR at their ends

clean : List ℕ → Type 0
clean content = without_returns content ≡ content

returns_clean : (content : List ℕ) → clean (without_returns content)
unfolding clean
returns_clean content = drop_end-twice is_return content

line_clean : (style : Style) (form : Form) (is_first is_last : Bool) (line : List ℕ)
    → Each clean (option_to_list (line_content style form is_first is_last line))
unfolding Each single_content multi_content
line_clean style Single is_first is_last line = (returns_clean _, tt)
line_clean style Multi is_first is_last line =
    by_test ((is_first || is_last) && is_blank_line style inner) inner (returns_clean _)
  where
    inner : List ℕ
    inner = without_returns
        (option_map_or (λ comment. between_marks comment is_first is_last line) (block_comment_of style) line)

    by_test : (blank : Bool) (content : List ℕ) → clean content
        → Each clean (option_to_list (if blank then None else Some content))
    by_test true content h = tt
    by_test false content h = (h, tt)

contents_clean : (style : Style) (form : Form) (lines : List (List ℕ)) (is_first : Bool) (count : ℕ)
    → Each clean (contents_from style form is_first count lines)
unfolding Each contents_from
contents_clean style form lines is_first zero = tt
contents_clean style form [] is_first (suc count) = tt
contents_clean style form (line ∷ lines) is_first (suc count) =
    each_both clean (option_to_list (line_content style form is_first (count == 0) line))
    (contents_from style form false count lines)
    (line_clean style form is_first (count == 0) line) (contents_clean style form lines false count)

pub found_clean : (style : Style) (file : List ℕ) (span : HeaderSpan)
    → option_map (span_in file) (header_of style file) ≡ Some span → All (λ c. without_returns c ≡ c) span.contents
unfolding clean
found_clean style file span e = by_header (header_of style file) refl e
  where
    by_header : (header : Option Header) → header_of style file ≡ header → option_map (span_in file) header ≡ Some span
        → All (λ c. without_returns c ≡ c) span.contents
    by_header None is e = absurd (let none : ⊥ = cc in none)
    by_header (Some h) is e =
        let there = split_found style (body_lines style (file_lines file)) h is in
        let same : h.contents ≡ span.contents = let e' : span_in file h ≡ span = cc in
        ap (λ (s : HeaderSpan). s.contents) e' in
        let lines = drop (length there.0) (open_contents (body_lines style (file_lines file))) in
        subst (λ (cs : List (List ℕ)). All (λ c. without_returns c ≡ c) cs) (sym there.1.contents ∙ same)
        (all_of_each clean (contents_of style (size_of h) lines)
        (contents_clean style h.form lines true (length h.block)))

pub neighbour_clean : (file : List ℕ) → All (λ c. without_returns c ≡ c) (neighbour_contents file)
unfolding clean Each
neighbour_clean file = all_of_each clean (neighbour_contents file) (mapped (open_contents (file_lines file)))
  where
    mapped : (cs : List (List ℕ)) → Each clean (map without_returns cs)
    mapped [] = tt
    mapped (c ∷ cs) = (returns_clean c, mapped cs)
