-- Where tags stand in their lines: a line is what stands around a tag's value, and the value.
use Rattle.std.proofs.Common.{◌≡◌, ℕ, zero, suc, ◌+◌, ◌-◌, nat_eq, Bool, true, false, cond, List, [], ◌∷◌, ◌++◌, length}
use Rattle.std.proofs.Common.{take, drop, Option, Some, None, refl, sym, ap, subst, ◌∙◌, append_assoc, inl, inr}
use Rattle.std.specs.Prelude.{◌||◌, codes}
use Rattle.std.specs.List.{starts_with, ends_with}
use Rattle.std.specs.Option.{option_map, option_map_or, option_or}
use Rattle.std.proofs.lemmas.List.{append-nil, take-append-drop}
use Rattle.std.proofs.Math.Seq.{drop-append_seam}
use Rattle.reuse_notice.specs.declared.prefixes.Prefix.TheVariants.{Spdx, String, Symbol}
use Rattle.reuse_notice.specs.Prefixes.{prefix_text}
use Rattle.reuse_notice.specs.Tags.{is_blank, drop_front, drop_end}
use Rattle.reuse_notice.specs.Adding.{ignore_start}
use Rattle.reuse_notice.proofs.BlankLemmas.{dropped_end}
use Rattle.reuse_amend.specs.YearSpans.{upto}
use Rattle.reuse_amend.proofs.ChoiceLemmas.{was_some, then_some, either_some, if_some}
use Rattle.reuse_amend.proofs.EndLemmas.{IsEnd, upto_joined, end_further}
use Rattle.reuse_amend.proofs.PartLemmas.{Anything, anything}
use Rattle.reuse_style.specs.Search.{place_of}
use Rattle.reuse_tags.specs.Ends
use Rattle.reuse_tags.specs.Ignored.{read_part}
use Rattle.reuse_tags.specs.Reading.{TagText, value_of, tag_with, is_mark, if_notice, notice_from, notice_tag}
use Rattle.reuse_tags.specs.Around.{around_of}

-- ---- beginnings

-- a text begins with another one
pub record StandsFirst (front text : List ℕ) : Type 0 where
  pub tail : List ℕ
  pub is : text ≡ front ++ tail

first_self : (text : List ℕ) → StandsFirst text text
first_self text = record { tail = []; is = sym (append-nil text) }

first_further : (x y z : List ℕ) → StandsFirst x y → StandsFirst y z → StandsFirst x z
first_further x y z a b = record {
  tail = a.tail ++ b.tail;
  is = b.is ∙ ap (λ t. t ++ b.tail) a.is ∙ append_assoc x a.tail b.tail;
}

first_take : (n : ℕ) (text : List ℕ) → StandsFirst (take n text) text
first_take n text = record { tail = drop n text; is = sym (take-append-drop n text) }

first_end : (test : ℕ → Bool) (text : List ℕ) → StandsFirst (drop_end test text) text
first_end test text = let d = dropped_end test text in record { tail = d.0; is = d.1 }

-- ---- where a value ends

before_first : (ending text front : List ℕ) → Ends.before ending text ≡ Some front → StandsFirst front text
before_first ending text front e =
    let is =
    if_some (ends_with nat_eq text ending) (Some (take (length text - length ending) text)) front e in
    let same : take (length text - length ending) text ≡ front = cc is.1 in
    subst (λ f. StandsFirst f text) same (first_take (length text - length ending) text)

comment_first : (text front : List ℕ) → Ends.before_comment_end text ≡ Some front → StandsFirst front text
comment_first text front e =
    let later = option_or (Ends.before (codes "-->") text) (Ends.before (codes "*)") text) in
    elim (either_some (Ends.before (codes "*/") text) later front e) [
      | inl a ↦ before_first (codes "*/") text front a
      | inr b ↦ (elim (either_some (Ends.before (codes "-->") text) (Ends.before (codes "*)") text) front b) [
        | inl c ↦ before_first (codes "-->") text front c
        | inr d ↦ before_first (codes "*)") text front d
      ])
    ]

quoted_is : (text front : List ℕ) → Ends.if_quoted text ≡ Some front → text ≡ front
quoted_is text front e =
    let is = if_some (ends_with nat_eq text (34 ∷ []) || ends_with nat_eq text (39 ∷ [])) (Some text) front e in cc is.1

element_first : (text front : List ℕ) → Ends.before_element_end text ≡ Some front → StandsFirst front text
element_first text front e =
    let h = then_some (λ f. Ends.if_quoted (drop_end is_blank (drop_end Ends.is_slash f)))
    (Ends.before (codes ">") text) front e in
    let inner = first_further (drop_end is_blank (drop_end Ends.is_slash h.0)) (drop_end Ends.is_slash h.0) h.0
    (first_end is_blank (drop_end Ends.is_slash h.0)) (first_end Ends.is_slash h.0) in
    first_further front h.0 text
    (subst (λ f. StandsFirst f h.0) (quoted_is (drop_end is_blank (drop_end Ends.is_slash h.0)) front h.2) inner)
    (before_first (codes ">") text h.0 h.1)

bracket_first : (text front : List ℕ) → Ends.before_bracket_end text ≡ Some front → StandsFirst front text
bracket_first text front e =
    let h = then_some (λ f. Ends.before (codes "]") (drop_end is_blank f)) (Ends.before (codes "::") text) front e in
    first_further front h.0 text
    (first_further front (drop_end is_blank h.0) h.0 (before_first (codes "]") (drop_end is_blank h.0) front h.2)
    (first_end is_blank h.0)) (before_first (codes "::") text h.0 h.1)

closer_first : (text front : List ℕ) → Ends.before_closer text ≡ Some front → StandsFirst front text
closer_first text front e =
    let later = option_or (Ends.before_element_end text) (Ends.before_bracket_end text) in
    elim (either_some (Ends.before_comment_end text) later front e) [
      | inl a ↦ comment_first text front a
      | inr b ↦ (elim (either_some (Ends.before_element_end text) (Ends.before_bracket_end text) front b) [
        | inl c ↦ element_first text front c
        | inr d ↦ bracket_first text front d
      ])
    ]

closers_first : (n : ℕ) (text : List ℕ) → StandsFirst (Ends.without_closers n text) text
unfolding Ends.without_closers
closers_first zero text = first_self text
closers_first (suc n) text = by (λ t. closers_first n t) (Ends.before_closer text) refl
  where
    by : ((t : List ℕ) → StandsFirst (Ends.without_closers n t) t) → (o : Option (List ℕ))
        → Ends.before_closer text ≡ o
        → StandsFirst (option_map_or (λ f. Ends.without_closers n (drop_end Ends.is_blank_or_quote f)) o text) text
    by again None e = first_self text
    by again (Some front) e =
        let inner = drop_end Ends.is_blank_or_quote front in
        first_further (Ends.without_closers n inner) front text
        (first_further (Ends.without_closers n inner) inner front (again inner)
        (first_end Ends.is_blank_or_quote front))
        (closer_first text front e)

ended_first : (text : List ℕ) → StandsFirst (Ends.ended text) text
ended_first text =
    first_further (Ends.ended text) (drop_end Ends.is_blank_or_quote text) text
    (closers_first (length text) (drop_end Ends.is_blank_or_quote text)) (first_end Ends.is_blank_or_quote text)

-- ---- where a tag stands

part_first : (line : List ℕ) → StandsFirst (read_part line) line
part_first line = by (place_of ignore_start line)
  where
    by : (o : Option ℕ) → StandsFirst (option_map_or (λ place. take place line) o line) line
    by None = first_self line
    by (Some place) = first_take place line

last_drop : (n : ℕ) (text : List ℕ) → IsEnd Anything text (drop n text)
last_drop n text = record { front = take n text; joined = sym (take-append-drop n text); holds = tt }

last_front : (test : ℕ → Bool) (text : List ℕ) → IsEnd Anything text (drop_front test text)
unfolding drop_front
last_front test [] = record { front = []; joined = refl; holds = tt }
last_front test (b ∷ text) = by (test b) (last_front test text)
  where
    by : (t : Bool) → IsEnd Anything text (drop_front test text)
        → IsEnd Anything (b ∷ text) (cond t (drop_front test text) (b ∷ text))
    by true e = record { front = b ∷ e.front; joined = ap (λ t. b ∷ t) e.joined; holds = tt }
    by false e = record { front = []; joined = refl; holds = tt }

pub tag_last : (lead part : List ℕ) (t : TagText) → tag_with lead part ≡ Some t → IsEnd Anything part t.rest
tag_last lead part t e =
    let make : ℕ → TagText = λ place. record {
      tag = drop place part;
      rest = drop_front is_blank (drop (place + length lead) part);
    } in
    let h = was_some make (place_of lead part) t e in
    let behind = drop (h.0 + length lead) part in
    subst (λ (u : TagText). IsEnd Anything part u.rest) h.2
    (end_further Anything anything part behind (drop_front is_blank behind) (last_drop (h.0 + length lead) part)
    (last_front is_blank behind))

notice_last : (part text : List ℕ) → notice_from part ≡ Some text → IsEnd Anything part text
notice_last part text e =
    let spdx = option_map (λ place. drop place part) (place_of (prefix_text Spdx) part) in
    let bare = drop_front is_mark part in
    elim (either_some spdx (if_notice bare) text e) [
      | inl a ↦ (let h = was_some (λ place. drop place part) (place_of (prefix_text Spdx) part) text a in
          subst (IsEnd Anything part) h.2 (last_drop h.0 part))
      | inr b ↦ (let h = if_some (starts_with nat_eq bare (prefix_text String) || starts_with nat_eq bare
          (prefix_text Symbol)) (Some bare) text b in
          let same : bare ≡ text = cc h.1 in
          subst (IsEnd Anything part) same (last_front is_mark part))
    ]

pub notice_tag-last : (part : List ℕ) (t : TagText) → notice_tag part ≡ Some t → IsEnd Anything part t.rest
notice_tag-last part t e =
    let make : List ℕ → TagText = λ text. record { tag = text; rest = text } in
    let h = was_some make (notice_from part) t e in
    subst (λ (u : TagText). IsEnd Anything part u.rest) h.2 (notice_last part h.0 h.1)

-- a line is what stands around a tag's value, and the value
pub joined : (line : List ℕ) (t : TagText) → IsEnd Anything (read_part line) t.rest
    → (let p = around_of line (read_part line) t in p.before ++ p.value ++ p.behind ≡ line)
joined line t last =
    let part = read_part line in
    let before = upto part t.rest in
    let value = value_of t in
    let first = part_first line in
    let end = ended_first t.rest in
    let behind = end.tail ++ first.tail in
    let whole : line ≡ before ++ (value ++ behind) =
    first.is
    ∙ ap (λ x. x ++ first.tail) (sym (upto_joined Anything part t.rest last) ∙ ap (λ x. before ++ x) end.is)
    ∙ append_assoc before (value ++ end.tail) first.tail
    ∙ ap (λ x. before ++ x) (append_assoc value end.tail first.tail) in
    let after_before : drop (length before) line ≡ value ++ behind =
    ap (drop (length before)) whole ∙ drop-append_seam before (value ++ behind) in
    let after_value : drop (length value) (drop (length before) line) ≡ behind =
    ap (drop (length value)) after_before ∙ drop-append_seam value behind in
    ap (λ x. before ++ value ++ x) after_value ∙ append_assoc before value behind ∙ sym whole
