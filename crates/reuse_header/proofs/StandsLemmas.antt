-- The first place of a text in bytes, and the lines up to the first that holds a closer.
use Rattle.std.proofs.Common.{◌≡◌, ℕ, suc, ◌+◌, ◌<◌, Bool, true, false, nat_eq, List, [], ◌∷◌, ◌++◌, length, drop}
use Rattle.std.proofs.Common.{Option, None, Some, refl, sym, ap, subst, ◌∙◌, inl, inr, arith}
use Rattle.std.specs.Prelude.{◌↔◌, All, if◌then◌else◌}
use Rattle.std.specs.List.{starts_with}
use Rattle.std.specs.Option.{option_map}
use Rattle.std.proofs.Math.Seq.{drop-append_seam}
use Rattle.std.proofs.lemmas.Bool.{and_parts, eqb-true, eq-eqb, false≢true}
use Rattle.std.proofs.lemmas.List.Elements.{All-nil, All-cons, All-head, All-tail}
use Rattle.reuse_notice.specs.Tags.{all_blank}
use Rattle.reuse_style.specs.Marks.{BlockForm}
use Rattle.reuse_style.specs.Search.{place_of}
use Rattle.reuse_header.specs.Blocks.{ends_block, count_from, count_to_closer, multi_count}
use Rattle.reuse_header.specs.Laws.{StandsAt, StandsNowhere, IsFirstPlace, IsEndedBy, IsEnclosed}
use Rattle.std.proofs.lemmas.Bool.{cases_Bool as truth}

some_is_none : {X : Type 0} (x : X) → None ≡ Some x → ⊥
some_is_none x e = cc

some_same : {X : Type 0} (x y : X) → Some x ≡ Some y → x ≡ y
some_same x y e = cc

-- ---- the front of bytes

pub begins_stands : (text bytes : List ℕ) → starts_with nat_eq bytes text ≡ true
    → (back : List ℕ) × (bytes ≡ text ++ back)
begins_stands [] bytes e = (bytes, refl)
begins_stands (t ∷ text) [] e = absurd (false≢true e)
begins_stands (t ∷ text) (b ∷ bytes) e =
    let both = and_parts (nat_eq t b) (starts_with nat_eq bytes text) e in
    let rest = begins_stands text bytes both.1 in
    let same : t ≡ b = eqb-true t b both.0 in
    (rest.0, ap (λ (x : ℕ). x ∷ bytes) (sym same) ∙ ap (λ (xs : List ℕ). t ∷ xs) rest.1)

stands_begins : (text back : List ℕ) → starts_with nat_eq (text ++ back) text ≡ true
stands_begins [] back = refl
stands_begins (t ∷ text) back = rw (eq-eqb t t refl) (stands_begins text back)

not_front : (text bytes back : List ℕ) → starts_with nat_eq bytes text ≡ false → bytes ≡ text ++ back → ⊥
not_front text bytes back isnt e =
    false≢true (sym isnt ∙ ap (λ (xs : List ℕ). starts_with nat_eq xs text) e ∙ stands_begins text back)

-- ---- the first place

abbrev FindsFirst : List ℕ → List ℕ → Option ℕ → Type 0
FindsFirst text bytes None = StandsNowhere text bytes
FindsFirst text bytes (Some place) = IsFirstPlace text bytes place

at_front : (text bytes : List ℕ) → starts_with nat_eq bytes text ≡ true → IsFirstPlace text bytes 0
at_front text bytes is =
    let h = begins_stands text bytes is in
    record {
      stands = ([], h.0, refl, h.1);
      least = λ lesser low s. absurd (omega (arith, low));
    }

cons_is_nil : (x : ℕ) (xs : List ℕ) → [] ≡ x ∷ xs → ⊥
cons_is_nil x xs e = cc

same_tail : (x y : ℕ) (xs ys : List ℕ) → (x ∷ xs) ≡ (y ∷ ys) → xs ≡ ys
same_tail x y xs ys e = cc

nowhere : (text : List ℕ) → starts_with nat_eq [] text ≡ false → (place : ℕ) → StandsAt text [] place → ⊥
nowhere text isnt place ([], back, n, e) = not_front text [] back isnt e
nowhere text isnt place (x ∷ front, back, n, e) = cons_is_nil x (front ++ text ++ back) e

-- a place that is not the first is behind one byte more
step_down : (text : List ℕ) (b : ℕ) (bytes : List ℕ) (place : ℕ) → starts_with nat_eq (b ∷ bytes) text ≡ false
    → StandsAt text (b ∷ bytes) place
    → (lesser : ℕ) × (place ≡ suc lesser) × StandsAt text bytes lesser
step_down text b bytes place isnt ([], back, n, e) = absurd (not_front text (b ∷ bytes) back isnt e)
step_down text b bytes place isnt (x ∷ front, back, n, e) =
    (length front, sym n, (front, back, refl, same_tail b x bytes (front ++ text ++ back) e))

behind : (text : List ℕ) (b : ℕ) (bytes : List ℕ) (found : Option ℕ) → starts_with nat_eq (b ∷ bytes) text ≡ false
    → FindsFirst text bytes found → FindsFirst text (b ∷ bytes) (option_map (λ k. suc k) found)
behind text b bytes None isnt ih = λ place s. (let d = step_down text b bytes place isnt s in ih d.0 d.2)
behind text b bytes (Some k) isnt ih =
    let s = ih.stands in
    record {
      stands = (b ∷ s.0, s.1, ap (λ (n : ℕ). suc n) s.2, ap (λ (xs : List ℕ). b ∷ xs) s.3);
      least = λ lesser low there.
          (let d = step_down text b bytes lesser isnt there in ih.least d.0 (omega (arith, low, d.1)) d.2);
    }

finds_first : (text bytes : List ℕ) → FindsFirst text bytes (place_of text bytes)
unfolding place_of
finds_first text [] = elim (truth (starts_with nat_eq [] text)) [
  | inl is ↦ rw is (at_front text [] is)
  | inr isnt ↦ rw isnt (λ place s. nowhere text isnt place s)
]
finds_first text (b ∷ bytes) = elim (truth (starts_with nat_eq (b ∷ bytes) text)) [
  | inl is ↦ rw is (at_front text (b ∷ bytes) is)
  | inr isnt ↦ rw isnt (behind text b bytes (place_of text bytes) isnt (finds_first text bytes))
]

not_apart : (m n : ℕ) → (m < n → ⊥) → (n < m → ⊥) → m ≡ n
not_apart m n low high = omega (arith, low, high)

one_first : (text bytes : List ℕ) (place : ℕ) (found : Option ℕ) → FindsFirst text bytes found
    → IsFirstPlace text bytes place → found ≡ Some place
one_first text bytes place None none first = absurd (none place first.stands)
one_first text bytes place (Some k) other first =
    ap (λ (n : ℕ). Some n)
    (not_apart k place (λ low. first.least k low other.stands) (λ low. other.least place low first.stands))

none_first : (text bytes : List ℕ) (found : Option ℕ) → FindsFirst text bytes found
    → StandsNowhere text bytes → found ≡ None
none_first text bytes None found none = refl
none_first text bytes (Some k) first none = absurd (none k first.stands)

pub place_exact : (text bytes : List ℕ) (place : ℕ) → (place_of text bytes ≡ Some place) ↔ IsFirstPlace text bytes place
place_exact text bytes place = (
  λ e. subst (FindsFirst text bytes) e (finds_first text bytes),
  λ first. one_first text bytes place (place_of text bytes) (finds_first text bytes) first,
)

pub nowhere_exact : (text bytes : List ℕ) → (place_of text bytes ≡ None) ↔ StandsNowhere text bytes
nowhere_exact text bytes = (
  λ e. subst (FindsFirst text bytes) e (finds_first text bytes),
  λ none. none_first text bytes (place_of text bytes) (finds_first text bytes) none,
)

-- ---- the lines up to the closer

longer : (closer line : List ℕ) (lines : List (List ℕ)) (n count : ℕ) → suc n ≡ count → StandsNowhere closer line
    → IsEndedBy closer lines n → IsEndedBy closer (line ∷ lines) count
longer closer line lines n count next lacks h = record {
  before = line ∷ h.before;
  last = h.last;
  after = h.after;
  place = h.place;
  joined = ap (λ (xs : List (List ℕ)). line ∷ xs) h.joined;
  counted = omega (arith, next, h.counted);
  lacking = All-cons (StandsNowhere closer) line h.before lacks h.lacking;
  first = h.first;
  blank = h.blank;
}

ended_here : (closer line : List ℕ) (lines : List (List ℕ)) (place count : ℕ) → 1 ≡ count
    → IsFirstPlace closer line place → all_blank (drop (place + length closer) line) ≡ true
    → IsEndedBy closer (line ∷ lines) count
ended_here closer line lines place count one first blank = record {
  before = [];
  last = line;
  after = lines;
  place = place;
  joined = refl;
  counted = omega (arith, one);
  lacking = All-nil (StandsNowhere closer);
  first = first;
  blank = blank;
}

counted_ended : (closer : List ℕ) (lines : List (List ℕ)) (count : ℕ) → count_to_closer closer lines ≡ Some count
    → IsEndedBy closer lines count
unfolding count_to_closer ends_block
counted_ended closer [] count e = absurd (some_is_none count e)
counted_ended closer (line ∷ lines) count e =
    by_place (λ n is. counted_ended closer lines n is) (place_of closer line) refl e
  where
    by_later : ((n : ℕ) → count_to_closer closer lines ≡ Some n → IsEndedBy closer lines n) → StandsNowhere closer line
        → (later : Option ℕ) → count_to_closer closer lines ≡ later
        → option_map (λ n. suc n) later ≡ Some count → IsEndedBy closer (line ∷ lines) count
    by_later ih lacks None is e = absurd (some_is_none count e)
    by_later ih lacks (Some n) is e = longer closer line lines n count (some_same (suc n) count e) lacks (ih n is)

    by_blank : (place : ℕ) → IsFirstPlace closer line place → (blank : Bool)
        → all_blank (drop (place + length closer) line) ≡ blank
        → count_from (Some blank) (count_to_closer closer lines) ≡ Some count → IsEndedBy closer (line ∷ lines) count
    by_blank place first true is e = ended_here closer line lines place count (some_same 1 count e) first is
    by_blank place first false is e = absurd (some_is_none count e)

    by_place : ((n : ℕ) → count_to_closer closer lines ≡ Some n → IsEndedBy closer lines n) → (found : Option ℕ)
        → place_of closer line ≡ found
        → count_from (option_map (λ place. all_blank (drop (place + length closer) line)) found)
        (count_to_closer closer lines) ≡ Some count → IsEndedBy closer (line ∷ lines) count
    by_place ih None is e = by_later ih ((nowhere_exact closer line).0 is) (count_to_closer closer lines) refl e
    by_place ih (Some place) is e =
        by_blank place ((place_exact closer line place).0 is) (all_blank (drop (place + length closer) line)) refl e

lacks_ends : (closer line : List ℕ) → StandsNowhere closer line → ends_block closer line ≡ None
unfolding ends_block
lacks_ends closer line lacks = let e = (nowhere_exact closer line).1 lacks in rw e refl

holds_ends : (closer line : List ℕ) (place : ℕ) → IsFirstPlace closer line place
    → all_blank (drop (place + length closer) line) ≡ true → ends_block closer line ≡ Some true
unfolding ends_block
holds_ends closer line place first blank = let e = (place_exact closer line place).1 first in rw (e, blank) refl

ended_counted : (closer : List ℕ) (before : List (List ℕ)) (last : List ℕ) (after : List (List ℕ))
    → All (StandsNowhere closer) before → ends_block closer last ≡ Some true
    → count_to_closer closer (before ++ (last ∷ after)) ≡ Some (length before + 1)
unfolding count_to_closer
ended_counted closer [] last after lacking ends = rw ends refl
ended_counted closer (line ∷ before) last after lacking ends =
    let none = lacks_ends closer line (All-head (StandsNowhere closer) line before lacking) in
    let rest = ended_counted closer before last after (All-tail (StandsNowhere closer) line before lacking) ends in
    let next : suc (length before + 1) ≡ suc (length before) + 1 = omega arith in
    rw (none, rest) (ap (λ (n : ℕ). Some n) next)

pub count_exact : (closer : List ℕ) (lines : List (List ℕ)) (count : ℕ)
    → (count_to_closer closer lines ≡ Some count) ↔ IsEndedBy closer lines count
count_exact closer lines count = (
  counted_ended closer lines count,
  λ h. ap (count_to_closer closer) h.joined ∙ ended_counted closer h.before h.last h.after h.lacking
      (holds_ends closer h.last h.place h.first h.blank) ∙ ap (λ (n : ℕ). Some n) (sym h.counted),
)

-- ---- multi-line comments

opened_counted : (comment : BlockForm) (first : List ℕ) (after : List (List ℕ))
    → multi_count comment ((comment.opener ++ first) ∷ after) ≡ count_to_closer comment.closer (first ∷ after)
unfolding multi_count
opened_counted comment first after = let begins = stands_begins comment.opener first in rw begins
    (ap (λ (xs : List ℕ). count_to_closer comment.closer (xs ∷ after)) (drop-append_seam comment.opener first))

counted_enclosed : (comment : BlockForm) (lines : List (List ℕ)) (count : ℕ) → multi_count comment lines ≡ Some count
    → IsEnclosed comment lines count
unfolding multi_count
counted_enclosed comment [] count e = absurd (some_is_none count e)
counted_enclosed comment (line ∷ lines) count e = by_opener (starts_with nat_eq line comment.opener) refl e
  where
    by_opener : (begins : Bool) → starts_with nat_eq line comment.opener ≡ begins
        → (if begins then count_to_closer comment.closer (drop (length comment.opener) line ∷ lines) else None)
        ≡ Some count → IsEnclosed comment (line ∷ lines) count
    by_opener false is e = absurd (some_is_none count e)
    by_opener true is e =
        let h = begins_stands comment.opener line is in
        let rest : drop (length comment.opener) line ≡ h.0 =
        ap (drop (length comment.opener)) h.1 ∙ drop-append_seam comment.opener h.0 in (
          h.0,
          lines,
          ap (λ (xs : List ℕ). xs ∷ lines) h.1,
          (count_exact comment.closer (h.0 ∷ lines) count).0
              (ap (λ (xs : List ℕ). count_to_closer comment.closer (xs ∷ lines)) (sym rest) ∙ e),
        )

pub enclosed_exact : (comment : BlockForm) (lines : List (List ℕ)) (count : ℕ)
    → (multi_count comment lines ≡ Some count) ↔ IsEnclosed comment lines count
enclosed_exact comment lines count = (
  counted_enclosed comment lines count,
  λ h. ap (multi_count comment) h.2 ∙ opened_counted comment h.0 h.1
      ∙ (count_exact comment.closer (h.0 ∷ h.1) count).1 h.3,
)
