-- The years that annotate reads in a notice are the only span that amend reads in it.
use Rattle.std.proofs.Common.{◌≡◌, ℕ, ◌+◌, ◌<◌, ◌≤◌, nat_eq, nat_lt, nat_le, Bool, true, false, cond}
use Rattle.std.proofs.Common.{List, [], ◌∷◌, ◌++◌, length, length-take, take, drop, Option, Some}
use Rattle.std.proofs.Common.{None, refl, sym, ap, subst, ◌∙◌, arith, append_assoc, inl, inr, ◌⊎◌}
use Rattle.std.specs.Prelude.{not, ◌&&◌, ◌||◌, ◌==◌, codes, slice_index}
use Rattle.std.specs.List.{starts_with}
use Rattle.std.specs.Option.{option_map, option_map_or, option_and_then, option_or}
use Rattle.std.proofs.lemmas.Bool.{false≢true, and_parts, eqb-true, leb-true, ltb-true}
use Rattle.std.proofs.lemmas.Bool.Decides.{Decides-eqb}
use Rattle.std.proofs.lemmas.List.{append-nil, drop-drop, take-append-drop}
use Rattle.std.proofs.lemmas.Slice.Eq.{starts_is}
use Rattle.reuse_notice.specs.declared.prefixes.Prefix.{Prefix}
use Rattle.reuse_notice.specs.declared.tags.Years.{Years}
use Rattle.reuse_notice.specs.Prefixes.{prefix_text}
use Rattle.reuse_notice.specs.Tags.{NoticeText, is_blank, all_blank, drop_front, drop_end, trimmed}
use Rattle.reuse_notice.specs.Tags.{needs_no_space, prefix_of, year_of, years_between, years_written, years_in}
use Rattle.reuse_notice.specs.Tags.{years_or, years_front, notice_behind, notice_of}
use Rattle.reuse_notice.proofs.BlankLemmas.{drop_next}
use Rattle.reuse_amend.specs.YearSpans.{SpanText, RunText, ends_word, lone_end, span_front, next_span}
use Rattle.reuse_amend.specs.YearSpans.{spans_of, run_of, run_front, upto}
use Rattle.reuse_amend.specs.NoticeParts.{Parts, value_behind, if_leaves_holder, leaves_holder, holder_behind}
use Rattle.reuse_amend.specs.NoticeParts.{starts_blank, cut_years_first, cut_holder_first, tail_of, parts_from}
use Rattle.reuse_amend.specs.NoticeParts.{parts_behind, wide_prefix_of, parts_of}
use Rattle.reuse_amend.specs.InPlace.{goes_on, IsReadAlike}
use Rattle.reuse_amend.proofs.ChoiceLemmas.{not_some, was_some, if_some}
use Rattle.reuse_amend.proofs.EndLemmas.{upto_is, dropped}
use Rattle.reuse_amend.proofs.PartLemmas.{Anything}
use Rattle.reuse_amend.proofs.ShapedLemmas.{prefix_read}
use Rattle.reuse_amend.proofs.AgainLemmas.{is_dated, IsApart}
use Rattle.reuse_amend.proofs.SpanAgainLemmas.{SpanAgain, first_digit, spanned, lone_again, ranged, span_again}
use Rattle.reuse_amend.proofs.SpansLemmas.{spans_are}
use Rattle.reuse_amend.proofs.AlikeLemmas.{wide_found, dated_behind, dated_value, IsStill, still_holder, still_trimmed}
use Rattle.reuse_amend.proofs.AlikeLemmas.{still_apart, still_last, still_behind, still_leaves}

-- ---- the years

-- the first n bytes of a value are years, and a blank byte and a holder follow
record StandsIn (n : ℕ) (value : List ℕ) (years : Years) : Type 0 where
  within : n < length value
  blank : is_blank (slice_index value n) ≡ true
  some : all_blank (drop (n + 1) value) ≡ false
  written : years_written (take n value) ≡ Some years

stands_in : (n : ℕ) (value : List ℕ) (years : Years) → years_in n value ≡ Some years → StandsIn n value years
stands_in n value years e =
    let is = if_some (nat_lt n (length value) && is_blank (slice_index value n) && not
    (all_blank (drop (n + 1) value))) (years_written (take n value)) years e in
    let outer = and_parts (nat_lt n (length value) && is_blank (slice_index value n))
    (not (all_blank (drop (n + 1) value))) is.0 in
    let inner = and_parts (nat_lt n (length value)) (is_blank (slice_index value n)) outer.0 in
    record {
      within = ltb-true n (length value) inner.0;
      blank = inner.1;
      some = negated
          (all_blank (drop (n + 1) value)) outer.1;
      written = is.1;
    }
  where
    negated : (t : Bool) → not t ≡ true → t ≡ false
    negated true k = absurd (false≢true k)
    negated false k = refl

-- the rest begins with the blank byte
rest_is : (n : ℕ) (value : List ℕ) (years : Years) → StandsIn n value years
    → drop n value ≡ slice_index value n ∷ drop (n + 1) value
rest_is n value years h = let low = h.within in drop_next value n 0 low

rest_word : (n : ℕ) (value : List ℕ) (years : Years) → StandsIn n value years → ends_word (drop n value) ≡ true
rest_word n value years h =
    ap ends_word (rest_is n value years h)
    ∙ ap (λ t. t || slice_index value n == 44 || slice_index value n == 38) h.blank

rest_blank : (n : ℕ) (value : List ℕ) (years : Years) → StandsIn n value years → starts_blank (drop n value) ≡ true
rest_blank n value years h = ap starts_blank (rest_is n value years h) ∙ h.blank

rest_some : (n : ℕ) (value : List ℕ) (years : Years) → StandsIn n value years → all_blank (drop n value) ≡ false
rest_some n value years h =
    ap all_blank (rest_is n value years h) ∙ ap (λ t. is_blank (slice_index value n) && t) h.some
    ∙ by (is_blank (slice_index value n))
  where
    by : (t : Bool) → (t && false) ≡ false
    by true = refl
    by false = refl

-- two years
record AreBetween (first second : Option ℕ) (years : Years) : Type 0 where
  low : first ≡ Some years.low
  high : second ≡ Some years.high
  order : years.low ≤ years.high

between : (first second : Option ℕ) (years : Years) → years_between first second ≡ Some years
    → AreBetween first second years
between None None years e = absurd (not_some years e)
between None (Some high) years e = absurd (not_some years e)
between (Some low) None years e = absurd (not_some years e)
between (Some low) (Some high) years e =
    let is = if_some (nat_le low high) (Some (record { low = low; high = high })) years e in
    let same : record { low = low; high = high } ≡ years = cc is.1 in
    subst (λ (y : Years). AreBetween (Some low) (Some high) y) same
    (record { low = refl; high = refl; order = leb-true low high is.0 })

-- how years are written, by the number of their bytes
written_by : (text : List ℕ) (years : Years) (four nine eleven : Bool)
    → cond four (years_between (year_of text) (year_of text))
    (cond nine (years_between (year_of (take 4 text)) (year_of (drop 5 text)))
    (cond eleven (years_between (year_of (take 4 text)) (year_of (drop 7 text))) None)) ≡ Some years
    → ((four ≡ true) × AreBetween (year_of text) (year_of text) years)
    ⊎ (((nine ≡ true) × AreBetween (year_of (take 4 text)) (year_of (drop 5 text)) years)
    ⊎ ((eleven ≡ true) × AreBetween (year_of (take 4 text)) (year_of (drop 7 text)) years))
written_by text years true nine eleven e = inl (refl, between (year_of text) (year_of text) years e)
written_by text years false true eleven e = inr (inl (
  refl,
  between (year_of (take 4 text))
      (year_of (drop 5 text)) years e,
))
written_by text years false false true e = inr (inr (
  refl,
  between (year_of (take 4 text))
      (year_of (drop 7 text)) years e,
))
written_by text years false false false e = absurd (not_some years e)

-- the only span in front of a rest
record IsSpanned (n : ℕ) (value : List ℕ) (years : Years) : Type 0 where
  span : SpanText
  found : span_front value ≡ Some span
  rest : span.rest ≡ drop n value
  low : span.low ≡ years.low
  high : span.high ≡ Some years.high
  dated : is_dated value ≡ true

front_is : (n : ℕ) (value : List ℕ) → take n value ++ drop n value ≡ value
front_is n value = take-append-drop n value

-- a single year
one_span : (value : List ℕ) (years : Years) → AreBetween (year_of (take 4 value)) (year_of (take 4 value)) years
    → IsApart (drop 4 value)
    → IsSpanned 4 value years
one_span value years is apart =
    let same : years.low ≡ years.high = some_same years.low years.high (sym is.low ∙ is.high) in
    record {
      span = record { start = value; rest = drop 4 value; low = years.low; high = Some years.low };
      found = ap span_front (sym (front_is 4 value)) ∙ spanned (take 4 value) (drop 4 value) years.low
          (Some years.low, drop 4 value) is.low (lone_again years.low (drop 4 value) apart)
          ∙ ap (λ t. Some (record { start = t; rest = drop 4 value; low = years.low; high = Some years.low }))
          (front_is 4 value);
      rest = refl;
      low = refl;
      high = ap (λ (y : ℕ). Some y) same;
      dated = ap is_dated (sym (front_is 4 value)) ∙ first_digit (take 4 value) years.low is.low (drop 4 value);
    }
  where
    some_same : (x y : ℕ) → Some x ≡ Some y → x ≡ y
    some_same x y e = cc e

-- two years, with a minus between them
two_span : (n m : ℕ) (gap front blanks value : List ℕ) (years : Years) → StandsIn n value years
    → all_blank front ≡ true → all_blank blanks ≡ true
    → 4 + length gap ≡ m → starts_with nat_eq (drop 4 (take n value)) gap ≡ true
    → ((xs : List ℕ) → gap ++ xs ++ drop n value ≡ front ++ 45 ∷ (blanks ++ (xs ++ drop n value)))
    → AreBetween (year_of (take 4 (take n value))) (year_of (drop m (take n value))) years → IsSpanned n value years
two_span n m gap front blanks value years stands e f size starts shape is =
    let t = take n value in
    let rest = drop n value in
    let last = drop m t in
    let behind_year = front ++ 45 ∷ (blanks ++ (last ++ rest)) in
    let inner : drop 4 t ≡ gap ++ last =
    (starts_is Decides-eqb (drop 4 t) gap _ refl).0 starts ∙ ap (λ x. gap ++ x)
    (drop-drop (length gap) 4 t ∙ ap (λ k. drop k t) size) in
    let whole : value ≡ take 4 t ++ behind_year =
    sym (front_is n value) ∙ ap (λ x. x ++ rest) (sym (front_is 4 t) ∙ ap (λ x. take 4 t ++ x) inner)
    ∙ append_assoc (take 4 t) (gap ++ last) rest ∙ ap (λ x. take 4 t ++ x) (shape last) in
    record {
      span = record { start = value; rest = rest; low = years.low; high = Some years.high };
      found = ap span_front whole
          ∙ spanned (take 4 t) behind_year years.low (Some years.high, rest) is.low
          (ap (λ o. option_or o (lone_end years.low behind_year))
          (ranged years.low years.high front blanks last rest e f is.high is.order
          (rest_word n value years stands)))
          ∙ ap (λ x. Some (record { start = x; rest = rest; low = years.low; high = Some years.high })) (sym whole);
      rest = refl;
      low = refl;
      high = refl;
      dated = ap is_dated whole ∙ first_digit (take 4 t) years.low is.low behind_year;
    }

taken : (n : ℕ) (value : List ℕ) → n < length value → length (take n value) ≡ n
taken n value low = let k = length-take n value in omega (arith, k, low)

not_four : (n : ℕ) → n ≡ 4 → (9 ≤ n) → ⊥
not_four n e low = absurd (omega (arith, e, low))

-- the years in the first n bytes
span_in : (n : ℕ) (value : List ℕ) (years : Years) → StandsIn n value years → (n ≡ 4) ⊎ ((n ≡ 9) ⊎ (n ≡ 11))
    → IsApart (drop 4 value) ⊎ (9 ≤ n)
    → IsSpanned n value years
span_in n value years stands is apart =
    elim (written_by t years (length t == 4) (length t == 9 && starts_with nat_eq (drop 4 t) (codes "-"))
    (length t == 11 && starts_with nat_eq (drop 4 t) (codes " - ")) stands.written) [
      | inl one ↦ (let four : n ≡ 4 = sym size ∙ eqb-true (length t) 4 one.0 in
          let whole : t ≡ take 4 value = ap (λ k. take k value) four in
          subst (λ k. IsSpanned k value years) (sym four)
          (one_span value years (subst (λ x. AreBetween (year_of x) (year_of x) years) whole one.1)
          (by_four four apart)))
      | inr (inl two) ↦ (let both = and_parts (length t == 9) (starts_with nat_eq (drop 4 t) (codes "-")) two.0 in
          two_span n 5 (codes "-") [] [] value years stands refl refl refl both.1 (λ xs. refl) two.1)
      | inr (inr two) ↦ (let both = and_parts (length t == 11) (starts_with nat_eq (drop 4 t) (codes " - ")) two.0 in
          two_span n 7 (codes " - ") (32 ∷ []) (32 ∷ []) value years stands refl refl refl both.1 (λ xs. refl) two.1)
    ]
  where
    t : List ℕ
    t = take n value

    size : length t ≡ n
    size = let low = stands.within in taken n value low

    by_four : n ≡ 4 → IsApart (drop 4 value) ⊎ (9 ≤ n) → IsApart (drop 4 value)
    by_four four (inl a) = a
    by_four four (inr low) = absurd (not_four n four low)

-- ---- the notice

-- the years at the front of a value, and their number of bytes
record FrontYears (value : List ℕ) (years : Years) (n : ℕ) : Type 0 where
  stands : StandsIn n value years
  size : (n ≡ 4) ⊎ ((n ≡ 9) ⊎ (n ≡ 11))

front_years : (value : List ℕ) (years : Years) → (years_front value).0 ≡ Some years
    → FrontYears value years (years_front value).1
front_years value years e = by (years_in 11 value) (years_in 9 value) (years_in 4 value) refl refl refl e
  where
    by : (a b c : Option Years) → years_in 11 value ≡ a → years_in 9 value ≡ b → years_in 4 value ≡ c
        → (years_or a 11 (years_or b 9 (years_or c 4 (None, 0)))).0 ≡ Some years
        → FrontYears value years (years_or a 11 (years_or b 9 (years_or c 4 (None, 0)))).1
    by (Some y) b c f g k e' = record { stands = stands_in 11 value years (f ∙ e'); size = inr (inr refl) }
    by None (Some y) c f g k e' = record { stands = stands_in 9 value years (g ∙ e'); size = inr (inl refl) }
    by None None (Some y) f g k e' = record { stands = stands_in 4 value years (k ∙ e'); size = inl refl }
    by None None None f g k e' = absurd (not_some years e')

nothing : next_span [] ≡ None
unfolding drop_front
nothing = refl

apart_nil : IsApart []
unfolding drop_front
apart_nil = record { word = refl; dash = refl }

-- the parts of a value that begins with one span
one_parts : (text : List ℕ) (prefix : Prefix) (value : List ℕ) (n : ℕ) (years : Years) → StandsIn n value years
    → IsSpanned n value years
    → IsStill (drop_front is_blank (drop n value))
    → (notice : NoticeText) → notice.prefix ≡ prefix → notice.holder ≡ trimmed is_blank (drop n value)
    → IsReadAlike notice years (parts_from text prefix value)
one_parts text prefix value n years stands sp still notice p_is h_is =
    subst (λ (p : Parts). IsReadAlike notice years p) (sym parts) (record {
      prefix = sym p_is;
      holder = ap (drop_end is_blank) (ap holder_behind sp.rest ∙ still_behind (drop n value) still) ∙ sym h_is;
      years_first = refl;
      span = record { start = again.front ++ []; rest = []; low = sp.span.low; high = sp.span.high };
      only = ap spans_of region ∙ spans_are (again.front ++ [])
          (record { start = again.front ++ []; rest = []; low = sp.span.low; high = sp.span.high } ∷ [])
          (again.again [] apart_nil, nothing);
      low = sp.low;
      high = sp.high;
    })
  where
    span : SpanText
    span = sp.span

    run : RunText
    run = record { latest = span; rest = span.rest }

    again : SpanAgain value sp.span
    again = span_again value sp.span sp.found

    last : next_span span.rest ≡ None
    last = ap next_span sp.rest ∙ still_last (drop n value) still

    found : run_front value ≡ Some run
    found = ap run_of (spans_are value (span ∷ []) (sp.found, last))

    leaves : leaves_holder span.rest ≡ true
    leaves = ap leaves_holder sp.rest ∙ still_leaves (drop n value) (rest_blank n value years stands)
        (rest_some n value years stands) still

    parts : parts_from text prefix value ≡ cut_years_first text prefix value run
    parts =
        ap (λ o. option_map_or (cut_years_first text prefix value) (option_and_then if_leaves_holder o)
        (cut_holder_first text prefix (holder_behind value) (tail_of (holder_behind value)))) found
        ∙ ap (λ t. option_map_or (cut_years_first text prefix value) (cond t (Some run) None)
        (cut_holder_first text prefix (holder_behind value) (tail_of (holder_behind value)))) leaves

    region : upto value span.rest ≡ again.front ++ []
    region = upto_is Anything value span.rest (record { front = again.front; joined = again.joined; holds = tt })
        ∙ sym (append-nil again.front)

pub read_alike : (text : List ℕ) (notice : NoticeText) (years : Years) → notice_of text ≡ Some notice
    → notice.years ≡ Some years
    → goes_on notice.holder ≡ false → (p : Parts) × (parts_of text ≡ Some p) × IsReadAlike notice years p
read_alike text notice years e has still =
    let was = was_some (notice_behind text) (prefix_of text) notice e in
    by_prefix was.0 was.1 was.2
  where
    apart : (n : ℕ) → (n ≡ 4) ⊎ ((n ≡ 9) ⊎ (n ≡ 11)) → (value : List ℕ) → StandsIn n value years
        → IsStill (drop_front is_blank (drop n value))
        → IsApart (drop 4 value) ⊎ (9 ≤ n)
    apart n (inl four) value stands quiet =
        inl (subst (λ k. IsApart (drop k value)) four (still_apart (drop n value)
        (rest_word n value years stands) quiet))
    apart n (inr (inl nine)) value stands quiet = inr (omega (arith, nine))
    apart n (inr (inr eleven)) value stands quiet = inr (omega (arith, eleven))

    by_prefix : (prefix : Prefix) → prefix_of text ≡ Some prefix → notice_behind text prefix ≡ notice
        → (p : Parts) × (parts_of text ≡ Some p) × IsReadAlike notice years p
    by_prefix prefix found same =
        let rest = drop (length (prefix_text prefix)) text in
        let value = drop_front is_blank rest in
        let fy = front_years value years (ap (λ (m : NoticeText). m.years) same ∙ has) in
        let n = (years_front value).1 in
        let holder : notice.holder ≡ trimmed is_blank (drop n value) = ap (λ (m : NoticeText). m.holder) (sym same) in
        let quiet = still_trimmed (drop_front is_blank (drop n value))
        (still_holder (drop_end is_blank (drop_front is_blank (drop n value))) (ap goes_on (sym holder) ∙ still)) in
        let sp = span_in n value years fy.stands fy.size (apart n fy.size value fy.stands quiet) in
        let blanks = dropped rest in
        let begins = prefix_read text prefix found in
        let joined : text ≡ prefix_text prefix ++ (blanks.0 ++ value) = begins.is
        ∙ ap (λ t. prefix_text prefix ++ t) blanks.1 in
        let space = ap (λ r. needs_no_space prefix || starts_with nat_eq r (32 ∷ [])) (sym blanks.1) ∙ begins.space in
        let wide : wide_prefix_of text ≡ Some prefix =
        ap wide_prefix_of joined ∙ wide_found prefix (blanks.0 ++ value)
        (dated_behind prefix blanks.0 value blanks.2 sp.dated space) in
        let value_is : value_behind rest ≡ value = ap value_behind blanks.1
        ∙ dated_value blanks.0 value blanks.2 sp.dated in (
          parts_from text prefix value,
          ap (option_map (parts_behind text)) wide ∙ ap (λ v. Some (parts_from text prefix v)) value_is,
          one_parts text prefix value n years fy.stands sp quiet notice
              (ap (λ (m : NoticeText). m.prefix) (sym same)) holder,
        )
