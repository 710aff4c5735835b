-- Spans are read again where something else stands behind them, and where one of them is written anew.
use Rattle.std.proofs.Common.{◌≡◌, ℕ, ◌≤◌, Bool, true, false, cond, List, []}
use Rattle.std.proofs.Common.{◌∷◌, ◌++◌, take, drop, Option, Some, None, refl, sym, ap, subst}
use Rattle.std.proofs.Common.{◌∙◌, arith, append_assoc, inl, inr}
use Rattle.std.specs.Prelude.{not, codes}
use Rattle.std.specs.Char.{is_ascii_digit}
use Rattle.std.specs.List.{list_all}
use Rattle.std.specs.Option.{option_map, option_and_then, option_or}
use Rattle.std.proofs.lemmas.Bool.{and_parts, le-leb}
use Rattle.std.proofs.lemmas.List.{drop_at, take_at, take-append-drop}
use Rattle.reuse_notice.specs.Tags.{is_blank, all_blank, drop_front, year_of}
use Rattle.reuse_notice.specs.Adding.{four_digits}
use Rattle.reuse_amend.specs.YearSpans.{SpanText, en_dash, ends_word, behind, if_word_ends, behind_word, year_front}
use Rattle.reuse_amend.specs.YearSpans.{today_front, end_front, is_in_order, if_in_order, behind_dash, range_end}
use Rattle.reuse_amend.specs.YearSpans.{lone_end, span_to, span_from, span_front}
use Rattle.reuse_amend.specs.Amending.{range_text}
use Rattle.reuse_amend.proofs.ChoiceLemmas.{not_some, was_some, then_some, either_some, if_some}
use Rattle.reuse_amend.proofs.EndLemmas.{dropped, year_digits, year_size}
use Rattle.reuse_amend.proofs.PartLemmas.{is_full}
use Rattle.reuse_amend.proofs.ReadAgainLemmas.{no_year, year_again}
use Rattle.reuse_amend.proofs.AgainLemmas.{is_dated, IsApart, lead_found, word_found, dated_full, blanks_again}
use Rattle.reuse_amend.proofs.AgainLemmas.{word_again}

-- ---- the end of a span

-- what an end is written with, which is read in front of each text in front of which a word ends
record EndAgain (text : List ℕ) (end : Option ℕ × List ℕ) : Type 0 where
  front : List ℕ
  joined : text ≡ front ++ end.1
  again : (other : List ℕ) → ends_word other ≡ true → end_front (front ++ other) ≡ Some (end.0, other)
  full : (other : List ℕ) → is_full (front ++ other) ≡ true

-- a year in front of a text
pub year_at : (digits other : List ℕ) (year : ℕ) → year_of digits ≡ Some year → ends_word other ≡ true
    → year_front (digits ++ other) ≡ Some (year, other)
year_at digits other year e ends =
    let size = year_size digits year e in
    ap (λ t. cond (ends_word t) (option_map (λ (y : ℕ). (y, t)) (year_of (take 4 (digits ++ other)))) None)
    (drop_at digits other 4 size)
    ∙ ap (λ t. cond t (option_map (λ (y : ℕ). (y, other)) (year_of (take 4 (digits ++ other)))) None) ends
    ∙ ap (λ t. option_map (λ (y : ℕ). (y, other)) (year_of t)) (take_at digits other 4 size)
    ∙ ap (option_map (λ (y : ℕ). (y, other))) e

pub first_digit : (digits : List ℕ) (year : ℕ) → year_of digits ≡ Some year → (other : List ℕ)
    → is_dated (digits ++ other) ≡ true
first_digit [] year e other = absurd (not_some year e)
first_digit (b ∷ digits) year e other = (and_parts (is_ascii_digit b) (list_all is_ascii_digit digits)
    (year_digits (b ∷ digits) year e)).0

year_end : (text : List ℕ) (year : ℕ × List ℕ) → year_front text ≡ Some year → EndAgain text (Some year.0, year.1)
year_end text year e =
    let is = if_some (ends_word (drop 4 text)) (option_map (λ (y : ℕ). (y, drop 4 text))
    (year_of (take 4 text))) year e in
    let was = was_some (λ (y : ℕ). (y, drop 4 text)) (year_of (take 4 text)) year is.1 in
    let number : was.0 ≡ year.0 = ap (λ (p : ℕ × List ℕ). p.0) was.2 in
    let same : drop 4 text ≡ year.1 = ap (λ (p : ℕ × List ℕ). p.1) was.2 in
    let digits : year_of (take 4 text) ≡ Some year.0 = was.1 ∙ ap (λ (y : ℕ). Some y) number in
    record {
      front = take 4 text;
      joined = sym (take-append-drop 4 text) ∙ ap (λ t. take 4 text ++ t) same;
      again = λ other ends. ap (λ o. option_or (option_map (λ (y : ℕ × List ℕ). (Some y.0, y.1)) o)
          (option_map (λ (rest : List ℕ). (None, rest)) (today_front (take 4 text ++ other))))
          (year_at (take 4 text) other year.0 digits ends);
      full = λ other. dated_full (take 4 text ++ other) (first_digit (take 4 text) year.0 digits other);
    }

-- a letter begins no year
never : (t : Bool) (f : ℕ → ℕ × List ℕ) (o : Option ℕ) → o ≡ None → cond t (option_map f o) None ≡ None
never true f o e = ap (option_map f) e
never false f o e = refl

letter_year : (b : ℕ) (bytes : List ℕ) → is_ascii_digit b ≡ false → year_front (b ∷ bytes) ≡ None
letter_year b bytes e =
    never (ends_word (drop 4 (b ∷ bytes))) (λ year. (year, drop 4 (b ∷ bytes))) (year_of (take 4 (b ∷ bytes)))
    (no_year b (take 3 bytes) e)

-- a word for today
today_end : (word text rest : List ℕ) (b : ℕ) (more : List ℕ) → word ≡ b ∷ more → is_ascii_digit b ≡ false
    → is_blank b ≡ false
    → ((other : List ℕ) → ends_word other ≡ true → today_front (word ++ other) ≡ Some other)
    → behind_word word text ≡ Some rest → EndAgain text (None, rest)
today_end word text rest b more is letter full again e =
    let found = word_found word text rest e in
    record {
      front = word;
      joined = found.0;
      again = λ other ends.
          ap (λ o. option_or (option_map (λ (y : ℕ × List ℕ). (Some y.0, y.1)) o)
          (option_map (λ (r : List ℕ). (None, r)) (today_front (word ++ other))))
          (ap (λ w. year_front (w ++ other)) is ∙ letter_year b (more ++ other) letter)
          ∙ ap (option_map (λ (r : List ℕ). (None, r))) (again other ends);
      full = λ other. ap (λ w. is_full (w ++ other)) is ∙ ap not full;
    }

some_today : (text rest : List ℕ) → today_front text ≡ Some rest → EndAgain text (None, rest)
some_today text rest e = elim (either_some (behind_word (codes "present") text)
    (option_or (behind_word (codes "now") text) (behind_word (codes "today") text)) rest e) [
      | inl is ↦ today_end (codes "present") text rest 112 (codes "resent") refl refl refl
          (λ other ends. ap (λ o. option_or o (option_or (behind_word (codes "now") (codes "present" ++ other))
          (behind_word (codes "today") (codes "present" ++ other)))) (word_again (codes "present") other ends)) is
      | inr other ↦ elim (either_some (behind_word (codes "now") text) (behind_word (codes "today") text) rest other) [
        | inl is ↦ today_end (codes "now") text rest 110 (codes "ow") refl refl refl
            (λ more ends. ap (λ o. option_or o (behind_word (codes "today") (codes "now" ++ more)))
            (word_again (codes "now") more ends)) is
        | inr is ↦ today_end (codes "today") text rest 116 (codes "oday") refl refl refl
            (λ more ends. word_again (codes "today") more ends) is
      ]
    ]

end_again : (text : List ℕ) (end : Option ℕ × List ℕ) → end_front text ≡ Some end → EndAgain text end
end_again text end e = elim (either_some (option_map (λ (y : ℕ × List ℕ). (Some y.0, y.1)) (year_front text))
    (option_map (λ (rest : List ℕ). (None, rest)) (today_front text)) end e) [
      | inl is ↦ (let was = was_some (λ (y : ℕ × List ℕ). (Some y.0, y.1)) (year_front text) end is in
          subst (EndAgain text) was.2 (year_end text was.0 was.1))
      | inr is ↦ (let was = was_some (λ (rest : List ℕ). (None, rest)) (today_front text) end is in
          subst (EndAgain text) was.2 (some_today text was.0 was.1))
    ]

-- ---- a span

-- what is written behind the first year of a span, which is read so in front of each text in front of which a word ends
record RangeAgain (low : ℕ) (text : List ℕ) (end : Option ℕ × List ℕ) : Type 0 where
  front : List ℕ
  joined : text ≡ front ++ end.1
  again : (other : List ℕ) → ends_word other ≡ true → range_end low (front ++ other) ≡ Some (end.0, other)

-- a dash, and blank bytes behind it
record DashAgain (text rest : List ℕ) : Type 0 where
  front : List ℕ
  joined : text ≡ front ++ rest
  again : (other : List ℕ) → is_full other ≡ true → behind_dash (front ++ other) ≡ Some other
  full : (other : List ℕ) → is_full (front ++ other) ≡ true

dash_again : (text rest : List ℕ) → behind_dash text ≡ Some rest → DashAgain text rest
dash_again text rest e =
    let was = was_some (drop_front is_blank) (option_or (behind (codes "-") text) (behind en_dash text)) rest e in
    let blanks = dropped was.0 in
    let more : was.0 ≡ blanks.0 ++ rest = blanks.1 ∙ ap (λ t. blanks.0 ++ t) was.2 in
    elim (either_some (behind (codes "-") text) (behind en_dash text) was.0 was.1) [
      | inl is ↦ record {
        front = 45 ∷ blanks.0;
        joined = lead_found (codes "-") text was.0 is ∙ ap (λ t. 45 ∷ t) more;
        again = λ other full. ap (λ (t : List ℕ). Some t) (blanks_again blanks.0 other blanks.2 full);
        full = λ other. refl;
      }
      | inr is ↦ record {
        front = en_dash ++ blanks.0;
        joined = lead_found en_dash text was.0 is ∙ ap (λ t. en_dash ++ t) more;
        again = λ other full. ap (λ (t : List ℕ). Some t) (blanks_again blanks.0 other blanks.2 full);
        full = λ other. refl;
      }
    ]

ordered : (low : ℕ) (end : Option ℕ × List ℕ) → is_in_order low end.0 ≡ true → (other : List ℕ)
    → if_in_order low (end.0, other) ≡ Some (end.0, other)
ordered low end e other = ap (λ t. cond t (Some (end.0, other)) None) e

range_again : (low : ℕ) (text : List ℕ) (end : Option ℕ × List ℕ) → range_end low text ≡ Some end
    → RangeAgain low text end
range_again low text end e =
    let front = drop_front is_blank text in
    let blanks = dropped text in
    let order = then_some (if_in_order low) (option_and_then end_front (behind_dash front)) end e in
    let is = if_some (is_in_order low order.0.0) (Some order.0) end order.2 in
    let same : order.0 ≡ end = cc is.1 in
    let dashed = then_some end_front (behind_dash front) order.0 order.1 in
    let dash = dash_again front dashed.0 dashed.1 in
    let last = end_again dashed.0 order.0 dashed.2 in
    subst (RangeAgain low text) same (record {
      front = blanks.0 ++ (dash.front ++ last.front);
      joined = blanks.1 ∙ ap (λ t. blanks.0 ++ t) (dash.joined ∙ ap (λ t. dash.front ++ t) last.joined
          ∙ sym (append_assoc dash.front last.front order.0.1))
          ∙ sym (append_assoc blanks.0 (dash.front ++ last.front) order.0.1);
      again = λ other ends.
          ap (λ t. option_and_then (if_in_order low) (option_and_then end_front (behind_dash t)))
          (ap (drop_front is_blank) (append_assoc blanks.0 (dash.front ++ last.front) other
          ∙ ap (λ t. blanks.0 ++ t) (append_assoc dash.front last.front other))
          ∙ blanks_again blanks.0 (dash.front ++ (last.front ++ other)) blanks.2 (dash.full (last.front ++ other)))
          ∙ ap (λ o. option_and_then (if_in_order low) (option_and_then end_front o))
          (dash.again (last.front ++ other) (last.full other))
          ∙ ap (option_and_then (if_in_order low)) (last.again other ends)
          ∙ ordered low order.0 is.0 other;
    })

-- a span, which is read so in front of each text that is apart
pub record SpanAgain (text : List ℕ) (span : SpanText) : Type 0 where
  pub front : List ℕ
  pub joined : text ≡ front ++ span.rest
  pub again : (other : List ℕ) → IsApart other → span_front (front ++ other)
      ≡ Some (record { start = front ++ other; rest = other; low = span.low; high = span.high })
  pub dated : (other : List ℕ) → is_dated (front ++ other) ≡ true

-- a span from what follows its first year
pub spanned : (digits behind_year : List ℕ) (low : ℕ) (end : Option ℕ × List ℕ) → year_of digits ≡ Some low
    → option_or (range_end low behind_year) (lone_end low behind_year) ≡ Some end
    → span_front (digits ++ behind_year) ≡ Some (span_to (digits ++ behind_year) low end)
spanned digits behind_year low end e is =
    let size = year_size digits low e in
    ap (λ t. option_and_then (span_from (digits ++ behind_year)) (year_of t)) (take_at digits behind_year 4 size)
    ∙ ap (option_and_then (span_from (digits ++ behind_year))) e
    ∙ ap (λ t. option_map (span_to (digits ++ behind_year) low) (option_or (range_end low t) (lone_end low t)))
    (drop_at digits behind_year 4 size)
    ∙ ap (option_map (span_to (digits ++ behind_year) low)) is

pub lone_again : (low : ℕ) (other : List ℕ) → IsApart other → option_or (range_end low other) (lone_end low other)
    ≡ Some (Some low, other)
lone_again low other apart =
    ap (λ o. option_or (option_and_then (if_in_order low) (option_and_then end_front o))
    (lone_end low other)) apart.dash
    ∙ ap (λ t. option_map (λ (same : List ℕ). (Some low, same)) (cond t (Some other) None)) apart.word

pub span_again : (text : List ℕ) (span : SpanText) → span_front text ≡ Some span → SpanAgain text span
span_again text span e =
    let digits = then_some (span_from text) (year_of (take 4 text)) span e in
    let rest = drop 4 text in
    let d = take 4 text in
    let was = was_some (span_to text digits.0) (option_or (range_end digits.0 rest)
    (lone_end digits.0 rest)) span digits.2 in
    subst (SpanAgain text) was.2 (elim (either_some (range_end digits.0 rest)
    (lone_end digits.0 rest) was.0 was.1) as (λ _. SpanAgain text (span_to text digits.0 was.0)) [
      | inl is ↦ (let range = range_again digits.0 rest was.0 is in record {
        front = d ++ range.front;
        joined = sym (take-append-drop 4 text) ∙ ap (λ t. d ++ t) range.joined
            ∙ sym (append_assoc d range.front was.0.1);
        again = λ other apart.
            ap span_front (append_assoc d range.front other)
            ∙ spanned d (range.front ++ other) digits.0 (was.0.0, other) digits.1
            (ap (λ o. option_or o (lone_end digits.0 (range.front ++ other))) (range.again other apart.word))
            ∙ ap (λ t. Some (span_to t digits.0 (was.0.0, other))) (sym (append_assoc d range.front other));
        dated = λ other. ap is_dated (append_assoc d range.front other)
            ∙ first_digit d digits.0 digits.1 (range.front ++ other);
      })
      | inr is ↦ (let alone = was_some (λ (same : List ℕ). (Some digits.0, same)) (if_word_ends rest) was.0 is in
          let ends = if_some (ends_word rest) (Some rest) alone.0 alone.1 in
          let same : rest ≡ alone.0 = cc ends.1 in
          subst (λ (end : Option ℕ × List ℕ). SpanAgain text (span_to text digits.0 end)) alone.2 (record {
            front = d;
            joined = sym (take-append-drop 4 text) ∙ ap (λ t. d ++ t) same;
            again = λ other apart. spanned d other digits.0 (Some digits.0, other) digits.1
                (lone_again digits.0 other apart);
            dated = λ other. first_digit d digits.0 digits.1 other;
          }))
    ])

-- ---- a span that is written anew

-- the end of a span behind a minus, perhaps between blank bytes
pub ranged : (low high : ℕ) (front blanks digits other : List ℕ) → all_blank front ≡ true → all_blank blanks ≡ true
    → year_of digits ≡ Some high
    → low ≤ high → ends_word other ≡ true → range_end low (front ++ 45 ∷ (blanks ++ (digits ++ other)))
    ≡ Some (Some high, other)
ranged low high front blanks digits other e f last order ends =
    ap (λ t. option_and_then (if_in_order low) (option_and_then end_front (behind_dash t)))
    (blanks_again front (45 ∷ (blanks ++ (digits ++ other))) e refl)
    ∙ ap (λ t. option_and_then (if_in_order low) (option_and_then end_front (Some t)))
    (blanks_again blanks (digits ++ other) f (dated_full (digits ++ other) (first_digit digits high last other)))
    ∙ ap (λ o. option_and_then (if_in_order low) (option_or (option_map (λ (y : ℕ × List ℕ). (Some y.0, y.1)) o)
    (option_map (λ (rest : List ℕ). (None, rest)) (today_front (digits ++ other)))))
    (year_at digits other high last ends)
    ∙ ap (λ t. cond t (Some (Some high, other)) None) (le-leb low high order)

-- the years that are written are read
pub range_front : (low high : ℕ) (other : List ℕ) → low ≤ high → high ≤ 9999 → ends_word other ≡ true
    → span_front (range_text low high ++ other) ≡ Some (record {
      start = range_text low high
          ++ other;
      rest = other;
      low = low;
      high = Some high;
    })
range_front low high other order short ends =
    let behind_year = 32 ∷ 45 ∷ 32 ∷ (four_digits high ++ other) in
    spanned (four_digits low) behind_year low (Some high, other) (year_again low (omega arith))
    (ap (λ o. option_or o (lone_end low behind_year)) (ranged low high (32 ∷ []) (32 ∷ [])
    (four_digits high) other refl refl (year_again high short) order ends))

pub range_dated : (low high : ℕ) (other : List ℕ) → low ≤ 9999 → is_dated (range_text low high ++ other) ≡ true
range_dated low high other short = first_digit (four_digits low) low (year_again low short)
    (codes " - " ++ four_digits high ++ other)
