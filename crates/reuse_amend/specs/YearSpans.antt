-- Years as people write them in a notice: single years and spans of years, with commas, `and` or `&` between them
-- (docs/RULES.md, "How amend reads a notice").
use Rattle.std.specs.Prelude.{ℕ, zero, suc, ◌-◌, ◌==◌, Bool, true, false, ◌||◌, nat_eq, nat_le, List, [], ◌∷◌, length}
use Rattle.std.specs.Prelude.{take, drop, fold, Option, None, Some, unwrap_or, if◌then◌else◌, codes}
use Rattle.std.specs.List.{starts_with}
use Rattle.std.specs.Option.{option_map, option_and_then, option_or}
use Rattle.reuse_notice.specs.Tags.{is_blank, drop_front, year_of}

-- ---- pieces of a text

-- an en dash in UTF-8
abbrev pub en_dash : List ℕ
en_dash = 226 ∷ 128 ∷ 147 ∷ []

-- whether a word ends in front of a text: at its end, a blank byte, a comma or an ampersand
abbrev pub ends_word : List ℕ → Bool
ends_word [] = true
ends_word (b ∷ bytes) = is_blank b || b == 44 || b == 38

-- a text up to an end of it
abbrev pub upto : List ℕ → List ℕ → List ℕ
upto text end = take (length text - length end) text

-- what follows some bytes, if a text begins with them
abbrev pub behind : List ℕ → List ℕ → Option (List ℕ)
behind lead text = if starts_with nat_eq text lead then Some (drop (length lead) text) else None

-- what follows a text at which a word ends
abbrev pub if_word_ends : List ℕ → Option (List ℕ)
if_word_ends rest = if ends_word rest then Some rest else None

-- what follows a word, if a text begins with it
abbrev pub behind_word : List ℕ → List ℕ → Option (List ℕ)
behind_word word text = option_and_then if_word_ends (behind word text)

-- ---- a span

-- years from `low` to `high`, which is none where they last until today: where they begin in a text, and what follows
pub record SpanText : Type 0 where
  pub start : List ℕ
  pub rest : List ℕ
  pub low : ℕ
  pub high : Option ℕ

-- a year, and what follows it
abbrev pub year_front : List ℕ → Option (ℕ × List ℕ)
year_front text =
    if ends_word (drop 4 text) then option_map (λ year. (year, drop 4 text)) (year_of (take 4 text))
    else None

-- what follows a word for today
abbrev pub today_front : List ℕ → Option (List ℕ)
today_front text =
    option_or (behind_word (codes "present") text)
    (option_or (behind_word (codes "now") text) (behind_word (codes "today") text))

-- the end of a span, a year or today, and what follows it
abbrev pub end_front : List ℕ → Option (Option ℕ × List ℕ)
end_front text =
    option_or (option_map (λ year. (Some year.0, year.1)) (year_front text))
    (option_map (λ rest. (None, rest)) (today_front text))

-- an end that doesn't come before the beginning
abbrev pub is_in_order : ℕ → Option ℕ → Bool
is_in_order low None = true
is_in_order low (Some high) = nat_le low high

abbrev pub if_in_order : ℕ → Option ℕ × List ℕ → Option (Option ℕ × List ℕ)
if_in_order low end = if is_in_order low end.0 then Some end else None

-- what follows a minus or an en dash, and blank bytes
abbrev pub behind_dash : List ℕ → Option (List ℕ)
behind_dash text = option_map (drop_front is_blank) (option_or (behind (codes "-") text) (behind en_dash text))

-- the end of the span that a year begins, from what follows the year
abbrev pub range_end : ℕ → List ℕ → Option (Option ℕ × List ℕ)
range_end low text =
    option_and_then (if_in_order low) (option_and_then end_front (behind_dash (drop_front is_blank text)))

-- a year alone, from what follows it
abbrev pub lone_end : ℕ → List ℕ → Option (Option ℕ × List ℕ)
lone_end year rest = option_map (λ same. (Some year, same)) (if_word_ends rest)

-- a span at the front of a text: `Y`, or `Y - Y`, `Y - present` and the like, with or without blank bytes
abbrev pub span_to : List ℕ → ℕ → Option ℕ × List ℕ → SpanText
span_to text low end = record { start = text; rest = end.1; low = low; high = end.0 }

abbrev pub span_from : List ℕ → ℕ → Option SpanText
span_from text low =
    option_map (span_to text low) (option_or (range_end low (drop 4 text)) (lone_end low (drop 4 text)))

abbrev pub span_front : List ℕ → Option SpanText
span_front text = option_and_then (span_from text) (year_of (take 4 text))

-- ---- several spans

-- what follows `and` or `&`, and blank bytes
abbrev pub behind_and : List ℕ → Option (List ℕ)
behind_and text =
    option_map (drop_front is_blank) (option_or (behind (codes "&") text) (behind_word (codes "and") text))

-- the same, or the text itself
abbrev pub past_and : List ℕ → List ℕ
past_and text = unwrap_or (behind_and text) text

-- what follows a comma, `and` or `&`, or a comma and one of them
abbrev pub separated : List ℕ → Option (List ℕ)
separated text =
    let front = drop_front is_blank text in
    option_or (option_map (λ rest. past_and (drop_front is_blank rest)) (behind (codes ",") front)) (behind_and front)

abbrev pub next_span : List ℕ → Option SpanText
next_span text = option_and_then span_front (separated text)

-- at most so many spans, from one on
unfoldable pub spans_from : ℕ → Option SpanText → List SpanText
spans_from zero span = []
spans_from (suc n) None = []
spans_from (suc n) (Some span) = span ∷ spans_from n (next_span span.rest)

-- the spans at the front of a text
abbrev pub spans_of : List ℕ → List SpanText
spans_of text = spans_from (length text) (span_front text)

-- whether years end no later than others; today is later than each year
abbrev pub ends_by : Option ℕ → Option ℕ → Bool
ends_by high None = true
ends_by None (Some other) = false
ends_by (Some high) (Some other) = nat_le high other

-- spans of which a text begins: the one that ends last, of equal ones the last, and what follows them all
pub record RunText : Type 0 where
  pub latest : SpanText
  pub rest : List ℕ

abbrev pub later : SpanText → SpanText → SpanText
later span other = if ends_by span.high other.high then other else span

abbrev pub with_span : RunText → SpanText → RunText
with_span run span = record { latest = later run.latest span; rest = span.rest }

abbrev pub run_of : List SpanText → Option RunText
run_of [] = None
run_of (span ∷ spans) = Some (fold with_span (record { latest = span; rest = span.rest }) spans)

abbrev pub run_front : List ℕ → Option RunText
run_front text = run_of (spans_of text)
