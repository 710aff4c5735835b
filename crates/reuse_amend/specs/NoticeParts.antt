-- A notice as people write it: its parts, which put together are its text (docs/RULES.md, "How amend reads a notice").
use Rattle.std.specs.Prelude.{ℕ, zero, suc, ◌==◌, Bool, true, false, not, ◌&&◌, ◌||◌, nat_eq, List, [], ◌∷◌, ◌++◌}
use Rattle.std.specs.Prelude.{length, drop, find, Option, None, Some, unwrap_or, if◌then◌else◌, codes}
use Rattle.std.specs.List.{starts_with}
use Rattle.std.specs.Option.{option_map, option_map_or, option_and_then}
use Rattle.reuse_notice.specs.declared.prefixes.Prefix.{Prefix}
use Rattle.reuse_notice.specs.Prefixes.{prefix_text, copyright_sign, longest_first}
use Rattle.reuse_notice.specs.Tags.{is_blank, all_blank, drop_front, drop_end, leaves_value}
use Rattle.reuse_amend.specs.YearSpans.{upto, behind, RunText, run_front}

-- the parts of a notice: all in front of its years and its holder, the years, what stands between years and holder, the
-- holder, and the blank bytes behind; the years come first, or the holder; there may be no years
pub record Parts : Type 0 where
  pub prefix : Prefix
  pub front : List ℕ
  pub years : List ℕ
  pub between : List ℕ
  pub holder : List ℕ
  pub trailing : List ℕ
  pub years_first : Bool

-- the text of a notice
abbrev pub first_of : Parts → List ℕ
first_of p = if p.years_first then p.years else p.holder

abbrev pub last_of : Parts → List ℕ
last_of p = if p.years_first then p.holder else p.years

abbrev pub parts_text : Parts → List ℕ
parts_text p = p.front ++ first_of p ++ p.between ++ last_of p ++ p.trailing

-- ---- what may stand in front of years and holder

-- what follows some bytes and the blank ones behind them, if a text begins so and anything follows; else the text
-- itself
abbrev pub unless_nil : List ℕ → List ℕ → List ℕ
unless_nil text [] = text
unless_nil text (b ∷ rest) = b ∷ rest

abbrev pub past : List ℕ → List ℕ → List ℕ
past lead text =
    if starts_with nat_eq text lead then unless_nil text (drop_front is_blank (drop (length lead) text)) else text

abbrev pub signs : List (List ℕ)
signs = codes "(c)" ∷ codes "(C)" ∷ copyright_sign ∷ []

-- past one of the signs
abbrev pub past_sign : List ℕ → List ℕ
past_sign text = option_map_or (λ sign. past sign text) (find (starts_with nat_eq text) signs) text

-- years and holder, from what follows the prefix: behind blank bytes, perhaps a colon, and perhaps a sign
abbrev pub value_behind : List ℕ → List ℕ
value_behind text = past_sign (past (codes ":") (drop_front is_blank text))

-- a text begins with a prefix, a colon follows, and then more than blank bytes
abbrev pub has_colon : List ℕ → Prefix → Bool
has_colon text prefix =
    let rest = drop (length (prefix_text prefix)) text in
    starts_with nat_eq text (prefix_text prefix) && starts_with nat_eq rest (codes ":") && not (all_blank (drop 1 rest))

-- it begins with a prefix that leaves a value, behind a space or a colon
abbrev pub is_begun_by : List ℕ → Prefix → Bool
is_begun_by text prefix = leaves_value text prefix || has_colon text prefix

-- the longest such prefix
abbrev pub wide_prefix_of : List ℕ → Option Prefix
wide_prefix_of text = find (is_begun_by text) longest_first

-- ---- what may stand between years and holder

abbrev pub starts_blank : List ℕ → Bool
starts_blank [] = false
starts_blank (b ∷ bytes) = is_blank b

-- past the word `by`
abbrev pub past_by : List ℕ → List ℕ
past_by text = if starts_blank (drop 2 text) then past (codes "by") text else text

-- the holder, from what follows the years: behind blank bytes, perhaps a comma, and perhaps `by`
abbrev pub holder_behind : List ℕ → List ℕ
holder_behind rest = past_by (past (codes ",") (drop_front is_blank rest))

-- years that end in front of a blank byte or a comma, and leave a holder
abbrev pub behind_comma : List ℕ → List ℕ
behind_comma rest = unwrap_or (behind (codes ",") (drop_front is_blank rest)) rest

abbrev pub leaves_holder : List ℕ → Bool
leaves_holder rest = (starts_blank rest || starts_with nat_eq rest (codes ",")) && not (all_blank (behind_comma rest))

abbrev pub if_leaves_holder : RunText → Option RunText
if_leaves_holder run = if leaves_holder run.rest then Some run else None

-- ---- years behind the holder

abbrev pub is_no_comma : ℕ → Bool
is_no_comma b = not (b == 44)

-- where years behind a holder are searched for next, behind a text that begins with a comma: behind the comma, or
-- behind the years that follow it; none where these reach to the end
abbrev pub unless_blank : List ℕ → Option (List ℕ)
unless_blank rest = if all_blank rest then None else Some rest

abbrev pub next_searched : List ℕ → Option (List ℕ)
next_searched [] = None
next_searched (comma ∷ bytes) =
    option_map_or (λ run. unless_blank run.rest) (run_front (drop_front is_blank bytes)) (Some bytes)

-- the end of a text from the first comma on that years follow to the end, if there is one; at most n commas are looked
-- at
unfoldable pub years_tail : ℕ → List ℕ → List ℕ
years_tail zero text = []
years_tail (suc n) text =
    let tail = drop_front is_no_comma text in
    option_map_or (years_tail n) (next_searched tail) tail

-- ---- the notice

-- the parts, where the years come first: `value` begins with them, and `rest` follows them
abbrev pub cut_years_first : List ℕ → Prefix → List ℕ → RunText → Parts
cut_years_first text prefix value run =
    let named = holder_behind run.rest in
    let holder = drop_end is_blank named in
    record {
      prefix = prefix;
      front = upto text value;
      years = upto value run.rest;
      between = upto run.rest named;
      holder = holder;
      trailing = drop (length holder) named;
      years_first = true;
    }

-- the parts, where the holder comes first: the text from it on is `named`, and that from the comma on is `tail`
abbrev pub cut_holder_first : List ℕ → Prefix → List ℕ → List ℕ → Parts
cut_holder_first text prefix named tail =
    let holder = drop_end is_blank (upto named tail) in
    let dated = drop_front is_blank (drop 1 tail) in
    let years = drop_end is_blank dated in
    record {
      prefix = prefix;
      front = upto text named;
      years = years;
      between = drop (length holder) (upto named dated);
      holder = holder;
      trailing = drop (length years) dated;
      years_first = false;
    }

-- the tail is searched for behind the first byte, so that a holder is left
abbrev pub tail_of : List ℕ → List ℕ
tail_of named = years_tail (length named) (drop 1 named)

-- the parts of a notice, from years or holder on
abbrev pub parts_from : List ℕ → Prefix → List ℕ → Parts
parts_from text prefix value =
    option_map_or (cut_years_first text prefix value)
    (option_and_then if_leaves_holder (run_front value))
    (cut_holder_first text prefix (holder_behind value) (tail_of (holder_behind value)))

abbrev pub parts_behind : List ℕ → Prefix → Parts
parts_behind text prefix = parts_from text prefix (value_behind (drop (length (prefix_text prefix)) text))

-- the parts of a text that is a notice
abbrev pub parts_of : List ℕ → Option Parts
parts_of text = option_map (parts_behind text) (wide_prefix_of text)
