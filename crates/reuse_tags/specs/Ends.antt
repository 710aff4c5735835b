-- Where a tag's value ends: before the blanks, the quotes and the closers at its line's end (the reuse tool's pattern
-- of a line's end; quotes alone, too: this project's own).
use Rattle.std.specs.Prelude.{ℕ, zero, suc, ◌-◌, ◌==◌, Bool, ◌||◌, nat_eq, List, [], ◌∷◌, length, take}
use Rattle.std.specs.Prelude.{Option, None, Some, if◌then◌else◌, codes}
use Rattle.std.specs.List.{ends_with}
use Rattle.std.specs.Option.{option_map_or, option_and_then, option_or}
use Rattle.reuse_notice.specs.Tags.{is_blank, drop_end}

-- what stands in front of an ending, if a text ends with it
abbrev pub before : List ℕ → List ℕ → Option (List ℕ)
before ending text = if ends_with nat_eq text ending then Some (take (length text - length ending) text) else None

abbrev pub is_quote : ℕ → Bool
is_quote b = b == 34 || b == 39

abbrev pub is_blank_or_quote : ℕ → Bool
is_blank_or_quote b = is_blank b || is_quote b

abbrev pub is_slash : ℕ → Bool
is_slash b = b == 47

-- a text that ends in a quote
abbrev pub if_quoted : List ℕ → Option (List ℕ)
if_quoted text = if ends_with nat_eq text (34 ∷ []) || ends_with nat_eq text (39 ∷ []) then Some text else None

-- in front of what closes a comment, in the styles that have closers
abbrev pub before_comment_end : List ℕ → Option (List ℕ)
before_comment_end text =
    option_or (before (codes "*/") text) (option_or (before (codes "-->") text) (before (codes "*)") text))

-- in front of what closes an element behind a quoted value: blanks, slashes and `>`
abbrev pub before_element_end : List ℕ → Option (List ℕ)
before_element_end text =
    option_and_then (λ front. if_quoted (drop_end is_blank (drop_end is_slash front))) (before (codes ">") text)

-- in front of what closes a bracketed value: `]`, blanks and `::`
abbrev pub before_bracket_end : List ℕ → Option (List ℕ)
before_bracket_end text =
    option_and_then (λ front. before (codes "]") (drop_end is_blank front)) (before (codes "::") text)

-- in front of one of them
abbrev pub before_closer : List ℕ → Option (List ℕ)
before_closer text =
    option_or (before_comment_end text) (option_or (before_element_end text) (before_bracket_end text))

-- a text without the closers at its end, and the blanks and quotes in front of them; at most n closers are dropped
unfoldable pub without_closers : ℕ → List ℕ → List ℕ
without_closers zero text = text
without_closers (suc n) text =
    option_map_or (λ front. without_closers n (drop_end is_blank_or_quote front)) (before_closer text) text

-- a text up to the blanks, quotes and closers at its end
abbrev pub ended : List ℕ → List ℕ
ended text = without_closers (length text) (drop_end is_blank_or_quote text)
