-- A line around the value of one of its tags, and with another value there (this project's own).
use Rattle.std.specs.Prelude.{ℕ, ◌==◌, Bool, true, ◌&&◌, ◌||◌, List, [], ◌∷◌, ◌++◌, length, drop, Option, None, Some}
use Rattle.std.specs.Prelude.{if◌then◌else◌, codes}
use Rattle.std.specs.List.{list_all}
use Rattle.std.specs.Str.{bytes_eq}
use Rattle.reuse_notice.specs.Tags.{is_blank, all_blank, trimmed}
use Rattle.reuse_amend.specs.YearSpans.{upto}
use Rattle.reuse_tags.specs.declared.around.Around.{Around}
use Rattle.reuse_tags.specs.Reading.{TagText, value_of}

-- a line in front of a tag and in front of its value, the value, and what stands behind it
pub record AroundText : Type 0 where
  pub front : List ℕ
  pub before : List ℕ
  pub value : List ℕ
  pub behind : List ℕ

abbrev pub around_view : Around → AroundText
around_view p = record { front = p.front.now; before = p.before.now; value = p.value.now; behind = p.behind.now }

-- a line around a tag of the part of it that is read
abbrev pub around_of : List ℕ → List ℕ → TagText → AroundText
around_of line part t = record {
  front = upto part t.tag;
  before = upto part t.rest;
  value = value_of t;
  behind = drop (length (value_of t)) (drop (length (upto part t.rest)) line);
}

-- a byte of the marks of line comments, and of the lines within others: one of #/*;-%
abbrev pub is_comment_byte : ℕ → Bool
is_comment_byte b = b == 35 || b == 47 || b == 42 || b == 59 || b == 45 || b == 37

abbrev pub is_all : ℕ → List ℕ → Bool
is_all mark bytes = list_all (λ b. b == mark) bytes

-- one of these bytes, perhaps repeated, or none
abbrev pub is_repeated : List ℕ → Bool
is_repeated [] = true
is_repeated (mark ∷ others) = is_comment_byte mark && is_all mark others

-- the mark of a line comment, with blanks, perhaps, around it
abbrev pub is_line_mark : List ℕ → Bool
is_line_mark text = is_repeated (trimmed is_blank text)

-- a text is another one with blanks around it
abbrev pub is_only : List ℕ → List ℕ → Bool
is_only part text = bytes_eq (trimmed is_blank text) part

-- what opens and closes a comment stands around a value
abbrev pub is_comment : AroundText → Bool
is_comment p =
    is_only (codes "/*") p.front && is_only (codes "*/") p.behind
    || is_only (codes "<!--") p.front && is_only (codes "-->") p.behind
    || is_only (codes "(*") p.front && is_only (codes "*)") p.behind

-- a line says nothing without its tag, and opens or closes no comment
abbrev pub is_bare : AroundText → Bool
is_bare p = is_line_mark p.front && all_blank p.behind || is_comment p

-- a line with a new value; without one a bare line goes, and another one stays
abbrev pub with_value : AroundText → List ℕ → Option (List ℕ) → Option (List ℕ)
with_value p line None = if is_bare p then None else Some line
with_value p line (Some new) = Some (p.before ++ new ++ p.behind)
