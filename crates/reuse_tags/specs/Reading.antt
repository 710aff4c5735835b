-- The tags of a line as REUSE's tools read them, wherever they stand in it: each kind once at most (the reuse tool's
-- patterns of tags).
use Rattle.std.specs.Prelude.{ℕ, ◌+◌, Bool, not, ◌&&◌, ◌||◌, nat_eq, nat_lt, List, length, drop}
use Rattle.std.specs.Prelude.{Option, None, Some, if◌then◌else◌}
use Rattle.std.specs.List.{starts_with}
use Rattle.std.specs.Option.{option_map, option_or}
use Rattle.std.specs.Char.{is_ascii_alphanumeric}
use Rattle.reuse_notice.specs.declared.prefixes.Prefix.TheVariants.{Spdx, String, Symbol}
use Rattle.reuse_notice.specs.Prefixes.{prefix_text}
use Rattle.reuse_notice.specs.Tags.{is_blank, drop_front, licence_lead, contributor_lead}
use Rattle.reuse_style.specs.Search.{place_of}
use Rattle.reuse_tags.specs.declared.reading.TagPlace.{TagPlace}
use Rattle.reuse_tags.specs.Ends.{ended}

-- where a tag stands: its line from the tag on, and from its value on
pub record TagText : Type 0 where
  pub tag : List ℕ
  pub rest : List ℕ

abbrev pub tag_view : TagPlace → TagText
tag_view place = record { tag = place.tag.now; rest = place.rest.now }

-- its value, which ends in front of the closers at the line's end
abbrev pub value_of : TagText → List ℕ
value_of t = ended t.rest

-- the first tag of a line that begins with a lead
abbrev pub tag_with : List ℕ → List ℕ → Option TagText
tag_with lead line =
    option_map
    (λ place. record { tag = drop place line; rest = drop_front is_blank (drop (place + length lead) line) })
    (place_of lead line)

abbrev pub licence_tag : List ℕ → Option TagText
licence_tag line = tag_with licence_lead line

abbrev pub contributor_tag : List ℕ → Option TagText
contributor_tag line = tag_with contributor_lead line

-- an ASCII byte that is neither a letter nor a digit
abbrev pub is_mark : ℕ → Bool
is_mark b = nat_lt b 128 && not (is_ascii_alphanumeric b)

-- a text that begins as a notice does without the tag of SPDX
abbrev pub if_notice : List ℕ → Option (List ℕ)
if_notice text =
    if starts_with nat_eq text (prefix_text String) || starts_with nat_eq text (prefix_text Symbol) then Some text
    else None

-- a line from its notice on: from the tag of SPDX, wherever it stands, or else from behind the marks in front
abbrev pub notice_from : List ℕ → Option (List ℕ)
notice_from line =
    option_or (option_map (λ place. drop place line) (place_of (prefix_text Spdx) line))
    (if_notice (drop_front is_mark line))

-- a notice is read with its tag
abbrev pub notice_tag : List ℕ → Option TagText
notice_tag line = option_map (λ text. record { tag = text; rest = text }) (notice_from line)
