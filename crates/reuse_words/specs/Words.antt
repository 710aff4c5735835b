-- The words of contents: what stands between blanks and line ends, without the style's punctuation at the start of a
-- content (docs/RULES.md, "Words of a header").
use Rattle.std.specs.Prelude.{ℕ, Bool, true, List, [], ◌∷◌, flat_map, if◌then◌else◌}
use Rattle.std.specs.Str.{bytes_eq}
use Rattle.reuse_notice.specs.Tags.{is_blank, is_filler, drop_front}

-- whether a word ends in front of some bytes
abbrev pub ends_word : List ℕ → Bool
ends_word [] = true
ends_word (b ∷ bytes) = is_blank b

-- the words of a text, each with one space behind it: two texts have the same words, in order, where these are the
-- same bytes
unfoldable pub spaced_words : List ℕ → List ℕ
spaced_words [] = []
spaced_words (b ∷ bytes) =
    if is_blank b then spaced_words bytes
    else b ∷ (if ends_word bytes then 32 ∷ spaced_words bytes else spaced_words bytes)

-- the words of a content, where `punct` are the style's punctuation
abbrev pub words_in : List ℕ → List ℕ → List ℕ
words_in punct content = spaced_words (drop_front (is_filler punct) content)

-- the words of contents
abbrev pub words_of : List ℕ → List (List ℕ) → List ℕ
words_of punct contents = flat_map (words_in punct) contents

-- contents are the same text where their words are equal, in order
abbrev pub is_same_text : List ℕ → List (List ℕ) → List (List ℕ) → Bool
is_same_text punct contents others = bytes_eq (words_of punct contents) (words_of punct others)
