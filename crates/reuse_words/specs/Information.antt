-- Information with texts among its free contents, and without them.
use Rattle.std.specs.Prelude.{ℕ, List, [], ◌∷◌, ◌++◌, length, map, drop, Option, if◌then◌else◌}
use Rattle.std.specs.Option.{option_map_or}
use Rattle.reuse_text.specs.Text.{is_empty}
use Rattle.reuse_notice.specs.declared.infos.Info.{Info}
use Rattle.reuse_notice.specs.Contents.{free_of}
use Rattle.reuse_header.specs.Marks.{LineMarks}
use Rattle.reuse_words.specs.Runs.{with_text, without_text}

-- what stands between a form's mark and its tags
abbrev pub gap_of : Option LineMarks → List ℕ
gap_of marks = option_map_or (λ m. drop (length m.mark) m.lead) marks []

-- a line of a text as a content: set off from the mark as tags are, if it isn't empty
abbrev pub set_in : List ℕ → List ℕ → List ℕ
set_in gap line = if is_empty line then [] else gap ++ line

-- a text as contents
abbrev pub text_in : List ℕ → List (List ℕ) → List (List ℕ)
text_in gap text = map (set_in gap) text

-- contents with texts behind them, one after the other, where they don't hold them
abbrev pub with_texts : List ℕ → List (List (List ℕ)) → List (List ℕ) → List (List ℕ)
with_texts punct [] contents = contents
with_texts punct (text ∷ texts) contents = with_texts punct texts (with_text punct text contents)

-- contents without texts, one after the other
abbrev pub without_texts : List ℕ → List (List (List ℕ)) → List (List ℕ) → List (List ℕ)
without_texts punct [] contents = contents
without_texts punct (text ∷ texts) contents = without_texts punct texts (without_text punct text contents)

-- information with other free contents, without blank ones at their outer ends
abbrev pub with_free : List ℕ → Info → List (List ℕ) → Info
with_free punct info free = record {
  notices = info.notices;
  contributors = info.contributors;
  licences = info.licences;
  free = free_of punct free;
}

-- information with texts, and without texts
abbrev pub info_with : List ℕ → List (List (List ℕ)) → Info → Info
info_with punct texts info = with_free punct info (with_texts punct texts info.free)

abbrev pub info_without : List ℕ → List (List (List ℕ)) → Info → Info
info_without punct texts info = with_free punct info (without_texts punct texts info.free)
