-- Where a text stands among contents: the first run of contents that is the same text. A run begins and ends with
-- contents that have words (docs/RULES.md, "Words of a header").
use Rattle.std.specs.Prelude.{◌≡◌, ◌≢◌, ◌≤◌, ℕ, suc, ◌+◌, Bool, ◌||◌, nat_eq, List, [], ◌∷◌, ◌++◌}
use Rattle.std.specs.Prelude.{length, map, take, drop, Option, None, Some, is_some, option_and_then}
use Rattle.std.specs.Prelude.{if◌then◌else◌}
use Rattle.std.specs.List.{starts_with}
use Rattle.std.specs.Option.{option_map, option_map_or, option_or}
use Rattle.reuse_text.specs.Text.{is_empty}
use Rattle.reuse_notice.specs.Contents.{is_nil}
use Rattle.reuse_words.specs.declared.runs.Run.{Run}
use Rattle.reuse_words.specs.Words.{words_in, words_of}

-- ---- runs of rows, where a row is the words of one content

-- the words that are left behind those of a row, if they begin with these
abbrev pub words_behind : List ℕ → List ℕ → Option (List ℕ)
words_behind row words = if starts_with nat_eq words row then Some (drop (length row) words) else None

-- how many rows, from the first on, have these words together: as few as may be
unfoldable pub run_count : List ℕ → List (List ℕ) → Option ℕ
run_count [] rows = Some 0
run_count (w ∷ words) [] = None
run_count (w ∷ words) (row ∷ rows) =
    option_map (λ count. suc count) (option_and_then (λ left. run_count left rows) (words_behind row (w ∷ words)))

-- the run that begins with the first row, if that has words
abbrev pub run_here : List ℕ → List ℕ → List (List ℕ) → Option Run
run_here words row rows =
    if is_empty row then None
    else option_map (λ count. record { start = 0; count = count }) (run_count words (row ∷ rows))

-- a run behind one row more
abbrev pub later : Run → Run
later run = record { start = suc run.start; count = run.count }

-- the run that begins at the least row
unfoldable pub first_run : List ℕ → List (List ℕ) → Option Run
first_run words [] = None
first_run words (row ∷ rows) = option_or (run_here words row rows) (option_map later (first_run words rows))

-- ---- runs of contents

-- the first run of contents that is a text, which has words
unfoldable pub run_of : List ℕ → List (List ℕ) → List (List ℕ) → Option Run
run_of punct text contents =
    let words = words_of punct text in
    if is_empty words then None else first_run words (map (words_in punct) contents)

-- contents hold a text: a run of them is it, or it has no words
abbrev pub holds_text : List ℕ → List (List ℕ) → List (List ℕ) → Bool
holds_text punct text contents = is_empty (words_of punct text) || is_some (run_of punct text contents)

-- contents without a run of them
abbrev pub without_run : List (List ℕ) → Run → List (List ℕ)
without_run contents run = take run.start contents ++ drop (run.start + run.count) contents

-- contents without the first run that is a text; all stay where none is
abbrev pub without_text : List ℕ → List (List ℕ) → List (List ℕ) → List (List ℕ)
without_text punct text contents = option_map_or (without_run contents) (run_of punct text contents) contents

-- an empty content behind others
abbrev pub separated : List (List ℕ) → List (List ℕ)
separated contents = if is_nil contents then [] else contents ++ [] ∷ []

-- contents with a text behind them, set off from them, where they don't hold it
abbrev pub with_text : List ℕ → List (List ℕ) → List (List ℕ) → List (List ℕ)
with_text punct text contents = if holds_text punct text contents then contents else separated contents ++ text

-- ---- runs as a relation

-- the first of some contents has words
abbrev pub BeginsWithWords : List ℕ → List (List ℕ) → Type 0
BeginsWithWords punct contents =
    (first : List ℕ) × (others : List (List ℕ)) × (contents ≡ first ∷ others) × (words_in punct first ≢ [])

abbrev pub EndsWithWords : List ℕ → List (List ℕ) → Type 0
EndsWithWords punct contents =
    (others : List (List ℕ)) × (last : List ℕ) × (contents ≡ others ++ last ∷ []) × (words_in punct last ≢ [])

-- contents are a run with these words: they begin and end with some
pub record IsRun (punct words : List ℕ) (run : List (List ℕ)) : Type 0 where
  pub says : words_of punct run ≡ words
  pub begins : BeginsWithWords punct run
  pub ends : EndsWithWords punct run

-- contents are cut in three, the second part a run
pub record IsCut (punct words : List ℕ) (contents front run back : List (List ℕ)) : Type 0 where
  pub joined : contents ≡ front ++ (run ++ back)
  pub is_run : IsRun punct words run

-- the same, and no run begins at a lesser content
pub record IsFirstRun (punct words : List ℕ) (contents front run back : List (List ℕ)) : Type 0 where
  pub cut : IsCut punct words contents front run back
  pub least : (before other behind : List (List ℕ)) → IsCut punct words contents before other behind
      → length front ≤ length before
