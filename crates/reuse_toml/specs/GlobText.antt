-- How a glob is written in a `path`, and how a `path` is read (REUSE Specification 3.3, "REUSE.toml").
use Rattle.std.specs.Prelude.{ℕ, Bool, true, false, ◌==◌, ◌&&◌, ◌||◌, ◌≡◌, List, [], ◌∷◌, Option, Some, None, flat_map}
use Rattle.std.specs.Prelude.{encode_utf8, if◌then◌else◌}
use Rattle.reuse_toml.specs.declared.glob.GlobPiece.{GlobPiece}
use Rattle.reuse_toml.specs.declared.glob.GlobPiece.TheVariants.{Literal, RunInPart, AnyRun}

-- a piece of a glob, as it is written
abbrev pub piece_text : GlobPiece → List ℕ
piece_text (Literal c) = if c == 42 then 92 ∷ 42 ∷ [] else if c == 92 then 92 ∷ 92 ∷ [] else encode_utf8 c
piece_text RunInPart = 42 ∷ []
piece_text AnyRun = 42 ∷ 42 ∷ []

-- a glob, as it is written
abbrev pub glob_text : List GlobPiece → List ℕ
glob_text pieces = flat_map piece_text pieces

-- what a character stands for where neither a backslash nor another `*` is beside it
abbrev pub single_piece : ℕ → GlobPiece
single_piece c = if c == 42 then RunInPart else Literal c

-- a piece in front of the pieces of what follows
abbrev pub onto_glob : GlobPiece → Option (List GlobPiece) → Option (List GlobPiece)
onto_glob piece None = None
onto_glob piece (Some pieces) = Some (piece ∷ pieces)

-- The glob that the characters of a `path` spell: `**` is any run, another `*` a run without `/`, and a backslash makes
-- a `*` or a backslash literal. None where a backslash is before another character or at the end.
abbrev pub read_glob : List ℕ → Option (List GlobPiece)
read_glob [] = Some []
read_glob (c ∷ []) = if c == 92 then None else Some (single_piece c ∷ [])
read_glob (c ∷ d ∷ cs) =
    if c == 92 then (if d == 42 || d == 92 then onto_glob (Literal d) (read_glob cs) else None)
    else if c == 42 && d == 42 then onto_glob AnyRun (read_glob cs)
    else onto_glob (single_piece c) (read_glob (d ∷ cs))

-- the characters that a glob names
abbrev pub glob_literals : List GlobPiece → List ℕ
glob_literals [] = []
glob_literals (Literal c ∷ pieces) = c ∷ glob_literals pieces
glob_literals (_ ∷ pieces) = glob_literals pieces

-- the first piece is a run
abbrev pub begins_with_run : List GlobPiece → Bool
begins_with_run [] = false
begins_with_run (Literal c ∷ pieces) = false
begins_with_run (RunInPart ∷ pieces) = true
begins_with_run (AnyRun ∷ pieces) = true

-- no `*` stands directly before another run, with which it would be read as `**`
abbrev pub HasRunsApart : List GlobPiece → Type 0
HasRunsApart [] = Unit {0}
HasRunsApart (Literal c ∷ pieces) = HasRunsApart pieces
HasRunsApart (RunInPart ∷ pieces) = (begins_with_run pieces ≡ false) × HasRunsApart pieces
HasRunsApart (AnyRun ∷ pieces) = HasRunsApart pieces
