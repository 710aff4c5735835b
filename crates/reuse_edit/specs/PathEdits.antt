-- What a command does path by path, and what that makes together.
use Rattle.std.specs.Prelude.{ℕ, Bool, false, List, [], ◌∷◌, map, Option, Some, None, Result, Ok, Err}
use Rattle.reuse_header.specs.declared.harm.Harm.{Harm}
use Rattle.reuse_edit.specs.Edit.{Edit}
use Rattle.reuse_command.specs.declared.reply.Refusal.{Refusal}

-- what is done at a path: an edit, or nothing, or a refusal; whether the file is skipped where nothing is done; if the
-- edit puts the file's first header into it, what that could break; and whether amend leaves there what it names
pub record PathEdit : Type 0 where
  pub path : List ℕ
  pub skipped : Bool
  pub harm : Option Harm
  pub left : Bool
  pub edit : Result (Option Edit) Refusal

-- a refusal that is of no path
abbrev pub refused_with : Refusal → PathEdit
refused_with refusal = record { path = []; skipped = false; harm = None; left = false; edit = Err refusal }

abbrev pub refused_alone : Refusal → List PathEdit
refused_alone refusal = refused_with refusal ∷ []

abbrev pub edited_at : Edit → PathEdit
edited_at edit = record { path = edit.path; skipped = false; harm = None; left = false; edit = Ok (Some edit) }

-- edits that are all made, or refused together
abbrev pub all_or_none : Result (List Edit) Refusal → List PathEdit
all_or_none (Err refusal) = refused_alone refusal
all_or_none (Ok edits) = map edited_at edits

-- ---- together

-- an edit, or none, in front of others; the first refusal stands
abbrev pub with_edit : Option Edit → Result (List Edit) Refusal → Result (List Edit) Refusal
with_edit first (Err refusal) = Err refusal
with_edit None (Ok edits) = Ok edits
with_edit (Some edit) (Ok edits) = Ok (edit ∷ edits)

abbrev pub or_first : Result (Option Edit) Refusal → Result (List Edit) Refusal → Result (List Edit) Refusal
or_first (Err refusal) rest = Err refusal
or_first (Ok first) rest = with_edit first rest

-- the edits in the order of their paths, or the first refusal
abbrev pub edits_in : List PathEdit → Result (List Edit) Refusal
edits_in [] = Ok []
edits_in (first ∷ rest) = or_first first.edit (edits_in rest)
