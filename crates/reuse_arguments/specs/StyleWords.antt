-- What the words of `styles` ask for (docs/REFERENCE.md).
use Rattle.std.specs.Prelude.{ℕ, Bool, true, false, not, ◌&&◌, List, [], ◌∷◌, None, Result, Ok, Err, codes}
use Rattle.std.specs.Prelude.{if◌then◌else◌}
use Rattle.std.specs.Str.{bytes_eq}
use Rattle.reuse_notice.specs.Adding.{Arguments, additions_of, refusal_of, without_spaces}
use Rattle.reuse_notice.specs.declared.adding.Additions.{Additions}
use Rattle.reuse_notice.specs.declared.prefixes.Prefix.TheVariants.{Spdx}
use Rattle.reuse_header.specs.declared.annotation.How.{How}
use Rattle.reuse_command.specs.declared.command.Command.{Command}
use Rattle.reuse_command.specs.declared.command.Command.TheVariants.{Annotate}
use Rattle.reuse_command.specs.declared.command.Scope.{Scope}
use Rattle.reuse_command.specs.declared.command.Unknown.TheVariants.{Refuse}
use Rattle.reuse_command.specs.RefusalTexts.{shown}
use Rattle.reuse_ready.specs.Ready.{ready_comments_text, ready_styles_text}
use Rattle.reuse_toml.specs.declared.glob.GlobPiece.{GlobPiece}
use Rattle.reuse_arguments.specs.Choices.{is_dry_run}
use Rattle.reuse_arguments.specs.CommandWords.{tags_alone}
use Rattle.reuse_arguments.specs.Contexts.{ContextView}
use Rattle.reuse_arguments.specs.FileWords.{globs_read, places_read}
use Rattle.reuse_arguments.specs.Found.{Rows, flag}
use Rattle.reuse_arguments.specs.LineFaults.{Mistake, help, then_read, unless_refused, unread}
use Rattle.reuse_arguments.specs.declared.line.NamesUse.{NamesUse}
use Rattle.reuse_arguments.specs.declared.line.NamesUse.TheVariants.{Unused, Listed, Added}

-- ---- the annotation that is refused for the names without a style

-- it is previewed alone, so what it would add says nothing
abbrev pub any_arguments : Arguments
any_arguments = record {
  copyrights = [];
  licences = [];
  contributors = without_spaces (codes "x") ∷ [];
  years = [];
  exclude = true;
  current = 0;
  prefix = Spdx;
}

unfoldable pub any_additions : Result Additions Mistake
any_additions = unless_refused (refusal_of any_arguments) (additions_of any_arguments)

abbrev pub usual_how : How
usual_how = record { form = None; merge = false; replace = true }

-- of the files beneath the places those that no glob excludes; names without a style are refused
abbrev pub scope_of : List (List GlobPiece) → Scope
scope_of globs = record {
  recursive = true;
  style = None;
  force_dot_license = false;
  unknown = Refuse;
  skip_existing = true;
  listed = None;
  excluded = globs;
}

unfoldable pub annotation_read : Rows → ContextView → Result Command Mistake
annotation_read found context =
    then_read (places_read context.folder found) (λ places.
    then_read any_additions (λ additions.
    then_read (globs_read found) (λ globs.
    Ok (Annotate places (tags_alone additions) usual_how (scope_of globs)))))

-- ---- the words

-- objects are asked for of a call that is made, which has none
abbrev pub is_without_objects : Rows → Bool
is_without_objects found =
    flag found (codes "add") && flag found (codes "json") && not (is_dry_run found)

-- a ready table as text, of styles or of comments
abbrev pub ready_table : Bool → List ℕ
ready_table of_comments = shown (if of_comments then ready_comments_text else ready_styles_text)

-- the annotation that `styles` previews; with `--all` a ready table is asked for, and no tree
unfoldable pub styles_read : Rows → ContextView → Result Command Mistake
styles_read found context =
    if flag found (codes "all") then Err (help (ready_table (flag found (codes "comments"))))
    else if is_without_objects found then Err (unread (codes "with --add, --json goes with --dry-run or --check alone"))
    else annotation_read found context

-- what becomes of the names without a style
abbrev pub names_use_of : List ℕ → Rows → ℕ → NamesUse
names_use_of name found moment =
    if not (bytes_eq name (codes "styles")) then Unused
    else if flag found (codes "add") then Added moment (is_dry_run found)
    else Listed
