-- Which files annotate skips.
use Rattle.std.specs.Prelude.{ℕ, Bool, true, false, ◌&&◌, List, Option, Some, None, is_some, Result, Ok, Err}
use Rattle.std.specs.FinMap.{get}
use Rattle.reuse_header.specs.Header.{header_of}
use Rattle.reuse_style.specs.Kinds.{OwnKinds}
use Rattle.reuse_change.specs.Files.{Files}
use Rattle.reuse_edit.specs.Annotate.{neighbour_of, neighbour_is_tagged, target_of}
use Rattle.reuse_command.specs.declared.command.Scope.{Scope}
use Rattle.reuse_edit.specs.declared.target.Target.{Target}
use Rattle.reuse_edit.specs.declared.target.Target.TheVariants.{Inside, InNeighbour, Nowhere}
use Rattle.reuse_command.specs.declared.reply.Refusal.{Refusal}

-- whether there is a neighbour that has licensing information
abbrev pub has_tagged : Option (List ℕ) → Bool
has_tagged None = false
has_tagged (Some bytes) = neighbour_is_tagged bytes

-- whether a file of these bytes is skipped, whose licensing information goes there: it has no style and such
-- files are skipped, or the place has licensing information and such files are skipped
abbrev pub is_skipped_at : Scope → Files → List ℕ → List ℕ → Result Target Refusal → Bool
is_skipped_at scope tree path bytes (Err refusal) = false
is_skipped_at scope tree path bytes (Ok Nowhere) = true
is_skipped_at scope tree path bytes (Ok InNeighbour) = scope.skip_existing && has_tagged (get tree (neighbour_of path))
is_skipped_at scope tree path bytes (Ok (Inside style)) = scope.skip_existing && is_some (header_of style bytes)

abbrev pub is_skipped_where : Scope → OwnKinds → Files → List ℕ → Option (List ℕ) → Bool
is_skipped_where scope own tree path None = false
is_skipped_where scope own tree path (Some bytes) =
    is_skipped_at scope tree path bytes (target_of scope own tree path bytes)

abbrev pub is_skipped : Scope → OwnKinds → Files → List ℕ → Bool
is_skipped scope own tree path = is_skipped_where scope own tree path (get tree path)
