-- What an annotation that is asked for does, by the styles of its tree.
use Rattle.std.specs.Prelude.{ℕ, false, ◌&&◌, List, Option, None, is_some, Result}
use Rattle.std.specs.FinMap.{get}
use Rattle.reuse_header.specs.Header.{header_of}
use Rattle.reuse_style.specs.Kinds.{OwnKinds, kinds_by}
use Rattle.reuse_style.specs.declared.style.Style.{Style}
use Rattle.reuse_change.specs.Files.{Files}
use Rattle.reuse_edit.specs.Annotate.{neighbour_of, annotated_at, edit_of_neighbour, edit_inside, edit_neighbour}
use Rattle.reuse_edit.specs.Annotate.{edit_target, target_by_bytes}
use Rattle.reuse_edit.specs.Edit.{Edit}
use Rattle.reuse_edit.specs.Harmed.{harm_at, harm_inside}
use Rattle.reuse_edit.specs.AtPath.{annotation_at}
use Rattle.reuse_edit.specs.PathEdits.{PathEdit}
use Rattle.reuse_edit.specs.Skipped.{has_tagged, is_skipped_at}
use Rattle.reuse_edit.specs.declared.annotation.Annotation.{Annotation}
use Rattle.reuse_command.specs.declared.reply.Refusal.{Refusal}
use Rattle.reuse_edit.specs.declared.target.Target.{Target}

-- the tree's own styles
abbrev pub own_of : Annotation → OwnKinds
own_of asked = kinds_by asked.styles.now

abbrev pub annotated_by : Annotation → Files → List ℕ → Result (Option Edit) Refusal
annotated_by asked tree path = annotated_at asked.how.now asked.scope.now asked.additions.now (own_of asked) tree path

-- where the neighbour is the place
abbrev pub beside_by : Annotation → Files → List ℕ → Result (Option Edit) Refusal
beside_by asked tree path = edit_of_neighbour asked.how.now asked.scope.now asked.additions.now tree path

-- where it is, and holds this
abbrev pub neighbour_by : Annotation → Files → List ℕ → Option (List ℕ) → Result (Option Edit) Refusal
neighbour_by asked tree path file = edit_neighbour asked.how.now asked.scope.now asked.additions.now tree path file

-- in the comment of the file, of these bytes
abbrev pub inside_by : Annotation → List ℕ → List ℕ → Style → Result (Option Edit) Refusal
inside_by asked path bytes style = edit_inside asked.how.now asked.scope.now asked.additions.now path bytes style

-- the place by the bytes of the file
abbrev pub place_by : Annotation → List ℕ → List ℕ → Result Target Refusal
place_by asked path bytes = target_by_bytes asked.scope.now (own_of asked) path bytes

-- where this is the place
abbrev pub edit_by_place : Annotation → Files → List ℕ → List ℕ → Result Target Refusal → Result (Option Edit) Refusal
edit_by_place asked tree path bytes place =
    edit_target asked.how.now asked.scope.now asked.additions.now tree path bytes place

-- ---- path by path

abbrev pub path_by : Annotation → Files → List ℕ → PathEdit
path_by asked tree path = annotation_at asked.how.now asked.scope.now asked.additions.now (own_of asked) tree path

-- where this is the place of a file of these bytes
abbrev pub path_by_place : Annotation → Files → List ℕ → List ℕ → Result Target Refusal → PathEdit
path_by_place asked tree path bytes place =
    record {
      path = path;
      skipped = is_skipped_at asked.scope.now tree path bytes place;
      harm = harm_at bytes place;
      left = false;
      edit = edit_by_place asked tree path bytes place;
    }

-- where the neighbour is the place
abbrev pub path_beside_by : Annotation → Files → List ℕ → PathEdit
path_beside_by asked tree path =
    record {
      path = path;
      skipped = asked.scope.now.skip_existing && has_tagged (get tree (neighbour_of path));
      harm = None;
      left = false;
      edit = beside_by asked tree path;
    }

-- where it is, and holds this
abbrev pub path_neighbour_by : Annotation → Files → List ℕ → Option (List ℕ) → PathEdit
path_neighbour_by asked tree path file =
    record {
      path = path;
      skipped = asked.scope.now.skip_existing && has_tagged file;
      harm = None;
      left = false;
      edit = neighbour_by asked tree path file;
    }

-- where the comment of the file is the place, which has these bytes
abbrev pub path_inside_by : Annotation → List ℕ → List ℕ → Style → PathEdit
path_inside_by asked path bytes style =
    record {
      path = path;
      skipped = asked.scope.now.skip_existing && is_some (header_of style bytes);
      harm = harm_inside style bytes;
      left = false;
      edit = inside_by asked path bytes style;
    }
