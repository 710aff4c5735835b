-- What annotate and amend do at a path, with what is reported of it.
use Rattle.std.specs.Prelude.{ℕ, false, List, None}
use Rattle.reuse_command.specs.declared.command.HeaderAdditions.{HeaderAdditions}
use Rattle.reuse_header.specs.declared.annotation.How.{How}
use Rattle.reuse_change.specs.Files.{Files}
use Rattle.reuse_edit.specs.Amend.{amended_at}
use Rattle.reuse_edit.specs.Annotate.{annotated_at}
use Rattle.reuse_command.specs.Command.{values_of}
use Rattle.reuse_edit.specs.Harmed.{harm_in}
use Rattle.reuse_edit.specs.Left.{is_left}
use Rattle.reuse_edit.specs.PathEdits.{PathEdit}
use Rattle.reuse_edit.specs.Skipped.{is_skipped}
use Rattle.reuse_style.specs.Kinds.{OwnKinds}
use Rattle.reuse_command.specs.declared.command.FileAmendment.{FileAmendment}
use Rattle.reuse_command.specs.declared.command.Scope.{Scope}

-- what annotate does at a path, where the tree gives these kinds to its own names
abbrev pub annotation_at : How → Scope → HeaderAdditions → OwnKinds → Files → List ℕ → PathEdit
annotation_at how scope additions own tree path =
    record {
      path = path;
      skipped = is_skipped scope own tree path;
      harm = harm_in scope own tree path;
      left = false;
      edit = annotated_at how scope additions own tree path;
    }

-- what amend does at a path: it skips none, and puts no header into a file without one
abbrev pub amendment_at : FileAmendment → Scope → OwnKinds → Files → List ℕ → PathEdit
amendment_at amendment scope own tree path =
    record {
      path = path;
      skipped = false;
      harm = None;
      left = is_left (values_of amendment) tree path (amended_at amendment scope own tree path);
      edit = amended_at amendment scope own tree path;
    }
