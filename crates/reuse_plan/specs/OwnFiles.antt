-- What was read of a tree's own styles, for private clauses.
use Rattle.std.specs.Prelude.{◌≡◌, Ok}
use Rattle.std.specs.FinMap.{get}
use Rattle.reuse_change.specs.Files.{Files}
use Rattle.reuse_style.specs.CommentFile.{comments_of}
use Rattle.reuse_plan.specs.TreeStyles.{styles_path, comments_path}
use Rattle.reuse_plan.specs.declared.styles.OwnFiles.{OwnFiles}

-- the files are those of the tree, and the comments are those that their file gives
pub record AreOwnFiles (tree : Files) (own : OwnFiles) : Type 0 where
  pub styles : get tree styles_path ≡ own.styles
  pub comments_file : get tree comments_path ≡ own.comments_file
  pub comments : comments_of own.comments_file ≡ Ok own.comments
