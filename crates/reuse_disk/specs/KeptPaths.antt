-- What paths lead to where folders are made and removed.
use Rattle.reuse_change.specs.Layout.{journal_folder}
use Rattle.reuse_system.specs.FileStates.{FileState}
use Rattle.reuse_system.specs.Folders.{Folders, HaveSameFiles, StaysAt}

-- Each path leads to the file that it led to. That of the journal leads to the folder that it led to, if there was one.
pub record KeepsPaths (held : FileState) (old new : Folders) : Type 0 where
  pub files : HaveSameFiles old new held
  pub journal : StaysAt journal_folder old new
