-- What an edit reports that it takes away and writes is what changes at its path.
use Rattle.std.specs.Prelude.{◌≡◌, ◌⊎◌, ℕ, List, [], ◌++◌, Some, None}
use Rattle.std.specs.FinMap.{get}
use Rattle.reuse_change.specs.Files.{Files}
use Rattle.reuse_edit.specs.Edit.{Edit}

-- a file comes, which is what is written
abbrev pub FileComes : Files → Edit → Type 0
FileComes tree edit = (get tree edit.path ≡ None) × (edit.removed ≡ []) × (edit.file ≡ Some edit.written)

-- a file goes, which is what is removed
abbrev pub FileGoes : Files → Edit → Type 0
FileGoes tree edit = (get tree edit.path ≡ Some edit.removed) × (edit.written ≡ []) × (edit.file ≡ None)

-- between bytes that stay, what is removed gives way to what is written
pub record BytesGiveWay (tree : Files) (edit : Edit) : Type 0 where
  pub front : List ℕ
  pub back : List ℕ
  pub before : get tree edit.path ≡ Some (front ++ edit.removed ++ back)
  pub after : edit.file ≡ Some (front ++ edit.written ++ back)

abbrev pub TakesAndWrites : Files → Edit → Type 0
TakesAndWrites tree edit = FileComes tree edit ⊎ FileGoes tree edit ⊎ BytesGiveWay tree edit
