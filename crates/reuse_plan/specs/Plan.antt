-- What a plan of a command is.
use Rattle.std.specs.Prelude.{◌≡◌, Bool, ◌⊎◌, List, [], Result, Ok}
use Rattle.std.specs.Ordering.{nat_cmp, is_lt}
use Rattle.std.specs.Cmp.Lexicographic.{slice_cmp}
use Rattle.std.specs.List.Sorted.{IsPermutation}
use Rattle.reuse_change.specs.Files.{Files, AreFiles}
use Rattle.reuse_change.specs.Change.{path_of}
use Rattle.reuse_change.specs.declared.change.Change.{Change}
use Rattle.reuse_edit.specs.Edit.{Edit}
use Rattle.reuse_change.specs.Entry.{IsEntry, LeadsAll}
use Rattle.reuse_command.specs.declared.reply.Refusal.{Refusal}
use Rattle.reuse_edit.specs.Answered.{MakesEdits}

-- the changes are none or a good entry, and lead from the tree to that of the outcome
pub record IsPlan (given : Result Files Refusal) (tree : Files) (changes : List Change) : Type 0 where
  pub after : Files
  pub outcome : given ≡ Ok after
  pub good : (changes ≡ []) ⊎ IsEntry changes
  pub leads : LeadsAll changes tree after
  pub are_files : AreFiles after

-- the changes are those of the edits, in another order
abbrev pub Records : Files → Result (List Edit) Refusal → List Change → Type 0
Records tree given changes = (listed : List Change) × IsPermutation listed changes × MakesEdits tree given listed

-- ---- their order

-- the one's path is below the other's
abbrev pub is_before : Change → Change → Bool
is_before a b = is_lt (slice_cmp nat_cmp (path_of a) (path_of b))
