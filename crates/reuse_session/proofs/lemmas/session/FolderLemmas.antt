-- What a call leaves of the journal's folder, from what its parts leave.
use Rattle.std.proofs.Common.{◌≡◌, ℕ, ◌<◌, List, length, arith, cond, None, refl, sym, ap, ◌∙◌}
use Rattle.std.specs.FinMap.{get}
use Rattle.reuse_change.specs.Files.{Files}
use Rattle.reuse_change.specs.Path.{lies_under, journal_folder}
use Rattle.reuse_tree.specs.Head.{head_text}
use Rattle.reuse_journal.specs.JournalFiles.{head_path, entry_path}
use Rattle.reuse_journal.specs.Remembered.{HasEntryText, IsSameBut, IsSameButTwo}
use Rattle.reuse_change.specs.Tree.{undo_folder_of}
use Rattle.reuse_json.specs.declared.entry.Entry.{Entry}
use Rattle.reuse_tree.specs.declared.journal.head.Head.{Head}
use Rattle.reuse_journal.proofs.JournalLemmas.{entry_in_folder, entry_path_is_not_head}
use Rattle.reuse_journal.proofs.JournalReading.{file_in_folder}
use Rattle.reuse_store.proofs.OfTree.{get-folder}

-- where the files stay, so does the folder
pub folder_stays : (files new : Files) (path : List ℕ) → new ≡ files
    → IsSameBut path (undo_folder_of files) (undo_folder_of new)
folder_stays files new path same other ne = ap (λ f. get (undo_folder_of f) other) same

module _ (files put : Files) (number : ℕ) (others : IsSameBut (entry_path number) files put) where
  -- an entry was put
  pub folder_put : IsSameButTwo (entry_path number) head_path (undo_folder_of files) (undo_folder_of put)
  folder_put other ne neither =
      get-folder put other ∙ ap (λ file. cond (lies_under other journal_folder) file None) (others other ne)
      ∙ sym (get-folder files other)

  -- and then a head
  pub folder_stepped : (after : Files) → IsSameBut head_path (undo_folder_of put) (undo_folder_of after)
      → IsSameButTwo (entry_path number) head_path (undo_folder_of files) (undo_folder_of after)
  folder_stepped after same other ne neither = same other neither ∙ folder_put other ne neither

-- the entry's text stays beside a head that is put
pub entry_text_stays : (put after : Files) (number : ℕ) (entry : Entry)
    → IsSameBut head_path (undo_folder_of put) (undo_folder_of after)
    → HasEntryText number entry put → HasEntryText number entry after
entry_text_stays put after number entry same here =
    let path = entry_path number in
    file_in_folder after path path refl (entry_in_folder number) ∙ same path (entry_path_is_not_head number)
    ∙ sym (file_in_folder put path path refl (entry_in_folder number)) ∙ here

-- a text of a head is not empty
pub some_text : (text : List ℕ) (head : Head) → text ≡ head_text head → 0 < length text
some_text text head is = omega (arith, ap length is)
