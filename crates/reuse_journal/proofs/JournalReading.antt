-- What was read and put of the journal's files.
use Rattle.std.proofs.Common.{◌≡◌, ⊎_elim, ℕ, ◌≤◌, Bool, true, false, cond, List, length, Some, None, sym, ap, ◌∙◌}
use Rattle.std.proofs.Common.{subst, arith}
use Rattle.std.specs.FinMap.{get}
use Rattle.reuse_change.specs.Files.{Files}
use Rattle.reuse_change.specs.Path.{lies_under, journal_folder}
use Rattle.reuse_store.specs.Store.{counted, Puts, PutFails}
use Rattle.reuse_store.specs.declared.fault.StoreFault.{StoreFault}
use Rattle.reuse_json.specs.EntryText.{IsGoodEntry}
use Rattle.reuse_journal.specs.JournalFiles.{head_path, entry_path, EntrySays}
use Rattle.reuse_journal.specs.Remembered.{IsSameBut}
use Rattle.reuse_change.specs.Tree.{undo_folder_of}
use Rattle.reuse_json.specs.declared.entry.Entry.{Entry}
use Rattle.reuse_store.proofs.OfTree.{get-folder}
use Rattle.reuse_store.proofs.ApplyLemmas.{put_sets, put_doubt}

-- a file of the folder, read at a path that is its
pub file_in_folder : (files : Files) (path place : List ℕ) → path ≡ place → lies_under place journal_folder ≡ true
    → get files path ≡ get (undo_folder_of files) place
file_in_folder files path place is under =
    ap (get files) is ∙ sym (get-folder files place ∙ ap (λ b. cond b (get files place) None) under)

-- ---- puts

pub put_says : (m n : Files) (path bytes text : List ℕ) (number : ℕ) (entry : Entry) → path ≡ entry_path number
    → bytes ≡ text → Puts path bytes m n
    → IsGoodEntry text entry → EntrySays (get n (entry_path number)) entry
put_says m n path bytes text number entry is same puts good =
    subst (λ f. EntrySays f entry)
    (sym (ap (get n) (sym is) ∙ (put_sets m n path bytes puts).here ∙ ap (λ b. Some b) same)) good

pub put_beside : (m n : Files) (path bytes : List ℕ) (number : ℕ) → path ≡ entry_path number → Puts path bytes m n
    → IsSameBut (entry_path number) m n
put_beside m n path bytes number is puts = subst (λ p. IsSameBut p m n) is (put_sets m n path bytes puts).elsewhere

pub failed_beside : (fault : StoreFault) (m n : Files) (path bytes : List ℕ) (number : ℕ) → path ≡ entry_path number
    → PutFails fault path bytes m n → IsSameBut (entry_path number) m n
failed_beside fault m n path bytes number is fails = ⊎_elim
    (λ same other ne. ap (λ files. get files other) same)
    (λ sets. subst (λ p. IsSameBut p m n) is sets.elsewhere)
    (put_doubt fault m n path bytes fails)

pub counted_most : (path bytes : List ℕ) → counted path bytes ≤ length bytes
counted_most path bytes = test (lies_under path journal_folder)
  where
    test : (b : Bool) → cond b (length bytes) 0 ≤ length bytes
    test true = omega arith
    test false = omega arith

-- all bytes for a file of the journal count
pub counted_entry : (path bytes : List ℕ) (number : ℕ) → path ≡ entry_path number → counted path bytes ≡ length bytes
counted_entry path bytes number is = ap (λ p. counted p bytes) is

pub counted_head : (path bytes : List ℕ) → path ≡ head_path → counted path bytes ≡ length bytes
counted_head path bytes is = ap (λ p. counted p bytes) is
