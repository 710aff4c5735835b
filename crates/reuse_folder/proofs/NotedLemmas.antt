-- What is noted of files stays what the disk has, behind a put and a removal.
use Rattle.std.proofs.Common.{◌≡◌, ◌≢◌, ◌⊎◌, inl, inr, ℕ, Bool, true, false, List, [], ◌∷◌, length, Option, None, Some}
use Rattle.std.proofs.Common.{Ok, refl, sym, ◌∙◌, ap, subst, arith, true≢false}
use Rattle.std.proofs.lemmas.List.{drop_all, take_all}
use Rattle.std.specs.Bool.{Decides}
use Rattle.std.specs.FinMap.{get, insert, remove}
use Rattle.std.specs.Option.{option_map}
use Rattle.std.specs.Str.{bytes_eq}
use Rattle.std.proofs.lemmas.Slice.Eq.{bytes_eq-Decides}
use Rattle.reuse_change.proofs.FileMaps.{get-put_other, get-put_same, get-removed_other, get-removed_same}
use Rattle.reuse_change.specs.Files.{Files}
use Rattle.reuse_change.specs.Parts.{joined}
use Rattle.reuse_change.specs.declared.parts.Pieces.{Pieces}
use Rattle.reuse_store.specs.Asked.{AreWrites, IsWrite}
use Rattle.reuse_store.specs.declared.file_write.FileWrite.{FileWrite}
use Rattle.reuse_store.specs.declared.store.Store.{Ghosts}
use Rattle.reuse_system.specs.FileStates.{StateFile}
use Rattle.reuse_system.specs.Folders.{IsBarred}
use Rattle.reuse_system.specs.Ignored.{is_ignored}
use Rattle.reuse_system.specs.declared.place.Identity.{Identity}
use Rattle.reuse_folder.specs.Batches.{AreMade, DisksAfter, IsBatch, IsBegun, IsWriteAt}
use Rattle.reuse_folder.specs.Disk.{Disk, file_on, IsOfTree, IsSameTreeBut}
use Rattle.reuse_folder.specs.FolderWrites.{IsGone, IsStoredAt}
use Rattle.reuse_folder.specs.NotedFiles.{IsAsNoted, StayAsNoted, StayAsWritten}
use Rattle.reuse_folder.proofs.PutLemmas.{stored_if}

abbrev bytes_of : Option StateFile → Option (List ℕ)
bytes_of one = option_map (λ one. one.bytes) one

module _ (noted now : Files) (old new : Disk) (path : List ℕ) (others : IsSameTreeBut path old new) where
  differs : (other : List ℕ) → Decides false (other ≡ path) → other ≢ path
  differs other apart e = true≢false (sym (apart.1 e))

  pub put_as_noted : (bytes : List ℕ) (is : Bool) → now ≡ insert noted path bytes
      → IsStoredAt new.folders new.files path bytes is → (other : List ℕ) → IsOfTree other
      → IsAsNoted noted old other → IsAsNoted now new other
  put_as_noted bytes is put stored other of_tree was = by (bytes_eq other path) (bytes_eq-Decides other path)
    where
      by : (b : Bool) → Decides b (other ≡ path) → IsAsNoted now new other
      by true same =
          let here = same.0 refl in
          ap (λ files. get files other) put ∙ ap (get (insert noted path bytes)) here
          ∙ get-put_same noted path bytes ∙ sym (ap bytes_of (ap (file_on new) here ∙ stored.1))
      by false apart =
          let differ = differs other apart in
          ap (λ files. get files other) put ∙ get-put_other noted path bytes other differ ∙ was
          ∙ sym (ap bytes_of (others other of_tree differ))

  pub put_noted : (bytes : List ℕ) (is : Bool) → now ≡ insert noted path bytes
      → IsStoredAt new.folders new.files path bytes is → StayAsNoted noted now old new
  put_noted bytes is put stored other of_tree was = inl (put_as_noted bytes is put stored other of_tree was)

  pub removal_elsewhere : now ≡ remove noted path → (other : List ℕ) → IsOfTree other → other ≢ path
      → IsAsNoted noted old other → IsAsNoted now new other
  removal_elsewhere removed other of_tree differ was =
      ap (λ files. get files other) removed ∙ get-removed_other noted path other differ ∙ was
      ∙ sym (ap bytes_of (others other of_tree differ))

  pub removal_noted : now ≡ remove noted path → IsGone new.folders new.files path → StayAsNoted noted now old new
  removal_noted removed gone other of_tree was = by (bytes_eq other path) (bytes_eq-Decides other path) gone
    where
      by : (b : Bool) → Decides b (other ≡ path) → IsGone new.folders new.files path
          → IsAsNoted now new other ⊎ IsBarred new.folders new.files other
      by true same (inl none) =
          let here = same.0 refl in
          inl (ap (λ files. get files other) removed ∙ ap (get (remove noted path)) here ∙ get-removed_same noted path
          ∙ sym (ap bytes_of (ap (file_on new) here ∙ none)))
      by true same (inr (inl ignored)) =
          absurd (true≢false (sym ignored ∙ ap is_ignored (sym (same.0 refl)) ∙ of_tree.is_kept))
      by true same (inr (inr barred)) = inr (subst (IsBarred new.folders new.files) (sym (same.0 refl)) barred)
      by false apart gone = inl (removal_elsewhere removed other of_tree (differs other apart) was)

-- ---- several writes

module _ {S : Type 0} (store : Ghosts S) (new_files : Identity) (is : Bool) where
  -- a store that is honest behind writes was so before
  was_honest : (writes : List FileWrite) (old new : S) → AreWrites store writes old new (Ok tt) → store.honest new
      → store.honest old
  was_honest [] old new (same, done) honest = subst store.honest same honest
  was_honest (write ∷ writes) old new (inl (failed, fault, bad)) honest = absurd (cc)
  was_honest (write ∷ writes) old new (inr (mid, first, rest)) honest =
      by write.path.now write.file first (was_honest writes mid new rest honest)
    where
      by : (path : List ℕ) (file : Option Pieces) → IsWrite store path file old mid (Ok tt) → store.honest mid
          → store.honest old
      by path None first later = first.1.was_honest later
      by path (Some parts) first later = first.1.was_honest later

  write_noted : (path : List ℕ) (file : Option Pieces) (old new : S) (a b : Disk)
      → IsWrite store path file old new (Ok tt) → store.honest new → IsWriteAt new_files is path file a b true
      → (other : List ℕ) → IsOfTree other → ¬ ((path ≡ other) × (file ≡ None)) → IsAsNoted (store.files old) a other
      → IsAsNoted (store.files new) b other
  write_noted path None old new a b asked honest (made, others) other of_tree free was =
      removal_elsewhere (store.files old) (store.files new) a b path others (asked.0.ok honest) other of_tree
      (λ e. free (sym e, refl)) was
  write_noted path (Some parts) old new a b asked honest (made, others) other of_tree free was =
      put_as_noted (store.files old) (store.files new) a b path others (joined parts) is (asked.0.ok honest).files
      (stored_if new_files b.folders path (joined parts) is a.files b.files (Ok tt) made) other of_tree was

  pub writes_noted : (writes : List FileWrite) (old new : S) (a b : Disk) → AreWrites store writes old new (Ok tt)
      → store.honest new → DisksAfter new_files is writes a b
      → StayAsWritten writes (store.files old) (store.files new) a b
  writes_noted [] old new a b (same, done) honest after path of_tree free was =
      ap (λ one. get (store.files one) path) same ∙ was ∙ sym (ap (λ disk. bytes_of (file_on disk path)) after)
  writes_noted (write ∷ writes) old new a b (inl (failed, fault, bad)) honest after path of_tree free was = absurd (cc)
  writes_noted (write ∷ writes) old new a b (inr (mid, first, rest)) honest (between, one, others) path of_tree free
      was =
      writes_noted writes mid new between b rest honest others path of_tree (λ by. free (inr by))
      (write_noted write.path.now write.file old mid a between first (was_honest writes mid new rest honest) one path
      of_tree (λ removed. free (inl removed)) was)

-- a batch that is done is all of its writes
pub batch_done : (is : Bool) (writes : List FileWrite) (a b : Disk) → (batch : IsBatch is writes a b true)
    → DisksAfter batch.new_files is writes a b
batch_done is writes a b batch =
    let made = batch.all refl in
    let are : AreMade batch.new_files is (length writes) writes a b =
    subst (λ n. AreMade batch.new_files is n writes a b) made batch.are_made in
    let last : b ≡ are.mid =
    subst (λ l. IsBegun batch.new_files is l are.mid b) (drop_all (length writes) writes (omega arith)) are.begun in
    subst (λ d. DisksAfter batch.new_files is writes a d) (sym last)
    (subst (λ l. DisksAfter batch.new_files is l a are.mid) (take_all (length writes) writes (omega arith)) are.all)
