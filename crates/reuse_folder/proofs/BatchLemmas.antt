-- Writes that are made one after the other.
use Rattle.std.proofs.Common.{◌≡◌, ◌≢◌, ◌⊎◌, ◌<◌, ◌≤◌, ◌+◌, inl, inr, ℕ, zero, suc, Bool, true, false, List, [], ◌∷◌}
use Rattle.std.proofs.Common.{◌++◌, length, get_or, take, drop, Option, None, Some, refl, sym, ◌∙◌, ap, subst, arith}
use Rattle.std.proofs.Common.{true≢false}
use Rattle.std.proofs.Math.Seq.{drop-cons, take-add}
use Rattle.std.proofs.lemmas.List.{drop_all, drop-drop, take_all, take_more}
use Rattle.reuse_change.specs.Parts.{joined}
use Rattle.reuse_change.specs.declared.parts.Pieces.{Pieces}
use Rattle.reuse_store.specs.declared.file_write.FileWrite.{FileWrite}
use Rattle.reuse_system.specs.TempFiles.{IsNewIn, IsNewPlace}
use Rattle.reuse_system.specs.FileStates.{FileState, Holds, Place, place_in}
use Rattle.reuse_system.specs.Folders.{Folders, folder_above}
use Rattle.reuse_system.specs.SystemLaws.{IsAlikeUnless}
use Rattle.reuse_system.specs.declared.place.Identity.{Identity}
use Rattle.reuse_disk.specs.Written.{IsWritten}
use Rattle.reuse_folder.specs.Batches.{AreMade, BeginsWithFile, DisksAfter, IsBegun, IsWriteAt}
use Rattle.reuse_folder.specs.Disk.{Disk}
use Rattle.reuse_folder.specs.FolderWrites.{IsPutAt, IsPutIn}
use Rattle.reuse_folder.specs.NewFileFolder.{IsNewOnly}
use Rattle.reuse_folder.proofs.FolderLemmas.{written_after_clearing}

-- ---- new files before and behind one write

alike_twice : (new_files : Identity) (a b c : FileState) → IsAlikeUnless (IsNewIn new_files) a b
    → IsAlikeUnless (IsNewIn new_files) b c → IsAlikeUnless (IsNewIn new_files) a c
alike_twice new_files a b c one two place away = two place away ∙ one place away

-- put at the same name in the same folder
put_again : (new_files : Identity) (folders also : Folders) (path bytes : List ℕ) (is : Bool) (a b c d : FileState)
    (was_done is_done : Bool) → also ≡ folders → (put : IsPutAt new_files path bytes is a b was_done)
    → folder_above folders path ≡ Some put.folder
    → IsWritten (IsNewPlace new_files put.folder) (place_in put.folder put.name) bytes is c d is_done
    → IsPutIn new_files also path bytes is c d is_done
put_again new_files folders also path bytes is a b c d was_done is_done same put above written =
    inr (
      record {
        folder = put.folder;
        name = put.name;
        is_named = put.is_named;
        apart = put.apart;
        written = written;
      },
      ap (λ f. folder_above f path) same ∙ above,
    )

-- new files came, and then the path was put
pub put_after : (new_files : Identity) (folders : Folders) (path bytes : List ℕ) (is : Bool) (a b c : FileState)
    (is_done : Bool) → IsAlikeUnless (IsNewIn new_files) a b → IsPutIn new_files folders path bytes is b c is_done
    → IsPutIn new_files folders path bytes is a c is_done
put_after new_files folders path bytes is a b c is_done alike (inl not) =
    inl (not.0, alike_twice new_files a b c alike not.1)
put_after new_files folders path bytes is a b c is_done alike (inr (put, above)) =
    put_again new_files folders folders path bytes is b c a c is_done is_done refl put above
    (written_after_clearing new_files put.folder put.name bytes is a b c is_done alike put.written)

-- the path was begun to be put, and then new files went
pub put_before : (new_files : Identity) (folders also : Folders) (path bytes : List ℕ) (is : Bool) (a b c : FileState)
    → also ≡ folders → IsPutIn new_files folders path bytes is a b false → IsAlikeUnless (IsNewIn new_files) b c
    → IsPutIn new_files also path bytes is a c false
put_before new_files folders also path bytes is a b c same (inl not) alike =
    inl (refl, alike_twice new_files a b c not.1 alike)
put_before new_files folders also path bytes is a b c same (inr (put, above)) alike =
    let here = alike (place_in put.folder put.name) (λ new. put.apart (inl new)) in
    put_again new_files folders also path bytes is a b a c false false same put above
    (record {
      done = λ bad. absurd (true≢false (sym bad));
      whole = λ apart. whole here (put.written.whole apart);
      others = λ place away other. alike place (λ new. away (inl new)) ∙ put.written.others place away other;
    })
  where
    whole : {place : Place} → c place ≡ b place → (b place ≡ a place) ⊎ Holds b place bytes is
        → (c place ≡ a place) ⊎ Holds c place bytes is
    whole here (inl e) = inl (here ∙ e)
    whole here (inr holds) = inr (holds.0, here ∙ holds.1)

-- a path that was to be put wasn't
pub not_begun_on : (new_files : Identity) (is : Bool) (path : List ℕ) (file : Option Pieces) (a b : Disk) → file ≢ None
    → IsNewOnly new_files a b → IsWriteAt new_files is path file a b false
not_begun_on new_files is path None a b some alike = absurd (some refl)
not_begun_on new_files is path (Some parts) a b some (alike, same) =
    (inl (refl, alike), λ other of_tree apart. same other of_tree)

pub write_after : (new_files : Identity) (is : Bool) (path : List ℕ) (file : Option Pieces) (a b c : Disk)
    (is_done : Bool) → file ≢ None → IsNewOnly new_files a b
    → IsWriteAt new_files is path file b c is_done → IsWriteAt new_files is path file a c is_done
write_after new_files is path None a b c is_done some alike write = absurd (some refl)
write_after new_files is path (Some parts) a b c is_done some (alike, same) (write, others) = (
  put_after new_files c.folders path (joined parts) is a.files b.files c.files is_done alike write,
  λ other of_tree apart. others other of_tree apart ∙ same other of_tree,
)

pub write_before : (new_files : Identity) (is : Bool) (path : List ℕ) (file : Option Pieces) (a b c : Disk)
    → file ≢ None → c.folders ≡ b.folders → IsWriteAt new_files is path file a b false
    → IsNewOnly new_files b c → IsWriteAt new_files is path file a c false
write_before new_files is path None a b c some same write alike = absurd (some refl)
write_before new_files is path (Some parts) a b c some still (write, others) (alike, same) = (
  put_before new_files b.folders c.folders path (joined parts) is a.files b.files c.files still write alike,
  λ other of_tree apart. same other of_tree ∙ others other of_tree apart,
)

-- ---- writes in a row

pub disks_then : (new_files : Identity) (is : Bool) (xs ys : List FileWrite) (a b c : Disk)
    → DisksAfter new_files is xs a b → DisksAfter new_files is ys b c → DisksAfter new_files is (xs ++ ys) a c
disks_then new_files is [] ys a b c first second = subst (λ d. DisksAfter new_files is ys d c) first second
disks_then new_files is (x ∷ xs) ys a b c (mid, write, rest) second =
    (mid, write, disks_then new_files is xs ys mid b c rest second)

-- one more
pub disks_more : (new_files : Identity) (is : Bool) (writes : List FileWrite) (k : ℕ) (write : FileWrite) (a b c : Disk)
    → k < length writes → write ≡ get_or writes k write
    → DisksAfter new_files is (take k writes) a b → IsWriteAt new_files is write.path.now write.file b c true
    → DisksAfter new_files is (take (k + 1) writes) a c
disks_more new_files is writes k write a b c short at first one =
    subst (λ l. DisksAfter new_files is l a c)
    (ap (λ (w : FileWrite). take k writes ++ (w ∷ [])) at ∙ sym (take_more writes k write short))
    (disks_then new_files is (take k writes) (write ∷ []) a b c first (c, one, refl))

-- so many, and then so many of the others
pub disks_add : (new_files : Identity) (is : Bool) (writes : List FileWrite) (k n : ℕ) (a b c : Disk)
    → DisksAfter new_files is (take k writes) a b → DisksAfter new_files is (take n (drop k writes)) b c
    → DisksAfter new_files is (take (k + n) writes) a c
disks_add new_files is writes k n a b c first second =
    subst (λ l. DisksAfter new_files is l a c) (sym (take-add k n writes))
    (disks_then new_files is (take k writes) (take n (drop k writes)) a b c first second)

-- new files came before the first write, which puts a file
pub disks_behind : (new_files : Identity) (is : Bool) (writes : List FileWrite) (count : ℕ) (a b c : Disk)
    → BeginsWithFile writes → 0 < count → IsNewOnly new_files a b
    → DisksAfter new_files is (take count writes) b c → DisksAfter new_files is (take count writes) a c
disks_behind new_files is [] count a b c begins some alike after = absurd begins
disks_behind new_files is (write ∷ writes) zero a b c begins some alike after = absurd (omega (arith, some))
disks_behind new_files is (write ∷ writes) (suc count) a b c begins some alike (mid, one, rest) =
    (mid, write_after new_files is write.path.now write.file a b mid true begins alike one, rest)

begun_behind : (new_files : Identity) (is : Bool) (writes : List FileWrite) (a b c : Disk) → BeginsWithFile writes
    → IsNewOnly new_files a b → IsBegun new_files is writes b c
    → IsBegun new_files is writes a c
begun_behind new_files is [] a b c begins alike begun = absurd begins
begun_behind new_files is (write ∷ writes) a b c begins alike begun =
    write_after new_files is write.path.now write.file a b c false begins alike begun

-- the same where it stopped
pub made_behind : (new_files : Identity) (is : Bool) (writes : List FileWrite) (made : ℕ) (a b c : Disk)
    → BeginsWithFile writes → IsNewOnly new_files a b
    → AreMade new_files is made writes b c → AreMade new_files is made writes a c
made_behind new_files is writes zero a b c begins alike made =
    record {
      mid = a;
      all = refl;
      begun = begun_behind new_files is writes a b c begins alike
          (subst (λ d. IsBegun new_files is writes d c) made.all made.begun);
    }
made_behind new_files is writes (suc made) a b c begins alike are =
    record {
      mid = are.mid;
      all = disks_behind new_files is writes (suc made) a b are.mid begins (omega arith) alike are.all;
      begun = are.begun;
    }

-- none was made, and new files came
pub none_made : (new_files : Identity) (is : Bool) (writes : List FileWrite) (a b : Disk) → BeginsWithFile writes
    → IsNewOnly new_files a b → AreMade new_files is 0 writes a b
none_made new_files is [] a b begins alike = absurd begins
none_made new_files is (write ∷ writes) a b begins alike =
    record { mid = a; all = refl; begun = not_begun_on new_files is write.path.now write.file a b begins alike }

-- so many were made, and the next one failed
pub made_to : (new_files : Identity) (is : Bool) (writes : List FileWrite) (k : ℕ) (write : FileWrite) (a b c : Disk)
    → k < length writes → write ≡ get_or writes k write → DisksAfter new_files is (take k writes) a b
    → IsWriteAt new_files is write.path.now write.file b c false → AreMade new_files is k writes a c
made_to new_files is writes k write a b c short at first failed =
    record {
      mid = b;
      all = first;
      begun = subst (λ l. IsBegun new_files is l b c)
          (ap (λ (w : FileWrite). w ∷ drop (suc k) writes) at ∙ sym (drop-cons writes k write short)) failed;
    }

-- so many were made, and then it stopped in those behind
pub made_add : (new_files : Identity) (is : Bool) (writes : List FileWrite) (k n : ℕ) (a b c : Disk)
    → DisksAfter new_files is (take k writes) a b → AreMade new_files is n (drop k writes) b c
    → AreMade new_files is (k + n) writes a c
made_add new_files is writes k n a b c first made =
    record {
      mid = made.mid;
      all = disks_add new_files is writes k n a b made.mid first made.all;
      begun = subst (λ l. IsBegun new_files is l made.mid c) (drop-drop n k writes) made.begun;
    }

-- all were made
pub all_made : (new_files : Identity) (is : Bool) (writes : List FileWrite) (k : ℕ) (a b : Disk) → length writes ≤ k
    → DisksAfter new_files is (take k writes) a b → AreMade new_files is (length writes) writes a b
all_made new_files is writes k a b long after =
    record {
      mid = b;
      all = subst (λ l. DisksAfter new_files is l a b)
          (take_all k writes long ∙ sym (take_all (length writes) writes (omega arith))) after;
      begun = subst (λ l. IsBegun new_files is l b b) (sym (drop_all (length writes) writes (omega arith))) refl;
    }

-- where the first of these puts a file
pub begins : (writes : List FileWrite) (write : FileWrite) → 0 < length writes → write ≡ get_or writes 0 write
    → write.file ≢ None → BeginsWithFile writes
begins [] write some at file = absurd (omega (arith, some))
begins (first ∷ writes) write some at file = subst (λ (w : FileWrite). w.file ≢ None) at file

-- a removal is one write
pub removal_begun : (new_files : Identity) (is : Bool) (writes : List FileWrite) (write : FileWrite) (a b : Disk)
    → 0 < length writes → write ≡ get_or writes 0 write → IsWriteAt new_files is write.path.now write.file a b false
    → AreMade new_files is 0 writes a b
removal_begun new_files is writes write a b some at failed =
    made_to new_files is writes 0 write a a b some at refl failed
