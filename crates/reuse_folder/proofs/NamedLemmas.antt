-- New files that stood aside get their names.
use Rattle.std.proofs.Common.{◌≡◌, ◌≢◌, ◌⊎◌, ◌<◌, ◌+◌, inl, inr, ℕ, Bool, true, false, List, Option, None, Some, refl}
use Rattle.std.proofs.Common.{sym, ◌∙◌, ap, subst, arith, true≢false}
use Rattle.reuse_change.specs.Parts.{joined}
use Rattle.reuse_change.specs.declared.parts.Pieces.{Pieces}
use Rattle.reuse_store.specs.declared.file_write.FileWrite.{FileWrite}
use Rattle.reuse_system.specs.TempFiles.{IsNewIn, IsNewPlace, beside_name, key_of, place_of}
use Rattle.reuse_system.specs.FileStates.{FileKey, FileState, StateFile, Place, Holds, IsNot, file, place_in}
use Rattle.reuse_system.specs.Folders.{Folders, folder_above}
use Rattle.reuse_system.specs.Names.{IsNameOf}
use Rattle.reuse_system.specs.SystemLaws.{IsAlikeBut, IsAlikeUnless, IsOneFile, IsRemoved}
use Rattle.reuse_system.specs.declared.place.Identity.{Identity}
use Rattle.reuse_disk.specs.Written.{IsMoved, IsPlaced, IsWritten, LeavesNone}
use Rattle.reuse_disk.proofs.PlaceLemmas.{beside_is_no_new, folder_of_place}
use Rattle.reuse_disk.proofs.WrittenLemmas.{written_again, written_of_placed}
use Rattle.reuse_folder.specs.Batches.{IsWriteOn}
use Rattle.reuse_folder.specs.Disk.{Disk}
use Rattle.reuse_folder.specs.FolderWrites.{IsNewOf, IsPutIn}
use Rattle.reuse_folder.specs.Rounds.{new_place, AreGone, HasPlace, IsNamed, IsNumbered, StandsTempFile}
use Rattle.reuse_folder.specs.declared.folder.batch.NewContent.{NewContent}
use Rattle.reuse_disk.proofs.AtLemmas.{front_or_last}
use Rattle.reuse_folder.proofs.RoundLemmas.{numbered_is_new, other_place, place_decided, place_is_new}

-- ---- a file of this write and another one

write_of : (new_files : Identity) (is : Bool) (path : List ℕ) (file : Option Pieces) (parts : Pieces) (a b : Disk)
    (is_done : Bool) → file ≡ Some parts → IsPutIn new_files b.folders path (joined parts) is a.files b.files is_done
    → IsWriteOn new_files is path file a b is_done
write_of new_files is path None parts a b is_done bad put = absurd (cc)
write_of new_files is path (Some one) parts a b is_done same put =
    let is_one : one ≡ parts = cc in
    subst (λ (p : Pieces). IsPutIn new_files b.folders path (joined p) is a.files b.files is_done) (sym is_one) put

-- not written, as a name on the way failed
pub named_not : (new_files : Identity) (count : ℕ) (is : Bool) (number : ℕ) (write : FileWrite) (one : NewContent)
    (a b : Disk) → b.files ≡ a.files → StandsTempFile new_files count is a.files number write one
    → IsNamed new_files count is number write one a b false
named_not new_files count is number write one a b same stands =
    record {
      put = write_of new_files is write.path.now write.file stands.parts a b false stands.is_file
          (inl (refl, λ place away. ap (λ held. held place) same));
      stay = λ bad. absurd (true≢false (sym bad));
      left = λ bad. absurd (true≢false (sym bad));
      tidy = λ bad. absurd (true≢false (sym bad));
    }

apart_key : (key : FileKey) (bytes : List ℕ) (is : Bool) (one other : Option StateFile) → one ≡ file key bytes is
    → IsNot key other → ¬ (IsOneFile one other)
apart_key key bytes is one None at not same = not_none one same
  where
    not_none : (one : Option StateFile) → ¬ (IsOneFile one None)
    not_none None bad = bad
    not_none (Some held) bad = bad
apart_key key bytes is one (Some held) at not same = not (sym (subst (λ o. IsOneFile o (Some held)) at same))

key_apart : (key : FileKey) (bytes : List ℕ) (is : Bool) (one other : Option StateFile) → other ≡ file key bytes is
    → ¬ (IsOneFile one other) → IsNot key one
key_apart key bytes is None other at differ = tt
key_apart key bytes is (Some held) other at differ = λ same. differ (subst (IsOneFile (Some held)) (sym at) same)

-- the target is no place of new files
not_new : (new_files folder : Identity) (name : List ℕ) → ¬ (IsNewPlace new_files folder (place_in folder name))
    → ¬ (IsNewOf new_files (place_in folder name))
not_new new_files folder name apart (other, inl new) = apart (inl new)
not_new new_files folder name apart (other, inr same) =
    apart (inr (same ∙ ap (λ f. place_in f (beside_name new_files))
    (sym (folder_of_place folder other name (beside_name new_files) same))))

not_numbered : (new_files folder : Identity) (name : List ℕ) (count : ℕ)
    → ¬ (IsNewPlace new_files folder (place_in folder name)) → ¬ (IsNumbered new_files count (place_in folder name))
not_numbered new_files folder name count apart is =
    apart (inl (numbered_is_new new_files count (place_in folder name) is))

from_apart : (new_files folder : Identity) (name : List ℕ) (number : ℕ) (one : NewContent)
    → ¬ (IsNewPlace new_files folder (place_in folder name)) → HasPlace new_files number one
    → place_of one.temp_file ≢ place_in folder name
from_apart new_files folder name number one apart place same =
    apart (inl (subst (IsNewIn new_files) same (place_is_new new_files number one place)))

-- the bytes were put in the folder that the path lies in, or weren't
put_of : (new_files folder : Identity) (folders : Folders) (path name bytes : List ℕ) (is : Bool) (a b : FileState)
    (is_done : Bool) → IsNameOf path name → folder_above folders path ≡ Some folder
    → ¬ (IsNewPlace new_files folder (place_in folder name)) → IsWritten (IsNewPlace new_files folder)
    (place_in folder name) bytes is a b is_done → IsPutIn new_files folders path bytes is a b is_done
put_of new_files folder folders path name bytes is a b is_done named above apart written =
    inr (record { folder = folder; name = name; is_named = named; apart = apart; written = written }, above)

-- by way of one new file
written_by : (new_files folder : Identity) (from to : Place) (bytes : List ℕ) (is : Bool) (a b : FileState)
    (is_done : Bool) → IsNewPlace new_files folder from → IsWritten (λ place. place ≡ from) to bytes is a b is_done
    → IsWritten (IsNewPlace new_files folder) to bytes is a b is_done
written_by new_files folder from to bytes is a b is_done new written =
    record {
      done = written.done;
      whole = λ away. written.whole (λ e. away (subst (IsNewPlace new_files folder) (sym e) new));
      others =
          λ place away other. written.others place (λ e. away (subst (IsNewPlace new_files folder) (sym e) new)) other;
    }

-- by way of the one that stood aside
pub written_from : (new_files folder : Identity) (number : ℕ) (one : NewContent) (to : Place) (bytes : List ℕ)
    (is : Bool) (a b : FileState) (is_done : Bool) → HasPlace new_files number one
    → IsWritten (λ place. place ≡ place_of one.temp_file) to bytes is a b is_done
    → IsWritten (IsNewPlace new_files folder) to bytes is a b is_done
written_from new_files folder number one to bytes is a b is_done place written =
    written_by new_files folder (place_of one.temp_file) to bytes is a b is_done
    (inl (place_is_new new_files number one place)) written

-- and then it went
written_before : (IsTempFile : Place → Type 0) (from to : Place) (bytes : List ℕ) (is : Bool) (a b c : FileState)
    → IsTempFile from → ¬ (IsTempFile to) → IsAlikeBut from b c → IsWritten IsTempFile to bytes is a b false
    → IsWritten IsTempFile to bytes is a c false
written_before IsTempFile from to bytes is a b c new apart alike written =
    let here = alike to (λ e. apart (subst IsTempFile (sym e) new)) in
    record {
      done = λ bad. absurd (true≢false (sym bad));
      whole = λ away. by here (written.whole away);
      others =
          λ place away other. alike place (λ e. away (subst IsTempFile (sym e) new)) ∙ written.others place away other;
    }
  where
    by : c to ≡ b to → (b to ≡ a to) ⊎ Holds b to bytes is → (c to ≡ a to) ⊎ Holds c to bytes is
    by here (inl e) = inl (here ∙ e)
    by here (inr holds) = inr (holds.0, here ∙ holds.1)

-- the name was to be given, and that failed
pub naming_failed : (new_files folder : Identity) (count : ℕ) (is : Bool) (number : ℕ) (write : FileWrite)
    (one : NewContent) (name : List ℕ) (a b : Disk) → StandsTempFile new_files count is a.files number write one
    → IsNameOf write.path.now name → folder_above b.folders write.path.now ≡ Some folder
    → ¬ (IsNewPlace new_files folder (place_in folder name))
    → ((parts : Pieces) → write.file ≡ Some parts → IsWritten (IsNewPlace new_files folder) (place_in folder name)
    (joined parts) is a.files b.files false) → IsNamed new_files count is number write one a b false
naming_failed new_files folder count is number write one name a b stands named above apart written =
    record {
      put = write_of new_files is write.path.now write.file stands.parts a b false stands.is_file
          (put_of new_files folder b.folders write.path.now name
          (joined stands.parts) is a.files b.files false named above apart (written stands.parts stands.is_file));
      stay = λ bad. absurd (true≢false (sym bad));
      left = λ bad. absurd (true≢false (sym bad));
      tidy = λ bad. absurd (true≢false (sym bad));
    }

-- What differs behind a naming that went well: the target, which leads to no other file than the one that was named, or
-- one that is new; and the places of new files, which are free.
pub record IsMovedTo (new_files folder : Identity) (from target : Place) (key : FileKey)
    (a b : FileState) : Type 0 where
  pub same : (place : Place) → place ≢ target
      → (b place ≡ a place) ⊎ ((b place ≡ None) × ((place ≡ from) ⊎ (place ≡ place_in folder (beside_name new_files))))
  pub at : (k : FileKey) (place : Place) (bytes : List ℕ) (is : Bool) → k ≢ key → place ≢ target
      → a place ≡ file k bytes is → b place ≡ a place → IsNot k (a target) → IsNot k (b target)

module _ (new_files folder : Identity) (name : List ℕ) (apart : ¬ (IsNewPlace new_files folder (place_in folder name)))
    (count : ℕ) (is : Bool) (number : ℕ) (one : NewContent) (place : HasPlace new_files number one) (a b : FileState)
    (moved : IsMovedTo new_files folder (place_of one.temp_file) (place_in folder name)
    (key_of one.temp_file) a b) where
  other_here : (k : ℕ) (other : NewContent) → HasPlace new_files k other → number ≢ k
      → b (place_of other.temp_file) ≡ a (place_of other.temp_file)
  other_here k other there differ =
      by (moved.same (place_of other.temp_file) (from_apart new_files folder name k other apart there))
    where
      by : (b (place_of other.temp_file) ≡ a (place_of other.temp_file))
          ⊎ ((b (place_of other.temp_file) ≡ None) × ((place_of other.temp_file ≡ place_of one.temp_file)
          ⊎ (place_of other.temp_file ≡ place_in folder (beside_name new_files))))
          → b (place_of other.temp_file) ≡ a (place_of other.temp_file)
      by (inl same) = same
      by (inr (none, inl same)) = absurd (other_place new_files number k one other place there differ (sym same))
      by (inr (none, inr same)) = absurd
          (beside_is_no_new new_files folder (subst (IsNewIn new_files) same (place_is_new new_files k other there)))

  pub other_stays : (k : ℕ) (later : FileWrite) (other : NewContent) → number ≢ k
      → key_of one.temp_file ≢ key_of other.temp_file → StandsTempFile new_files count is a k later other
      → StandsTempFile new_files count is b k later other
  other_stays k later other differ keys stands =
      record {
        parts = stands.parts;
        is_file = stands.is_file;
        is_one = stands.is_one;
        place = stands.place;
        here = other_here k other stands.place differ ∙ stands.here;
        alone = λ at away. by at away (place_decided at (place_in folder name));
      }
    where
      elsewhere : (at : Place) → ¬ (IsNumbered new_files count at) → (b at ≡ a at)
          ⊎ ((b at ≡ None) × ((at ≡ place_of one.temp_file) ⊎ (at ≡ place_in folder (beside_name new_files))))
          → IsNot (key_of other.temp_file) (b at)
      elsewhere at away (inl same) = subst (IsNot (key_of other.temp_file)) (sym same) (stands.alone at away)
      elsewhere at away (inr (none, new)) = subst (IsNot (key_of other.temp_file)) (sym none) tt

      by : (at : Place) → ¬ (IsNumbered new_files count at) → (at ≡ place_in folder name) ⊎ (at ≢ place_in folder name)
          → IsNot (key_of other.temp_file) (b at)
      by at away (inl same) =
          subst (λ p. IsNot (key_of other.temp_file) (b p)) (sym same)
          (moved.at (key_of other.temp_file) (place_of other.temp_file) (joined stands.parts) is (λ e. keys (sym e))
          (from_apart new_files folder name k other apart stands.place) stands.here
          (other_here k other stands.place differ)
          (stands.alone (place_in folder name) (not_numbered new_files folder name count apart)))
      by at away (inr differs) = elsewhere at away (moved.same at differs)

  none_left : LeavesNone (IsNewOf new_files) a b
  none_left at new = by (moved.same at (λ e. not_new new_files folder name apart (subst (IsNewOf new_files) e new)))
    where
      by : (b at ≡ a at)
          ⊎ ((b at ≡ None) × ((at ≡ place_of one.temp_file) ⊎ (at ≡ place_in folder (beside_name new_files))))
          → (b at ≡ a at) ⊎ (b at ≡ None)
      by (inl same) = inl same
      by (inr (none, new)) = inr none

-- the name was given
pub naming_done : (new_files folder : Identity) (count : ℕ) (is : Bool) (number : ℕ) (write : FileWrite)
    (one : NewContent) (name : List ℕ) (a b : Disk) → StandsTempFile new_files count is a.files number write one
    → IsNameOf write.path.now name → folder_above b.folders write.path.now ≡ Some folder
    → (apart : ¬ (IsNewPlace new_files folder (place_in folder name)))
    → ((parts : Pieces) → write.file ≡ Some parts → IsWritten (IsNewPlace new_files folder) (place_in folder name)
    (joined parts) is a.files b.files true) → b.files (place_of one.temp_file) ≡ None
    → IsMovedTo new_files folder (place_of one.temp_file) (place_in folder name) (key_of one.temp_file) a.files b.files
    → IsNamed new_files count is number write one a b true
naming_done new_files folder count is number write one name a b stands named above apart written gone moved =
    record {
      put = write_of new_files is write.path.now write.file stands.parts a b true stands.is_file
          (put_of new_files folder b.folders write.path.now name
          (joined stands.parts) is a.files b.files true named above apart (written stands.parts stands.is_file));
      stay = λ done k later other differ keys stood.
          other_stays new_files folder name apart count is number one stands.place a.files b.files moved k later other
          differ keys stood;
      left = λ done. ap b.files (sym stands.place.1) ∙ gone;
      tidy = λ done. none_left new_files folder name apart count is number one stands.place a.files b.files moved;
    }

new_from : (new_files folder : Identity) (number : ℕ) (one : NewContent) → HasPlace new_files number one
    → IsNewPlace new_files folder (place_of one.temp_file)
new_from new_files folder number one place = inl (place_is_new new_files number one place)

-- directly
moved_here : (new_files folder : Identity) (from target : Place) (key : FileKey) (bytes had : List ℕ) (is was : Bool)
    (a b : FileState) (is_done : Bool) → a from ≡ file key had was → b from ≡ None → IsMoved from target a b
    → IsWritten (λ place. place ≡ from) target bytes is a b is_done → IsMovedTo new_files folder from target key a b
moved_here new_files folder from target key bytes had is was a b is_done at gone moved written =
    record {
      same = λ place differ. by place differ (place_decided place from);
      at = λ k place some durable differ elsewhere stood here not. reached k differ not moved;
    }
  where
    by : (place : Place) → place ≢ target → (place ≡ from) ⊎ (place ≢ from) → (b place ≡ a place)
        ⊎ ((b place ≡ None) × ((place ≡ from) ⊎ (place ≡ place_in folder (beside_name new_files))))
    by place differ (inl same) = inr (ap b same ∙ gone, inl same)
    by place differ (inr other) = inl (written.others place other differ)

    reached : (k : FileKey) → k ≢ key → IsNot k (a target) → (b target ≡ a target) ⊎ (b target ≡ a from)
        → IsNot k (b target)
    reached k differ not (inl same) = subst (IsNot k) (sym same) not
    reached k differ not (inr came) = subst (IsNot k) (sym (came ∙ at)) (λ e. differ (sym e))

pub named_here : (new_files folder : Identity) (count : ℕ) (is : Bool) (number : ℕ) (write : FileWrite)
    (one : NewContent) (name : List ℕ) (a b : Disk) → StandsTempFile new_files count is a.files number write one
    → IsNameOf write.path.now name → folder_above b.folders write.path.now ≡ Some folder
    → ¬ (IsNewPlace new_files folder (place_in folder name))
    → ((bytes : List ℕ) → (durable : Bool)
    → a.files (place_of one.temp_file) ≡ file (key_of one.temp_file) bytes durable
    → IsWritten (λ place. place ≡ place_of one.temp_file) (place_in folder name) bytes durable a.files b.files true)
    → IsMoved (place_of one.temp_file) (place_in folder name) a.files b.files
    → (place_of one.temp_file ≢ place_in folder name → ¬ (IsOneFile (a.files (place_of one.temp_file))
    (a.files (place_in folder name))) → b.files (place_of one.temp_file) ≡ None)
    → IsNamed new_files count is number write one a b true
named_here new_files folder count is number write one name a b stands named above apart written moved gone =
    let from = place_of one.temp_file in
    let target = place_in folder name in
    let bytes = joined stands.parts in
    let here = written bytes is stands.here in
    let none = gone (from_apart new_files folder name number one apart stands.place)
    (apart_key (key_of one.temp_file) bytes is (a.files from) (a.files target) stands.here
    (stands.alone target (not_numbered new_files folder name count apart))) in
    naming_done new_files folder count is number write one name a b stands named above apart
    (λ parts is_file. written_by new_files folder from target (joined parts) is a.files b.files true
    (new_from new_files folder number one stands.place)
    (written (joined parts) is (stands.here ∙ ap (λ (p : Pieces). file (key_of one.temp_file) (joined p) is)
    (same_parts stands.parts parts (sym stands.is_file ∙ is_file)))))
    none (moved_here new_files folder from target
    (key_of one.temp_file) bytes bytes is is a.files b.files true stands.here none moved here)
  where
    same_parts : (p q : Pieces) → Some p ≡ Some q → p ≡ q
    same_parts p q e = cc

-- ---- beside the file that it is to be

abbrev key_or : FileKey → Option StateFile → FileKey
key_or key None = key
key_or key (Some held) = held.key

same_key : (key other : FileKey) (bytes had : List ℕ) (is was : Bool)
    → file key bytes is ≡ file other had was → key ≡ other
same_key key other bytes had is was same = ap (key_or key) same

from_no_beside : (new_files folder : Identity) (number : ℕ) (one : NewContent) → HasPlace new_files number one
    → place_of one.temp_file ≢ place_in folder (beside_name new_files)
from_no_beside new_files folder number one place same =
    beside_is_no_new new_files folder (subst (IsNewIn new_files) same (place_is_new new_files number one place))

module _ (new_files folder : Identity) (name : List ℕ) (apart : ¬ (IsNewPlace new_files folder (place_in folder name)))
    (number : ℕ) (one : NewContent) (place : HasPlace new_files number one) (bytes : List ℕ) (is : Bool)
    (a b c d : FileState) (stands : a (place_of one.temp_file) ≡ file (key_of one.temp_file) bytes is)
    (written : IsWritten (λ at. at ≡ place_of one.temp_file) (place_in folder name) bytes is a b false)
    (moved : IsMoved (place_of one.temp_file) (place_in folder name) a b) where
  discarded_written : IsAlikeBut (place_of one.temp_file) b c
      → IsWritten (IsNewPlace new_files folder) (place_in folder name) bytes is a c false
  discarded_written alike =
      written_before (IsNewPlace new_files folder) (place_of one.temp_file) (place_in folder name) bytes is a b c
      (new_from new_files folder number one place) apart alike
      (written_by new_files folder (place_of one.temp_file) (place_in folder name) bytes is a b false
      (new_from new_files folder number one place) written)

  beside_written : (Honest : Type 0) (is_done is_well : Bool) → IsAlikeBut (place_of one.temp_file) b c
      → IsPlaced Honest (place_in folder (beside_name new_files)) (place_in folder name) bytes is c d is_done is_well
      → IsWritten (IsNewPlace new_files folder) (place_in folder name) bytes is a d is_done
  beside_written Honest is_done is_well alike placed =
      written_again (IsNewPlace new_files folder) (place_in folder name) bytes is a c d false is_done
      (discarded_written alike)
      (written_of_placed Honest (IsNewPlace new_files folder) (place_in folder (beside_name new_files))
      (place_in folder name) bytes is c d is_done is_well (inr refl) placed)

  beside_apart : place_in folder (beside_name new_files) ≢ place_in folder name
  beside_apart same = apart (inr (sym same))

  module _ (Honest : Type 0) (honest : Honest) (removed : IsRemoved (place_of one.temp_file) b c) (placed : IsPlaced
      Honest (place_in folder (beside_name new_files)) (place_in folder name) bytes is c d true true) where
    kept : (at : Place) → at ≢ place_of one.temp_file → at ≢ place_in folder name → c at ≡ a at
    kept at away other = removed.others at away ∙ written.others at away other

    beside_gone : d (place_in folder (beside_name new_files)) ≡ None
    beside_gone = placed.gone honest beside_apart refl

    from_gone : d (place_of one.temp_file) ≡ None
    from_gone = placed.written.others (place_of one.temp_file) (from_no_beside new_files folder number one place)
        (from_apart new_files folder name number one apart place) ∙ removed.gone

    beside_same : (at : Place) → at ≢ place_in folder name → (d at ≡ a at)
        ⊎ ((d at ≡ None) × ((at ≡ place_of one.temp_file) ⊎ (at ≡ place_in folder (beside_name new_files))))
    beside_same at differ =
        by (place_decided at (place_of one.temp_file)) (place_decided at (place_in folder (beside_name new_files)))
      where
        by : (at ≡ place_of one.temp_file) ⊎ (at ≢ place_of one.temp_file)
            → (at ≡ place_in folder (beside_name new_files)) ⊎ (at ≢ place_in folder (beside_name new_files))
            → (d at ≡ a at)
            ⊎ ((d at ≡ None) × ((at ≡ place_of one.temp_file) ⊎ (at ≡ place_in folder (beside_name new_files))))
        by (inl same) other = inr (ap d same ∙ from_gone, inl same)
        by (inr away) (inl same) = inr (ap d same ∙ beside_gone, inr same)
        by (inr away) (inr other) = inl (placed.written.others at other differ ∙ kept at away differ)

    first_target : (k : FileKey) → k ≢ key_of one.temp_file → IsNot k (a (place_in folder name))
        → IsNot k (c (place_in folder name))
    first_target k differ free =
        subst (IsNot k) (sym (removed.others (place_in folder name)
        (λ e. from_apart new_files folder name number one apart place (sym e)))) (by moved)
      where
        by : (b (place_in folder name) ≡ a (place_in folder name))
            ⊎ (b (place_in folder name) ≡ a (place_of one.temp_file)) → IsNot k (b (place_in folder name))
        by (inl same) = subst (IsNot k) (sym same) free
        by (inr came) = subst (IsNot k) (sym (came ∙ stands)) (λ e. differ (sym e))

    beside_at : (k : FileKey) (at : Place) (had : List ℕ) (was : Bool) → k ≢ key_of one.temp_file
        → at ≢ place_in folder name → a at ≡ file k had was → d at ≡ a at → IsNot k (a (place_in folder name))
        → IsNot k (d (place_in folder name))
    beside_at k at had was differ elsewhere stood here free = by (placed.fresh beside_apart)
      where
        away : at ≢ place_of one.temp_file
        away same = differ (same_key k (key_of one.temp_file) had bytes was is (sym stood ∙ ap a same ∙ stands))

        other : at ≢ place_in folder (beside_name new_files)
        other same = absurd (never (sym (here ∙ stood) ∙ ap d same ∙ beside_gone))
          where
            never : file k had was ≡ None → ⊥
            never e = cc

        by : (d (place_in folder name) ≡ c (place_in folder name)) ⊎ ((place : Place)
            → place ≢ place_in folder (beside_name new_files) → ¬ (IsOneFile (d (place_in folder name)) (c place)))
            → IsNot k (d (place_in folder name))
        by (inl same) = subst (IsNot k) (sym same) (first_target k differ free)
        by (inr fresh) =
            key_apart k had was (d (place_in folder name)) (c at) (kept at away elsewhere ∙ stood) (fresh at other)

    moved_beside : IsMovedTo new_files folder (place_of one.temp_file) (place_in folder name) (key_of one.temp_file) a d
    moved_beside = record { same = beside_same; at = beside_at }

same_file : (p q : Pieces) → Some p ≡ Some q → p ≡ q
same_file p q e = cc

-- what stands aside has the bytes of these parts
pub bytes_temp_file : (new_files : Identity) (count : ℕ) (is : Bool) (held : FileState) (number : ℕ) (write : FileWrite)
    (one : NewContent) (parts : Pieces) → write.file ≡ Some parts
    → StandsTempFile new_files count is held number write one
    → held (place_of one.temp_file) ≡ file (key_of one.temp_file) (joined parts) is
bytes_temp_file new_files count is held number write one parts is_file stands =
    stands.here ∙ ap (λ (p : Pieces). file (key_of one.temp_file) (joined p) is)
    (same_file stands.parts parts (sym stands.is_file ∙ is_file))

-- it couldn't be removed from its place
pub named_stuck : (new_files folder : Identity) (count : ℕ) (is : Bool) (number : ℕ) (write : FileWrite)
    (one : NewContent) (name : List ℕ) (a d : Disk) (b : FileState)
    → StandsTempFile new_files count is a.files number write one
    → IsNameOf write.path.now name → folder_above d.folders write.path.now ≡ Some folder
    → ¬ (IsNewPlace new_files folder (place_in folder name))
    → ((bytes : List ℕ) → (durable : Bool)
    → a.files (place_of one.temp_file) ≡ file (key_of one.temp_file) bytes durable
    → IsWritten (λ place. place ≡ place_of one.temp_file) (place_in folder name) bytes durable a.files b false)
    → IsMoved (place_of one.temp_file) (place_in folder name) a.files b → IsAlikeBut (place_of one.temp_file) b d.files
    → IsNamed new_files count is number write one a d false
named_stuck new_files folder count is number write one name a d b stands named above apart written moved alike =
    naming_failed new_files folder count is number write one name a d stands named above apart
    (λ parts is_file.
    let here = bytes_temp_file new_files count is a.files number write one parts is_file stands in
    discarded_written new_files folder name apart number one stands.place
    (joined parts) is a.files b d.files d.files here (written (joined parts) is here) moved alike)

-- it was written beside, or wasn't
pub named_beside : (Honest : Type 0) (new_files folder : Identity) (count : ℕ) (is : Bool) (number : ℕ)
    (write : FileWrite) (one : NewContent) (name : List ℕ) (parts : Pieces) (a d : Disk) (b c : FileState)
    (is_done : Bool) → Honest
    → write.file ≡ Some parts → StandsTempFile new_files count is a.files number write one
    → IsNameOf write.path.now name → folder_above d.folders write.path.now ≡ Some folder
    → ¬ (IsNewPlace new_files folder (place_in folder name))
    → ((bytes : List ℕ) → (durable : Bool)
    → a.files (place_of one.temp_file) ≡ file (key_of one.temp_file) bytes durable
    → IsWritten (λ place. place ≡ place_of one.temp_file) (place_in folder name) bytes durable a.files b false)
    → IsMoved (place_of one.temp_file) (place_in folder name) a.files b → IsRemoved (place_of one.temp_file) b c
    → IsPlaced Honest (place_in folder (beside_name new_files)) (place_in folder name)
    (joined parts) is c d.files is_done is_done → IsNamed new_files count is number write one a d is_done
named_beside Honest new_files folder count is number write one name parts a d b c true honest is_file stands named above
    apart written moved removed placed =
    let here = bytes_temp_file new_files count is a.files number write one parts is_file stands in
    let first = written (joined parts) is here in
    naming_done new_files folder count is number write one name a d stands named above apart
    (λ other other_file. subst (λ (p : Pieces). IsWritten (IsNewPlace new_files folder) (place_in folder name)
    (joined p) is a.files d.files true) (same_file parts other (sym is_file ∙ other_file))
    (beside_written new_files folder name apart number one stands.place
    (joined parts) is a.files b c d.files here first moved Honest true true removed.others placed))
    (from_gone new_files folder name apart number one stands.place
    (joined parts) is a.files b c d.files here first moved Honest honest removed placed)
    (moved_beside new_files folder name apart number one stands.place
    (joined parts) is a.files b c d.files here first moved Honest honest removed placed)
named_beside Honest new_files folder count is number write one name parts a d b c false honest is_file stands named
    above apart written moved removed placed =
    let here = bytes_temp_file new_files count is a.files number write one parts is_file stands in
    naming_failed new_files folder count is number write one name a d stands named above apart
    (λ other other_file. subst (λ (p : Pieces). IsWritten (IsNewPlace new_files folder) (place_in folder name)
    (joined p) is a.files d.files false) (same_file parts other (sym is_file ∙ other_file))
    (beside_written new_files folder name apart number one stands.place (joined parts) is a.files b c d.files here
    (written (joined parts) is here) moved Honest false false removed.others placed))

-- ---- gone, one after the other

pub gone_more : (new_files : Identity) (k : ℕ) (a b c : FileState) → AreGone new_files k a b
    → c (new_place new_files k) ≡ None → LeavesNone (IsNewOf new_files) b c → AreGone new_files (k + 1) a c
gone_more new_files k a b c gone here tidy place new =
    by (gone place new) (tidy place new) (place_decided place (new_place new_files k))
  where
    past : ¬ (IsNumbered new_files k place) → place ≢ new_place new_files k → ¬ (IsNumbered new_files (k + 1) place)
    past free differ (j, less, fits, at) = cases (front_or_last j k less)
      where
        cases : (j < k) ⊎ (j ≡ k) → ⊥
        cases (inl front) = free (j, front, fits, at)
        cases (inr last) = differ (at ∙ ap (new_place new_files) last)

    by : (b place ≡ None) ⊎ ((b place ≡ a place) × ¬ (IsNumbered new_files k place))
        → (c place ≡ b place) ⊎ (c place ≡ None) → (place ≡ new_place new_files k) ⊎ (place ≢ new_place new_files k)
        → (c place ≡ None) ⊎ ((c place ≡ a place) × ¬ (IsNumbered new_files (k + 1) place))
    by so_far (inr none) decided = inl none
    by (inl none) (inl same) decided = inl (same ∙ none)
    by (inr kept) (inl same) (inl is) = inl (ap c is ∙ here)
    by (inr kept) (inl same) (inr differ) = inr (same ∙ kept.0, past kept.1 differ)

pub gone_none : (new_files : Identity) (held : FileState) → AreGone new_files 0 held held
gone_none new_files held place new = inr (refl, λ is. omega (arith, is.1))

-- what differs before are new files of these numbers
pub gone_behind : (new_files : Identity) (count : ℕ) (a b c : FileState)
    → IsAlikeUnless (IsNumbered new_files count) a b → AreGone new_files count b c → AreGone new_files count a c
gone_behind new_files count a b c alike gone place new = by (gone place new)
  where
    by : (c place ≡ None) ⊎ ((c place ≡ b place) × ¬ (IsNumbered new_files count place))
        → (c place ≡ None) ⊎ ((c place ≡ a place) × ¬ (IsNumbered new_files count place))
    by (inl none) = inl none
    by (inr kept) = inr (kept.0 ∙ alike place kept.1, kept.1)
