-- A put in the folder that the path lies in.
use Rattle.std.proofs.Common.{◌≡◌, ◌≢◌, ◌⊎◌, inl, inr, ℕ, Bool, true, false, IsTrue, List, Option, None, Some, Result}
use Rattle.std.proofs.Common.{Ok, Err, IfOk, MatchResult, is_ok, true≢false, refl, sym, ◌∙◌, ap, subst}
use Rattle.reuse_system.specs.TempFiles.{IsNewIn, IsNewPlace, beside_name}
use Rattle.reuse_system.specs.FileStates.{FileState, Place, place_in}
use Rattle.reuse_system.specs.Folders.{Folders, file_in, folder_above, folder_at}
use Rattle.reuse_folder.specs.FolderWrites.{IsNewOf, IsPutBy, IsPutIn, IsPutTidily, IsStoredAt}
use Rattle.reuse_system.specs.Names.{IsNameOf, IsSplit}
use Rattle.reuse_system.specs.SystemLaws.{IsAlikeBut, IsAlikeUnless, IsRemoved}
use Rattle.reuse_disk.specs.Written.{IsWritten, LeavesNone}
use Rattle.reuse_system.specs.declared.fault.FolderFault.{FolderFault}
use Rattle.reuse_system.specs.declared.place.Identity.{Identity}
use Rattle.reuse_disk.proofs.AlongLemmas.{above_of_split, file_of_name}
use Rattle.reuse_disk.proofs.PlaceLemmas.{beside_is_no_new, folder_of_place}
use Rattle.reuse_disk.proofs.WrittenLemmas.{then_none}
use Rattle.reuse_folder.proofs.FolderLemmas.{written_after_clearing}
use Rattle.reuse_folder.proofs.ReadLemmas.{named_of}
use Rattle.reuse_folder.proofs.RoundLemmas.{place_decided}

-- ---- not put

pub nothing_put_by : (path bytes : List ℕ) (is : Bool) (held : FileState) (is_done : Bool) → is_done ≡ false
    → (new_files : Identity) × IsPutBy new_files path bytes is held held is_done
nothing_put_by path bytes is held is_done failed =
    (record { device = 0; number = 0 }, inl (failed, λ place apart. refl))

pub not_put_by : (new_files : Identity) (path bytes : List ℕ) (is : Bool) (a b : FileState) (is_done : Bool)
    → is_done ≡ false → IsAlikeUnless (IsNewIn new_files) a b → (one : Identity) × IsPutBy one path bytes is a b is_done
not_put_by new_files path bytes is a b is_done failed alike = (new_files, inl (failed, alike))

pub not_put_in : (folders : Folders) (path bytes : List ℕ) (is : Bool) (a b : FileState) (is_done : Bool)
    (new_files : Identity) → is_done ≡ false → IsAlikeUnless (IsNewIn new_files) a b
    → IsPutTidily folders path bytes is a b is_done
not_put_in folders path bytes is a b is_done new_files failed alike =
    (new_files, inl (failed, alike), λ done. absurd (true≢false (sym done ∙ failed)))

pub nothing_put_in : (folders : Folders) (path bytes : List ℕ) (is : Bool) (held : FileState) (is_done : Bool)
    → is_done ≡ false
    → IsPutTidily folders path bytes is held held is_done
nothing_put_in folders path bytes is held is_done failed =
    not_put_in folders path bytes is held held is_done (record { device = 0; number = 0 }) failed (λ place apart. refl)

-- ---- put

alike_then : (new_files : Identity) (a b d : FileState) → d ≡ b → IsAlikeUnless (IsNewIn new_files) a b
    → IsAlikeUnless (IsNewIn new_files) a d
alike_then new_files a b d same alike = subst (IsAlikeUnless (IsNewIn new_files) a) (sym same) alike

-- put in some folder, or not
pub put_by : (new_files folder : Identity) (path name bytes : List ℕ) (is : Bool) (a b d : FileState) (is_done : Bool)
    → IsNameOf path name → IsAlikeUnless (IsNewIn new_files) a b
    → ((is_done ≡ false) × (d ≡ b)) ⊎ ¬ (IsNewPlace new_files folder (place_in folder name))
    → IsWritten (IsNewPlace new_files folder) (place_in folder name) bytes is b d is_done
    → (one : Identity) × IsPutBy one path bytes is a d is_done
put_by new_files folder path name bytes is a b d is_done named alike (inl (failed, same)) written =
    (new_files, inl (failed, alike_then new_files a b d same alike))
put_by new_files folder path name bytes is a b d is_done named alike (inr apart) written = (
  new_files,
  inr (record {
    folder = folder;
    name = name;
    is_named = named;
    apart = apart;
    written = written_after_clearing new_files folder name bytes is a b d is_done alike written;
  }),
)

-- a place that isn't the target's
other_target : (new_files folder : Identity) (name : List ℕ) (place : Place)
    → ¬ (IsNewPlace new_files folder (place_in folder name)) → IsNewOf new_files place → place ≢ place_in folder name
other_target new_files folder name place apart (other, inl new) same = apart (inl (subst (IsNewIn new_files) same new))
other_target new_files folder name place apart (other, inr at) same =
    let e = sym same ∙ at in
    apart (inr (e
    ∙ ap (λ f. place_in f (beside_name new_files)) (sym (folder_of_place folder other name (beside_name new_files) e))))

-- no new file is left
tidy_at : (new_files folder : Identity) (name bytes : List ℕ) (is : Bool) (a b d : FileState) (is_done : Bool)
    → IsAlikeUnless (IsNewIn new_files) a b → LeavesNone (IsNewIn new_files) a b
    → LeavesNone (IsNewPlace new_files folder) b d → ¬ (IsNewPlace new_files folder (place_in folder name))
    → IsWritten (IsNewPlace new_files folder) (place_in folder name) bytes is b d is_done
    → LeavesNone (IsNewOf new_files) a d
tidy_at new_files folder name bytes is a b d is_done alike cleared none apart written place (other, inl new) =
    then_none (a place) (b place) (d place) (cleared place new) (none place (inl new))
tidy_at new_files folder name bytes is a b d is_done alike cleared none apart written place (other, inr at) =
    by (place_decided place (place_in folder (beside_name new_files)))
  where
    old : b place ≡ a place
    old = alike place (λ new. beside_is_no_new new_files other (subst (IsNewIn new_files) at new))

    by : (place ≡ place_in folder (beside_name new_files)) ⊎ (place ≢ place_in folder (beside_name new_files))
        → (d place ≡ a place) ⊎ (d place ≡ None)
    by (inl same) = then_none (a place) (b place) (d place) (inl old) (none place (inr same))
    by (inr differ) =
        inl (written.others place new_no (other_target new_files folder name place apart (other, inr at)) ∙ old)
      where
        new_no : ¬ (IsNewPlace new_files folder place)
        new_no (inl new) = beside_is_no_new new_files other (subst (IsNewIn new_files) at new)
        new_no (inr same) = differ same

-- the folder that was entered is the one that the path lies in
pub above_here : (folders entered : Folders) (held : FileState) (path above name : List ℕ) (current : Option Identity)
    (folder : Identity) → folders ≡ entered → IsSplit path above name → folder_at entered above ≡ current
    → current ≡ Some folder → folder_above folders path ≡ Some folder
above_here folders entered held path above name current folder same split at here =
    ap (λ f. folder_above f path) same ∙ above_of_split entered held path above name split ∙ at ∙ here

-- put in the folder that was entered, or not
pub put_in : (folders entered : Folders) (path above name : List ℕ) (current : Option Identity)
    (new_files folder : Identity) (bytes : List ℕ) (is : Bool) (a b d : FileState) (is_done : Bool) → folders ≡ entered
    → IsSplit path above name → folder_at entered above ≡ current → current ≡ Some folder
    → IsAlikeUnless (IsNewIn new_files) a b → LeavesNone (IsNewIn new_files) a b
    → ((is_done ≡ false) × (d ≡ b)) ⊎ ¬ (IsNewPlace new_files folder (place_in folder name))
    → IsWritten (IsNewPlace new_files folder) (place_in folder name) bytes is b d is_done
    → (IsTrue is_done → LeavesNone (IsNewPlace new_files folder) b d)
    → IsPutTidily folders path bytes is a d is_done
put_in folders entered path above name current new_files folder bytes is a b d is_done same split at here alike cleared
    (inl (failed, kept)) written none =
    (new_files, inl (failed, alike_then new_files a b d kept alike), λ done. absurd (true≢false (sym done ∙ failed)))
put_in folders entered path above name current new_files folder bytes is a b d is_done same split at here alike cleared
    (inr apart) written none = (
      new_files,
      inr (
        record {
          folder = folder;
          name = name;
          is_named = named_of path above name split;
          apart = apart;
          written = written_after_clearing new_files folder name bytes is a b d is_done alike written;
        },
        above_here folders entered d path above name current folder same split at here,
      ),
      λ done. tidy_at new_files folder name bytes is a b d is_done alike cleared (none done) apart written,
    )

stored_at : (new_files : Identity) (folders : Folders) (path bytes : List ℕ) (is : Bool) (old held : FileState)
    → IsPutIn new_files folders path bytes is old held true → IsStoredAt folders held path bytes is
stored_at new_files folders path bytes is old held (inl bad) = absurd (true≢false bad.0)
stored_at new_files folders path bytes is old held (inr put) =
    let done = put.0.written.done refl in (
      done.0,
      file_of_name folders held path put.0.name put.0.is_named ∙ ap (λ o. file_in held o put.0.name) put.1 ∙ done.1,
    )

-- what was put is the file at the path
pub stored_if : (new_files : Identity) (folders : Folders) (path bytes : List ℕ) (is : Bool) (old held : FileState)
    (answer : Result (Unit {0}) FolderFault) → IsPutIn new_files folders path bytes is old held (is_ok answer)
    → IfOk answer (λ _. IsStoredAt folders held path bytes is)
stored_if new_files folders path bytes is old held (Ok done) put =
    stored_at new_files folders path bytes is old held put
stored_if new_files folders path bytes is old held (Err fault) put = tt

-- what holds of a good answer
pub of_ok : {T E : Type 0} (answer : Result T E) (P : Type 0) → IfOk answer (λ _. P) → IsTrue (is_ok answer) → P
of_ok (Ok value) P holds done = holds
of_ok (Err error) P holds done = absurd (true≢false (sym done))

-- a removal leaves nothing else
pub none_by_removal : {E : Type 0} (place : Place) (a b : FileState) (answer : Result (Unit {0}) E) → MatchResult answer
    (λ _. IsRemoved place a b) (λ _. IsAlikeBut place a b) → IfOk answer (λ _. LeavesNone (λ _. Unit {0}) a b)
none_by_removal place a b (Ok done) removed = λ at any. by at (place_decided at place)
  where
    by : (at : Place) → (at ≡ place) ⊎ (at ≢ place) → (b at ≡ a at) ⊎ (b at ≡ None)
    by at (inl same) = inr (ap b same ∙ removed.gone)
    by at (inr other) = inl (removed.others at other)
none_by_removal place a b (Err error) alike = tt

-- what holds of one good answer holds of the other
pub answered_alike : {E F : Type 0} (answer : Result (Unit {0}) E) (given : Result (Unit {0}) F) (P : Type 0)
    → is_ok answer ≡ is_ok given → IfOk given (λ _. P) → IfOk answer (λ _. P)
answered_alike (Ok done) (Ok other) P same holds = holds
answered_alike (Ok done) (Err fault) P same holds = absurd (true≢false same)
answered_alike (Err fault) given P same holds = tt
