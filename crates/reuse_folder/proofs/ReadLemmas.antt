-- What was read of a file that was looked at, and where a path leads.
use Rattle.std.proofs.Common.{◌≡◌, ◌⊎◌, inl, inr, ℕ, List, [], ◌∷◌, ◌++◌, length, Option, None, Some, Result, Ok, Err}
use Rattle.std.proofs.Common.{IfOk, IfSome, MatchResult, option_map, refl, sym, ◌∙◌, ap, subst, arith}
use Rattle.reuse_store.specs.Store.{reading_of}
use Rattle.reuse_store.specs.declared.store.Reading.{Reading}
use Rattle.reuse_store.specs.declared.store.Reading.TheVariants as readings
use Rattle.reuse_store.specs.declared.store.Reading.TheVariants.{Absent}
use Rattle.reuse_folder.specs.declared.rolled_back.Foreign.TheVariants as foreign
use Rattle.reuse_folder.specs.FolderReads.{IsPlaceAt, IsReadAt, IsReadIn, IsReadWith, LiesIn, StandsIn}
use Rattle.reuse_system.specs.FileStates.{StateFile, FileState, Place as FilePlace, place_in}
use Rattle.reuse_system.specs.Folders.{Folders, folder_above, folder_at, file_at, file_in}
use Rattle.reuse_system.specs.FolderPlaces.{IsNoFile, place_of_found}
use Rattle.reuse_system.specs.Names.{IsNameOf, IsSplit}
use Rattle.reuse_system.specs.Readings.{IsReadingOf, IsWholeOf}
use Rattle.reuse_folder.specs.FolderWrites.{IsGone, IsRemovedIn}
use Rattle.reuse_system.specs.SystemLaws.{IsAlikeBut, IsRemoved, IsSeen}
use Rattle.reuse_disk.specs.OpenFolders.{IsEntered}
use Rattle.reuse_system.specs.declared.fault.FolderFault.{FolderFault}
use Rattle.reuse_system.specs.declared.place.FileStatus.{FileStatus}
use Rattle.reuse_system.specs.declared.place.Identity.{Identity}
use Rattle.reuse_system.specs.declared.place.Found.{Found}
use Rattle.reuse_system.specs.declared.place.Found.TheVariants as found
use Rattle.reuse_system.specs.declared.place.Place.{Place}
use Rattle.reuse_system.specs.declared.place.Place.TheVariants as place
use Rattle.reuse_disk.proofs.AlongLemmas.{above_of_split, barred_above, file_of_name}
use Rattle.reuse_disk.proofs.LastNames.{same_name}

whole_of : (said limit : ℕ) (had bytes : List ℕ) (reading : Reading) → length had ≡ said → IsWholeOf said had bytes
    → reading ≡ reading_of (Some bytes) limit → reading ≡ reading_of (Some had) limit
whole_of said limit had bytes reading long (inl same) is = is ∙ ap (λ list. reading_of (Some list) limit) same
whole_of said limit had bytes reading long (inr (less, front)) is = absurd (omega (arith, less, long))

-- a file that has as many bytes as were said was read as a whole
pub read_whole_of : (said limit : ℕ) (had : List ℕ) (reading : Reading) → length had ≡ said
    → IsReadingOf said limit had reading → reading ≡ reading_of (Some had) limit
read_whole_of said limit had reading long is = whole_of said limit had is.0 reading long is.1 is.2

-- where it was read in the folder that was entered
pub read_in : (current : Option Identity) (folder : Identity) (path name : List ℕ) (limit : ℕ) (held : FileState)
    (status : FileStatus) (reading : Reading) → current ≡ Some folder → IsNameOf path name
    → ((one : StateFile) × StandsIn current path held one × (length one.bytes ≡ status.len))
    → ((one : StateFile) × (held (place_in folder name) ≡ Some one) × IsReadingOf status.len limit one.bytes reading)
    → IsReadIn current path limit held reading
read_in current folder path name limit held status reading is named at was =
    let stands = at.1 in
    let both_folders : Some stands.in_folder ≡ Some folder = sym stands.is_folder ∙ is in
    let same_folder : stands.in_folder ≡ folder = cc in
    let place : place_in stands.in_folder stands.name ≡ place_in folder name =
    ap (λ f. place_in f stands.name) same_folder
    ∙ ap (λ n. place_in folder n) (same_name path stands.name name stands.is_named named) in
    let both : Some at.0 ≡ Some was.0 = sym stands.stands ∙ ap held place ∙ was.1 in
    let same : at.0 ≡ was.0 = cc in
    (at.0, stands, read_whole_of status.len limit at.0.bytes reading at.2 (rw same was.2))

-- a file that was opened there
pub read_opened : (folder : Identity) (name : List ℕ) (opened : FilePlace) (said limit : ℕ) (old new : FileState)
    (reading : Reading) → opened ≡ place_in folder name → new ≡ old
    → ((one : StateFile) × (new opened ≡ Some one) × IsReadingOf said limit one.bytes reading)
    → (one : StateFile) × (old (place_in folder name) ≡ Some one) × IsReadingOf said limit one.bytes reading
read_opened folder name opened said limit old new reading at kept was =
    (was.0, sym (ap (λ held. held (place_in folder name)) kept) ∙ ap new (sym at) ∙ was.1, was.2)

-- ---- where a path leads

pub named_of : (path folder name : List ℕ) → IsSplit path folder name → IsNameOf path name
named_of path folder name split = by_parts split.parts
  where
    by_parts : ((folder ≡ []) × (name ≡ path)) ⊎ (path ≡ folder ++ 47 ∷ name) → IsNameOf path name
    by_parts (inl (none, is)) = record { behind = inl is; last = split.last }
    by_parts (inr is) = record { behind = inr (folder, is); last = split.last }

module _ (folders : Folders) (held : FileState) where
  no_file : (path folder name : List ℕ) → IsSplit path folder name → folder_at folders folder ≡ None
      → file_at folders held path ≡ None
  no_file path folder name split none =
      file_of_name folders held path name (named_of path folder name split)
      ∙ ap (λ o. file_in held o name) (above_of_split folders held path folder name split ∙ none)

  -- where a part of the path above is no folder
  pub reported_above : (path folder name : List ℕ) (current other : Option Identity) (place : Place)
      → IsSplit path folder name → IsNoFile place → IsEntered folders held folder current (Some place)
      → IsPlaceAt folders held path other place
  reported_above path folder name current other place.Nothing split free entered =
      no_file path folder name split entered
  reported_above path folder name current other place.BelowFile split free entered =
      no_file path folder name split entered
  reported_above path folder name current other (place.File status) split free entered = absurd free
  reported_above path folder name current other place.Folder split free entered = no_file path folder name split entered
  reported_above path folder name current other place.Other split free (some, inl none) =
      inl (no_file path folder name split none)
  reported_above path folder name current other place.Other split free (some, inr barred) =
      inr (inr (barred_above folders held path folder name split some barred))

  none_there : (path folder name : List ℕ) (above : Identity) → IsSplit path folder name
      → folder_at folders folder ≡ Some above → held (place_in above name) ≡ None → file_at folders held path ≡ None
  none_there path folder name above split at none =
      file_of_name folders held path name (named_of path folder name split)
      ∙ ap (λ o. file_in held o name) (above_of_split folders held path folder name split ∙ at) ∙ none

  -- where the folder above was entered, and the name looked at
  pub reported_here : (path folder name : List ℕ) (current : Option Identity) (above : Identity) (seen : Found)
      → IsSplit path folder name → folder_at folders folder ≡ current → current ≡ Some above
      → IsSeen (held (place_in above name)) (Ok seen) → IsPlaceAt folders held path current (place_of_found seen)
  reported_here path folder name current above found.Nothing split at is none =
      none_there path folder name above split (at ∙ is) none
  reported_here path folder name current above (found.File status) split at is (one, stands, long) = (
    one,
    record {
      in_folder = above;
      is_folder = is;
      name = name;
      is_named = named_of path folder name split;
      stands = stands;
    },
    long,
  )
  reported_here path folder name current above (found.Folder identity) split at is none =
      none_there path folder name above split (at ∙ is) none
  reported_here path folder name current above found.Other split at is none =
      inl (none_there path folder name above split (at ∙ is) none)

  pub lies_here : (path folder name : List ℕ) (current : Option Identity) (place : Place) → IsSplit path folder name
      → folder_at folders folder ≡ current → LiesIn folders path current place
  lies_here path folder name current place.Nothing split at = tt
  lies_here path folder name current place.BelowFile split at = tt
  lies_here path folder name current (place.File status) split at =
      above_of_split folders held path folder name split ∙ at
  lies_here path folder name current place.Folder split at = tt
  lies_here path folder name current place.Other split at = tt

  -- what was read in the folder that the path lies in
  pub read_at : (path : List ℕ) (limit : ℕ) (current : Option Identity) (reading : Reading)
      → folder_above folders path ≡ current → IsReadIn current path limit held reading
      → IsReadAt folders held path limit reading
  read_at path limit current reading above (one, stands, is) =
      let file : file_at folders held path ≡ Some one =
      file_of_name folders held path stands.name stands.is_named
      ∙ ap (λ o. file_in held o stands.name) (above ∙ stands.is_folder) ∙ stands.stands in
      inl (is ∙ ap (λ o. reading_of (option_map (λ held_one. held_one.bytes) o) limit) (sym file))

  none_read : (path : List ℕ) (limit : ℕ) → file_at folders held path ≡ None → IsReadAt folders held path limit Absent
  none_read path limit none = inl (ap (λ o. reading_of (option_map (λ one. one.bytes) o) limit) (sym none))

  -- nothing is read where no regular file was reported
  pub absent_at : (path : List ℕ) (limit : ℕ) (current : Option Identity) (place : Place) → IsNoFile place
      → IsPlaceAt folders held path current place → IsReadAt folders held path limit Absent
  absent_at path limit current place.Nothing free at = none_read path limit at
  absent_at path limit current place.BelowFile free at = none_read path limit at
  absent_at path limit current (place.File status) free at = absurd free
  absent_at path limit current place.Folder free at = none_read path limit at
  absent_at path limit current place.Other free (inl none) = none_read path limit none
  absent_at path limit current place.Other free (inr hidden) = inr (hidden, refl)

  -- ---- what the folder reports of a path

  pub reported_look : (other : Folders) (path folder name : List ℕ) (current : Option Identity) (above : Identity)
      (seen : Found) (place : Place) → folders ≡ other → folder_at other folder ≡ current
      → current ≡ Some above → IsSplit path folder name → IsSeen (held (place_in above name)) (Ok seen)
      → place ≡ place_of_found seen → IsPlaceAt folders held path current place
  reported_look other path folder name current above seen place same at is split was e =
      subst (IsPlaceAt folders held path current) (sym e)
      (reported_here path folder name current above seen split
      (subst (λ f. folder_at f folder ≡ current) (sym same) at) is was)

  pub nothing_reported : (path : List ℕ) (current : Option Identity) (answer : Result Place FolderFault)
      → IfOk answer (λ one. one ≡ place.Nothing) → IsPlaceAt folders held path current place.Nothing
      → IfOk answer (IsPlaceAt folders held path current)
  nothing_reported path current (Ok one) is at = subst (IsPlaceAt folders held path current) (sym is) at
  nothing_reported path current (Err fault) is at = tt

  pub entered_none : (other : Folders) (path folder name : List ℕ) (current : Option Identity) (place : Place)
      → folders ≡ other → IsSplit path folder name → folder_at other folder ≡ current
      → LiesIn folders path current place
  entered_none other path folder name current place same split at =
      lies_here path folder name current place split (subst (λ f. folder_at f folder ≡ current) (sym same) at)

  some_read : (path : List ℕ) (limit : ℕ) (current : Option Identity) (o : Option Reading) (reading : Reading)
      → o ≡ Some reading → folder_above folders path ≡ current
      → IfSome o (IsReadIn current path limit held) → IsReadAt folders held path limit reading
  some_read path limit current o reading is above was = read_at path limit current reading above (was_some o is was)
    where
      was_some : (o : Option Reading) → o ≡ Some reading → IfSome o (IsReadIn current path limit held)
          → IsReadIn current path limit held reading
      was_some None is was = absurd (cc)
      was_some (Some one) is was = let same : one ≡ reading = cc in subst (IsReadIn current path limit held) same was

-- what was read after calls that change nothing
pub read_after : (folders other : Folders) (held was : FileState) (path : List ℕ) (limit : ℕ)
    (current : Option Identity) (o : Option Reading) (reading : Reading) → folders ≡ other → held ≡ was
    → o ≡ Some reading
    → folder_above other path ≡ current → IfSome o (IsReadIn current path limit was)
    → IsReadAt folders held path limit reading
read_after folders other held was path limit current o reading same kept is above read =
    rw (same, kept) (some_read other was path limit current o reading is above read)

-- what is no regular file
pub no_file_of : (reported : Place) → ((status : FileStatus) → reported ≡ place.File status → ⊥) → IsNoFile reported
no_file_of place.Nothing none = tt
no_file_of place.BelowFile none = tt
no_file_of (place.File status) none = none status refl
no_file_of place.Folder none = tt
no_file_of place.Other none = tt

pub no_file_some : (o : Option Place) (place : Place) → o ≡ Some place → IfSome o IsNoFile → IsNoFile place
no_file_some None place is none = absurd (cc)
no_file_some (Some one) place is none = let same : one ≡ place = cc in subst IsNoFile same none

pub no_lies : (folders : Folders) (path : List ℕ) (current : Option Identity) (place : Place) → IsNoFile place
    → LiesIn folders path current place
no_lies folders path current place.Nothing free = tt
no_lies folders path current place.BelowFile free = tt
no_lies folders path current (place.File status) free = absurd free
no_lies folders path current place.Folder free = tt
no_lies folders path current place.Other free = tt

pub freely : (answer : Result Place FolderFault) (Reported : Place → Type 0) → IfOk answer Reported
    → IfOk answer (λ one. IsNoFile one → Reported one)
freely (Ok one) Reported at = λ free. at
freely (Err fault) Reported at = tt

pub always : {T E : Type 0} (answer : Result T E) (P : Type 0) → P → IfOk answer (λ _. P)
always (Ok value) P holds = holds
always (Err error) P holds = tt

-- ---- what was removed

-- in the folder that the path lies in
pub removed_in : {E : Type 0} (folders : Folders) (path name : List ℕ) (current : Option Identity) (folder : Identity)
    (a b : FileState) (answer : Result (Unit {0}) E) → IsNameOf path name
    → folder_above folders path ≡ current → current ≡ Some folder
    → MatchResult answer (λ _. IsRemoved (place_in folder name) a b) (λ _. IsAlikeBut (place_in folder name) a b)
    → IsRemovedIn folders path a b
removed_in folders path name current folder a b (Ok done) named above is removed =
    inr (folder, name, above ∙ is, named, removed.others)
removed_in folders path name current folder a b (Err error) named above is alike =
    inr (folder, name, above ∙ is, named, alike)

pub gone_here : (folders : Folders) (path name : List ℕ) (current : Option Identity) (folder : Identity)
    (held : FileState) → IsNameOf path name → folder_above folders path ≡ current → current ≡ Some folder
    → held (place_in folder name) ≡ None → IsGone folders held path
gone_here folders path name current folder held named above is none =
    inl (file_of_name folders held path name named ∙ ap (λ o. file_in held o name) (above ∙ is) ∙ none)

-- so it is where the name was to be removed, and was
pub gone_if : {E : Type 0} (now folders : Folders) (path name : List ℕ) (current : Option Identity) (folder : Identity)
    (a b : FileState) (answer : Result (Unit {0}) E) → now ≡ folders → IsNameOf path name
    → folder_above folders path ≡ current → current ≡ Some folder
    → MatchResult answer (λ _. IsRemoved (place_in folder name) a b) (λ _. IsAlikeBut (place_in folder name) a b)
    → IfOk answer (λ _. IsGone now b path)
gone_if now folders path name current folder a b (Ok done) still named above is removed =
    subst (λ reported. IsGone reported b path) (sym still)
    (gone_here folders path name current folder b named above is removed.gone)
gone_if now folders path name current folder a b (Err error) still named above is alike = tt

-- where no regular file was reported
pub gone_reported : (folders : Folders) (held : FileState) (path : List ℕ) (current : Option Identity) (place : Place)
    → IsNoFile place → IsPlaceAt folders held path current place → IsGone folders held path
gone_reported folders held path current place.Nothing free at = inl at
gone_reported folders held path current place.BelowFile free at = inl at
gone_reported folders held path current (place.File status) free at = absurd free
gone_reported folders held path current place.Folder free at = inl at
gone_reported folders held path current place.Other free at = at

-- read, and then looked at once more
pub read_foreign : (folders was : Folders) (held had : FileState) (path : List ℕ) (limit : ℕ)
    (current : Option Identity) (answer reported : Reading) → folders ≡ was → held ≡ had
    → IsReadAt was had path limit answer
    → (reported ≡ answer) ⊎ ((reported ≡ readings.TooLong) × IsPlaceAt folders held path current place.Other)
    → IsReadWith foreign.TooLong folders held path limit reported
read_foreign folders was held had path limit current answer reported still kept read (inl same) =
    inl (rw (same, still, kept) read)
read_foreign folders was held had path limit current answer reported still kept read (inr other) = inr other

pub reported_foreign : {E : Type 0} (folders was : Folders) (held had : FileState) (path : List ℕ) (limit : ℕ)
    (current : Option Identity) (answer : Reading) (result : Result Reading E) → folders ≡ was → held ≡ had
    → IsReadAt was had path limit answer → IfOk result (λ reported. (reported ≡ answer)
    ⊎ ((reported ≡ readings.TooLong) × IsPlaceAt folders held path current place.Other))
    → IfOk result (IsReadWith foreign.TooLong folders held path limit)
reported_foreign folders was held had path limit current answer (Ok reported) still kept read other =
    read_foreign folders was held had path limit current answer reported still kept read other
reported_foreign folders was held had path limit current answer (Err error) still kept read other = tt
