-- What is left of a tree's files where new files are written, and one of its paths.
use Rattle.std.proofs.Common.{◌≡◌, ◌≢◌, ◌⊎◌, inl, inr, ℕ, ◌<◌, ◌^◌, Bool, true, false, IsTrue, List, [], ◌∷◌, ◌++◌}
use Rattle.std.proofs.Common.{length, Option, None, Some, refl, sym, ◌∙◌, ap, subst, arith, true≢false, ◌||◌}
use Rattle.reuse_change.specs.Layout.{above_journal, journal_folder, journal_name}
use Rattle.reuse_change.specs.Path.{is_path}
use Rattle.reuse_system.proofs.NewNameLemmas.{beside_is_kept}
use Rattle.reuse_system.specs.FileStates.{FileState, Place, place_in}
use Rattle.reuse_system.specs.Folders.{Folders, file_along, file_at, file_in, folder_above, folder_along, folder_at}
use Rattle.reuse_system.specs.Folders.{folder_in, without_last, HaveSameFiles}
use Rattle.reuse_system.specs.Ignored.{begins_journal, is_beside_name, is_control_folder, is_foreign, is_ignored}
use Rattle.reuse_system.specs.Ignored.{is_name_ignored, is_new, is_new_name}
use Rattle.reuse_system.specs.NameTree.{IsNameTree}
use Rattle.reuse_system.specs.Names.{between_slashes, IsNameOf}
use Rattle.reuse_system.specs.SystemLaws.{IsAlikeBut, IsAlikeUnless}
use Rattle.reuse_system.specs.TempFiles.{beside_name, IsNewIn, IsNewPlace}
use Rattle.reuse_system.specs.declared.place.Identity.{Identity}
use Rattle.reuse_disk.proofs.JournalStays.{last_away, path_of_names}
use Rattle.reuse_disk.proofs.LastNames.{between-some, by_parts}
use Rattle.reuse_disk.proofs.OneWay.{last_apart, names_apart, one_way, path_has_names, AreNames}
use Rattle.reuse_disk.proofs.PlaceLemmas.{folder_of_place, name_of_place}
use Rattle.reuse_folder.specs.Disk.{Disk, IsOfTree, IsSameTree, IsSameTreeBut}
use Rattle.reuse_disk.specs.KeptPaths.{KeepsPaths}
use Rattle.reuse_change.specs.Parts.{joined}
use Rattle.reuse_change.specs.declared.parts.Pieces.{Pieces}
use Rattle.reuse_folder.specs.Batches.{IsWriteAt, IsWriteOn}
use Rattle.reuse_folder.specs.FolderWrites.{IsPutIn, IsRemovedIn}
use Rattle.reuse_folder.specs.NewFileFolder.{IsJournal, IsNewOnly, KeepsTree}

-- ---- nothing differs

pub same_disk : (folders now : Folders) (held is : FileState) (path : List ℕ) → now ≡ folders → is ≡ held
    → IsSameTreeBut path (record { folders = folders; files = held }) (record { folders = now; files = is })
same_disk folders now held is path still kept other of_tree apart =
    ap (λ f. file_at f is other) still ∙ ap (λ h. file_at folders h other) kept

-- ---- ignored names

or_first : (a b : Bool) → a ≡ true → (a || b) ≡ true
or_first true b is = refl
or_first false b is = absurd (true≢false (sym is))

or_second : (a b : Bool) → b ≡ true → (a || b) ≡ true
or_second true b is = refl
or_second false b is = is

or_third : (a b c : Bool) → c ≡ true → (a || b || c) ≡ true
or_third true b c is = refl
or_third false true c is = refl
or_third false false c is = is

ignored_last : (front : List (List ℕ)) (name : List ℕ) → is_name_ignored name ≡ true
    → is_foreign false (front ++ name ∷ []) ≡ true
ignored_last [] name is = is
ignored_last (x ∷ []) name is = or_third (is_control_folder x) (begins_journal (name ∷ [])) (is_name_ignored name) is
ignored_last (x ∷ y ∷ xs) name is =
    or_third (is_control_folder x) (begins_journal (y ∷ xs ++ name ∷ [])) (is_foreign false (y ∷ xs ++ name ∷ []))
    (ignored_last (y ∷ xs) name is)

-- ---- the names along a path

record Way (path : List ℕ) : Type 0 where
  front : List (List ℕ)
  name : List ℕ
  parts : between_slashes path ≡ front ++ name ∷ []
  are : AreNames front

way_of : (path : List ℕ) → IsTrue (is_path path) → Way path
way_of path good = split (between_slashes path) refl
  where
    split : (names : List (List ℕ)) → between_slashes path ≡ names → Way path
    split [] is = absurd (between-some path is)
    split (x ∷ xs) is =
        let apart = last_apart x xs in
        record {
          front = apart.0;
          name = apart.1;
          parts = is ∙ apart.2;
          are = (names_apart apart.0 (apart.1 ∷ []) (subst AreNames (is ∙ apart.2) (path_has_names path good))).0;
        }

last_file : (folders : Folders) (files : FileState) (at : Option Identity) (xs : List (List ℕ)) (name : List ℕ)
    → file_along folders files at (xs ++ name ∷ []) ≡ file_in files (folder_along folders at xs) name
last_file folders files at [] name = refl
last_file folders files None (x ∷ []) name = refl
last_file folders files (Some at) (x ∷ []) name = refl
last_file folders files None (x ∷ y ∷ xs) name = refl
last_file folders files (Some at) (x ∷ y ∷ xs) name = last_file folders files (folder_in folders at x) (y ∷ xs) name

module _ (folders : Folders) (held : FileState) (tree : IsNameTree folders held) where
  -- this folder lies along these names
  abbrev Leads : List (List ℕ) → Identity → Type 0
  Leads front at = folder_along folders (Some folders.root) front ≡ Some at

  file_there : (files : FileState) (path : List ℕ) (way : Way path)
      → file_at folders files path ≡ file_in files (folder_along folders (Some folders.root) way.front) way.name
  file_there files path way =
      ap (file_along folders files (Some folders.root)) way.parts
      ∙ last_file folders files (Some folders.root) way.front way.name

  same_at : (a b : FileState) (path : List ℕ) (way : Way path)
      → ((at : Identity) → Leads way.front at → b (place_in at way.name) ≡ a (place_in at way.name))
      → file_at folders b path ≡ file_at folders a path
  same_at a b path way same =
      file_there b path way ∙ by (folder_along folders (Some folders.root) way.front) refl
      ∙ sym (file_there a path way)
    where
      by : (o : Option Identity) → folder_along folders (Some folders.root) way.front ≡ o
          → file_in b o way.name ≡ file_in a o way.name
      by None is = refl
      by (Some at) is = same at is

  -- one place is that of one path
  same_path : (path name : List ℕ) (folder : Identity) → IsTrue (is_path path) → IsNameOf path name
      → folder_above folders path ≡ Some folder → (other : List ℕ) (way : Way other) (at : Identity)
      → Leads way.front at → place_in at way.name ≡ place_in folder name → other ≡ path
  same_path path name folder good named above other way at leads e =
      path_of_names other (between_slashes path)
      (way.parts ∙ ap (λ l. l ++ way.name ∷ []) fronts
      ∙ ap (λ l. parts.0 ++ l ∷ []) (name_of_place at folder way.name name e) ∙ sym parts.1)
      ∙ sym (path_of_names path (between_slashes path) refl)
    where
      parts : (front : List (List ℕ)) × (between_slashes path ≡ front ++ name ∷ [])
      parts = by_parts path name named named.behind

      here : Leads parts.0 folder
      here =
          ap (folder_along folders (Some folders.root)) (sym (last_away parts.0 name))
          ∙ ap (λ l. folder_along folders (Some folders.root) (without_last l)) (sym parts.1) ∙ above

      fronts : way.front ≡ parts.0
      fronts =
          one_way folders held tree (length way.front) way.front parts.0 folder (omega arith) way.are
          (names_apart parts.0 (name ∷ []) (subst AreNames parts.1 (path_has_names path good))).0
          (leads ∙ ap (λ (it : Identity). Some it) (folder_of_place at folder way.name name e)) here

  -- a removal
  pub removed_but : (a b : FileState) (path : List ℕ) → IsTrue (is_path path) → IsRemovedIn folders path a b
      → IsSameTreeBut path (record { folders = folders; files = a }) (record { folders = folders; files = b })
  removed_but a b path good (inl alike) other of_tree apart =
      let way = way_of other of_tree.is_good in
      same_at a b other way (λ at leads. alike (place_in at way.name))
  removed_but a b path good (inr (folder, name, above, named, alike)) other of_tree apart =
      let way = way_of other of_tree.is_good in
      same_at a b other way
      (λ at leads. alike (place_in at way.name)
      (λ e. apart (same_path path name folder good named above other way at leads e)))

  module _ (new_files : Identity) (short : new_files.number < 2 ^ 64)
      (home : folder_at folders journal_folder ≡ Some new_files) where
    -- no file of the tree is at a place of new files
    not_new : (path : List ℕ) (way : Way path) (at : Identity) → is_ignored path ≡ false → Leads way.front at
        → (folder : Identity) → ¬ (IsNewPlace new_files folder (place_in at way.name))
    not_new path way at kept leads folder (inl (new, is, same)) =
        let front =
        one_way folders held tree (length way.front) way.front (above_journal ∷ journal_name ∷ []) new_files
        (omega arith) way.are ((λ e. absurd (cc)), ((λ e. absurd (cc)), tt))
        (leads ∙ ap (λ (it : Identity). Some it) (folder_of_place at new_files way.name new same)) home in
        let names = way.parts ∙ ap (λ l. l ++ way.name ∷ []) front in
        let new_name = ap is_new_name (name_of_place at new_files way.name new same) ∙ is in
        true≢false (sym (or_first (is_new (between_slashes path)) (is_foreign false (between_slashes path))
        (ap is_new names ∙ new_name)) ∙ kept)
    not_new path way at kept leads folder (inr same) =
        let beside = ap is_beside_name (name_of_place at folder way.name (beside_name new_files) same) in
        let ignored = or_second _ (is_beside_name way.name) (beside ∙ beside_is_kept new_files short) in
        true≢false (sym (or_second (is_new (between_slashes path)) (is_foreign false (between_slashes path))
        (ap (is_foreign false) way.parts ∙ ignored_last way.front way.name ignored)) ∙ kept)

    -- new files
    pub same_tree : (a b : FileState) → IsAlikeUnless (IsNewIn new_files) a b
        → IsSameTree (record { folders = folders; files = a }) (record { folders = folders; files = b })
    same_tree a b alike path of_tree =
        let way = way_of path of_tree.is_good in
        same_at a b path way
        (λ at leads. alike (place_in at way.name) (λ new. not_new path way at of_tree.is_kept leads at (inl new)))

    -- new files, and a path
    pub same_but : (a b : FileState) (path name : List ℕ) (folder : Identity) → IsTrue (is_path path)
        → IsNameOf path name → folder_above folders path ≡ Some folder
        → ((place : Place) → ¬ (IsNewPlace new_files folder place) → place ≢ place_in folder name → b place ≡ a place)
        → IsSameTreeBut path (record { folders = folders; files = a }) (record { folders = folders; files = b })
    same_but a b path name folder good named above others other of_tree apart =
        let way = way_of other of_tree.is_good in
        same_at a b other way
        (λ at leads. others (place_in at way.name) (not_new other way at of_tree.is_kept leads folder)
        (λ e. apart (same_path path name folder good named above other way at leads e)))

    -- the path was put, or wasn't
    pub put_but : (a b : FileState) (path bytes : List ℕ) (is is_done : Bool) → IsTrue (is_path path)
        → IsPutIn new_files folders path bytes is a b is_done
        → IsSameTreeBut path (record { folders = folders; files = a }) (record { folders = folders; files = b })
    put_but a b path bytes is is_done good (inl not) other of_tree apart = same_tree a b not.1 other of_tree
    put_but a b path bytes is is_done good (inr (put, above)) other of_tree apart =
        same_but a b path put.name put.folder good put.is_named above put.written.others other of_tree apart

-- a removal where no folder differs
pub removed_on : (folders now : Folders) (a b : FileState) (path : List ℕ) → now ≡ folders → IsNameTree now b
    → IsTrue (is_path path) → IsRemovedIn now path a b
    → IsSameTreeBut path (record { folders = folders; files = a }) (record { folders = now; files = b })
removed_on folders now a b path still tree good removed other of_tree apart =
    removed_but now b tree a b path good removed other of_tree apart ∙ ap (λ f. file_at f a other) still

-- folders were made, in which nothing is, and then new files
pub grown_tree : (old folders : Folders) (a b : FileState) → IsNameTree folders b → (new_files : Identity)
    → new_files.number < 2 ^ 64 → folder_at folders journal_folder ≡ Some new_files → HaveSameFiles old folders a
    → IsAlikeUnless (IsNewIn new_files) a b
    → IsSameTree (record { folders = old; files = a }) (record { folders = folders; files = b })
grown_tree old folders a b tree new_files short home same alike path of_tree =
    same_tree folders b tree new_files short home a b alike path of_tree ∙ same path

-- where no folder differs, the journal's is the same
pub home_at : (folders now : Folders) (new_files : Identity) → now ≡ folders
    → IsJournal (folder_at folders journal_folder) new_files → IsJournal (folder_at now journal_folder) new_files
home_at folders now new_files still home = (ap (λ f. folder_at f journal_folder) still ∙ home.0, home.1)

-- new files, where no folder differs
pub new_on : (a b : Disk) (new_files : Identity) → b.folders ≡ a.folders → IsNameTree b.folders b.files
    → IsJournal (folder_at a.folders journal_folder) new_files → IsAlikeUnless (IsNewIn new_files) a.files b.files
    → IsNewOnly new_files a b
new_on a b new_files still tree home alike = (
  alike,
  λ path of_tree.
      same_tree b.folders b.files tree new_files home.1
      (ap (λ f. folder_at f journal_folder) still ∙ home.0) a.files b.files alike path of_tree
      ∙ ap (λ f. file_at f a.files path) still,
)

-- a write of a file, where no folder differs
pub write_at : (a b : Disk) (new_files : Identity) (is is_done : Bool) (path : List ℕ) (file : Option Pieces)
    → file ≢ None → IsTrue (is_path path) → b.folders ≡ a.folders → IsNameTree b.folders b.files
    → IsJournal (folder_at a.folders journal_folder) new_files → IsWriteOn new_files is path file a b is_done
    → IsWriteAt new_files is path file a b is_done
write_at a b new_files is is_done path None some good still tree home write = absurd (some refl)
write_at a b new_files is is_done path (Some parts) some good still tree home write = (
  write,
  λ other of_tree apart.
      put_but b.folders b.files tree new_files home.1
      (ap (λ f. folder_at f journal_folder) still ∙ home.0) a.files b.files path (joined parts) is is_done good write
      other of_tree apart
      ∙ ap (λ f. file_at f a.files other) still,
)

-- ---- folders that are made, and new files

pub keeps_none : (new_files : Identity) (a b : Disk) → b.folders ≡ a.folders → b.files ≡ a.files
    → KeepsTree new_files a b
keeps_none new_files a b still kept home = (
  (ap (λ f. folder_at f journal_folder) still ∙ home.0, home.1),
  λ path of_tree. ap (λ f. file_at f b.files path) still ∙ ap (λ h. file_at a.folders h path) kept,
)

pub keeps_then : (new_files : Identity) (a b c : Disk) → KeepsTree new_files a b → KeepsTree new_files b c
    → KeepsTree new_files a c
keeps_then new_files a b c one two home =
    let first = one home in
    let second = two first.0 in
    (second.0, λ path of_tree. second.1 path of_tree ∙ first.1 path of_tree)

pub keeps_made : (new_files : Identity) (a b : Disk) → b.files ≡ a.files → KeepsPaths b.files a.folders b.folders
    → KeepsTree new_files a b
keeps_made new_files a b kept paths home = (
  (paths.journal new_files home.0, home.1),
  λ path of_tree. paths.files path ∙ ap (λ h. file_at a.folders h path) kept,
)

pub keeps_new : (new_files : Identity) (a b : Disk) → b.folders ≡ a.folders → IsNameTree b.folders b.files
    → IsAlikeUnless (IsNewIn new_files) a.files b.files → KeepsTree new_files a b
keeps_new new_files a b still tree alike home = (
  (ap (λ f. folder_at f journal_folder) still ∙ home.0, home.1),
  (new_on a b new_files still tree home alike).1,
)
