-- Folders that are made or removed where names form a tree: each path leads to the file that it led to.
use Rattle.std.proofs.Common.{◌≡◌, ◌≢◌, ◌⊎◌, inl, inr, ℕ, Bool, true, false, List, [], ◌∷◌, Option, None, Some}
use Rattle.std.proofs.Common.{refl, sym, ◌∙◌, ap, ap₂, subst, ◌==◌, true≢false}
use Rattle.std.specs.Bool.{Decides}
use Rattle.std.specs.Str.{bytes_eq}
use Rattle.std.proofs.lemmas.Bool.Decides.{Decides-eqb}
use Rattle.std.proofs.lemmas.Slice.Eq.{bytes_eq-Decides}
use Rattle.reuse_system.specs.FileStates.{StateFile, Place, FileState, place_in}
use Rattle.reuse_system.specs.Folders.{Folders, folder_in, file_in, file_along, file_at, IsAlikeFoldersBut, HaveSameFiles}
use Rattle.reuse_system.specs.NameTree.{HasName, IsNameTree}
use Rattle.reuse_system.specs.Names.{between_slashes}
use Rattle.reuse_system.specs.declared.place.Identity.{Identity}
use Rattle.reuse_disk.specs.KeptPaths.{KeepsPaths}
use Rattle.reuse_disk.proofs.PlaceLemmas.{folder_of_place}

pub alike_back : (place : Place) (a b : Folders) → IsAlikeFoldersBut place a b → IsAlikeFoldersBut place b a
alike_back place a b alike =
    record {
      root = sym alike.root;
      is_other = sym alike.is_other;
      others = λ other apart. sym (alike.others other apart);
    }

-- where nothing has this name
no_some : {X : Type 0} (o : Option X) → ((o ≢ None) → ⊥) → o ≡ None
no_some None not = refl
no_some (Some x) not = absurd (not (λ e. cc))

-- both are the same folder, or they aren't
same_or_not : (one other : Identity) → (one ≡ other) ⊎ (one ≢ other)
same_or_not one other =
    by (one.device == other.device) (Decides-eqb one.device other.device) (one.number == other.number)
    (Decides-eqb one.number other.number)
  where
    by : (b : Bool) → Decides b (one.device ≡ other.device) → (c : Bool) → Decides c (one.number ≡ other.number)
        → (one ≡ other) ⊎ (one ≢ other)
    by true device true number =
        inl (ap₂ (λ d n. let it : Identity = record { device = d; number = n } in it) (device.0 refl) (number.0 refl))
    by true device false number =
        inr (λ e. true≢false (sym (number.1 (ap (λ (it : Identity). it.number) e))))
    by false device c number = inr (λ e. true≢false (sym (device.1 (ap (λ (it : Identity). it.device) e))))

-- ---- a folder that only one of both has holds nothing

module _ (held : FileState) (at : Place) (a b : Folders) (alike : IsAlikeFoldersBut at a b) (was : IsNameTree a held)
    (is : IsNameTree b held) (one : Identity) (stands : b.below at ≡ Some one) (not : a.below at ≢ Some one) where
  no_name : HasName a one → ⊥
  no_name (inl root) = is.no_name at (stands ∙ ap (λ (it : Identity). Some it) (root ∙ sym alike.root))
  no_name (inr (place, leads)) = apart here
    where
      here : place ≢ at
      here e = not (subst (λ p. a.below p ≡ Some one) e leads)

      apart : place ≢ at → ⊥
      apart other = other (is.one_name place at one (alike.others place other ∙ leads) stands)

  named : (name : List ℕ) → (held (place_in one name) ≢ None) ⊎ (a.below (place_in one name) ≢ None) → ⊥
  named name some =
      let found = was.reached (place_in one name) some in
      no_name (subst (HasName a) (sym (folder_of_place one found.0 name found.1 found.2)) found.3)

  no_file : (name : List ℕ) → held (place_in one name) ≡ None
  no_file name = no_some (held (place_in one name)) (λ some. named name (inl some))

  no_folder : (name : List ℕ) → a.below (place_in one name) ≡ None
  no_folder name = no_some (a.below (place_in one name)) (λ some. named name (inr some))

  -- the folder may be in itself
  below : (place : Place) (names : List (List ℕ)) → a.below place ≡ None
      → file_along b held (Some one) names ≡ None → (yes : Bool) → Decides yes (place ≡ at)
      → file_along b held (b.below place) names ≡ None
  below place names none itself true decides =
      subst (λ o. file_along b held o names ≡ None) (sym (ap b.below (decides.0 refl) ∙ stands)) itself
  below place names none itself false decides =
      subst (λ o. file_along b held o names ≡ None)
      (sym (alike.others place (λ e. true≢false (sym (decides.1 e))) ∙ none)) (nothing names)
    where
      nothing : (names : List (List ℕ)) → file_along b held None names ≡ None
      nothing [] = refl
      nothing (name ∷ []) = refl
      nothing (name ∷ next ∷ names) = refl

  pub holds_nothing : (names : List (List ℕ)) → file_along b held (Some one) names ≡ None
  holds_nothing [] = refl
  holds_nothing (name ∷ []) = no_file name
  holds_nothing ([] ∷ next ∷ names) = holds_nothing (next ∷ names)
  holds_nothing ((byte ∷ name) ∷ next ∷ names) =
      let place = place_in one (byte ∷ name) in
      below place (next ∷ names) (no_folder (byte ∷ name)) (holds_nothing (next ∷ names)) (bytes_eq place at)
      (bytes_eq-Decides place at)

-- ---- so no path leads to another file

module _ (held : FileState) (at : Place) (old new : Folders) (alike : IsAlikeFoldersBut at old new)
    (was : IsNameTree old held) (is : IsNameTree new held) where
  -- what stands at the place that differs
  there : (names : List (List ℕ)) (one other : Option Identity) → new.below at ≡ one → old.below at ≡ other
      → ((folder : Identity) → file_along new held (Some folder) names ≡ file_along old held (Some folder) names)
      → file_along new held one names ≡ file_along old held other names
  there [] one other now before same = refl
  there (name ∷ []) None None now before same = refl
  there (name ∷ next ∷ names) None None now before same = refl
  there (name ∷ names) (Some one) None now before same =
      holds_nothing held at old new alike was is one now (λ e. let bad = sym before ∙ e in absurd (cc)) (name ∷ names)
      ∙ nothing names
    where
      nothing : (names : List (List ℕ)) → None ≡ file_along old held None (name ∷ names)
      nothing [] = refl
      nothing (next ∷ names) = refl
  there (name ∷ names) None (Some other) now before same =
      nothing names ∙ sym (holds_nothing held at new old (alike_back at old new alike) is was other before
      (λ e. let bad = sym now ∙ e in absurd (cc)) (name ∷ names))
    where
      nothing : (names : List (List ℕ)) → file_along new held None (name ∷ names) ≡ None
      nothing [] = refl
      nothing (next ∷ names) = refl
  there (name ∷ names) (Some one) (Some other) now before same = by (same_or_not one other)
    where
      by : (one ≡ other) ⊎ (one ≢ other)
          → file_along new held (Some one) (name ∷ names) ≡ file_along old held (Some other) (name ∷ names)
      by (inl e) = same one ∙ ap (λ it. file_along old held (Some it) (name ∷ names)) e
      by (inr apart) =
          holds_nothing held at old new alike was is one now
          (λ e. apart (let two : Some one ≡ Some other = sym e ∙ before in cc)) (name ∷ names)
          ∙ sym (holds_nothing held at new old (alike_back at old new alike) is was other before
          (λ e. apart (let two : Some one ≡ Some other = sym now ∙ e in cc)) (name ∷ names))

  below_place : (place : Place) (names : List (List ℕ))
      → ((folder : Identity) → file_along new held (Some folder) names ≡ file_along old held (Some folder) names)
      → (yes : Bool) → Decides yes (place ≡ at)
      → file_along new held (new.below place) names ≡ file_along old held (old.below place) names
  below_place place names same true decides =
      let here = decides.0 refl in
      ap (λ p. file_along new held (new.below p) names) here
      ∙ there names (new.below at) (old.below at) refl refl same
      ∙ sym (ap (λ p. file_along old held (old.below p) names) here)
  below_place place names same false decides =
      ap (λ o. file_along new held o names) (alike.others place (λ e. true≢false (sym (decides.1 e))))
      ∙ stays names (old.below place) same
    where
      stays : (names : List (List ℕ)) (o : Option Identity)
          → ((folder : Identity) → file_along new held (Some folder) names ≡ file_along old held (Some folder) names)
          → file_along new held o names ≡ file_along old held o names
      stays names (Some folder) same = same folder
      stays [] None same = refl
      stays (name ∷ []) None same = refl
      stays (name ∷ next ∷ names) None same = refl

  same_along : (names : List (List ℕ)) (folder : Identity)
      → file_along new held (Some folder) names ≡ file_along old held (Some folder) names
  same_along [] folder = refl
  same_along (name ∷ []) folder = refl
  same_along ([] ∷ next ∷ names) folder = same_along (next ∷ names) folder
  same_along ((byte ∷ name) ∷ next ∷ names) folder =
      let place = place_in folder (byte ∷ name) in
      below_place place (next ∷ names) (same_along (next ∷ names)) (bytes_eq place at) (bytes_eq-Decides place at)

  pub same_files : HaveSameFiles old new held
  same_files path =
      ap (λ root. file_along new held (Some root) (between_slashes path)) alike.root
      ∙ same_along (between_slashes path) old.root

-- ---- and that of the journal to its folder

pub kept_none : (folders : Folders) (held : FileState) → KeepsPaths held folders folders
kept_none folders held = record { files = λ path. refl; journal = λ folder is. is }

pub kept_then : (a b c : Folders) (held : FileState) → KeepsPaths held a b → KeepsPaths held b c → KeepsPaths held a c
kept_then a b c held one two =
    record {
      files = λ path. two.files path ∙ one.files path;
      journal = λ folder is. two.journal folder (one.journal folder is);
    }
