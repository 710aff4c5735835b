-- What a barrier finds and syncs, path by path.
use Rattle.std.proofs.Common.{◌≡◌, ◌⊎◌, inl, inr, ℕ, Bool, true, false, List, [], ◌∷◌, ◌++◌, map, Option, None, Some}
use Rattle.std.proofs.Common.{refl, sym, ◌∙◌, ap, subst, string_bytes, String}
use Rattle.std.specs.Prelude.{◌||◌}
use Rattle.std.specs.List.{list_any}
use Rattle.std.specs.Ordering.{nat_cmp, is_eq}
use Rattle.std.specs.BTreeMap.{is_at}
use Rattle.std.specs.Cmp.Lexicographic.{slice_cmp}
use Rattle.std.proofs.lemmas.Map.Text.{is_eq-slice_cmp}
use Rattle.std.proofs.lemmas.Slice.Eq.{bytes_eq-Decides}
use Rattle.reuse_system.specs.FileStates.{FileState}
use Rattle.reuse_system.specs.Folders.{Folders, folder_at, IsBarred}
use Rattle.reuse_system.specs.declared.place.Identity.{Identity}
use Rattle.reuse_system.specs.declared.place.Place.{Place}
use Rattle.reuse_system.specs.declared.place.Place.TheVariants as place
use Rattle.reuse_disk.specs.OpenFolders.{IsEntered}
use Rattle.reuse_disk.specs.Synced.{IsFoundAmong, IsSyncedSince}

-- ---- paths, one after the other

-- so it is of the text of each
abbrev pub EachText : {K : Type 0} → (K → List ℕ) → (List ℕ → Type 0) → List K → Type 0
EachText text P [] = Unit {0}
EachText text P (key ∷ keys) = P (text key) × EachText text P keys

pub each_push : {K : Type 0} (text : K → List ℕ) (P : List ℕ → Type 0) (keys : List K) (key : K) → EachText text P keys
    → P (text key) → EachText text P (keys ++ key ∷ [])
each_push text P [] key all one = (one, tt)
each_push text P (first ∷ keys) key all one = (all.0, each_push text P keys key all.1 one)

pub each_weaker : {K : Type 0} (text : K → List ℕ) (P Q : List ℕ → Type 0) (keys : List K)
    → ((path : List ℕ) → P path → Q path) → EachText text P keys → EachText text Q keys
each_weaker text P Q [] from all = tt
each_weaker text P Q (key ∷ keys) from all = (from (text key) all.0, each_weaker text P Q keys from all.1)

pub each_shown : {A K : Type 0} (shown : A → K) (text : K → List ℕ) (P : List ℕ → Type 0) (items : List A)
    → EachText (λ item. text (shown item)) P items → EachText text P (map shown items)
each_shown shown text P [] all = tt
each_shown shown text P (item ∷ items) all = (all.0, each_shown shown text P items all.1)

pub each_held : {Y : Type 0} (P : List ℕ → Type 0) (keys : List (String Y)) (path : List ℕ)
    → EachText string_bytes P keys → list_any (is_at (λ key. slice_cmp nat_cmp path (string_bytes key))) keys ≡ true
    → P path
each_held P [] path all held = absurd (cc)
each_held P (key ∷ keys) path all held =
    by (each_held P keys path all.1) (is_eq (slice_cmp nat_cmp path (string_bytes key))) refl held
  where
    by : (list_any (is_at (λ key. slice_cmp nat_cmp path (string_bytes key))) keys ≡ true → P path)
        → (here : Bool) → is_eq (slice_cmp nat_cmp path (string_bytes key)) ≡ here
        → (here || list_any (is_at (λ key. slice_cmp nat_cmp path (string_bytes key))) keys) ≡ true → P path
    by behind true is some =
        subst P (sym ((bytes_eq-Decides path (string_bytes key)).0
        (sym (is_eq-slice_cmp path (string_bytes key)) ∙ is))) all.0
    by behind false is some = behind some

-- one item more was taken of what is left
pub taken_more : {A K : Type 0} (shown : A → K) (all : List K) (taken : List A) (item : A) (left rest : List K)
    → all ≡ map shown taken ++ left → left ≡ shown item ∷ rest → all ≡ map shown (taken ++ item ∷ []) ++ rest
taken_more shown all taken item left rest was is =
    was ∙ ap (λ l. map shown taken ++ l) is ∙ by taken
  where
    by : (taken : List _) → map shown taken ++ shown item ∷ rest ≡ map shown (taken ++ item ∷ []) ++ rest
    by [] = refl
    by (one ∷ taken) = ap (λ l. shown one ∷ l) (by taken)

-- ---- what is found

pub found_later : (folders others : Folders) (held now : FileState) (There Then : List ℕ → Type 0) (path : List ℕ)
    → others ≡ folders → now ≡ held → ((other : List ℕ) → There other → Then other)
    → IsFoundAmong folders held There path → IsFoundAmong others now Then path
found_later folders others held now There Then path same also grown found folder at free =
    let one = found folder (ap (λ f. folder_at f path) (sym same) ∙ at)
    (λ barred. free (subst (λ f. IsBarred f now path) (sym same) (subst (λ h. IsBarred folders h path) (sym also) barred))) in
    (one.0, grown one.0 one.1, ap (λ f. folder_at f one.0) same ∙ one.2)

-- the folder that was entered is the one of the path
pub entered_there : (folders : Folders) (held : FileState) (path : List ℕ) (current : Option Identity)
    (found : Option Place) (folder : Identity) → IsEntered folders held path current found
    → folder_at folders path ≡ Some folder → ¬ (IsBarred folders held path) → current ≡ Some folder
entered_there folders held path current None folder entered at free = sym entered ∙ at
entered_there folders held path current (Some place.Nothing) folder entered at free = absurd (cc)
entered_there folders held path current (Some place.BelowFile) folder entered at free = absurd (cc)
entered_there folders held path current (Some (place.File status)) folder entered at free = absurd (cc)
entered_there folders held path current (Some place.Folder) folder entered at free = absurd (cc)
entered_there folders held path current (Some place.Other) folder entered at free = by entered.1
  where
    by : (folder_at folders path ≡ None) ⊎ IsBarred folders held path → current ≡ Some folder
    by (inl none) = absurd (cc)
    by (inr barred) = absurd (free barred)

-- ---- what is synced

-- the list has grown
abbrev pub IsGrownBy : List Identity → List Identity → Type 0
IsGrownBy before after = (during : List Identity) × (after ≡ during ++ before)

pub grown_more : (before now after : List Identity) (folder : Identity) → after ≡ folder ∷ now → IsGrownBy before now
    → IsGrownBy before after
grown_more before now after folder is grown = (folder ∷ grown.0, is ∙ ap (λ l. folder ∷ l) grown.1)

pub since_now : (before now after : List Identity) (folder : Identity) → after ≡ folder ∷ now → IsGrownBy before now
    → IsSyncedSince before after folder
since_now before now after folder is grown =
    record { later = []; earlier = grown.0; grown = is ∙ ap (λ l. folder ∷ l) grown.1 }

pub since_later : (before now after : List Identity) (other folder : Identity) → after ≡ other ∷ now
    → IsSyncedSince before now folder → IsSyncedSince before after folder
since_later before now after other folder is since =
    record { later = other ∷ since.later; earlier = since.earlier; grown = is ∙ ap (λ l. other ∷ l) since.grown }

-- what the path leads to was synced since then, if that is a folder
abbrev pub IsSyncedThere : Folders → (before after : List Identity) → List ℕ → Type 0
IsSyncedThere folders before after path =
    (folder : Identity) → folder_at folders path ≡ Some folder → IsSyncedSince before after folder

pub there_later : (folders others : Folders) (before now after : List Identity) (other : Identity) (path : List ℕ)
    → others ≡ folders → after ≡ other ∷ now → IsSyncedThere folders before now path
    → IsSyncedThere others before after path
there_later folders others before now after other path same is synced folder at =
    since_later before now after other folder is (synced folder (ap (λ f. folder_at f path) (sym same) ∙ at))
