-- Which folders are noted for the next barrier.
use Rattle.std.proofs.Common.{◌≡◌, ◌≢◌, ◌⊎◌, ◌<◌, ◌+◌, inl, inr, ℕ, suc, List, [], ◌∷◌, ◌++◌, length, get_or}
use Rattle.std.proofs.Common.{drop}
use Rattle.std.proofs.Common.{slice_index, length-drop, refl, sym, ◌∙◌, ap, subst, arith}
use Rattle.std.proofs.lemmas.List.{get_or-drop}
use Rattle.reuse_store.specs.declared.file_write.FileWrite.{FileWrite}
use Rattle.reuse_system.specs.TempFiles.{IsNewIn, IsNewPlace}
use Rattle.reuse_system.specs.FileStates.{FileState, Place, place_in}
use Rattle.reuse_system.specs.NameChanges.{NameChange, AreEach, IsChangeOf, IsGuarded, OnlyChanges}
use Rattle.reuse_system.specs.Names.{IsNameOf, IsSplit}
use Rattle.reuse_system.specs.NewFiles.{Due}
use Rattle.reuse_system.specs.declared.place.Identity.{Identity}
use Rattle.reuse_disk.specs.Noted.{IsNoted, StayNoted}
use Rattle.reuse_disk.specs.Noted.Note.{Folder}
use Rattle.reuse_disk.specs.declared.syncs.Unsynced.{Unsynced}
use Rattle.reuse_disk.proofs.AtLemmas.{front_or_last, same_at}
use Rattle.reuse_disk.proofs.EditLemmas.{only_none, only_then, only_weaker}
use Rattle.reuse_folder.specs.Barriers.{AreNotedAbove, HasNoted, HaveNoted, IsNotedAbove, IsNotedAt, IsNotedOf}
use Rattle.reuse_folder.specs.Seen.{IsNewFile, LosesNoEdit}
use Rattle.reuse_folder.specs.declared.folder.seen.Expected.{Expected}
use Rattle.reuse_folder.proofs.ReadLemmas.{named_of}

-- ---- a path has one name

-- a list without a slash has none at any index
abbrev NoSlash : List ℕ → Type 0
NoSlash name = (i : ℕ) → i < length name → slice_index name i ≢ 47

slash_there : (folder name : List ℕ) → ¬ (NoSlash (folder ++ 47 ∷ name))
slash_there [] name none = none 0 (omega (arith)) refl
slash_there (byte ∷ folder) name none = slash_there folder name (λ i short. none (suc i) (omega (arith, short)))

no_slash_still : {one other : List ℕ} → one ≡ other → NoSlash one → NoSlash other
no_slash_still same none = subst (λ name. NoSlash name) same none

tails_are_one : (folder other one name : List ℕ) → NoSlash one → NoSlash name
    → folder ++ 47 ∷ one ≡ other ++ 47 ∷ name → one ≡ name
tails_are_one [] [] one name a b e = cc
tails_are_one [] (byte ∷ other) one name a b e =
    let same : one ≡ other ++ 47 ∷ name = cc in absurd (slash_there other name (no_slash_still same a))
tails_are_one (byte ∷ folder) [] one name a b e =
    let same : name ≡ folder ++ 47 ∷ one = cc in absurd (slash_there folder one (no_slash_still same b))
tails_are_one (byte ∷ folder) (more ∷ other) one name a b e = tails_are_one folder other one name a b cc

pub name_is_one : (path one name : List ℕ) → IsNameOf path one → IsNameOf path name → one ≡ name
name_is_one path one name a b = by a.behind b.behind
  where
    by : (one ≡ path) ⊎ ((folder : List ℕ) × (path ≡ folder ++ 47 ∷ one))
        → (name ≡ path) ⊎ ((folder : List ℕ) × (path ≡ folder ++ 47 ∷ name)) → one ≡ name
    by (inl e) (inl f) = e ∙ sym f
    by (inl e) (inr (folder, f)) = absurd (slash_there folder name (no_slash_still (e ∙ f) a.last))
    by (inr (folder, e)) (inl f) = absurd (slash_there folder one (no_slash_still (f ∙ e) b.last))
    by (inr (folder, e)) (inr (other, f)) = tails_are_one folder other one name a.last b.last (sym e ∙ f)

either : (P Q R : Type 0) → (Q → R) → P ⊎ Q → P ⊎ R
either P Q R from (inl p) = inl p
either P Q R from (inr q) = inr (from q)

-- ---- one path

pub above_later : (old new : Unsynced) (path : List ℕ) → StayNoted old new → IsNotedAbove old path
    → IsNotedAbove new path
above_later old new path stay noted =
    record {
      above = noted.above;
      name = noted.name;
      is_split = noted.is_split;
      is_one = stay (Folder noted.above) noted.is_one;
    }

at_later : (old new : Unsynced) (path : List ℕ) (place : Place) → StayNoted old new → IsNotedAt old path place
    → IsNotedAt new path place
unfolding above_later
at_later old new path place stay noted = record {
  noted = above_later old new path stay noted.noted;
  folder = noted.folder;
  at = noted.at;
}

pub has_none : (unsynced : Unsynced) (path : List ℕ) (a b : List NameChange) → b ≡ a → HasNoted unsynced path a b
has_none unsynced path a b same = only_none (λ place. IsNewFile place ⊎ IsNotedAt unsynced path place) a b same

-- names of new files in one folder are names of new files
pub new_only : (new_files : Identity) (a b : List NameChange) → OnlyChanges (IsNewIn new_files) a b
    → OnlyChanges IsNewFile a b
new_only new_files a b only =
    only_weaker (IsNewIn new_files) IsNewFile (λ place new. (new_files, new_files, inl new)) a b only

pub has_only : (unsynced : Unsynced) (path : List ℕ) (a b : List NameChange) → OnlyChanges IsNewFile a b
    → HasNoted unsynced path a b
has_only unsynced path a b only =
    only_weaker IsNewFile (λ place. IsNewFile place ⊎ IsNotedAt unsynced path place) (λ place new. inl new) a b only

-- the path's own name is noted, in whichever folder
at_own : (unsynced : Unsynced) (path name : List ℕ) (folder : Identity) (place : Place) → IsNotedAbove unsynced path
    → IsNameOf path name → place ≡ place_in folder name → IsNotedAt unsynced path place
at_own unsynced path name folder place noted named at =
    let own = named_of path noted.above noted.name noted.is_split in
    record {
      noted = noted;
      folder = folder;
      at = at ∙ ap (place_in folder) (name_is_one path name noted.name named own);
    }

-- the folder above the path, as that is split
pub above_of : (unsynced : Unsynced) (path above name : List ℕ) → IsSplit path above name → IsNoted unsynced above
    → IsNotedAbove unsynced path
above_of unsynced path above name split noted =
    record { above = above; name = name; is_split = split; is_one = noted }

each_noted : (unsynced : Unsynced) (path name : List ℕ) (folder : Identity) (P : Place → Type 0)
    (due : Due) → IsNotedAbove unsynced path → IsNameOf path name
    → ((place : Place) → P place → IsNewFile place) → (changes : List NameChange)
    → AreEach (IsChangeOf P (place_in folder name) due) changes
    → AreEach (λ change. IsNewFile change.place ⊎ IsNotedAt unsynced path change.place) changes
each_noted unsynced path name folder P due noted named new [] all = tt
each_noted unsynced path name folder P due noted named new (change ∷ changes) all =
    (by all.0, each_noted unsynced path name folder P due noted named new changes all.1)
  where
    by : IsChangeOf P (place_in folder name) due change
        → IsNewFile change.place ⊎ IsNotedAt unsynced path change.place
    by (inl other) = inl (new change.place other)
    by (inr own) = inr (at_own unsynced path name folder change.place noted named own.0)

-- names of new files changed, and the path's own, whose folder is noted
pub guarded_noted : (unsynced : Unsynced) (path name : List ℕ) (folder : Identity) (P : Place → Type 0)
    (due : Due) (a b : List NameChange) (old new : FileState) → IsNotedAbove unsynced path
    → IsNameOf path name → ((place : Place) → P place → IsNewFile place)
    → IsGuarded P (place_in folder name) due a b old new → HasNoted unsynced path a b
guarded_noted unsynced path name folder P due a b old new noted named is_new guarded =
    record {
      changes = guarded.changes;
      grown = guarded.grown;
      each = each_noted unsynced path name folder P due noted named is_new guarded.changes guarded.each;
    }

pub has_noted : (unsynced : Unsynced) (path : List ℕ) (one : Expected) (a b : List NameChange) (old new : FileState)
    → IsNotedAbove unsynced path → LosesNoEdit path one a b old new → HasNoted unsynced path a b
has_noted unsynced path one a b old new noted loses =
    guarded_noted unsynced path loses.name loses.folder (IsNewPlace loses.new_files loses.folder) loses.due a b old new
    noted loses.is_named (λ place is. (loses.new_files, loses.folder, is)) loses.guarded

pub has_then : (unsynced : Unsynced) (path : List ℕ) (a b c : List NameChange) → HasNoted unsynced path a b
    → HasNoted unsynced path b c → HasNoted unsynced path a c
has_then unsynced path a b c one two =
    only_then (λ place. IsNewFile place ⊎ IsNotedAt unsynced path place) a b c one two

pub has_later : (old new : Unsynced) (path : List ℕ) (a b : List NameChange) → StayNoted old new
    → HasNoted old path a b → HasNoted new path a b
has_later old new path a b stay noted =
    only_weaker (λ place. IsNewFile place ⊎ IsNotedAt old path place)
    (λ place. IsNewFile place ⊎ IsNotedAt new path place)
    (λ place. either (IsNewFile place) (IsNotedAt old path place) (IsNotedAt new path place)
    (at_later old new path place stay)) a b noted

-- ---- several writes

pub above_all_later : (old new : Unsynced) (writes : List FileWrite) (count : ℕ) → StayNoted old new
    → AreNotedAbove old writes count → AreNotedAbove new writes count
above_all_later old new writes count stay noted k write short at =
    above_later old new write.path.now stay (noted k write short at)

of_later : (old new : Unsynced) (writes : List FileWrite) (place : Place) → StayNoted old new
    → IsNotedOf old writes place → IsNotedOf new writes place
of_later old new writes place stay noted =
    record {
      number = noted.number;
      write = noted.write;
      at = at_later old new noted.write.path.now place stay noted.at;
      short = noted.short;
      is_one = noted.is_one;
    }

pub have_later : (old new : Unsynced) (writes : List FileWrite) (a b : List NameChange) → StayNoted old new
    → HaveNoted old writes a b → HaveNoted new writes a b
have_later old new writes a b stay noted =
    only_weaker (λ place. IsNewFile place ⊎ IsNotedOf old writes place)
    (λ place. IsNewFile place ⊎ IsNotedOf new writes place)
    (λ place. either (IsNewFile place) (IsNotedOf old writes place) (IsNotedOf new writes place)
    (of_later old new writes place stay))
    a b noted

pub have_only : (unsynced : Unsynced) (writes : List FileWrite) (a b : List NameChange) → OnlyChanges IsNewFile a b
    → HaveNoted unsynced writes a b
have_only unsynced writes a b only =
    only_weaker IsNewFile (λ place. IsNewFile place ⊎ IsNotedOf unsynced writes place) (λ place new. inl new) a b only

pub have_none : (unsynced : Unsynced) (writes : List FileWrite) (a b : List NameChange) → b ≡ a
    → HaveNoted unsynced writes a b
have_none unsynced writes a b same = only_none (λ place. IsNewFile place ⊎ IsNotedOf unsynced writes place) a b same

pub have_then : (unsynced : Unsynced) (writes : List FileWrite) (a b c : List NameChange)
    → HaveNoted unsynced writes a b
    → HaveNoted unsynced writes b c → HaveNoted unsynced writes a c
have_then unsynced writes a b c one two =
    only_then (λ place. IsNewFile place ⊎ IsNotedOf unsynced writes place) a b c one two

-- that of one of them
pub have_one : (unsynced : Unsynced) (writes : List FileWrite) (k : ℕ) (write : FileWrite) (a b : List NameChange)
    → k < length writes → write ≡ get_or writes k write → HasNoted unsynced write.path.now a b
    → HaveNoted unsynced writes a b
have_one unsynced writes k write a b short is_one noted =
    only_weaker (λ place. IsNewFile place ⊎ IsNotedAt unsynced write.path.now place)
    (λ place. IsNewFile place ⊎ IsNotedOf unsynced writes place)
    (λ place. either (IsNewFile place) (IsNotedAt unsynced write.path.now place) (IsNotedOf unsynced writes place)
    (λ at. record { number = k; write = write; short = short; is_one = is_one; at = at })) a b noted

-- those from one of them on
pub have_behind : (unsynced : Unsynced) (writes : List FileWrite) (n : ℕ) (a b : List NameChange)
    → HaveNoted unsynced (drop n writes) a b → HaveNoted unsynced writes a b
have_behind unsynced writes n a b noted =
    only_weaker (λ place. IsNewFile place ⊎ IsNotedOf unsynced (drop n writes) place)
    (λ place. IsNewFile place ⊎ IsNotedOf unsynced writes place)
    (λ place. either (IsNewFile place) (IsNotedOf unsynced (drop n writes) place) (IsNotedOf unsynced writes place)
    (of_more place)) a b noted
  where
    of_more : (place : Place) → IsNotedOf unsynced (drop n writes) place → IsNotedOf unsynced writes place
    of_more place one =
        record {
          number = n + one.number;
          write = one.write;
          short = omega (arith, one.short, length-drop n writes);
          is_one = one.is_one ∙ get_or-drop n writes one.number one.write;
          at = one.at;
        }

-- ---- from one write to the next

-- one more of the writes is noted
pub above_more : (old new : Unsynced) (writes : List FileWrite) (n : ℕ) (write : FileWrite) → n < length writes
    → write ≡ get_or writes n write → StayNoted old new → AreNotedAbove old writes n → IsNotedAbove new write.path.now
    → AreNotedAbove new writes (n + 1)
above_more old new writes n write short is stay noted here k other less at = by (front_or_last k n less)
  where
    by : (k < n) ⊎ (k ≡ n) → IsNotedAbove new other.path.now
    by (inl below) = above_later old new other.path.now stay (noted k other below at)
    by (inr same) =
        subst (λ (w : FileWrite). IsNotedAbove new w.path.now)
        (same_at writes n write other short is (at ∙ ap (λ m. get_or writes m other) same)) here

-- the write at a place is made, as those before it
pub have_more : (old new : Unsynced) (writes : List FileWrite) (k : ℕ) (write : FileWrite) (a b c : List NameChange)
    → k < length writes → write ≡ get_or writes k write → StayNoted old new → HaveNoted old writes a b
    → HasNoted new write.path.now b c → HaveNoted new writes a c
have_more old new writes k write a b c short is stay noted one =
    have_then new writes a b c (have_later old new writes a b stay noted)
    (have_one new writes k write b c short is one)
