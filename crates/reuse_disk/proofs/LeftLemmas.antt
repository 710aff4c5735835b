-- Names under which new files were left are cleared, one after the other.
use Rattle.std.proofs.Common.{◌≡◌, ℕ, List, ◌∷◌, ◌++◌, [], Option, None, Some, Ok, IsTrue, refl, sym, ◌∙◌, ap}
use Rattle.std.proofs.Common.{append_assoc, subst}
use Rattle.reuse_system.specs.TempFiles.{beside_name, is_elsewhere}
use Rattle.reuse_system.specs.FileStates.{Place, StateFile, FileState, place_in}
use Rattle.reuse_system.specs.Folders.{Folders, folder_at}
use Rattle.reuse_system.specs.NameChanges.{Look, NameChange, change_at, reported_of}
use Rattle.reuse_system.specs.SystemLaws.{IsAlikeBut, IsSeen}
use Rattle.reuse_system.specs.declared.place.FileStatus.{FileStatus}
use Rattle.reuse_system.specs.declared.place.Found.{Found}
use Rattle.reuse_system.specs.declared.place.Found.TheVariants as regular
use Rattle.reuse_system.specs.declared.place.Identity.{Identity}
use Rattle.reuse_disk.specs.LeftFiles.{IsJournalIf, IsLeft, IsLeftFile, ClearsLeft}
use Rattle.reuse_disk.proofs.EditLemmas.{reported_here, weaker, both}

-- honesty is lost, and never gained
left_later : (A B : Type 0) (folders : Folders) (place : Place) → (B → A) → IsLeft A folders place
    → IsLeft B folders place
left_later A B folders place from left =
    record {
      journal = left.journal;
      is_journal = λ b. left.is_journal (from b);
      path = left.path;
      folder = left.folder;
      is_below = λ b. left.is_below (from b);
      is_mounted = left.is_mounted;
      is_at = left.is_at;
    }

pub clears_later : (A B : Type 0) (folders : Folders) (a b : List NameChange) (old new : FileState) → (B → A)
    → ClearsLeft A folders a b old new → ClearsLeft B folders a b old new
clears_later A B folders a b old new from one =
    record {
      changes = one.changes;
      grown = one.grown;
      each = weaker (IsLeftFile A folders) (IsLeftFile B folders)
          (λ change left. (left_later A B folders change.place from left.0, left.1)) one.changes one.each;
      others = λ place no. one.others place (λ left. no (left_later A B folders place from left));
    }

pub clears_none : (A : Type 0) (folders : Folders) (a b : List NameChange) (old new : FileState) → b ≡ a → new ≡ old
    → ClearsLeft A folders a b old new
clears_none A folders a b old new same kept = record {
  changes = [];
  grown = same;
  each = tt;
  others = λ place no. ap (λ held. held place) kept;
}

pub clears_then : (A : Type 0) (folders : Folders) (a b c : List NameChange) (old mid new : FileState)
    → ClearsLeft A folders a b old mid → ClearsLeft A folders b c mid new → ClearsLeft A folders a c old new
clears_then A folders a b c old mid new one two =
    record {
      changes = two.changes ++ one.changes;
      grown = two.grown ∙ ap (λ l. two.changes ++ l) one.grown ∙ sym (append_assoc two.changes one.changes a);
      each = both (IsLeftFile A folders) two.changes one.changes two.each one.each;
      others = λ place no. two.others place no ∙ one.others place no;
    }

-- a look reported a regular file at the name, and that was removed, or was to be
pub clears_one : (A : Type 0) (folders : Folders) (journal folder : Identity) (path name seen : List ℕ) (found : Found)
    (status : FileStatus) (look : Option Look) (a b : List NameChange) (old new : FileState)
    → IsJournalIf A folders journal → (A → folder_at folders path ≡ Some folder) → IsTrue (is_elsewhere journal folder)
    → name ≡ beside_name journal → seen ≡ beside_name journal
    → look ≡ Some (record { place = place_in folder seen; reported = found }) → found ≡ regular.File status
    → b ≡ (change_at look (place_in folder name) ∷ a)
    → IsAlikeBut (place_in folder name) old new → ClearsLeft A folders a b old new
clears_one A folders journal folder path name seen found status look a b old new known below mounted named looked
    reported is grown alike =
    let place = place_in folder name in
    let left : IsLeft A folders place =
    record {
      journal = journal;
      is_journal = known;
      path = path;
      is_at = ap (place_in folder) named;
      folder = folder;
      is_below = below;
      is_mounted = mounted;
    } in
    let here : look ≡ Some (record { place = place; reported = found }) =
    reported ∙ ap (λ n. let one : Look = record { place = place_in folder n; reported = found } in Some one)
    (looked ∙ sym named) in
    record {
      changes = change_at look place ∷ [];
      grown = grown;
      each = (
        (
          left,
          (
            status,
            subst (λ (l : Option Look). reported_of l place ≡ Some (regular.File status)) (sym here)
                (reported_here place found ∙ ap (λ f. Some f) is),
          ),
        ),
        tt,
      );
      others = λ other no. alike other (λ e. no (subst (IsLeft A folders) (sym e) left));
    }

-- cleared, and then nothing changed
pub clears_kept : (A B : Type 0) (folders same : Folders) (a b c : List NameChange) (old mid new : FileState) → (B → A)
    → same ≡ folders → c ≡ b → new ≡ mid
    → ClearsLeft A folders a b old mid → ClearsLeft B same a c old new
clears_kept A B folders same a b c old mid new from still changes kept one =
    subst (λ (f : Folders). ClearsLeft B f a c old new) (sym still)
    (subst (λ (l : List NameChange). ClearsLeft B folders a l old new) (sym changes)
    (subst (λ (h : FileState). ClearsLeft B folders a b old h) (sym kept)
    (clears_later A B folders a b old mid from one)))

-- a look reported no regular file, so none stands there
pub none_reported : (one : Option StateFile) (found : Found) → ((status : FileStatus) → found ≡ regular.File status → ⊥)
    → IsSeen one (Ok found) → one ≡ None
none_reported one regular.Nothing not seen = seen
none_reported one (regular.File status) not seen = absurd (not status refl)
none_reported one (regular.Folder folder) not seen = seen
none_reported one regular.Other not seen = seen
