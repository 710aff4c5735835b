-- How rounds of writes end.
use Rattle.std.proofs.Common.{◌≡◌, ◌⊎◌, ◌<◌, ◌≤◌, ◌+◌, ◌-◌, ◌==◌, inl, inr, ℕ, zero, suc, Bool, true, false, IsTrue}
use Rattle.std.proofs.Common.{List, [], ◌∷◌, length, get_or, take, drop, min, Option, None, Some, Result, Ok, Err, IfOk}
use Rattle.std.proofs.Common.{IfErr, IsErr, refl, sym, ◌∙◌, ap, subst, arith, true≢false}
use Rattle.std.proofs.lemmas.Bool.Decides.{Decides-eqb}
use Rattle.std.specs.List.{All}
use Rattle.std.proofs.lemmas.List.Elements.{All-drop, All-take}
use Rattle.reuse_change.specs.declared.parts.Pieces.{Pieces}
use Rattle.reuse_store.specs.declared.file_write.FileWrite.{FileWrite}
use Rattle.reuse_system.specs.TempFiles.{IsNewIn, beside_name, place_of}
use Rattle.reuse_system.specs.FileStates.{FileState, place_in}
use Rattle.reuse_system.specs.SystemLaws.{IsAlikeUnless}
use Rattle.reuse_system.specs.declared.fault.FolderFault.{FolderFault}
use Rattle.reuse_system.specs.declared.handle.OpenFolder.{OpenFolder}
use Rattle.reuse_system.specs.declared.place.Identity.{Identity}
use Rattle.reuse_disk.specs.Written.{LeavesNone}
use Rattle.reuse_disk.specs.declared.new_file.NewFile.{NewFile}
use Rattle.reuse_disk.proofs.PlaceLemmas.{beside_is_no_new}
use Rattle.reuse_disk.proofs.WrittenLemmas.{then_none}
use Rattle.reuse_folder.specs.Batches.{AreMade, BeginsWithFile, DisksAfter, IsBatch, IsWriteOn}
use Rattle.reuse_folder.specs.Disk.{Disk, IsSameTree, IsSameTreeBut}
use Rattle.reuse_folder.specs.FolderWrites.{IsFolderOf, IsGone, IsNewOf, IsRemovedIn, IsTidy}
use Rattle.reuse_folder.specs.Rounds.{AreTempFile, AreBegun, AreGone, AreNamed, AreWrittenTempFile, HavePlaces}
use Rattle.reuse_folder.specs.Rounds.{IsNumbered, IsRound, IsRoundOf}
use Rattle.reuse_folder.specs.declared.folder.batch.NewContent.{NewContent}
use Rattle.reuse_folder.specs.declared.folder.batch.Round.{Round}
use Rattle.reuse_folder.specs.declared.folder.batch.Stop.{Stop}
use Rattle.reuse_folder.proofs.BatchLemmas.{disks_behind, disks_more, made_behind, none_made, removal_begun}
use Rattle.reuse_folder.proofs.NamedLemmas.{gone_behind}
use Rattle.reuse_folder.proofs.RoundLemmas.{element_at, numbered_is_new, place_is_new}

-- ---- answers

pub never_ok : {T E : Type 0} (answer : Result T E) (P : T → Type 0) → IsErr answer → IfOk answer P
never_ok (Ok value) P bad = absurd (true≢false (sym bad))
never_ok (Err error) P bad = tt

-- ---- all new files of a round

get_same : {X : Type 0} (xs : List X) (k : ℕ) (x y : X) → k < length xs → get_or xs k x ≡ get_or xs k y
get_same [] k x y short = absurd (omega (arith, short))
get_same (z ∷ xs) zero x y short = refl
get_same (z ∷ xs) (suc k) x y short = get_same xs k x y (omega (arith, short))

pub all_new : (new_files : Identity) (temp_files : List NewContent) → HavePlaces new_files temp_files
    → All (λ one. IsNewIn new_files (place_of one.temp_file)) temp_files
all_new new_files temp_files places k one short =
    let at = get_or temp_files k one in
    place_is_new new_files k at (places k at short (get_same temp_files k one at short))

pub new_behind : (new_files : Identity) (temp_files : List NewContent) (n : ℕ) → HavePlaces new_files temp_files
    → All (λ one. IsNewIn new_files (place_of one.temp_file)) (take (length temp_files - n) (drop n temp_files))
new_behind new_files temp_files n places =
    All-take (λ one. IsNewIn new_files (place_of one.temp_file)) (length temp_files - n) (drop n temp_files)
    (All-drop (λ one. IsNewIn new_files (place_of one.temp_file)) n temp_files (all_new new_files temp_files places))

pub numbered_alike : (new_files : Identity) (count : ℕ) (a b : FileState)
    → IsAlikeUnless (IsNumbered new_files count) a b → IsAlikeUnless (IsNewIn new_files) a b
numbered_alike new_files count a b alike place away =
    alike place (λ is. away (numbered_is_new new_files count place is))

pub alike_then : (new_files : Identity) (a b c : FileState) → IsAlikeUnless (IsNewIn new_files) a b
    → IsAlikeUnless (IsNewIn new_files) b c → IsAlikeUnless (IsNewIn new_files) a c
alike_then new_files a b c one two place away = two place away ∙ one place away

-- the first of these writes puts a file
pub temp_file_begins : (new_files : Identity) (is : Bool) (held : FileState) (writes : List FileWrite)
    (temp_files : List NewContent) → 0 < length temp_files → length temp_files ≤ length writes
    → AreTempFile new_files is held 0 (length temp_files) writes temp_files → BeginsWithFile writes
temp_file_begins new_files is held [] temp_files some few temp_file = absurd (omega (arith, some, few))
temp_file_begins new_files is held (write ∷ writes) temp_files some few temp_file =
    let one = element_at temp_files 0 some in
    let stands = temp_file 0 write one.0 (omega arith) some refl one.1 in
    λ none. never stands.parts (sym none ∙ stands.is_file)
  where
    never : (parts : Pieces) → None ≡ Some parts → ⊥
    never parts e = cc

-- what was begun behind new files
pub named_behind : (new_files : Identity) (is : Bool) (writes : List FileWrite) (temp_files : List NewContent)
    (a b c : Disk) (answer : Result (Unit {0}) Stop) → BeginsWithFile writes → 0 < length temp_files
    → IsAlikeUnless (IsNumbered new_files (length temp_files)) a.files b.files → IsSameTree a b
    → AreNamed new_files is writes temp_files b c answer → AreNamed new_files is writes temp_files a c answer
named_behind new_files is writes temp_files a b c (Ok done) begins some alike same named = (
  disks_behind new_files is writes (length temp_files) a b c begins some
      (numbered_alike new_files (length temp_files) a.files b.files alike, same) named.0,
  gone_behind new_files (length temp_files) a.files b.files c.files alike named.1,
)
named_behind new_files is writes temp_files a b c (Err stop) begins some alike same named =
    made_behind new_files is writes stop.made a b c begins
    (numbered_alike new_files (length temp_files) a.files b.files alike, same) named

-- ---- rounds

pub some_folder : (open_for : Option NewFile) → (new_files : Identity) × IsFolderOf open_for new_files
some_folder None = (record { device = 0; number = 0 }, tt)
some_folder (Some new_file) = (new_file.folder.identity, refl)

-- it stopped at the first write
pub stopped_at_first : (is : Bool) (writes : List FileWrite) (before after : Option NewFile) (old new : Disk)
    (answer : Result ℕ Stop) → IsErr answer → IfErr answer (λ stop. stop.made ≡ 0)
    → ((new_files : Identity) × IsFolderOf before new_files × AreMade new_files is 0 writes old new)
    → IsRound is writes before after old new answer
stopped_at_first is writes before after old new (Ok count) bad first made = absurd (true≢false (sym bad))
stopped_at_first is writes before after old new (Err stop) bad first (new_files, was, made) =
    (new_files, was, subst (λ n. AreMade new_files is n writes old new) (sym first) made)

removal_on : (new_files : Identity) (is : Bool) (path : List ℕ) (file : Option Pieces) (a b : Disk) (is_done : Bool)
    → file ≡ None → IsRemovedIn b.folders path a.files b.files → (IsTrue is_done → IsGone b.folders b.files path)
    → IsWriteOn new_files is path file a b is_done
removal_on new_files is path None a b is_done none removed gone = (removed, gone)
removal_on new_files is path (Some parts) a b is_done none removed gone = absurd (cc)

pub removal_stopped : (is : Bool) (writes : List FileWrite) (write : FileWrite) (before after : Option NewFile)
    (a b : Disk) (answer : Result ℕ Stop) → 0 < length writes → write ≡ get_or writes 0 write → write.file ≡ None
    → IsErr answer → IfErr answer (λ stop. stop.made ≡ 0) → IsRemovedIn b.folders write.path.now a.files b.files
    → IsSameTreeBut write.path.now a b → IsRound is writes before after a b answer
removal_stopped is writes write before after a b answer some at none bad first removed others =
    let folder = some_folder before in
    stopped_at_first is writes before after a b answer bad first (
      folder.0,
      folder.1,
      removal_begun folder.0 is writes write a b some at (
        removal_on folder.0 is write.path.now write.file a b false
            none removed (λ done. absurd (true≢false (sym done))),
        others,
      ),
    )

pub removal_made : (is : Bool) (writes : List FileWrite) (write : FileWrite) (before after : Option NewFile)
    (a b : Disk) → 0 < length writes → write ≡ get_or writes 0 write → write.file ≡ None → after ≡ before
    → IsRemovedIn b.folders write.path.now a.files b.files → IsGone b.folders b.files write.path.now
    → LeavesNone (λ at. Unit {0}) a.files b.files → IsSameTreeBut write.path.now a b
    → IsRound is writes before after a b (Ok 1)
removal_made is writes write before after a b some at none same removed gone tidy others new_files was = (
  subst (λ o. IsFolderOf o new_files) same was,
  disks_more new_files is writes 0 write a a b some at refl
      (removal_on new_files is write.path.now write.file a b true none removed (λ done. gone), others),
  λ done place new. tidy place tt,
)

-- new files were written to temporary files, and then it stopped
pub naming_stopped : (Honest : Type 0) (is : Bool) (writes : List FileWrite) (before after : Option NewFile)
    (a b c : Disk) (round : Round) (stop : Stop) (answer : Result ℕ Stop) → Honest → BeginsWithFile writes
    → answer ≡ Err stop
    → IsRoundOf Honest writes before a.files b.files (Ok round) → IsSameTree a b
    → AreNamed round.new_file.folder.identity is writes round.temp_files.items b c (Err stop)
    → IsRound is writes before after a c answer
naming_stopped Honest is writes before after a b c round stop answer honest begins same (was, some, begun) tree named =
    let new_files = round.new_file.folder.identity in
    subst (IsRound is writes before after a c) (sym same)
    (new_files, was, made_behind new_files is writes stop.made a b c begins (begun.others, tree) named)

tidy_round : (new_files : Identity) (writes : List FileWrite) (temp_files : List NewContent) (a b c : FileState)
    → IsAlikeUnless (IsNewIn new_files) a b → AreWrittenTempFile new_files writes temp_files a b
    → AreGone new_files (length temp_files) b c
    → LeavesNone (IsNewOf new_files) a c
tidy_round new_files writes temp_files a b c alike written gone place (folder, is) = by is (gone place (folder, is))
  where
    by : IsNewIn new_files place ⊎ (place ≡ place_in folder (beside_name new_files))
        → (c place ≡ None) ⊎ ((c place ≡ b place) × ¬ (IsNumbered new_files (length temp_files) place))
        → (c place ≡ a place) ⊎ (c place ≡ None)
    by one (inl none) = inr none
    by (inl new) (inr (same, free)) = then_none (a place) (b place) (c place) (written.past place new free) (inl same)
    by (inr at) (inr (same, free)) =
        inl (same ∙ alike place (λ new. beside_is_no_new new_files folder (subst (IsNewIn new_files) at new)))

-- and all got their names
pub naming_done : (Honest : Type 0) (is : Bool) (writes : List FileWrite) (before : Option NewFile) (a b c : Disk)
    (round : Round) (new_file : NewFile) → Honest → BeginsWithFile writes
    → IsRoundOf Honest writes before a.files b.files (Ok round) → IsSameTree a b
    → new_file.folder ≡ round.new_file.folder
    → AreNamed round.new_file.folder.identity is writes round.temp_files.items b c (Ok tt)
    → IsRound is writes before (Some new_file) a c (Ok (length round.temp_files.items))
naming_done Honest is writes before a b c round new_file honest begins (was, some, begun) tree folder named other
    is_other =
    let new_files = round.new_file.folder.identity in
    let same : new_files ≡ other = ap (λ (f : OpenFolder). f.identity) (sym folder) ∙ is_other in (
      subst (IsFolderOf before) same was,
      subst (λ f. DisksAfter f is (take (length round.temp_files.items) writes) a c) same
          (disks_behind new_files is writes (length round.temp_files.items) a b c begins some (begun.others, tree)
          named.0),
      subst (λ f. IsTidy f a.files c.files true) same
          (λ done. tidy_round new_files writes round.temp_files.items a.files b.files c.files begun.others
          (begun.written honest) named.1),
    )

-- ---- begun

-- nothing was written to a temporary file
pub round_not_begun : (Honest : Type 0) (writes : List FileWrite) (before : Option NewFile) (held : FileState)
    (answer : Result Round FolderFault) → IsErr answer → IsRoundOf Honest writes before held held answer
round_not_begun Honest writes before held (Ok round) bad = absurd (true≢false (sym bad))
round_not_begun Honest writes before held (Err fault) bad = let folder = some_folder before in
    (folder.0, folder.1, λ place away. refl)

pub round_failed : (Honest : Type 0) (writes : List FileWrite) (before : Option NewFile) (new_files : Identity)
    (a b : FileState) (answer : Result Round FolderFault) → IsErr answer → IsFolderOf before new_files
    → IsAlikeUnless (IsNewIn new_files) a b → IsRoundOf Honest writes before a b answer
round_failed Honest writes before new_files a b (Ok round) bad was alike = absurd (true≢false (sym bad))
round_failed Honest writes before new_files a b (Err fault) bad was alike = (new_files, was, alike)

-- new files were cleared, and then some were written to a temporary file
pub begun_after : (Honest : Type 0) (new_files : Identity) (writes : List FileWrite) (temp_files : List NewContent)
    (a b c : FileState) → IsAlikeUnless (IsNewIn new_files) a b → LeavesNone (IsNewIn new_files) a b
    → AreBegun (Honest × IsTrue true) new_files writes temp_files b c → AreBegun Honest new_files writes temp_files a c
begun_after Honest new_files writes temp_files a b c alike cleared begun =
    record {
      few = begun.few;
      places = begun.places;
      others = alike_then new_files a b c alike begun.others;
      written = λ honest.
          let written = begun.written (honest, refl) in record {
            temp_file = written.temp_file;
            apart = written.apart;
            past = λ place new free. then_none (a place) (b place) (c place) (cleared place new)
                (written.past place new free);
          };
    }

-- ---- batches

pub tidy_twice : (new_files : Identity) (a b c : FileState) → LeavesNone (IsNewOf new_files) a b
    → LeavesNone (IsNewOf new_files) b c → LeavesNone (IsNewOf new_files) a c
tidy_twice new_files a b c one two place new = then_none (a place) (b place) (c place) (one place new) (two place new)

-- of no write
pub batch_of_none : (is : Bool) (writes : List FileWrite) (disk : Disk) (asked : ℕ) → (length writes == 0) ≡ true
    → (batch : IsBatch is writes disk disk true) × (asked ≡ asked + min (batch.made + 1) (length writes))
batch_of_none is [] disk asked none = (
  record {
    new_files = record { device = 0; number = 0 };
    made = 0;
    are_made = record { mid = disk; all = refl; begun = refl };
    all = λ done. refl;
    tidy = λ done place new. inl refl;
  },
  omega arith,
)
batch_of_none is (write ∷ writes) disk asked none =
    absurd (some_is_not_none ((Decides-eqb (length (write ∷ writes)) 0).0 none))
  where
    some_is_not_none : length (write ∷ writes) ≡ 0 → ⊥
    some_is_not_none e = omega (arith, e)
