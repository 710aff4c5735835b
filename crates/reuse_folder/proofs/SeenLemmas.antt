-- What reads report of paths, and what follows for writes.
use Rattle.std.proofs.Common.{◌≡◌, ◌≢◌, ◌⊎◌, ◌<◌, inl, inr, ℕ, zero, suc, List, [], ◌∷◌, ◌++◌, length, get_or, take}
use Rattle.std.proofs.Common.{drop, length-drop, ◌+◌, ◌-◌, Option, None, Some, refl, sym, ◌∙◌, ap, subst, append_assoc}
use Rattle.std.proofs.Common.{take-append-drop, arith}
use Rattle.std.specs.List.{All}
use Rattle.std.proofs.lemmas.List.{get_or-drop, take_rest}
use Rattle.reuse_system.specs.TempFiles.{IsNewIn, IsNewPlace, place_of}
use Rattle.reuse_system.specs.FileStates.{Place, FileState, place_in}
use Rattle.reuse_system.specs.NameChanges.{NameChange, AreEach, IsChangeOf, IsGuarded, OnlyChanges}
use Rattle.reuse_system.specs.Names.{IsNameOf}
use Rattle.reuse_system.specs.NewFiles.{Due}
use Rattle.reuse_system.specs.declared.place.FileStatus.{FileStatus}
use Rattle.reuse_system.specs.declared.place.Identity.{Identity}
use Rattle.reuse_store.specs.declared.file_write.FileWrite.{FileWrite}
use Rattle.reuse_folder.specs.Seen.{expected_of, IsUnread, IsReportedBy, IsSeenBefore, IsKnown}
use Rattle.reuse_folder.specs.Seen.{IsKnownTempFile, AreKnown, IsNewFile, IsChangeOfSome, LosesNoEdit, LosesNoEditAfter}
use Rattle.reuse_folder.specs.Seen.{KeepsOwner, LoseNoEdits}
use Rattle.reuse_folder.specs.declared.folder.batch.NewContent.{NewContent}
use Rattle.reuse_folder.specs.declared.folder.seen.Expected.{Expected}
use Rattle.reuse_folder.specs.declared.folder.seen.Expected.TheVariants as expected
use Rattle.reuse_folder.specs.declared.folder.seen.ReadPath.{ReadPath}
use Rattle.reuse_disk.proofs.EditLemmas.{only_weaker}

-- ---- reads

unread_more : (reads : List ReadPath) (read : ReadPath) (path : List ℕ) → IsUnread reads path → read.path ≢ path
    → IsUnread (reads ++ (read ∷ [])) path
unread_more [] read path unread other = (other, tt)
unread_more (one ∷ reads) read path unread other = (unread.0, unread_more reads read path unread.1 other)

reported_more : (reads : List ReadPath) (read : ReadPath) (path : List ℕ) (one : Expected) → IsReportedBy reads path one
    → IsReportedBy (reads ++ (read ∷ [])) path one
reported_more [] read path one reported = elim reported [ ]
reported_more (first ∷ reads) read path one (inl here) = inl here
reported_more (first ∷ reads) read path one (inr reported) = inr (reported_more reads read path one reported)

reported_last : (reads : List ReadPath) (read : ReadPath) (path : List ℕ) → read.path ≡ path
    → IsReportedBy (reads ++ (read ∷ [])) path (expected_of read.seen)
reported_last [] read path same = inl (same, refl)
reported_last (first ∷ reads) read path same = inr (reported_last reads read path same)

seen_if_reported : (reads : List ReadPath) (path : List ℕ) (seen : Option FileStatus)
    → IsReportedBy reads path (expected_of seen) → IsSeenBefore reads path (expected_of seen)
seen_if_reported reads path None reported = reported
seen_if_reported reads path (Some status) reported = reported

-- a read of another path reports nothing of this one
pub seen_more : (reads : List ReadPath) (read : ReadPath) (path : List ℕ) (one : Expected) → IsSeenBefore reads path one
    → read.path ≢ path → IsSeenBefore (reads ++ (read ∷ [])) path one
seen_more reads read path expected.Found unread other = unread_more reads read path unread other
seen_more reads read path expected.Nothing reported other = reported_more reads read path expected.Nothing reported
seen_more reads read path (expected.File status) reported other =
    reported_more reads read path (expected.File status) reported

-- the last read of the path reports what is expected there
pub seen_last : (reads : List ReadPath) (read : ReadPath) (path : List ℕ) → read.path ≡ path
    → IsSeenBefore (reads ++ (read ∷ [])) path (expected_of read.seen)
seen_last reads read path same =
    seen_if_reported (reads ++ (read ∷ [])) path read.seen (reported_last reads read path same)

reported_at : (reads : List ReadPath) (k : ℕ) (other : ReadPath) (path : List ℕ) → k < length reads
    → (get_or reads k other).path ≡ path → IsReportedBy reads path (expected_of (get_or reads k other).seen)
reported_at [] k other path short same = absurd (omega (arith, short))
reported_at (read ∷ reads) zero other path short same = inl (same, refl)
reported_at (read ∷ reads) (suc k) other path short same =
    inr (reported_at reads k other path (omega (arith, short)) same)

-- so does any read of it
pub seen_at : (reads : List ReadPath) (k : ℕ) (other : ReadPath) (path : List ℕ) → k < length reads
    → (get_or reads k other).path ≡ path → IsSeenBefore reads path (expected_of (get_or reads k other).seen)
seen_at reads k other path short same =
    seen_if_reported reads path (get_or reads k other).seen (reported_at reads k other path short same)

-- ---- several writes

pub loses_of : (reads : List ReadPath) (path : List ℕ) (one : Expected) (before after : List NameChange)
    (old new : FileState) → IsSeenBefore reads path one → LosesNoEdit path one before after old new
    → LosesNoEditAfter reads path before after old new
loses_of reads path one before after old new seen loses = (one, seen, loses)

each_weaker : (P Q : NameChange → Type 0) → ((change : NameChange) → P change → Q change) → (changes : List NameChange)
    → AreEach P changes → AreEach Q changes
each_weaker P Q from [] all = tt
each_weaker P Q from (change ∷ changes) all = (from change all.0, each_weaker P Q from changes all.1)

each_both : (P : NameChange → Type 0) (xs ys : List NameChange) → AreEach P xs → AreEach P ys → AreEach P (xs ++ ys)
each_both P [] ys front back = back
each_both P (x ∷ xs) ys front back = (front.0, each_both P xs ys front.1 back)

-- only new files changed
pub lose_only : (reads : List ReadPath) (writes : List FileWrite) (before after : List NameChange)
    → OnlyChanges IsNewFile before after → LoseNoEdits reads writes before after
lose_only reads writes before after only =
    record {
      changes = only.changes;
      grown = only.grown;
      each = each_weaker (λ change. IsNewFile change.place) (λ change. IsNewFile change.place
          ⊎ IsChangeOfSome reads writes change) (λ change at. inl at) only.changes only.each;
    }

pub lose_then : (reads : List ReadPath) (writes : List FileWrite) (a b c : List NameChange)
    → LoseNoEdits reads writes a b → LoseNoEdits reads writes b c → LoseNoEdits reads writes a c
lose_then reads writes a b c one two =
    record {
      changes = two.changes ++ one.changes;
      grown = two.grown ∙ ap (λ l. two.changes ++ l) one.grown ∙ sym (append_assoc two.changes one.changes a);
      each = each_both (λ change. IsNewFile change.place ⊎ IsChangeOfSome reads writes change) two.changes one.changes
          two.each one.each;
    }

-- what is said of one path holds of the write of that path
change_of_path : (reads : List ReadPath) (path : List ℕ) (write : FileWrite) (new_files folder : Identity)
    (name : List ℕ) (due : Due) → write.path.now ≡ path → IsNameOf path name → IsKnown reads path due.seen
    → KeepsOwner due
    → (change : NameChange) → IsChangeOf (IsNewPlace new_files folder) (place_in folder name) due change
    → IsNewFile change.place ⊎ IsChangeOfSome reads (write ∷ []) change
change_of_path reads path write new_files folder name due same named known keeps change (inl at) =
    inl (new_files, folder, at)
change_of_path reads path write new_files folder name due same named known keeps change (inr at) =
    inr (inl (record {
      folder = folder;
      name = name;
      is_named = rw same named;
      at = at.0;
      due = due;
      is_known = rw same known;
      keeps = keeps;
      is_expected = at.1;
      is_given = at.2;
    }))

pub lose_one : (reads : List ReadPath) (write : FileWrite) (path : List ℕ) (one : Expected)
    (before after : List NameChange) (old new : FileState) → write.path.now ≡ path → IsSeenBefore reads path one
    → LosesNoEdit path one before after old new → LoseNoEdits reads (write ∷ []) before after
lose_one reads write path one before after old new same seen loses =
    record {
      changes = loses.guarded.changes;
      grown = loses.guarded.grown;
      each = each_weaker
          (IsChangeOf (IsNewPlace loses.new_files loses.folder) (place_in loses.folder loses.name) loses.due)
          (λ change. IsNewFile change.place ⊎ IsChangeOfSome reads (write ∷ []) change)
          (change_of_path reads path write loses.new_files loses.folder loses.name loses.due same loses.is_named
          (one, seen, loses.is_seen) loses.keeps) loses.guarded.changes loses.guarded.each;
    }

-- what holds of some of the writes holds of all
some_front : (reads : List ReadPath) (xs ys : List FileWrite) (change : NameChange) → IsChangeOfSome reads xs change
    → IsChangeOfSome reads (xs ++ ys) change
some_front reads [] ys change bad = elim bad [ ]
some_front reads (x ∷ xs) ys change (inl here) = inl here
some_front reads (x ∷ xs) ys change (inr there) = inr (some_front reads xs ys change there)

some_back : (reads : List ReadPath) (xs ys : List FileWrite) (change : NameChange) → IsChangeOfSome reads ys change
    → IsChangeOfSome reads (xs ++ ys) change
some_back reads [] ys change some = some
some_back reads (x ∷ xs) ys change some = inr (some_back reads xs ys change some)

either_way : (P Q R : Type 0) → (Q → R) → P ⊎ Q → P ⊎ R
either_way P Q R from (inl p) = inl p
either_way P Q R from (inr q) = inr (from q)

lose_from : (reads : List ReadPath) (xs ys : List FileWrite) (before after : List NameChange)
    → ((change : NameChange) → IsChangeOfSome reads xs change → IsChangeOfSome reads ys change)
    → LoseNoEdits reads xs before after → LoseNoEdits reads ys before after
lose_from reads xs ys before after from loses =
    record {
      changes = loses.changes;
      grown = loses.grown;
      each = each_weaker (λ change. IsNewFile change.place ⊎ IsChangeOfSome reads xs change)
          (λ change. IsNewFile change.place ⊎ IsChangeOfSome reads ys change)
          (λ change one. either_way (IsNewFile change.place) (IsChangeOfSome reads xs change)
          (IsChangeOfSome reads ys change) (from change) one) loses.changes loses.each;
    }

-- of the writes from the kth on, so of all
pub lose_behind : (reads : List ReadPath) (writes : List FileWrite) (k : ℕ) (before after : List NameChange)
    → LoseNoEdits reads (drop k writes) before after → LoseNoEdits reads writes before after
lose_behind reads writes k before after loses =
    lose_from reads (drop k writes) writes before after (λ change some. subst (λ l. IsChangeOfSome reads l change)
    (take-append-drop k writes) (some_back reads (take k writes) (drop k writes) change some)) loses

some_at : (reads : List ReadPath) (writes : List FileWrite) (k : ℕ) (other : FileWrite) (change : NameChange)
    → k < length writes → IsChangeOfSome reads (get_or writes k other ∷ []) change → IsChangeOfSome reads writes change
some_at reads [] k other change short some = absurd (omega (arith, short))
some_at reads (write ∷ writes) zero other change short (inl here) = inl here
some_at reads (write ∷ writes) zero other change short (inr bad) = elim bad [ ]
some_at reads (write ∷ writes) (suc k) other change short some =
    inr (some_at reads writes k other change (omega (arith, short)) some)

-- of the kth write, so of all
pub lose_at : (reads : List ReadPath) (writes : List FileWrite) (k : ℕ) (other : FileWrite)
    (before after : List NameChange) → k < length writes → LoseNoEdits reads (get_or writes k other ∷ []) before after
    → LoseNoEdits reads writes before after
lose_at reads writes k other before after short loses = lose_from reads (get_or writes k other ∷ []) writes before after
    (λ change some. some_at reads writes k other change short some) loses

pub lose_none : (reads : List ReadPath) (writes : List FileWrite) (before after : List NameChange) → after ≡ before
    → LoseNoEdits reads writes before after
lose_none reads writes before after same = record { changes = []; grown = same; each = tt }

-- each temporary file that is known has a name of new files
pub known_at : (reads : List ReadPath) (writes : List FileWrite) (temp_files : List NewContent) (k : ℕ)
    (write : FileWrite) (one : NewContent) → AreKnown reads writes temp_files → k < length temp_files
    → IsKnownTempFile reads (get_or writes k write).path.now (get_or temp_files k one)
known_at reads writes [] k write one known short = absurd (omega (arith, short))
known_at reads [] (first ∷ temp_files) k write one known short = absurd known
known_at reads (first ∷ writes) (other ∷ temp_files) zero write one known short = known.0
known_at reads (first ∷ writes) (other ∷ temp_files) (suc k) write one known short =
    known_at reads writes temp_files k write one known.1 (omega (arith, short))

-- one more is known
pub known_more : (reads : List ReadPath) (writes : List FileWrite) (temp_files : List NewContent) (one : NewContent)
    (write : FileWrite) → AreKnown reads writes temp_files → length temp_files < length writes
    → IsKnownTempFile reads (get_or writes (length temp_files) write).path.now one
    → AreKnown reads writes (temp_files ++ (one ∷ []))
known_more reads [] temp_files one write known short here = absurd (omega (arith, short))
known_more reads (first ∷ writes) [] one write known short here = (here, tt)
known_more reads (first ∷ writes) (other ∷ temp_files) one write known short here =
    (known.0, known_more reads writes temp_files one write known.1 (omega (arith, short)) here)

name_changed : (reads : List ReadPath) (write : FileWrite) (name : List ℕ) (folder : Identity)
    (IsTempFile : Place → Type 0) (due : Due) → ((place : Place) → IsTempFile place → IsNewFile place)
    → IsNameOf write.path.now name → IsKnown reads write.path.now due.seen → KeepsOwner due → (change : NameChange)
    → IsChangeOf IsTempFile (place_in folder name) due change
    → IsNewFile change.place ⊎ IsChangeOfSome reads (write ∷ []) change
name_changed reads write name folder IsTempFile due new named known keeps change (inl at) =
    inl (new change.place at)
name_changed reads write name folder IsTempFile due new named known keeps change (inr at) =
    inr (inl (record {
      folder = folder;
      name = name;
      is_named = named;
      at = at.0;
      due = due;
      is_known = known;
      keeps = keeps;
      is_expected = at.1;
      is_given = at.2;
    }))

-- the file was given the path's own name, or wasn't, by way of such temporary files
lose_guarded : (reads : List ReadPath) (write : FileWrite) (name : List ℕ) (folder : Identity)
    (IsTempFile : Place → Type 0) (due : Due) (before after : List NameChange) (old new : FileState)
    → ((place : Place) → IsTempFile place → IsNewFile place) → IsNameOf write.path.now name
    → IsKnown reads write.path.now due.seen → KeepsOwner due
    → IsGuarded IsTempFile (place_in folder name) due before after old new
    → LoseNoEdits reads (write ∷ []) before after
lose_guarded reads write name folder IsTempFile due before after old new is_new named known keeps guarded =
    record {
      changes = guarded.changes;
      grown = guarded.grown;
      each = each_weaker (IsChangeOf IsTempFile (place_in folder name) due)
          (λ change. IsNewFile change.place ⊎ IsChangeOfSome reads (write ∷ []) change)
          (name_changed reads write name folder IsTempFile due is_new named known keeps) guarded.changes guarded.each;
    }

-- a temporary file was given its name, or wasn't
pub lose_named : (reads : List ReadPath) (write : FileWrite) (name : List ℕ) (folder : Identity) (from : Place)
    (due : Due) (before after : List NameChange) (old new : FileState) → IsNameOf write.path.now name
    → IsKnown reads write.path.now due.seen → KeepsOwner due → IsNewFile from → IsGuarded (λ place. place ≡ from)
    (place_in folder name) due before after old new → LoseNoEdits reads (write ∷ []) before after
lose_named reads write name folder from due before after old new named known keeps is_new guarded =
    lose_guarded reads write name folder (λ place. place ≡ from) due before after old new
    (λ place at. subst IsNewFile (sym at) is_new) named known keeps guarded

-- the file was written beside, where it was seen so
pub lose_beside : (reads : List ReadPath) (write : FileWrite) (new_files folder : Identity) (name : List ℕ)
    (due : Due) (before after : List NameChange) (old new : FileState) → IsNameOf write.path.now name
    → IsKnown reads write.path.now due.seen → KeepsOwner due → IsGuarded (IsNewPlace new_files folder)
    (place_in folder name) due before after old new → LoseNoEdits reads (write ∷ []) before after
lose_beside reads write new_files folder name due before after old new named known keeps guarded =
    lose_guarded reads write name folder (IsNewPlace new_files folder) due before after old new
    (λ place at. (new_files, folder, at)) named known keeps guarded

-- names of new files in a folder are names of new files
pub only_new : (folder : Identity) (before after : List NameChange) → OnlyChanges (IsNewIn folder) before after
    → OnlyChanges IsNewFile before after
only_new folder before after only =
    only_weaker (IsNewIn folder) IsNewFile (λ place at. (folder, folder, inl at)) before after only

-- each temporary file that is known has a name of new files
pub new_at : (reads : List ReadPath) (writes : List FileWrite) (temp_files : List NewContent) (k : ℕ) (one : NewContent)
    → AreKnown reads writes temp_files → k < length temp_files
    → IsNewFile (place_of (get_or temp_files k one).temp_file)
new_at reads writes [] k one known short = absurd (omega (arith, short))
new_at reads [] (first ∷ temp_files) k one known short = absurd known
new_at reads (first ∷ writes) (other ∷ temp_files) zero one known short = known.0.0
new_at reads (first ∷ writes) (other ∷ temp_files) (suc k) one known short =
    new_at reads writes temp_files k one known.1 (omega (arith, short))

-- so do those behind the first so many
new_after : (reads : List ReadPath) (writes : List FileWrite) (temp_files : List NewContent) (n : ℕ)
    → AreKnown reads writes temp_files → All (λ one. IsNewFile (place_of one.temp_file)) (drop n temp_files)
new_after reads writes temp_files n known k one short =
    subst (λ (other : NewContent). IsNewFile (place_of other.temp_file)) (sym (get_or-drop n temp_files k one))
    (new_at reads writes temp_files (n + k) one known (omega (arith, length-drop n temp_files, short)))

-- of which a slice is made
pub new_behind : (reads : List ReadPath) (writes : List FileWrite) (temp_files : List NewContent) (n : ℕ)
    → AreKnown reads writes temp_files
    → All (λ one. IsNewFile (place_of one.temp_file)) (take (length temp_files - n) (drop n temp_files))
new_behind reads writes temp_files n known =
    subst (λ (some : List NewContent). All (λ one. IsNewFile (place_of one.temp_file)) some)
    (sym (take_rest temp_files n)) (new_after reads writes temp_files n known)

pub known_here : (reads : List ReadPath) (writes : List FileWrite) (temp_files : List NewContent) (k : ℕ)
    (write : FileWrite) (one : NewContent) → AreKnown reads writes temp_files → k < length temp_files
    → write ≡ get_or writes k write
    → one ≡ get_or temp_files k one → IsKnownTempFile reads write.path.now one
known_here reads writes temp_files k write one known short is at =
    subst (λ (w : FileWrite). IsKnownTempFile reads w.path.now one) (sym is)
    (subst (λ (a : NewContent). IsKnownTempFile reads (get_or writes k write).path.now a) (sym at)
    (known_at reads writes temp_files k write one known short))

-- the temporary file of the next write is known, too
pub temp_file_more : (reads : List ReadPath) (writes : List FileWrite) (temp_files : List NewContent) (one : NewContent)
    (k : ℕ) (write : FileWrite) → AreKnown reads writes temp_files → length temp_files ≡ k → k < length writes
    → write ≡ get_or writes k write
    → IsKnownTempFile reads write.path.now one → AreKnown reads writes (temp_files ++ (one ∷ []))
temp_file_more reads writes temp_files one k write known same short is here =
    known_more reads writes temp_files one write known (subst (λ n. n < length writes) (sym same) short)
    (subst (λ (w : FileWrite). IsKnownTempFile reads w.path.now one)
    (is ∙ ap (λ n. get_or writes n write) (sym same)) here)

-- of some writes in a row, so of all
pub lose_part : (reads : List ReadPath) (writes : List FileWrite) (k n : ℕ) (before after : List NameChange)
    → LoseNoEdits reads (take n (drop k writes)) before after → LoseNoEdits reads writes before after
lose_part reads writes k n before after loses =
    lose_behind reads writes k before after (lose_from reads (take n (drop k writes)) (drop k writes) before after
    (λ change some. subst (λ l. IsChangeOfSome reads l change) (take-append-drop n (drop k writes))
    (some_front reads (take n (drop k writes)) (drop n (drop k writes)) change some)) loses)
