-- New files that stand aside.
use Rattle.std.proofs.Common.{◌≡◌, ◌≢◌, ◌⊎◌, ◌<◌, ◌≤◌, ◌+◌, ◌^◌, inl, inr, ℕ, zero, suc, Bool, true, false, nat_lt}
use Rattle.std.proofs.Common.{List, [], ◌∷◌, ◌++◌, length, get_or, Option, None, Some, refl, sym, ◌∙◌, ap, subst, arith}
use Rattle.std.proofs.Common.{true≢false}
use Rattle.std.specs.Str.{bytes_eq}
use Rattle.std.proofs.lemmas.Bool.Decides.{Decides-ltb}
use Rattle.std.proofs.lemmas.List.{get_or_append_left, length_push}
use Rattle.std.proofs.Math.Seq.{get_or-append_seam}
use Rattle.std.proofs.lemmas.Slice.Eq.{bytes_eq-Decides}
use Rattle.reuse_change.specs.Parts.{joined}
use Rattle.reuse_change.specs.declared.parts.Pieces.{Pieces}
use Rattle.reuse_store.specs.declared.file_write.FileWrite.{FileWrite}
use Rattle.reuse_system.specs.TempFiles.{IsNewIn, key_of, place_of}
use Rattle.reuse_system.specs.FileStates.{FileKey, FileState, StateFile, Place, IsNot, file}
use Rattle.reuse_system.specs.SystemLaws.{IsAlikeBut, IsAlikeButFile, IsAlikeUnless}
use Rattle.reuse_system.specs.declared.place.Identity.{Identity}
use Rattle.reuse_disk.specs.Written.{IsSyncedIf, StandsAlone}
use Rattle.reuse_disk.proofs.AtLemmas.{front_or_last, same_at}
use Rattle.reuse_disk.proofs.PlaceLemmas.{numbered_in, numbers_of_place}
use Rattle.reuse_folder.specs.Rounds.{new_place, AreApart, AreTempFile, AreBegun, HasPlace, HavePlaces, IsNumbered}
use Rattle.reuse_folder.specs.Rounds.{StandsTempFile}
use Rattle.reuse_folder.specs.declared.folder.batch.NewContent.{NewContent}

-- ---- lists

-- the one behind
last_at : {X : Type 0} (xs : List X) (x one : X) (k : ℕ) → k ≡ length xs → one ≡ get_or (xs ++ (x ∷ [])) k one → one ≡ x
last_at xs x one k last at = at ∙ ap (λ n. get_or (xs ++ (x ∷ [])) n one) last ∙ get_or-append_seam xs x [] one

-- one of those before
front_at : {X : Type 0} (xs : List X) (x one : X) (k : ℕ) → k < length xs → one ≡ get_or (xs ++ (x ∷ [])) k one
    → one ≡ get_or xs k one
front_at xs x one k short at = at ∙ get_or_append_left xs (x ∷ []) one k short

-- ---- places

pub place_decided : (one other : Place) → (one ≡ other) ⊎ (one ≢ other)
place_decided one other = by (bytes_eq one other) refl
  where
    by : (b : Bool) → bytes_eq one other ≡ b → (one ≡ other) ⊎ (one ≢ other)
    by true is = inl ((bytes_eq-Decides one other).0 is)
    by false is = inr (λ e. true≢false (sym ((bytes_eq-Decides one other).1 e) ∙ is))

-- two numbers have two places
pub other_place : (new_files : Identity) (k j : ℕ) (one other : NewContent) → HasPlace new_files k one
    → HasPlace new_files j other → k ≢ j → place_of one.temp_file ≢ place_of other.temp_file
other_place new_files k j one other (low, at) (high, there) apart same =
    apart (numbers_of_place new_files k j low high (sym at ∙ same ∙ there))

pub place_is_new : (new_files : Identity) (k : ℕ) (one : NewContent) → HasPlace new_files k one
    → IsNewIn new_files (place_of one.temp_file)
place_is_new new_files k one (short, at) = subst (IsNewIn new_files) (sym at) (numbered_in new_files k short)

fewer_numbered : (new_files : Identity) (count : ℕ) (place : Place) → IsNumbered new_files count place
    → IsNumbered new_files (count + 1) place
fewer_numbered new_files count place (k, less, fits, at) = (k, omega (arith, less), fits, at)

-- ---- one more

-- what stood aside does so when another one came
stands_still : (new_files : Identity) (n : ℕ) (b c : FileState) (k : ℕ) (write : FileWrite) (one last : NewContent)
    → HasPlace new_files n last → IsAlikeBut (new_place new_files n) b c
    → StandsTempFile new_files n false b k write one
    → StandsTempFile new_files (n + 1) false c k write one
stands_still new_files n b c k write one last place alike stands =
    record {
      parts = stands.parts;
      is_file = stands.is_file;
      is_one = omega (arith, stands.is_one);
      place = stands.place;
      here = alike (place_of one.temp_file) (λ e. other_place new_files k n one last stands.place place
          (omega (arith, stands.is_one)) (e ∙ sym place.1)) ∙ stands.here;
      alone = λ other away.
          subst (IsNot (key_of one.temp_file)) (sym (alike other (λ e. away (n, omega arith, place.0, e))))
          (stands.alone other (λ is. away (fewer_numbered new_files n other is)));
    }

-- so does the other one
stands_new : (new_files : Identity) (n : ℕ) (c : FileState) (write : FileWrite) (parts : Pieces) (last : NewContent)
    → write.file ≡ Some parts → HasPlace new_files n last
    → StandsAlone (place_of last.temp_file) (key_of last.temp_file) (joined parts) false c
    → StandsTempFile new_files (n + 1) false c n write last
stands_new new_files n c write parts last is_file place stands =
    record {
      parts = parts;
      is_file = is_file;
      is_one = omega arith;
      place = place;
      here = stands.here;
      alone = λ other away. stands.alone other (λ e. away (n, omega arith, place.0, e ∙ place.1));
    }

pub temp_file_added : (new_files : Identity) (writes : List FileWrite) (temp_files : List NewContent) (b c : FileState)
    (n : ℕ) (write : FileWrite) (parts : Pieces) (last : NewContent) → length temp_files ≡ n → n < length writes
    → write ≡ get_or writes n write → write.file ≡ Some parts → HasPlace new_files n last
    → IsAlikeBut (new_place new_files n) b c
    → StandsAlone (place_of last.temp_file) (key_of last.temp_file) (joined parts) false c
    → AreTempFile new_files false b 0 n writes temp_files
    → AreTempFile new_files false c 0 (n + 1) writes (temp_files ++ (last ∷ []))
temp_file_added new_files writes temp_files b c n write parts last long short at is_file place alike stands temp_file k
    other one low less write_at one_at =
    subst (λ count. StandsTempFile new_files count false c k other one)
    (sym (length_push temp_files last ∙ ap (λ m. m + 1) long)) (by (front_or_last k n less))
  where
    by : (k < n) ⊎ (k ≡ n) → StandsTempFile new_files (n + 1) false c k other one
    by (inl front) =
        stands_still new_files n b c k other one last place alike
        (subst (λ count. StandsTempFile new_files count false b k other one) long
        (temp_file k other one low front write_at
        (front_at temp_files last one k (subst (λ m. k < m) (sym long) front) one_at)))
    by (inr last_one) =
        let same : other ≡ write =
        same_at writes n other write short (write_at ∙ ap (λ m. get_or writes m other) last_one) at in
        let is : one ≡ last = last_at temp_files last one k (last_one ∙ sym long) one_at in
        subst (λ m. StandsTempFile new_files (n + 1) false c m other one) (sym last_one)
        (subst (λ (w : FileWrite). StandsTempFile new_files (n + 1) false c n w one) (sym same)
        (subst (λ (o : NewContent). StandsTempFile new_files (n + 1) false c n write o) (sym is)
        (stands_new new_files n c write parts last is_file place stands)))

-- a file that stands elsewhere is another one
other_key : (key : FileKey) (bytes : List ℕ) (is : Bool) (last : FileKey) (held : Option StateFile)
    → held ≡ file key bytes is → IsNot last held → key ≢ last
other_key key bytes is last held at not = subst (IsNot last) at not

pub element_at : {X : Type 0} (xs : List X) (k : ℕ) → k < length xs → (x : X) × (x ≡ get_or xs k x)
element_at [] k short = absurd (omega (arith, short))
element_at (x ∷ xs) zero short = (x, refl)
element_at (x ∷ xs) (suc k) short = element_at xs k (omega (arith, short))

-- each is another file, still
pub apart_added : (new_files : Identity) (writes : List FileWrite) (temp_files : List NewContent) (b c : FileState)
    (n : ℕ) (bytes : List ℕ) (last : NewContent) → length temp_files ≡ n → n < length writes → HasPlace new_files n last
    → IsAlikeBut (new_place new_files n) b c
    → StandsAlone (place_of last.temp_file) (key_of last.temp_file) bytes false c
    → AreTempFile new_files false b 0 n writes temp_files → AreApart temp_files → AreApart (temp_files ++ (last ∷ []))
apart_added new_files writes temp_files b c n bytes last long short place alike stands temp_file apart i j one other
    less high one_at other_at =
    by (front_or_last j n (subst (λ m. j < m) (length_push temp_files last ∙ ap (λ m. m + 1) long) high))
  where
    front : i < n → one ≡ get_or temp_files i one
    front low = front_at temp_files last one i (subst (λ m. i < m) (sym long) low) one_at

    by : (j < n) ⊎ (j ≡ n) → key_of one.temp_file ≢ key_of other.temp_file
    by (inl inner) = apart i j one other less (subst (λ m. j < m) (sym long) inner) (front (omega (arith, less, inner)))
        (front_at temp_files last other j (subst (λ m. j < m) (sym long) inner) other_at)
    by (inr end) =
        let low : i < n = omega (arith, less, end) in
        let write = element_at writes i (omega (arith, low, short)) in
        let first = temp_file i write.0 one (omega arith) low write.1 (front low) in
        let is : other ≡ last = last_at temp_files last other j (end ∙ sym long) other_at in
        let elsewhere = other_place new_files i n one last first.place place (omega (arith, low)) in
        let here = alike (place_of one.temp_file) (λ e. elsewhere (e ∙ sym place.1)) ∙ first.here in
        subst (λ (o : NewContent). key_of one.temp_file ≢ key_of o.temp_file) (sym is)
        (other_key (key_of one.temp_file) (joined first.parts) false (key_of last.temp_file)
        (c (place_of one.temp_file)) here (stands.alone (place_of one.temp_file) elsewhere))

pub places_added : (new_files : Identity) (temp_files : List NewContent) (last : NewContent) → HasPlace new_files
    (length temp_files) last → HavePlaces new_files temp_files → HavePlaces new_files (temp_files ++ (last ∷ []))
places_added new_files temp_files last place places k one less at =
    by (front_or_last k (length temp_files) (subst (λ m. k < m) (length_push temp_files last) less))
  where
    by : (k < length temp_files) ⊎ (k ≡ length temp_files) → HasPlace new_files k one
    by (inl front) = places k one front (front_at temp_files last one k front at)
    by (inr end) =
        subst (λ m. HasPlace new_files m one) (sym end) (subst (λ (o : NewContent). HasPlace new_files
        (length temp_files) o) (sym (last_at temp_files last one k end at)) place)

-- nothing differs but those that were added
pub numbered_added : (new_files : Identity) (n : ℕ) (a b c : FileState) → n < 2 ^ 64
    → IsAlikeUnless (IsNumbered new_files n) a b → IsAlikeBut (new_place new_files n) b c
    → IsAlikeUnless (IsNumbered new_files (n + 1)) a c
numbered_added new_files n a b c fits first second place away =
    second place (λ e. away (n, omega arith, fits, e)) ∙ first place (λ is. away (fewer_numbered new_files n place is))

pub numbered_is_new : (new_files : Identity) (count : ℕ) (place : Place) → IsNumbered new_files count place
    → IsNewIn new_files place
numbered_is_new new_files count place (k, less, fits, at) =
    subst (IsNewIn new_files) (sym at) (numbered_in new_files k fits)

-- ---- a round

pub begun_done : (Well : Type 0) (new_files : Identity) (writes : List FileWrite) (temp_files : List NewContent)
    (a b : FileState) → length temp_files ≤ length writes → HavePlaces new_files temp_files
    → AreTempFile new_files false b 0 (length temp_files) writes temp_files → AreApart temp_files
    → IsAlikeUnless (IsNumbered new_files (length temp_files)) a b → AreBegun Well new_files writes temp_files a b
begun_done Well new_files writes temp_files a b few places temp_file apart alike =
    record {
      few = few;
      places = places;
      others = λ place away. alike place (λ is. away (numbered_is_new new_files (length temp_files) place is));
      written = λ well. record {
        temp_file = temp_file;
        apart = apart;
        past = λ place new away. inl (alike place away);
      };
    }

-- the next one couldn't be written to a temporary file
pub begun_failed : (Well : Type 0) (new_files : Identity) (writes : List FileWrite) (temp_files : List NewContent)
    (a b c : FileState) → (Well → ⊥) → length temp_files ≤ length writes → length temp_files < 2 ^ 64
    → HavePlaces new_files temp_files
    → IsAlikeUnless (IsNumbered new_files (length temp_files)) a b
    → IsAlikeBut (new_place new_files (length temp_files)) b c → AreBegun Well new_files writes temp_files a c
begun_failed Well new_files writes temp_files a b c bad few short places alike next =
    record {
      few = few;
      places = places;
      others = λ place away.
          next place (λ e. away (subst (IsNewIn new_files) (sym e) (numbered_in new_files (length temp_files) short)))
          ∙ alike place (λ is. away (numbered_is_new new_files (length temp_files) place is));
      written = λ well. absurd (bad well);
    }

-- what stood aside does so still
stands_past : (new_files : Identity) (n : ℕ) (b c : FileState) (k : ℕ) (write : FileWrite) (one : NewContent)
    → n < 2 ^ 64 → IsAlikeBut (new_place new_files n) b c → c (new_place new_files n) ≡ None
    → StandsTempFile new_files n false b k write one → StandsTempFile new_files n false c k write one
stands_past new_files n b c k write one short alike none stands =
    record {
      parts = stands.parts;
      is_file = stands.is_file;
      is_one = stands.is_one;
      place = stands.place;
      here = alike (place_of one.temp_file) (λ e. absurd
          (omega (arith, stands.is_one, numbers_of_place new_files k n stands.place.0 short (sym stands.place.1 ∙ e))))
          ∙ stands.here;
      alone = λ other away. by other away (place_decided other (new_place new_files n));
    }
  where
    by : (other : Place) → ¬ (IsNumbered new_files n other)
        → (other ≡ new_place new_files n) ⊎ (other ≢ new_place new_files n) → IsNot (key_of one.temp_file) (c other)
    by other away (inl same) = subst (IsNot (key_of one.temp_file)) (sym (ap c same ∙ none)) tt
    by other away (inr differ) =
        subst (IsNot (key_of one.temp_file)) (sym (alike other differ)) (stands.alone other away)

-- the next one couldn't be written to a temporary file, and nothing is left of it
pub begun_freed : (Well : Type 0) (new_files : Identity) (writes : List FileWrite) (temp_files : List NewContent)
    (a b c : FileState) → (Well → c (new_place new_files (length temp_files)) ≡ None)
    → length temp_files ≤ length writes
    → length temp_files < 2 ^ 64 → HavePlaces new_files temp_files
    → AreTempFile new_files false b 0 (length temp_files) writes temp_files → AreApart temp_files
    → IsAlikeUnless (IsNumbered new_files (length temp_files)) a b
    → IsAlikeBut (new_place new_files (length temp_files)) b c → AreBegun Well new_files writes temp_files a c
begun_freed Well new_files writes temp_files a b c freed few short places temp_file apart alike next =
    let n = length temp_files in
    record {
      few = few;
      places = places;
      others = λ place away. next place (λ e. away (subst (IsNewIn new_files) (sym e) (numbered_in new_files n short)))
          ∙ alike place (λ is. away (numbered_is_new new_files (length temp_files) place is));
      written = λ well. record {
        temp_file = λ k write one low less write_at one_at. stands_past new_files n b c k write one short next
            (freed well) (temp_file k write one low less write_at one_at);
        apart = apart;
        past = λ place new away. by well place away (place_decided place (new_place new_files n));
      };
    }
  where
    by : Well → (place : Place) → ¬ (IsNumbered new_files (length temp_files) place)
        → (place ≡ new_place new_files (length temp_files)) ⊎ (place ≢ new_place new_files (length temp_files))
        → (c place ≡ a place) ⊎ (c place ≡ None)
    by well place away (inl same) = inr (ap c same ∙ freed well)
    by well place away (inr differ) = inl (next place differ ∙ alike place away)

-- ---- synced

-- another file stays where one is synced
synced_other : (is : Bool) (key : FileKey) (a b : FileState) (place : Place) → IsSyncedIf is key a b
    → IsNot key (a place) → b place ≡ a place
synced_other true key a b place synced not = synced.others place not
synced_other false key a b place synced not = synced place

synced_here : (is : Bool) (key : FileKey) (bytes : List ℕ) (a b : FileState) (place : Place) → IsSyncedIf is key a b
    → a place ≡ file key bytes false → b place ≡ file key bytes is
synced_here true key bytes a b place synced at = synced.here place bytes false at
synced_here false key bytes a b place synced at = synced place ∙ at

keys_differ : (temp_files : List NewContent) (k at : ℕ) (one other : NewContent) → AreApart temp_files
    → k < length temp_files → at < length temp_files → k ≢ at → one ≡ get_or temp_files k one
    → other ≡ get_or temp_files at other
    → key_of one.temp_file ≢ key_of other.temp_file
keys_differ temp_files k at one other apart low high differ one_at other_at = by (nat_lt k at) refl
  where
    by : (b : Bool) → nat_lt k at ≡ b → key_of one.temp_file ≢ key_of other.temp_file
    by true is = apart k at one other ((Decides-ltb k at).0 is) high one_at other_at
    by false is = λ e. apart at k other one
        (omega (arith, differ, λ (less : k < at). true≢false (sym ((Decides-ltb k at).1 less) ∙ is))) low
        other_at one_at (sym e)

not_key : (key other : FileKey) (bytes : List ℕ) (is : Bool) (held : Option StateFile) → held ≡ file key bytes is
    → key ≢ other → IsNot other held
not_key key other bytes is held at apart = subst (IsNot other) (sym at) apart

-- one that stood aside does so, where another one was synced
stands_synced : (new_files : Identity) (count : ℕ) (is was : Bool) (a b : FileState) (k j : ℕ) (write also : FileWrite)
    (one other : NewContent) → key_of one.temp_file ≢ key_of other.temp_file
    → IsSyncedIf is (key_of other.temp_file) a b → StandsTempFile new_files count false a j also other
    → StandsTempFile new_files count was a k write one → StandsTempFile new_files count was b k write one
stands_synced new_files count is was a b k j write also one other apart synced next stands =
    record {
      parts = stands.parts;
      is_file = stands.is_file;
      is_one = stands.is_one;
      place = stands.place;
      here = synced_other is (key_of other.temp_file) a b (place_of one.temp_file) synced
          (not_key (key_of one.temp_file) (key_of other.temp_file) (joined stands.parts) was
          (a (place_of one.temp_file)) stands.here apart) ∙ stands.here;
      alone = λ place away. subst (IsNot (key_of one.temp_file))
          (sym (synced_other is (key_of other.temp_file) a b place synced (next.alone place away)))
          (stands.alone place away);
    }

-- so does the one that was synced
stands_kept : (new_files : Identity) (count : ℕ) (is : Bool) (a b : FileState) (k : ℕ) (write : FileWrite)
    (one : NewContent) → IsSyncedIf is (key_of one.temp_file) a b → StandsTempFile new_files count false a k write one
    → StandsTempFile new_files count is b k write one
stands_kept new_files count is a b k write one synced stands =
    record {
      parts = stands.parts;
      is_file = stands.is_file;
      is_one = stands.is_one;
      place = stands.place;
      here =
          synced_here is (key_of one.temp_file) (joined stands.parts) a b (place_of one.temp_file) synced stands.here;
      alone = λ place away. subst (IsNot (key_of one.temp_file))
          (sym (synced_other is (key_of one.temp_file) a b place synced (stands.alone place away)))
          (stands.alone place away);
    }

-- so many are synced, and the others aren't
abbrev pub AreSynced : (new_files : Identity) → (is : Bool) → FileState → (at : ℕ) → List FileWrite
    → List NewContent → Type 0
AreSynced new_files is held at writes temp_files =
    AreTempFile new_files is held 0 at writes temp_files
    × AreTempFile new_files false held at (length temp_files) writes temp_files

pub synced_more : (new_files : Identity) (is : Bool) (writes : List FileWrite) (temp_files : List NewContent)
    (a b : FileState) (at : ℕ) (write : FileWrite) (one : NewContent) → AreApart temp_files → at < length temp_files
    → write ≡ get_or writes at write → one ≡ get_or temp_files at one → IsSyncedIf is (key_of one.temp_file) a b
    → AreSynced new_files is a at writes temp_files → AreSynced new_files is b (at + 1) writes temp_files
synced_more new_files is writes temp_files a b at write one apart short write_is one_is synced so_far = (before, behind)
  where
    here : StandsTempFile new_files (length temp_files) false a at write one
    here = so_far.1 at write one (omega arith) short write_is one_is

    before : AreTempFile new_files is b 0 (at + 1) writes temp_files
    before k later other low less later_is other_is = by (front_or_last k at less)
      where
        by : (k < at) ⊎ (k ≡ at) → StandsTempFile new_files (length temp_files) is b k later other
        by (inl front) =
            stands_synced new_files (length temp_files) is is a b k at later write other one (keys_differ temp_files
            k at other one apart (omega (arith, front, short)) short (omega (arith, front)) other_is one_is) synced here
            (so_far.0 k later other low front later_is other_is)
        by (inr end) =
            stands_kept new_files (length temp_files) is a b k later other
            (subst (λ (o : NewContent). IsSyncedIf is (key_of o.temp_file) a b)
            (same_at temp_files at one other short one_is (other_is ∙ ap (λ m. get_or temp_files m other) end)) synced)
            (so_far.1 k later other (omega (arith, end)) (omega (arith, end, short)) later_is other_is)

    behind : AreTempFile new_files false b (at + 1) (length temp_files) writes temp_files
    behind k later other low less later_is other_is =
        stands_synced new_files (length temp_files) is false a b k at later write other one
        (keys_differ temp_files k at other one apart less short (omega (arith, low)) other_is one_is) synced here
        (so_far.1 k later other (omega (arith, low)) less later_is other_is)

-- where one was to be synced, only new files differ
pub synced_alike : (new_files : Identity) (count : ℕ) (is : Bool) (a b : FileState) (k : ℕ) (write : FileWrite)
    (one : NewContent) → IsSyncedIf is (key_of one.temp_file) a b → StandsTempFile new_files count false a k write one
    → IsAlikeUnless (IsNumbered new_files count) a b
synced_alike new_files count is a b k write one synced stands place away =
    synced_other is (key_of one.temp_file) a b place synced (stands.alone place away)

pub unsynced_alike : (new_files : Identity) (count : ℕ) (a b : FileState) (k : ℕ) (write : FileWrite) (one : NewContent)
    → IsAlikeButFile (key_of one.temp_file) a b → StandsTempFile new_files count false a k write one
    → IsAlikeUnless (IsNumbered new_files count) a b
unsynced_alike new_files count a b k write one alike stands place away = alike place (stands.alone place away)

pub numbered_twice : (new_files : Identity) (count : ℕ) (a b c : FileState)
    → IsAlikeUnless (IsNumbered new_files count) a b → IsAlikeUnless (IsNumbered new_files count) b c
    → IsAlikeUnless (IsNumbered new_files count) a c
numbered_twice new_files count a b c one two place away = two place away ∙ one place away
