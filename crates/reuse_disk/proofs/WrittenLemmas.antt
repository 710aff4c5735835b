-- What follows of files that are written as a whole or not at all.
use Rattle.std.proofs.Common.{◌≡◌, ◌≢◌, ◌⊎◌, inl, inr, ℕ, Bool, true, false, IsTrue, List, [], Option, None, Some}
use Rattle.std.proofs.Common.{Result, Ok, Err, IfOk, is_ok, true≢false, MatchResult, refl, sym, ◌∙◌, ap, subst}
use Rattle.std.specs.Str.{bytes_eq}
use Rattle.std.proofs.lemmas.Slice.Eq.{bytes_eq-Decides}
use Rattle.reuse_system.specs.FileStates.{FileKey, StateFile, Place, FileState, Holds, IsNot, file}
use Rattle.reuse_system.specs.SystemLaws.{IsAlikeBut, IsAlikeButFile, IsFilled, IsOneFile, IsRemoved}
use Rattle.reuse_disk.specs.Written.{StandsAlone, IsMoved, IsFresh, IsPlaced, IsWritten, LeavesNone}

-- ---- a file that stands alone

-- of a file that stands alone nothing else differs
pub alone_alike : (key : FileKey) (from : Place) (had : List ℕ) (was : Bool) (a b : FileState)
    → StandsAlone from key had was a → IsAlikeButFile key a b → IsAlikeBut from a b
alone_alike key from had was a b alone alike other apart = alike other (alone.alone other apart)

-- it got all its bytes
pub filled_alone : (key : FileKey) (from : Place) (bytes : List ℕ) (is : Bool) (a b : FileState)
    → StandsAlone from key [] false a → IsFilled key bytes is a b → StandsAlone from key bytes is b
filled_alone key from bytes is a b alone filled =
    record {
      here = filled.here from [] false alone.here;
      alone = λ other apart. subst (IsNot key) (sym (filled.others other (alone.alone other apart)))
          (alone.alone other apart);
    }

-- another file is not this one
apart_files : (key : FileKey) (bytes : List ℕ) (is : Bool) (one other : Option StateFile) → one ≡ file key bytes is
    → IsNot key other → ¬ (IsOneFile one other)
apart_files key bytes is one other e not same = apart_keys other not (subst (λ o. IsOneFile o other) e same)
  where
    apart_keys : (other : Option StateFile) → IsNot key other → ¬ (IsOneFile (file key bytes is) other)
    apart_keys None not same = same
    apart_keys (Some held) not same = not (sym same)

-- ---- placed at the target

-- nothing differs but the file's own place
pub not_placed : (Honest : Type 0) (from to : Place) (bytes : List ℕ) (is : Bool) (a b : FileState)
    → IsAlikeBut from a b → IsPlaced Honest from to bytes is a b false false
not_placed Honest from to bytes is a b alike =
    record {
      written = record {
        done = λ bad. absurd (true≢false (sym bad));
        whole = λ away. inl (alike to away);
        others = λ place away other. alike place away;
      };
      fresh = λ apart. inl (alike to (λ e. apart (sym e)));
      gone = λ honest apart bad. absurd (true≢false (sym bad));
    }

pub not_completed : (Honest : Type 0) (key : FileKey) (from to : Place) (bytes : List ℕ) (is : Bool) (a b : FileState)
    → StandsAlone from key [] false a → IsAlikeButFile key a b → IsPlaced Honest from to bytes is a b false false
not_completed Honest key from to bytes is a b alone alike =
    not_placed Honest from to bytes is a b (alone_alike key from [] false a b alone alike)

then_fresh : (key : FileKey) (from to : Place) (bytes : List ℕ) (is : Bool) (a b c : FileState)
    → StandsAlone from key bytes is b → IsAlikeBut from a b → from ≢ to → IsMoved from to b c → IsFresh from to a c
then_fresh key from to bytes is a b c alone alike apart (inl same) = inl (same ∙ alike to (λ e. apart (sym e)))
then_fresh key from to bytes is a b c alone alike apart (inr moved) =
    inr (λ other away. apart_files key bytes is (c to) (a other) (moved ∙ alone.here)
    (subst (IsNot key) (alike other away) (alone.alone other away)))

-- completed, and then named or not
pub placed_by_naming : (Honest : Type 0) (key : FileKey) (from to : Place) (bytes : List ℕ) (is : Bool)
    (a b c : FileState) (is_done : Bool)
    → StandsAlone from key [] false a → IsFilled key bytes is a b → ((had : List ℕ) → (was : Bool)
    → b from ≡ file key had was → IsWritten (λ place. place ≡ from) to had was b c is_done)
    → IsMoved from to b c → (Honest → from ≢ to → ¬ (IsOneFile (b from) (b to)) → IsTrue is_done → c from ≡ None)
    → IsPlaced Honest from to bytes is a c is_done is_done
placed_by_naming Honest key from to bytes is a b c is_done alone filled named moved gone =
    let stands = filled_alone key from bytes is a b alone filled in
    let alike = alone_alike key from [] false a b alone filled.others in
    let written = named bytes is stands.here in
    record {
      written = record {
        done = written.done;
        whole = λ away. whole away (written.whole away);
        others = λ place away other. written.others place away other ∙ alike place away;
      };
      fresh = λ apart. then_fresh key from to bytes is a b c stands alike apart moved;
      gone = λ honest apart done. gone honest apart
          (apart_files key bytes is (b from) (b to) stands.here (stands.alone to (λ e. apart (sym e)))) done;
    }
  where
    whole : to ≢ from → (c to ≡ b to) ⊎ Holds c to bytes is → (c to ≡ a to) ⊎ Holds c to bytes is
    whole away (inl same) = inl (same ∙ alone_alike key from [] false a b alone filled.others to away)
    whole away (inr holds) = inr holds

fresh_then : (from to : Place) (a b c : FileState) → from ≢ to → IsAlikeBut from b c → IsFresh from to a b
    → IsFresh from to a c
fresh_then from to a b c apart alike (inl same) = inl (alike to (λ e. apart (sym e)) ∙ same)
fresh_then from to a b c apart alike (inr other) = inr
    (λ place away same. other place away (subst (λ one. IsOneFile one (a place)) (alike to (λ e. apart (sym e))) same))

-- not placed, and then removed from its own place or not
pub placed_then_discarded : (Before Honest : Type 0) (from to : Place) (bytes : List ℕ) (is : Bool) (a b c : FileState)
    (is_done is_well was_well : Bool) → is_done ≡ false
    → IsPlaced Before from to bytes is a b is_done was_well → IsAlikeBut from b c → (IsTrue is_well → c from ≡ None)
    → IsPlaced Honest from to bytes is a c false is_well
placed_then_discarded Before Honest from to bytes is a b c is_done is_well was_well failed placed alike gone =
    record {
      written = record {
        done = λ bad. absurd (true≢false (sym bad));
        whole = λ away. whole away (placed.written.whole away);
        others = λ place away other. alike place away ∙ placed.written.others place away other;
      };
      fresh = λ apart. fresh_then from to a b c apart alike (placed.fresh apart);
      gone = λ honest apart well. gone well;
    }
  where
    whole : to ≢ from → (b to ≡ a to) ⊎ Holds b to bytes is → (c to ≡ a to) ⊎ Holds c to bytes is
    whole away (inl same) = inl (alike to away ∙ same)
    whole away (inr holds) = inr (holds.0, alike to away ∙ holds.1)

after_fresh : (from to : Place) (a b c : FileState) → from ≢ to → IsAlikeBut from a b → IsFresh from to b c
    → IsFresh from to a c
after_fresh from to a b c apart alike (inl same) = inl (same ∙ alike to (λ e. apart (sym e)))
after_fresh from to a b c apart alike (inr other) =
    inr (λ place away same. other place away (subst (IsOneFile (c to)) (sym (alike place away)) same))

pub then_alike : {P : Type 0} (a b c : Option StateFile) → b ≡ a → (c ≡ b) ⊎ P → (c ≡ a) ⊎ P
then_alike a b c e (inl f) = inl (f ∙ e)
then_alike a b c e (inr p) = inr p

-- placed, after something differed at its own place
pub placed_after : (Honest : Type 0) (from to : Place) (bytes : List ℕ) (is : Bool) (a b c : FileState)
    (is_done is_well : Bool)
    → IsAlikeBut from a b → IsPlaced Honest from to bytes is b c is_done is_well
    → IsPlaced Honest from to bytes is a c is_done is_well
placed_after Honest from to bytes is a b c is_done is_well alike placed =
    record {
      written = record {
        done = placed.written.done;
        whole = λ away. then_alike _ _ _ (alike to away) (placed.written.whole away);
        others = λ place away other. placed.written.others place away other ∙ alike place away;
      };
      fresh = λ apart. after_fresh from to a b c apart alike (placed.fresh apart);
      gone = placed.gone;
    }

-- ---- written from one of the places for new files

-- nothing was written
pub nothing_written : (IsTempFile : Place → Type 0) (to : Place) (bytes : List ℕ) (is : Bool) (held : FileState)
    → IsWritten IsTempFile to bytes is held held false
nothing_written IsTempFile to bytes is held = record {
  done = λ bad. absurd (true≢false (sym bad));
  whole = λ away. inl refl;
  others = λ place away other. refl;
}

pub written_of_placed : (Honest : Type 0) (IsTempFile : Place → Type 0) (from to : Place) (bytes : List ℕ) (is : Bool)
    (a b : FileState) (is_done is_well : Bool) → IsTempFile from
    → IsPlaced Honest from to bytes is a b is_done is_well → IsWritten IsTempFile to bytes is a b is_done
written_of_placed Honest IsTempFile from to bytes is a b is_done is_well at placed =
    let apart : (place : Place) → ¬ (IsTempFile place) → place ≢ from =
    λ place away e. away (subst IsTempFile (sym e) at) in
    record {
      done = placed.written.done;
      whole = λ away. placed.written.whole (apart to away);
      others = λ place away other. placed.written.others place (apart place away) other;
    }

either : (a b c : FileState) (to : Place) (bytes : List ℕ) (is : Bool) → (b to ≡ a to) ⊎ Holds b to bytes is
    → (c to ≡ b to) ⊎ Holds c to bytes is → (c to ≡ a to) ⊎ Holds c to bytes is
either a b c to bytes is one (inr stands) = inr stands
either a b c to bytes is (inl e) (inl f) = inl (f ∙ e)
either a b c to bytes is (inr stands) (inl f) = inr (stands.0, f ∙ stands.1)

-- written once more, after it failed
pub written_again : (IsTempFile : Place → Type 0) (to : Place) (bytes : List ℕ) (is : Bool) (a b c : FileState)
    (was_done is_done : Bool)
    → IsWritten IsTempFile to bytes is a b was_done → IsWritten IsTempFile to bytes is b c is_done
    → IsWritten IsTempFile to bytes is a c is_done
written_again IsTempFile to bytes is a b c was_done is_done one two =
    record {
      done = two.done;
      whole = λ away. either a b c to bytes is (one.whole away) (two.whole away);
      others = λ place away other. two.others place away other ∙ one.others place away other;
    }

-- ---- no new file is left

none_here : (IsTempFile : Place → Type 0) (from to : Place) (bytes : List ℕ) (is : Bool) (a b : FileState)
    (is_done : Bool) (place : Place) (is_from : Bool) → bytes_eq place from ≡ is_from → place ≢ to → b from ≡ None
    → IsWritten (λ one. one ≡ from) to bytes is a b is_done → (b place ≡ a place) ⊎ (b place ≡ None)
none_here IsTempFile from to bytes is a b is_done place true same other gone written =
    inr (ap b ((bytes_eq-Decides place from).0 same) ∙ gone)
none_here IsTempFile from to bytes is a b is_done place false differ other gone written =
    inl (written.others place (λ e. true≢false (sym ((bytes_eq-Decides place from).1 e) ∙ differ)) other)

-- where the file has left its own place
pub none_left_by : (Honest : Type 0) (IsTempFile : Place → Type 0) (from to : Place) (bytes : List ℕ) (is : Bool)
    (a b : FileState) (is_done is_well : Bool) → IsTempFile from → ¬ (IsTempFile to) → IsTrue is_well → Honest
    → IsPlaced Honest from to bytes is a b is_done is_well → LeavesNone IsTempFile a b
none_left_by Honest IsTempFile from to bytes is a b is_done is_well at apart well honest placed place is_temp_file =
    none_here IsTempFile from to bytes is a b is_done place (bytes_eq place from) refl
    (λ e. apart (subst IsTempFile e is_temp_file))
    (placed.gone honest (λ e. apart (subst IsTempFile e at)) well) placed.written

pub then_none : (a b c : Option StateFile) → (b ≡ a) ⊎ (b ≡ None) → (c ≡ b) ⊎ (c ≡ None) → (c ≡ a) ⊎ (c ≡ None)
then_none a b c first (inr none) = inr none
then_none a b c (inl e) (inl f) = inl (f ∙ e)
then_none a b c (inr none) (inl f) = inr (f ∙ none)

pub none_left_twice : (IsTempFile : Place → Type 0) (a b c : FileState) → LeavesNone IsTempFile a b
    → LeavesNone IsTempFile b c → LeavesNone IsTempFile a c
none_left_twice IsTempFile a b c one two place at =
    then_none (a place) (b place) (c place) (one place at) (two place at)

-- removed or not, nothing else differs
pub discarded_alike : {E : Type 0} (from : Place) (a b : FileState) (answer : Result (Unit {0}) E)
    → MatchResult answer (λ _. IsRemoved from a b) (λ _. IsAlikeBut from a b) → IsAlikeBut from a b
discarded_alike from a b (Ok done) removed = removed.others
discarded_alike from a b (Err error) alike = alike

-- the same from where it was made
pub placed_from : (Honest : Type 0) (from at to : Place) (bytes : List ℕ) (is : Bool) (a b c : FileState)
    (is_done is_well : Bool) → from ≡ at → IsAlikeBut at a b → IsPlaced Honest from to bytes is b c is_done is_well
    → IsPlaced Honest at to bytes is a c is_done is_well
placed_from Honest from at to bytes is a b c is_done is_well e alike placed =
    placed_after Honest at to bytes is a b c is_done is_well alike
    (subst (λ place. IsPlaced Honest place to bytes is b c is_done is_well) e placed)

-- one place of new files was cleared
pub cleared_one : (IsTempFile : Place → Type 0) (at : Place) (a b c : FileState) → LeavesNone IsTempFile a b
    → IsRemoved at b c → LeavesNone IsTempFile a c
cleared_one IsTempFile at a b c before removed place is = by (bytes_eq place at) refl (before place is)
  where
    by : (same : Bool) → bytes_eq place at ≡ same → (b place ≡ a place) ⊎ (b place ≡ None)
        → (c place ≡ a place) ⊎ (c place ≡ None)
    by true same so_far = inr (ap c ((bytes_eq-Decides place at).0 same) ∙ removed.gone)
    by false differ (inl same) =
        inl (removed.others place (λ e. true≢false (sym ((bytes_eq-Decides place at).1 e) ∙ differ)) ∙ same)
    by false differ (inr gone) =
        inr (removed.others place (λ e. true≢false (sym ((bytes_eq-Decides place at).1 e) ∙ differ)) ∙ gone)

-- less is said of one that didn't go well
pub placed_worse : (Honest : Type 0) (from to : Place) (bytes : List ℕ) (is : Bool) (a b : FileState)
    (is_done is_well : Bool) → IsPlaced Honest from to bytes is a b is_done is_well
    → IsPlaced Honest from to bytes is a b is_done false
placed_worse Honest from to bytes is a b is_done is_well placed =
    record { written = placed.written; fresh = placed.fresh; gone = λ honest apart bad. absurd (true≢false (sym bad)) }

pub if_ok : {T E : Type 0} (answer : Result T E) (P : Type 0) → (IsTrue (is_ok answer) → P) → IfOk answer (λ _. P)
if_ok (Ok value) P holds = holds refl
if_ok (Err error) P holds = tt
