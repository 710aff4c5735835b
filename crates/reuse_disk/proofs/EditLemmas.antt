-- No edit is lost where a name changes only if what was seen stands there directly before.
use Rattle.std.proofs.Common.{◌≡◌, ◌≢◌, inl, inr, List, [], ◌∷◌, ◌++◌, Option, None, Some, Result, Ok, Err, MatchResult}
use Rattle.std.proofs.Common.{refl, sym, ◌∙◌, ap, subst, cond, append_assoc}
use Rattle.std.proofs.lemmas.Slice.Eq.{bytes_eq-Decides}
use Rattle.reuse_system.specs.FileStates.{Place, FileState, StateFile}
use Rattle.reuse_system.specs.NameChanges.{Look, NameChange, AreEach, reported_of, change_at, change_of_free}
use Rattle.reuse_system.specs.NameChanges.{change_to}
use Rattle.reuse_system.specs.NewFiles.{Due, IsAsDue}
use Rattle.reuse_system.specs.declared.system.new_status.NewStatus.{NewStatus}
use Rattle.reuse_system.specs.NameChanges.{IsExpected, IsChangeOf, IsGuarded, OnlyChanges}
use Rattle.reuse_system.specs.SystemLaws.{IsAlikeBut, IsLeft, IsOneFile, IsRenamed, IsSeen, MayBeRenamed, IsLinked}
use Rattle.reuse_system.specs.SystemLaws.{MayBeLinked}
use Rattle.reuse_system.specs.declared.place.FileStatus.{FileStatus}
use Rattle.reuse_system.specs.declared.place.Found.{Found}
use Rattle.reuse_system.specs.declared.place.Found.TheVariants as found

pub reported_here : (place : Place) (found : Found)
    → reported_of (Some (record { place = place; reported = found })) place ≡ Some found
reported_here place found = ap (λ b. cond b (Some found) None) ((bytes_eq-Decides place place).1 refl)

-- ---- lists of changes

pub weaker : (P Q : NameChange → Type 0) → ((change : NameChange) → P change → Q change) → (changes : List NameChange)
    → AreEach P changes → AreEach Q changes
weaker P Q from [] all = tt
weaker P Q from (change ∷ changes) all = (from change all.0, weaker P Q from changes all.1)

front_of : (P : NameChange → Type 0) (xs ys : List NameChange) → AreEach P (xs ++ ys) → AreEach P xs
front_of P [] ys all = tt
front_of P (x ∷ xs) ys all = (all.0, front_of P xs ys all.1)

back_of : (P : NameChange → Type 0) (xs ys : List NameChange) → AreEach P (xs ++ ys) → AreEach P ys
back_of P [] ys all = all
back_of P (x ∷ xs) ys all = back_of P xs ys all.1

pub both : (P : NameChange → Type 0) (xs ys : List NameChange) → AreEach P xs → AreEach P ys → AreEach P (xs ++ ys)
both P [] ys front back = back
both P (x ∷ xs) ys front back = (front.0, both P xs ys front.1 back)

-- ---- only such names

pub only_none : (IsOne : Place → Type 0) (a b : List NameChange) → b ≡ a → OnlyChanges IsOne a b
only_none IsOne a b e = record { changes = []; grown = e; each = tt }

pub only_one : (IsOne : Place → Type 0) (a b : List NameChange) (change : NameChange) → b ≡ (change ∷ a)
    → IsOne change.place → OnlyChanges IsOne a b
only_one IsOne a b change e one = record { changes = change ∷ []; grown = e; each = (one, tt) }

pub only_then : (IsOne : Place → Type 0) (a b c : List NameChange) → OnlyChanges IsOne a b → OnlyChanges IsOne b c
    → OnlyChanges IsOne a c
only_then IsOne a b c one two =
    record {
      changes = two.changes ++ one.changes;
      grown = two.grown ∙ ap (λ l. two.changes ++ l) one.grown ∙ sym (append_assoc two.changes one.changes a);
      each = both (λ change. IsOne change.place) two.changes one.changes two.each one.each;
    }

pub only_weaker : (P Q : Place → Type 0) → ((place : Place) → P place → Q place) → (a b : List NameChange)
    → OnlyChanges P a b → OnlyChanges Q a b
only_weaker P Q from a b only =
    record {
      changes = only.changes;
      grown = only.grown;
      each = weaker (λ change. P change.place) (λ change. Q change.place)
          (λ change. from change.place) only.changes only.each;
    }

-- ---- guarded changes

-- what was reported of the place is what the look reported
looked_here : (look : Option Look) (place : Place) (found : Found)
    → look ≡ Some (record { place = place; reported = found }) → reported_of look place ≡ Some found
looked_here look place found is = ap (λ l. reported_of l place) is ∙ reported_here place found

-- no name changed
pub guarded_none : (IsTempFile : Place → Type 0) (target : Place) (due : Due) (a b : List NameChange)
    (old new : FileState) → b ≡ a
    → (¬ (IsTempFile target) → new target ≡ old target) → IsGuarded IsTempFile target due a b old new
guarded_none IsTempFile target due a b old new e same = record {
  changes = [];
  grown = e;
  each = tt;
  same = λ none. same;
}

-- places for new files changed
pub guarded_only : (IsTempFile : Place → Type 0) (target : Place) (due : Due) (a b : List NameChange)
    (old new : FileState) → OnlyChanges IsTempFile a b
    → (¬ (IsTempFile target) → new target ≡ old target) → IsGuarded IsTempFile target due a b old new
guarded_only IsTempFile target due a b old new only same =
    record {
      changes = only.changes;
      grown = only.grown;
      each = weaker (λ change. IsTempFile change.place) (IsChangeOf IsTempFile target due)
          (λ change at. inl at) only.changes only.each;
      same = λ none. same;
    }

pub expected_due : (due : Due) (seen : Option FileStatus) (found : Found) → due.seen ≡ seen
    → IsExpected seen (Some found) → IsExpected due.seen (Some found)
expected_due due seen found is expected = subst (λ one. IsExpected one (Some found)) (sym is) expected

-- the target was looked at, and then lost its file
pub guarded_look : (IsTempFile : Place → Type 0) (target : Place) (due : Due) (found : Found)
    (look : Option Look) (a b c : List NameChange) (old new : FileState)
    → b ≡ a → look ≡ Some (record { place = target; reported = found }) → IsExpected due.seen (Some found)
    → c ≡ (change_at look target ∷ b) → IsGuarded IsTempFile target due a c old new
guarded_look IsTempFile target due found look a b c old new same reported expected grown =
    record {
      changes = change_at look target ∷ [];
      grown = grown ∙ ap (λ l. change_at look target ∷ l) same;
      each = (inr (refl, subst (IsExpected due.seen) (sym (looked_here look target found reported)) expected, tt), tt);
      same = λ none. absurd (none.0 refl);
    }

-- the target was looked at, and then given to this file
pub guarded_name : (IsTempFile : Place → Type 0) (target : Place) (due : Due) (found : Found) (status : NewStatus)
    (look : Option Look) (a b c : List NameChange) (old new : FileState)
    → b ≡ a → look ≡ Some (record { place = target; reported = found }) → IsExpected due.seen (Some found)
    → IsAsDue due status → c ≡ (change_to look target status ∷ b) → IsGuarded IsTempFile target due a c old new
guarded_name IsTempFile target due found status look a b c old new same reported expected as_due grown =
    record {
      changes = change_to look target status ∷ [];
      grown = grown ∙ ap (λ l. change_to look target status ∷ l) same;
      each =
          (inr (refl, subst (IsExpected due.seen) (sym (looked_here look target found reported)) expected, as_due), tt);
      same = λ none. absurd (none.0 refl);
    }

-- the target got its name by a link
pub guarded_link : (IsTempFile : Place → Type 0) (target : Place) (due : Due) (status : NewStatus)
    (a b : List NameChange) (old new : FileState) → due.seen ≡ None → IsAsDue due status
    → b ≡ (change_of_free target status ∷ a) → IsGuarded IsTempFile target due a b old new
guarded_link IsTempFile target due status a b old new none as_due grown =
    record {
      changes = change_of_free target status ∷ [];
      grown = grown;
      each = (inr (refl, subst (λ seen. IsExpected seen (Some found.Nothing)) (sym none) refl, as_due), tt);
      same = λ none. absurd (none.0 refl);
    }

-- a place for new files changed
pub guarded_temp_file : (IsTempFile : Place → Type 0) (target at : Place) (due : Due)
    (look : Option Look) (a b : List NameChange) (old new : FileState)
    → IsTempFile at → b ≡ (change_at look at ∷ a) → (¬ (IsTempFile target) → new target ≡ old target)
    → IsGuarded IsTempFile target due a b old new
guarded_temp_file IsTempFile target at due look a b old new is grown same =
    record { changes = change_at look at ∷ []; grown = grown; each = (inl is, tt); same = λ none. same }

pub guarded_then : (IsTempFile : Place → Type 0) (target : Place) (due : Due) (a b c : List NameChange)
    (old mid new : FileState)
    → IsGuarded IsTempFile target due a b old mid → IsGuarded IsTempFile target due b c mid new
    → IsGuarded IsTempFile target due a c old new
guarded_then IsTempFile target due a b c old mid new one two =
    record {
      changes = two.changes ++ one.changes;
      grown = two.grown ∙ ap (λ l. two.changes ++ l) one.grown ∙ sym (append_assoc two.changes one.changes a);
      each = both (IsChangeOf IsTempFile target due) two.changes one.changes two.each one.each;
      same = λ none no.
          two.same (front_of (λ change. change.place ≢ target) two.changes one.changes none) no
          ∙ one.same (back_of (λ change. change.place ≢ target) two.changes one.changes none) no;
    }

change_weaker : (P Q : Place → Type 0) (target : Place) (due : Due)
    → ((place : Place) → P place → Q place) → (change : NameChange) → IsChangeOf P target due change
    → IsChangeOf Q target due change
change_weaker P Q target due from change (inl at) = inl (from change.place at)
change_weaker P Q target due from change (inr at) = inr at

pub guarded_weaker : (P Q : Place → Type 0) (target : Place) (due : Due)
    → ((place : Place) → P place → Q place) → (a b : List NameChange) (old new : FileState)
    → IsGuarded P target due a b old new → IsGuarded Q target due a b old new
guarded_weaker P Q target due from a b old new one =
    record {
      changes = one.changes;
      grown = one.grown;
      each = weaker (IsChangeOf P target due) (IsChangeOf Q target due)
          (change_weaker P Q target due from) one.changes one.each;
      same = λ none no. one.same none (λ at. no (from target at));
    }

-- ---- a name that is linked, and then leaves its old place

pub linked_then_discarded : (from to : Place) (a b c : FileState) → IsLinked from to a b → IsAlikeBut from b c
    → IsRenamed from to a c
linked_then_discarded from to a b c linked alike =
    record {
      there = alike to linked.apart ∙ linked.there;
      others = λ place no other. alike place no ∙ linked.others place other;
    }

pub linked_renamed : (from to : Place) (a b : FileState) → IsLinked from to a b → IsRenamed from to a b
linked_renamed from to a b linked = record {
  there = linked.there;
  others = λ place no other. linked.others place other;
}

pub may_be_renamed : (from to : Place) (a b : FileState) → MayBeLinked from to a b → MayBeRenamed from to a b
may_be_renamed from to a b (inl alike) = inl alike
may_be_renamed from to a b (inr linked) = inr (linked_renamed from to a b linked)

renamed_after : (from to : Place) (a b c : FileState) → MayBeLinked from to a b → IsRenamed from to b c
    → IsRenamed from to a c
renamed_after from to a b c (inl alike) renamed =
    record {
      there = renamed.there ∙ alike from;
      others = λ place no other. renamed.others place no other ∙ alike place;
    }
renamed_after from to a b c (inr linked) renamed =
    record {
      there = renamed.there ∙ linked.others from (λ e. linked.apart (sym e));
      others = λ place no other. renamed.others place no other ∙ linked.others place other;
    }

may_rename_after : (from to : Place) (a b c : FileState) → MayBeLinked from to a b → MayBeRenamed from to b c
    → MayBeRenamed from to a c
may_rename_after from to a b c (inl alike) (inl same) = inl (λ place. same place ∙ alike place)
may_rename_after from to a b c (inr linked) (inl same) =
    inr (record { there = same to ∙ linked.there; others = λ place no other. same place ∙ linked.others place other })
may_rename_after from to a b c linked (inr renamed) = inr (renamed_after from to a b c linked renamed)

-- linked or not, and then renamed or not
pub renamed_after_link : {E : Type 0} (from to : Place) (a b c : FileState) (answer : Result (Unit {0}) E)
    → MayBeLinked from to a b
    → MatchResult answer (λ _. IsRenamed from to b c) (λ _. MayBeRenamed from to b c)
    → MatchResult answer (λ _. IsRenamed from to a c) (λ _. MayBeRenamed from to a c)
renamed_after_link from to a b c (Ok done) linked renamed = renamed_after from to a b c linked renamed
renamed_after_link from to a b c (Err error) linked renamed = may_rename_after from to a b c linked renamed

-- ---- whether a file has left its old name

pub left_gone : (from to : Place) (a b : FileState) → from ≢ to → ¬ (IsOneFile (a from) (a to))
    → IsLeft from to a b → b from ≡ None
left_gone from to a b apart other (inl gone) = gone
left_gone from to a b apart other (inr (same, inl e)) = absurd (apart e)
left_gone from to a b apart other (inr (same, inr one)) = absurd (other one)

not_none : (one : Option StateFile) → ¬ (IsOneFile one None)
not_none None same = same
not_none (Some held) same = same

-- where nothing stood
pub apart_from_none : (one other : Option StateFile) → other ≡ None → ¬ (IsOneFile one other)
apart_from_none one other none same = not_none one (subst (IsOneFile one) none same)

-- what was reported of a name at which nothing was expected
pub free_of_look : (reported : Found) (held : Option StateFile) (seen : Option FileStatus) → seen ≡ None
    → IsExpected seen (Some reported) → IsSeen held (Ok reported) → held ≡ None
free_of_look reported held None none expected seen = free reported expected seen
  where
    free : (reported : Found) → Some reported ≡ Some found.Nothing → IsSeen held (Ok reported) → held ≡ None
    free found.Nothing same seen = seen
    free (found.File status) same seen = absurd (cc)
    free (found.Folder identity) same seen = seen
    free found.Other same seen = seen
free_of_look reported held (Some status) none expected seen = absurd (cc)
