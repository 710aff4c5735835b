-- Trees that recovering a step leads to, and the changes of it that can be rolled back.
use Rattle.std.proofs.Common.{◌≡◌, ◌⊎◌, inl, inr, ℕ, ◌<◌, Bool, true, false, ◌||◌, cond, List, [], ◌∷◌, filter, length}
use Rattle.std.proofs.Common.{get_or, is_some, refl, sym, ap, subst, ◌∙◌}
use Rattle.std.specs.FinMap.{get}
use Rattle.std.specs.List.{All}
use Rattle.std.specs.Str.{bytes_eq}
use Rattle.std.proofs.lemmas.Bool.{false≢true}
use Rattle.std.proofs.lemmas.Slice.Eq.{bytes_eq-Decides}
use Rattle.reuse_change.specs.Change.{path_of, IsProper}
use Rattle.reuse_change.specs.Entry.{makes, opposite, touches, AppliesBy, IsEntry, IsReady, SomeMade, ArePartlyMade}
use Rattle.reuse_change.specs.Entry.{CanBeRolledBack}
use Rattle.reuse_change.specs.Files.{Files, AreFiles, Clashes}
use Rattle.reuse_change.specs.Path.{lies_under}
use Rattle.reuse_change.specs.declared.change.Change.{Change}
use Rattle.reuse_change.specs.declared.direction.Direction.{Direction}
use Rattle.reuse_change.proofs.Differ.{touching}
use Rattle.reuse_change.proofs.FileMaps.{same_files}
use Rattle.reuse_store.proofs.MadeLemmas.{ready_once, returned, settles_from, applied}
use Rattle.reuse_change.proofs.Walk.{made_is_file, touched, applies_once_by}
use Rattle.reuse_journal.specs.Recovery.{RecoversAt, RecoversTree}
use Rattle.reuse_journal.proofs.PartOfEntry.{all_left, left_all, none_left, none_more}

-- ---- the tree that recovering leads to

module _ (direction : Direction) (changes : List Change) (good : IsEntry changes) (tree start : Files)
    (leads : RecoversTree direction changes tree start) where
  made_at : (change : Change) → RecoversAt direction tree start change
      → (get tree (path_of change) ≡ get start (path_of change))
      ⊎ AppliesBy direction change (get start (path_of change))
      (get tree (path_of change))
  made_at change (inl stays) = inl (sym stays.1)
  made_at change (inr (inl back)) = inr
      (returned direction change (get tree (path_of change)) (get start (path_of change)) back.1)
  made_at change (inr (inr stuck)) = inl (sym stuck.1)

  -- some of the changes are made on it
  pub recovers_from : SomeMade direction changes start tree
  recovers_from = record {
    each = λ k d lt. made_at (get_or changes k d) (leads.each k d lt);
    others = λ path none. sym
        (leads.others path none);
  }

  -- a change that can be rolled back can be made there, and one that can't be rolled back can't
  pub ready_at : (change : Change) → CanBeRolledBack direction tree change → RecoversAt direction tree start change
      → IsReady direction change (get start (path_of change))
  ready_at change can (inl stays) = subst (IsReady direction change) (sym stays.1) stays.0
  ready_at change can
      (inr (inl back)) = (
        get tree (path_of change),
        returned direction change (get tree (path_of change))
            (get start (path_of change)) back.1,
      )
  ready_at change can (inr (inr stuck)) = absurd (stuck.0 can)

  pub stuck_at : (change : Change) → (CanBeRolledBack direction tree change → ⊥)
      → RecoversAt direction tree start change
      → IsReady direction change (get start (path_of change)) → ⊥
  stuck_at change none (inl stays) ready = none (inl stays.0)
  stuck_at change none (inr (inl back)) ready = none (inr back.0)
  stuck_at change none (inr (inr stuck)) ready = none (inl (subst (IsReady direction change) stuck.1 ready))

  -- where some of the changes are made on it, recovering leads to it again
  module _ (are : AreFiles start) (now : Files) (some : SomeMade direction changes start now) where
    module _ (k : ℕ) (d : Change) (lt : k < length changes) where
      abbrev its : Change
      its = get_or changes k d

      apart_there : (other : List ℕ) → touches changes other ≡ true
          → (lies_under other (path_of its) || lies_under (path_of its) other) ≡ false
      apart_there other e = good.apart (path_of its) other (touched changes good k d lt) e

      free : AppliesBy (opposite direction) its (get now (path_of its)) (get start (path_of its))
          → makes (opposite direction) its ≡ true → (clash : Clashes now (path_of its)) → (b : Bool)
          → touches changes clash.other ≡ b → ⊥
      free applies made clash true e = false≢true (sym (apart_there clash.other e) ∙ clash.nested)
      free applies made clash false e =
          are.apart (path_of its)
          (made_is_file (opposite direction) its (get now (path_of its)) (get start (path_of its)) made applies)
          (record {
            other = clash.other;
            is_file = ap is_some (sym (some.others clash.other e))
                ∙ clash.is_file;
            nested = clash.nested;
          })

      clash_now : (clash : Clashes tree (path_of its)) → (b : Bool) → touches changes clash.other ≡ b
          → Clashes now (path_of its)
      clash_now clash true e = absurd (false≢true (sym (apart_there clash.other e) ∙ clash.nested))
      clash_now clash false e = record {
        other = clash.other;
        is_file = ap is_some
            (some.others clash.other e ∙ leads.others clash.other e) ∙ clash.is_file;
        nested = clash.nested;
      }

      still_stuck : get now (path_of its) ≡ get tree (path_of its) → (CanBeRolledBack direction tree its → ⊥)
          → CanBeRolledBack direction now its → ⊥
      still_stuck same stuck (inl ready) = stuck (inl (subst (IsReady direction its) same ready))
      still_stuck same stuck (inr can) = stuck (inr (record {
        ready = subst (IsReady (opposite direction) its) same can.ready;
        free = λ made clash. can.free made (clash_now clash (touches changes clash.other) refl);
      }))

      still_at : (get now (path_of its) ≡ get start (path_of its)) ⊎ AppliesBy direction its
          (get start (path_of its)) (get now (path_of its)) → RecoversAt direction tree start its
          → RecoversAt direction now start its
      still_at (inr applies) was =
          let back = applied direction its (get start (path_of its)) (get now (path_of its)) applies in
          inr (inl (
            record {
              ready = (get start (path_of its), back);
              free = λ made clash. free back made clash
                  (touches changes clash.other) refl;
            },
            back,
          ))
      still_at (inl same) (inl stays) = inl (subst (IsReady direction its) (sym (same ∙ stays.1)) stays.0, sym same)
      still_at (inl same) (inr (inl back)) =
          let applies = returned direction its (get tree (path_of its)) (get start (path_of its)) back.1 in
          inl (subst (IsReady direction its) (sym same) (get tree (path_of its), applies), sym same)
      still_at (inl same) (inr (inr stuck)) = inr (inr (still_stuck (same ∙ stuck.1) stuck.0, sym same))

    pub recovers_still : RecoversTree direction changes now start
    recovers_still = record {
      each = λ k d lt. still_at k d lt (some.each k d lt) (leads.each k d lt);
      others = λ path none. sym (some.others path none);
    }

-- recovering leads to one tree
module _ (direction : Direction) (changes : List Change) (good : IsEntry changes) (tree one other : Files)
    (leads : RecoversTree direction changes tree one) (also : RecoversTree direction changes tree other) where
  once_at : (change : Change) → IsProper change → RecoversAt direction tree one change
      → RecoversAt direction tree other change
      → get one (path_of change) ≡ get other (path_of change)
  once_at change proper (inl a) (inl b) = a.1 ∙ sym b.1
  once_at change proper (inl a) (inr (inl b)) = absurd
      (ready_once direction change (get tree (path_of change)) proper a.0 b.0.ready)
  once_at change proper (inl a) (inr (inr b)) = absurd (b.0 (inl a.0))
  once_at change proper (inr (inl a)) (inl b) = absurd
      (ready_once direction change (get tree (path_of change)) proper b.0 a.0.ready)
  once_at change proper (inr (inl a)) (inr (inl b)) =
      applies_once_by (opposite direction) change (get tree (path_of change))
      (get one (path_of change)) (get other (path_of change)) a.1 b.1
  once_at change proper (inr (inl a)) (inr (inr b)) = absurd (b.0 (inr a.0))
  once_at change proper (inr (inr a)) (inl b) = absurd (a.0 (inl b.0))
  once_at change proper (inr (inr a)) (inr (inl b)) = absurd (a.0 (inr b.0))
  once_at change proper (inr (inr a)) (inr (inr b)) = a.1 ∙ sym b.1

  pub recovers_once : one ≡ other
  recovers_once = same_files one other (λ path. at_test path (touches changes path) refl)
    where
      at_test : (path : List ℕ) (b : Bool) → touches changes path ≡ b → get one path ≡ get other path
      at_test path false e = leads.others path e ∙ sym (also.others path e)
      at_test path true e =
          let found = touching changes path e in
          subst (λ p. get one p ≡ get other p) (sym found.3)
          (once_at (get_or changes found.0 found.1) (good.proper found.0 found.1 found.2)
          (leads.each found.0 found.1 found.2) (also.each found.0 found.1 found.2))

-- of a step that is pending from a tree, all can be rolled back, and recovering leads to that tree
module _ (direction : Direction) (changes : List Change) (good : IsEntry changes) (start tree : Files)
    (are : AreFiles start)
    (partly : ArePartlyMade direction changes start tree) where
  back_at : (change : Change) → IsProper change → IsReady direction change (get start (path_of change))
      → CanBeRolledBack direction tree change
      → (get tree (path_of change) ≡ get start (path_of change))
      ⊎ AppliesBy direction change (get start (path_of change))
      (get tree (path_of change)) → RecoversAt direction tree start change
  back_at change proper ready can (inl same) = inl (subst (IsReady direction change) (sym same) ready, sym same)
  back_at change proper ready (inl here) (inr applies) =
      absurd (ready_once direction change (get tree (path_of change)) proper here (
        get start (path_of change),
        applied direction change (get start (path_of change))
            (get tree (path_of change)) applies,
      ))
  back_at change proper ready (inr can) (inr applies) = inr
      (inl (can, applied direction change (get start (path_of change)) (get tree (path_of change)) applies))

  pub recovers_partly : RecoversTree direction changes tree start
  recovers_partly =
      let can = settles_from direction start tree changes good are partly in
      record {
        each = λ k d lt. back_at (get_or changes k d) (good.proper k d lt) (partly.ready k d lt) (can k d lt)
            (partly.made.each k d lt);
        others = λ path none. sym (partly.made.others path none);
      }

-- ---- some of the changes, chosen by a test of the path

module _ (test : List ℕ → Bool) where
  abbrev chosen : List Change → List Change
  chosen changes = filter (λ change. test (path_of change)) changes

  still_touched : (changes : List Change) (path : List ℕ) → test path ≡ true → touches changes path ≡ true
      → touches (chosen changes) path ≡ true
  still_touched [] path passes e = e
  still_touched (change ∷ changes) path passes e =
      of_test (still_touched changes path passes) (test (path_of change)) refl (bytes_eq path (path_of change)) refl
    where
      rest : bytes_eq path (path_of change) ≡ false → touches changes path ≡ true
      rest other = sym (ap (λ b. b || touches changes path) other) ∙ e

      of_test : (touches changes path ≡ true → touches (chosen changes) path ≡ true)
          → (b : Bool) → test (path_of change) ≡ b → (same : Bool) → bytes_eq path (path_of change) ≡ same
          → touches (cond b (change ∷ chosen changes) (chosen changes)) path ≡ true
      of_test more true is true here = ap (λ b. b || touches (chosen changes) path) here
      of_test more true is false other = ap (λ b. b || touches (chosen changes) path) other ∙ more (rest other)
      of_test more false is true here =
          absurd (false≢true (sym is ∙ ap test (sym ((bytes_eq-Decides path (path_of change)).0 here)) ∙ passes))
      of_test more false is false other = more (rest other)

  module _ (direction : Direction) (changes : List Change) (start now : Files) where
    abbrev Made : Change → Type 0
    Made c = (get now (path_of c) ≡ get start (path_of c))
        ⊎ AppliesBy direction c (get start (path_of c)) (get now (path_of c))

    -- where some of these are made, some of all are
    pub some_more : SomeMade direction (chosen changes) start now → SomeMade direction changes start now
    some_more some = record {
      each = λ k d lt. at_test (get_or changes k d) (test (path_of (get_or changes k d))) refl
          (left_all (λ c. test (path_of c)) Made changes some.each k d lt);
      others = λ path none. some.others path (none_more test changes path none);
    }
      where
        at_test : (c : Change) (b : Bool) → test (path_of c) ≡ b → (test (path_of c) ≡ true → Made c) → Made c
        at_test c true e made = made e
        at_test c false e made = inl (some.others (path_of c) (none_left test changes (path_of c) e))

    -- and the other way round where the others can't be made
    pub some_part : All (λ c. test (path_of c) ≡ false → IsReady direction c (get start (path_of c)) → ⊥) changes
        → SomeMade direction changes start now → SomeMade direction (chosen changes) start now
    some_part stuck some = record {
      each = all_left (λ c. test (path_of c)) Made changes (λ k d lt passes. some.each k d lt);
      others = λ path none. at_test path none (touches changes path) refl;
    }
      where
        same_at : (c : Change) → (IsReady direction c (get start (path_of c)) → ⊥) → Made c
            → get now (path_of c) ≡ get start (path_of c)
        same_at c none (inl same) = same
        same_at c none (inr applies) = absurd (none (get now (path_of c), applies))

        out : (path : List ℕ) → touches (chosen changes) path ≡ false → touches changes path ≡ true → (b : Bool)
            → test path ≡ b → test path ≡ false
        out path none e true is = absurd (false≢true (sym none ∙ still_touched changes path is e))
        out path none e false is = is

        at_test : (path : List ℕ) → touches (chosen changes) path ≡ false → (b : Bool) → touches changes path ≡ b
            → get now path ≡ get start path
        at_test path none false e = some.others path e
        at_test path none true e =
            let found = touching changes path e in
            let c = get_or changes found.0 found.1 in
            subst (λ p. get now p ≡ get start p) (sym found.3)
            (same_at c
            (stuck found.0 found.1 found.2 (subst (λ p. test p ≡ false) found.3 (out path none e (test path) refl)))
            (some.each found.0 found.1 found.2))
