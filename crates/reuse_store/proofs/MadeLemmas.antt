-- Some changes of an entry are made, and rolled back.
use Rattle.std.proofs.Common.{◌≡◌, ◌≢◌, ◌⊎◌, inl, inr, ⊎_elim, ℕ, zero, suc, ◌+◌, ◌<◌, ◌≤◌, Bool, true, false, List, []}
use Rattle.std.proofs.Common.{◌∷◌, length, get_or, take, Option, Some, None, is_some, refl, sym, ap, subst, ◌∙◌, arith}
use Rattle.std.specs.List.{All}
use Rattle.std.specs.FinMap.{get, insert, remove}
use Rattle.std.proofs.Math.Seq.{take-length}
use Rattle.std.proofs.lemmas.Bool.{false≢true, cases_lt}
use Rattle.std.proofs.lemmas.List.{get_or-take, length-take, take-take}
use Rattle.std.proofs.lemmas.List.Elements.{All-more}
use Rattle.reuse_change.specs.Files.{Files, Clashes, AreFiles, tree_of}
use Rattle.reuse_change.specs.declared.change.Change.{Change}
use Rattle.reuse_change.specs.Change.{path_of, IsProper}
use Rattle.reuse_change.proofs.FileMaps.{same_files, get-put_same, get-put_other, get-removed_same, get-removed_other}
use Rattle.reuse_change.proofs.Applying.{not_both}
use Rattle.reuse_change.specs.declared.direction.Direction.{Direction}
use Rattle.reuse_change.specs.declared.direction.Direction.TheVariants.{Forward, Backward}
use Rattle.reuse_store.specs.Apply.{IsChangeRolledBack}
use Rattle.reuse_change.specs.Entry.{touches, IsEntry, AppliesBy, LeadsByOneChange, LeadsBy, SomeMade, ArePartlyMade}
use Rattle.reuse_change.specs.Entry.{IsReady, CanBeMade, CanBeRolledBack, opposite, makes}
use Rattle.reuse_change.specs.Tree.{is_of_tree, undo_folder_of}
use Rattle.reuse_change.proofs.Differ.{touching}
use Rattle.reuse_store.proofs.OfTree.{tree_at, step_of_tree, folder_stays}
use Rattle.reuse_change.proofs.Walk.{front_touches, not_touched, touched, of_no_change, applies_once_by, untouched_more}
use Rattle.reuse_change.proofs.Walk.{clashed_before, leads_none, leads_more, ready_now, made_is_file}

-- what the changes don't touch, no front of them touches
front_leaves : (changes : List Change) (count : ℕ) (path : List ℕ) → touches changes path ≡ false
    → touches (take count changes) path ≡ false
front_leaves changes count path none = at_test (touches (take count changes) path) refl
  where
    at_test : (b : Bool) → touches (take count changes) path ≡ b → touches (take count changes) path ≡ false
    at_test true e = absurd (false≢true (sym none ∙ front_touches changes count path e))
    at_test false e = e

-- none of the changes up to this one is of its path
module _ (changes : List Change) (good : IsEntry changes) (count k : ℕ) (d : Change) (lt : k < length changes)
    (before : count ≤ k) where
  pub not_in_front : touches (take count changes) (path_of (get_or changes k d)) ≡ false
  not_in_front =
      let path = path_of (get_or changes k d) in
      ap (λ front. touches front path) (sym (take-take count k changes before))
      ∙ front_leaves (take k changes) count path (not_touched changes good k d lt)

-- ---- some changes are made

-- where a front of the changes is made, some are
pub made_of_front : (direction : Direction) (changes : List Change) (count : ℕ) (before now : Files)
    → LeadsBy direction (take count changes) before now → IsEntry changes → SomeMade direction changes before now
made_of_front direction changes count before now leads good = record {
  each = λ k d lt. ⊎_elim
      (λ (low : k < count).
      let here = leads.each k d (omega (arith, length-take count changes)) in
      inr (subst (λ change. AppliesBy direction change (get before (path_of change)) (get now (path_of change)))
      (get_or-take count changes k d low) here))
      (λ (high : count ≤ k). inl
      (leads.others (path_of (get_or changes k d)) (not_in_front changes good count k d lt high)))
      (cases_lt k count);
  others = λ path none. leads.others path (front_leaves changes count path none);
}

pub made_none : (direction : Direction) (changes : List Change) (tree : Files) → SomeMade direction changes tree tree
made_none direction changes tree = record { each = λ k d lt. inl refl; others = λ path none. refl }

pub made_all : (direction : Direction) (changes : List Change) (before after : Files)
    → LeadsBy direction changes before after → SomeMade direction changes before after
made_all direction changes before after leads = record {
  each = λ k d lt. inr (leads.each k d lt);
  others = leads.others;
}

-- ---- a tree that the changes lead to

-- the tree with this at the path
unfoldable pub with_file : Files → List ℕ → Option (List ℕ) → Files
with_file tree path None = remove tree path
with_file tree path (Some bytes) = insert tree path bytes

with_file_here : (tree : Files) (path : List ℕ) (file : Option (List ℕ)) → get (with_file tree path file) path ≡ file
unfolding with_file
with_file_here tree path None = get-removed_same tree path
with_file_here tree path (Some bytes) = get-put_same tree path bytes

with_file_elsewhere : (tree : Files) (path : List ℕ) (file : Option (List ℕ)) (other : List ℕ) → other ≢ path
    → get (with_file tree path file) other ≡ get tree other
unfolding with_file
with_file_elsewhere tree path None other differ = get-removed_other tree path other differ
with_file_elsewhere tree path (Some bytes) other differ = get-put_other tree path bytes other differ

-- a change is made by its file alone
pub step_with : (direction : Direction) (change : Change) (tree : Files) (new : Option (List ℕ))
    → AppliesBy direction change (get tree (path_of change)) new
    → LeadsByOneChange direction change tree (with_file tree (path_of change) new)
step_with direction change tree new applies = record {
  here = subst (AppliesBy direction change (get tree (path_of change)))
      (sym (with_file_here tree (path_of change) new)) applies;
  elsewhere = λ path other. with_file_elsewhere tree (path_of change) new path other;
}

step_on : (direction : Direction) (change : Change) (tree : Files) → IsReady direction change
    (get tree (path_of change)) → (after : Files) × LeadsByOneChange direction change tree after
step_on direction change tree ready =
    (with_file tree (path_of change) ready.0, step_with direction change tree ready.0 ready.1)

-- the element at a place
pub at_place : (changes : List Change) (k : ℕ) → k < length changes
    → (change : Change) × (change ≡ get_or changes k change)
at_place [] k lt = absurd (omega arith)
at_place (change ∷ changes) zero lt = (change, refl)
at_place (change ∷ changes) (suc k) lt = let more = at_place changes k (omega arith) in (more.0, more.1)

-- where each change can be made, they lead on
pub can_reach : (direction : Direction) (tree : Files) (changes : List Change) → IsEntry changes
    → All (CanBeMade direction tree) changes → (after : Files) × LeadsBy direction changes tree after
can_reach direction tree changes good can =
    let all = reach (length changes) (omega arith) in
    (all.0, subst (λ made. LeadsBy direction made tree all.0) (take-length changes) all.1)
  where
    reach : (count : ℕ) → count ≤ length changes → (after : Files) × LeadsBy direction (take count changes) tree after
    reach zero within = (tree, leads_none direction changes tree)
    reach (suc count) within =
        let lt : count < length changes = omega arith in
        let so_far = reach count (omega arith) in
        let place = at_place changes count lt in
        let change = place.0 in
        let this : CanBeMade direction tree change =
        subst (CanBeMade direction tree) (sym place.1) (can count change lt) in
        let step = step_on direction change so_far.0
        (ready_now direction changes good count lt change place.1 tree so_far.0 so_far.1 this) in
        let next : count + 1 ≡ suc count = omega arith in (
          step.0,
          subst (λ n. LeadsBy direction (take n changes) tree step.0) next
              (leads_more direction changes good count lt change place.1 tree so_far.0 so_far.1 step.0 step.1),
        )

-- where changes lead on, each is ready
pub reach_ready : (direction : Direction) (changes : List Change) (first after : Files)
    → LeadsBy direction changes first after
    → All (λ change. IsReady direction change (get first (path_of change))) changes
reach_ready direction changes first after leads k d lt = (get after (path_of (get_or changes k d)), leads.each k d lt)

-- ---- changes are rolled back

pub applied : (direction : Direction) (change : Change) (old new : Option (List ℕ)) → AppliesBy direction change old new
    → AppliesBy (opposite direction) change new old
applied Forward change old new h = h
applied Backward change old new h = h

pub returned : (direction : Direction) (change : Change) (old new : Option (List ℕ))
    → AppliesBy (opposite direction) change old new → AppliesBy direction change new old
returned Forward change old new h = h
returned Backward change old new h = h

-- no file is at both ends of a change
pub ready_once : (direction : Direction) (change : Change) (file : Option (List ℕ)) → IsProper change
    → IsReady direction change file → IsReady (opposite direction) change file → ⊥
ready_once Forward change file proper before after = not_both change file proper before after
ready_once Backward change file proper after before = not_both change file proper before after

-- of two files at the start of a change, from which it may have led to a third, the one is the other
one_start : (direction : Direction) (change : Change) (old now start : Option (List ℕ)) → IsProper change
    → IsReady direction change now → IsReady direction change start
    → (old ≡ now) ⊎ AppliesBy direction change now old
    → (old ≡ start) ⊎ AppliesBy direction change start old → now ≡ start
one_start direction change old now start proper ready_now ready_start (inl a) (inl b) = sym a ∙ b
one_start direction change old now start proper ready_now ready_start (inl a) (inr applies) =
    absurd (ready_once direction change now proper ready_now
    (subst (IsReady (opposite direction) change) a (start, applied direction change start old applies)))
one_start direction change old now start proper ready_now ready_start (inr applies) (inl b) =
    absurd (ready_once direction change start proper ready_start
    (subst (IsReady (opposite direction) change) b (now, applied direction change now old applies)))
one_start direction change old now start proper ready_now ready_start (inr applies) (inr others) =
    applies_once_by (opposite direction) change old now start (applied direction change now old applies)
    (applied direction change start old others)

pub back_none : (direction : Direction) (changes : List Change) (tree : Files)
    → ArePartlyMade direction (take 0 changes) tree tree
back_none direction changes tree = record {
  made = made_none direction (take 0 changes) tree;
  ready = λ k d lt. absurd (omega (arith, lt, length-take 0 changes));
}

module _ (direction : Direction) (changes : List Change) (good : IsEntry changes) (i : ℕ) (lt : i < length changes)
    (change : Change) (is : change ≡ get_or changes i change) (old now : Files)
    (back : ArePartlyMade direction (take i changes) now old) where
  not_yet : touches (take i changes) (path_of change) ≡ false
  not_yet = ap (λ c. touches (take i changes) (path_of c)) is ∙ not_touched changes good i change lt

  -- before the change is rolled back, its path holds what it held
  pub stood : get old (path_of change) ≡ get now (path_of change)
  stood = back.made.others (path_of change) not_yet

  one_more : (after : Files) → ((path : List ℕ) → path ≢ path_of change → get after path ≡ get now path)
      → IsReady direction change (get after (path_of change))
      → (get old (path_of change) ≡ get after (path_of change)) ⊎ AppliesBy direction change
      (get after (path_of change)) (get old (path_of change)) → ArePartlyMade direction (take (i + 1) changes) after old
  one_more after elsewhere ready made =
      let same : (k : ℕ) (d : Change) → k < length (take i changes)
      → get now (path_of (get_or (take i changes) k d)) ≡ get after (path_of (get_or (take i changes) k d)) =
      λ k d h. sym (elsewhere (path_of (get_or (take i changes) k d))
      (of_no_change (take i changes) (path_of change) not_yet k d h)) in
      let Made = λ (c : Change). (get old (path_of c) ≡ get after (path_of c))
      ⊎ AppliesBy direction c (get after (path_of c)) (get old (path_of c)) in
      let Ready = λ (c : Change). IsReady direction c (get after (path_of c)) in
      let made_before : All Made (take i changes) = λ k d h.
      let c = get_or (take i changes) k d in
      subst (λ f. (get old (path_of c) ≡ f) ⊎ AppliesBy direction c f (get old (path_of c))) (same k d h)
      (back.made.each k d h) in
      let ready_before : All Ready (take i changes) = λ k d h. let c = get_or (take i changes) k d in
      subst (IsReady direction c) (same k d h) (back.ready k d h) in record {
        made = record {
          each = All-more Made changes i change lt made_before (subst Made is made);
          others = λ path e. let both = untouched_more changes i lt change is path e in
              back.made.others path both.0 ∙ sym (elsewhere path both.1);
        };
        ready = All-more Ready changes i change lt ready_before (subst Ready is ready);
      }

  -- one more change is rolled back, or wasn't made
  pub back_more : (after : Files) → IsChangeRolledBack direction change now after
      → ArePartlyMade direction (take (i + 1) changes) after old
  back_more after (inl stays) = one_more after
      (λ path other. ap (λ t. get t path) stays.1)
      (subst (λ t. IsReady direction change (get t (path_of change))) (sym stays.1) stays.0)
      (inl (stood ∙ ap (λ t. get t (path_of change)) (sym stays.1)))
  back_more after (inr step) = one_more after
      step.elsewhere (
        get now (path_of change),
        returned direction change (get now (path_of change)) (get after (path_of change)) step.here,
      )
      (inr (subst (AppliesBy direction change (get after (path_of change))) (sym stood)
      (returned direction change (get now (path_of change)) (get after (path_of change)) step.here)))

  -- a change that could be rolled back can be, now
  pub still_made : CanBeRolledBack direction old change → (IsReady direction change (get now (path_of change)) → ⊥)
      → IsReady (opposite direction) change (get now (path_of change))
  still_made (inl ready) not_ready = absurd (not_ready (subst (IsReady direction change) stood ready))
  still_made (inr can) not_ready = subst (IsReady (opposite direction) change) stood can.ready

  pub still_free : CanBeRolledBack direction old change → (IsReady direction change (get now (path_of change)) → ⊥)
      → makes (opposite direction) change ≡ true → Clashes now (path_of change) → ⊥
  still_free (inl ready) not_ready made_here clash = not_ready (subst (IsReady direction change) stood ready)
  still_free (inr can) not_ready made_here clash = can.free made_here
      (clashed_before changes good i lt change is old now (λ path e. sym (back.made.others path e)) clash)

-- a change of files is rolled back in their tree, and the folder of the journal stays
pub roll_back_of_tree : (direction : Direction) (change : Change) (m n : Files) → is_of_tree (path_of change) ≡ true
    → IsChangeRolledBack direction change m n → IsChangeRolledBack direction change (tree_of m) (tree_of n)
roll_back_of_tree direction change m n of_tree (inl stays) =
    inl (subst (IsReady direction change) (sym (tree_at m (path_of change) of_tree)) stays.0, ap tree_of stays.1)
roll_back_of_tree direction change m n of_tree (inr step) =
    inr (step_of_tree (opposite direction) change m n of_tree step)

pub folder_stays_back : (direction : Direction) (change : Change) (m n : Files) → is_of_tree (path_of change) ≡ true
    → IsChangeRolledBack direction change m n → undo_folder_of n ≡ undo_folder_of m
folder_stays_back direction change m n of_tree (inl stays) = ap undo_folder_of stays.1
folder_stays_back direction change m n of_tree (inr step) = folder_stays (opposite direction) change m n of_tree step

module _ (direction : Direction) (changes : List Change) (good : IsEntry changes) (start old now : Files)
    (partly : ArePartlyMade direction changes start old) where
  -- on the way back to a tree, some of the changes are made
  pub made_from_start : (count : ℕ) → ArePartlyMade direction (take count changes) now old
      → SomeMade direction changes start now
  made_from_start count back = record {
    each = λ k d lt. ⊎_elim
        (λ (low : k < count).
        let c = get_or changes k d in
        let h : k < length (take count changes) = omega (arith, length-take count changes) in
        let same = get_or-take count changes k d low in
        let made = subst (λ x. (get old (path_of x) ≡ get now (path_of x))
        ⊎ AppliesBy direction x (get now (path_of x)) (get old (path_of x))) same (back.made.each k d h) in
        let here = subst (λ x. IsReady direction x (get now (path_of x))) same (back.ready k d h) in
        inl (one_start direction c (get old (path_of c)) (get now (path_of c)) (get start (path_of c))
        (good.proper k d lt) here (partly.ready k d lt) made (partly.made.each k d lt)))
        (λ (high : count ≤ k).
        let c = get_or changes k d in
        subst (λ f. (f ≡ get start (path_of c)) ⊎ AppliesBy direction c (get start (path_of c)) f)
        (back.made.others (path_of c) (not_in_front changes good count k d lt high)) (partly.made.each k d lt))
        (cases_lt k count);
    others =
        λ path none. sym (back.made.others path (front_leaves changes count path none)) ∙ partly.made.others path none;
  }

  -- where all are rolled back, the tree is that from before
  pub back_at_start : ArePartlyMade direction changes now old → now ≡ start
  back_at_start back = same_files now start (λ path. at_test path (touches changes path) refl)
    where
      at_test : (path : List ℕ) (b : Bool) → touches changes path ≡ b → get now path ≡ get start path
      at_test path false e = sym (back.made.others path e) ∙ partly.made.others path e
      at_test path true e =
          let found = touching changes path e in
          let c = get_or changes found.0 found.1 in
          subst (λ p. get now p ≡ get start p) (sym found.3)
          (one_start direction c (get old (path_of c)) (get now (path_of c)) (get start (path_of c)) (good.proper
          found.0 found.1 found.2) (back.ready found.0 found.1 found.2) (partly.ready found.0 found.1 found.2)
          (back.made.each found.0 found.1 found.2) (partly.made.each found.0 found.1 found.2))

-- on the way from a tree, each change can be rolled back
pub settles_from : (direction : Direction) (start now : Files) (changes : List Change) → IsEntry changes
    → AreFiles start → ArePartlyMade direction changes start now
    → All (CanBeRolledBack direction now) changes
settles_from direction start now changes good are partly k d lt = at_place_of (partly.made.each k d lt)
  where
    change : Change
    change = get_or changes k d

    free : AppliesBy (opposite direction) change (get now (path_of change)) (get start (path_of change))
        → makes (opposite direction) change ≡ true → (clash : Clashes now (path_of change)) → (b : Bool)
        → touches changes clash.other ≡ b → ⊥
    free applies made clash true e =
        false≢true (sym (good.apart (path_of change) clash.other (touched changes good k d lt) e) ∙ clash.nested)
    free applies made clash false e =
        are.apart (path_of change)
        (made_is_file (opposite direction) change (get now (path_of change)) (get start (path_of change)) made applies)
        (record {
          other = clash.other;
          is_file = ap is_some (sym (partly.made.others clash.other e)) ∙ clash.is_file;
          nested = clash.nested;
        })

    at_place_of : (get now (path_of change) ≡ get start (path_of change)) ⊎ AppliesBy direction change
        (get start (path_of change)) (get now (path_of change)) → CanBeRolledBack direction now change
    at_place_of (inl same) = inl (subst (IsReady direction change) (sym same) (partly.ready k d lt))
    at_place_of (inr applies) =
        let back = applied direction change (get start (path_of change)) (get now (path_of change)) applies in
        inr (record {
          ready = (get start (path_of change), back);
          free = λ made clash. free back made clash (touches changes clash.other) refl;
        })
