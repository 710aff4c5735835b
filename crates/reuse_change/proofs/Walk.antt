-- The walk over the changes of an entry.
use Rattle.std.proofs.Common.{◌≡◌, ◌≢◌, ℕ, ◌+◌, ◌<◌, Bool, true, false, ◌||◌, List, [], ◌∷◌, length, length-append}
use Rattle.std.proofs.Common.{get_or, take, Option, IsSome, is_some, refl, sym, ap, subst, ◌∙◌, arith}
use Rattle.std.specs.Ordering.{nat_cmp}
use Rattle.std.specs.declared.cmp.Ordering.TheVariants.{Less, Equal}
use Rattle.std.specs.Cmp.Lexicographic.{slice_cmp, nat_list_cmp_total}
use Rattle.std.specs.Str.{bytes_eq}
use Rattle.std.specs.List.{All}
use Rattle.std.specs.FinMap.{get}
use Rattle.std.proofs.lemmas.Bool.{false≢true, or_parts}
use Rattle.std.proofs.lemmas.Cmp.{tied_itself}
use Rattle.std.proofs.lemmas.List.{get_or-map, get_or-take, length-take, length-map}
use Rattle.std.proofs.lemmas.List.Elements.{All-more}
use Rattle.std.proofs.lemmas.List.Folds.{list_any_more, list_any_none, list_any_at}
use Rattle.std.proofs.Math.Seq.{get_or-append_seam}
use Rattle.std.proofs.lemmas.Map.Keys.{Less-from_sorted}
use Rattle.std.proofs.lemmas.Slice.Eq.{bytes_eq-Decides}
use Rattle.reuse_change.specs.Files.{Files, Clashes, AreFiles}
use Rattle.reuse_change.specs.declared.change.Change.{Change}
use Rattle.reuse_change.specs.declared.change.Change.TheVariants.{Make, Drop, Splice}
use Rattle.reuse_change.specs.Change.{path_of, inverse_of}
use Rattle.reuse_change.proofs.FileMaps.{same_files}
use Rattle.reuse_change.proofs.Applying.{applies_once, applies_back}
use Rattle.reuse_change.specs.Tree.{is_of_tree}
use Rattle.reuse_change.specs.declared.direction.Direction.{Direction}
use Rattle.reuse_change.specs.declared.direction.Direction.TheVariants.{Forward, Backward}
use Rattle.reuse_change.specs.Entry.{touches, paths_of, IsEntry, AppliesBy, LeadsByOneChange, LeadsBy, IsReady}
use Rattle.reuse_change.specs.Entry.{CanBeMade, IsFirstWithout, IsFirstStuck, makes}
use Rattle.reuse_change.proofs.Differ.{touching}

-- an order that answers Less distinguishes two paths
less_differs : (p q : List ℕ) → slice_cmp nat_cmp p q ≡ Less → q ≡ p → ⊥
less_differs p q less same =
    let e : Equal ≡ Less = sym (tied_itself nat_list_cmp_total p) ∙ ap (slice_cmp nat_cmp p) (sym same) ∙ less in
    absurd (cc)

not_equal_test : (p q : List ℕ) (b : Bool) → bytes_eq p q ≡ b → p ≢ q → b ≡ false
not_equal_test p q true e other = absurd (other ((bytes_eq-Decides p q).0 e))
not_equal_test p q false e other = refl

not_equal : (p q : List ℕ) → p ≢ q → bytes_eq p q ≡ false
not_equal p q other = not_equal_test p q (bytes_eq p q) refl other

-- what no change touches, no change is of
pub of_no_change : (changes : List Change) (p : List ℕ) → touches changes p ≡ false → (k : ℕ) (d : Change)
    → k < length changes → path_of (get_or changes k d) ≢ p
of_no_change changes p none k d lt same =
    false≢true (sym none ∙ list_any_at (λ change. bytes_eq p (path_of change)) changes k d lt
    ((bytes_eq-Decides p (path_of (get_or changes k d))).1 (sym same)))

module _ (changes : List Change) (good : IsEntry changes) (i : ℕ) (d : Change) (lt : i < length changes) where
  earlier_below : (j : ℕ) (e : Change) → j < i
      → slice_cmp nat_cmp (path_of (get_or changes j e)) (path_of (get_or changes i d)) ≡ Less
  earlier_below j e h =
      let n : i < length (paths_of changes) = omega (arith, length-map changes path_of) in
      let m : j < length changes = omega arith in
      let less = Less-from_sorted (slice_cmp nat_cmp) (paths_of changes) j i [] good.ascending h n in
      ap (λ p. slice_cmp nat_cmp p (path_of (get_or changes i d))) (sym (get_or-map path_of changes j e [] m))
      ∙ ap (slice_cmp nat_cmp (get_or (paths_of changes) j [])) (sym (get_or-map path_of changes i d [] lt))
      ∙ less

  -- no earlier change is of the path
  pub not_touched : touches (take i changes) (path_of (get_or changes i d)) ≡ false
  not_touched =
      let path = path_of (get_or changes i d) in
      list_any_none (λ change. bytes_eq path (path_of change)) (take i changes) (λ k e h.
      let below : k < i = omega (arith, length-take i changes) in
      ap (λ change. bytes_eq path (path_of change)) (get_or-take i changes k e below)
      ∙ not_equal path (path_of (get_or changes k e)) (less_differs _ _ (earlier_below k e below)))

  pub touched : touches changes (path_of (get_or changes i d)) ≡ true
  touched = list_any_at (λ change. bytes_eq (path_of (get_or changes i d)) (path_of change)) changes i d lt
      ((bytes_eq-Decides (path_of (get_or changes i d)) (path_of (get_or changes i d))).1 refl)

-- a path that one change more doesn't touch
pub untouched_more : (changes : List Change) (i : ℕ) (lt : i < length changes) (change : Change)
    (is : change ≡ get_or changes i change) (path : List ℕ) → touches (take (i + 1) changes) path ≡ false
    → (touches (take i changes) path ≡ false) × (path ≢ path_of change)
untouched_more changes i lt change is path e =
    let more = list_any_more (λ c. bytes_eq path (path_of c)) changes i change lt
    ∙ ap (λ c. touches (take i changes) path || bytes_eq path (path_of c)) (sym is) in
    let both = or_parts (touches (take i changes) path) (bytes_eq path (path_of change)) (sym more ∙ e) in
    (both.0, λ same. false≢true (sym both.1 ∙ (bytes_eq-Decides path (path_of change)).1 same))

-- a front of the changes touches no more than they do
pub front_touches : (changes : List Change) (i : ℕ) (p : List ℕ) → touches (take i changes) p ≡ true
    → touches changes p ≡ true
front_touches changes i p t = at_test (touches changes p) refl
  where
    at_test : (b : Bool) → touches changes p ≡ b → touches changes p ≡ true
    at_test true e = e
    at_test false e = absurd (false≢true (sym (list_any_none (λ c. bytes_eq p (path_of c)) (take i changes) (λ k c h.
        let below : k < i = omega (arith, length-take i changes) in
        let within : k < length changes = omega (arith, length-take i changes) in
        ap (λ x. bytes_eq p (path_of x)) (get_or-take i changes k c below)
        ∙ not_equal p (path_of (get_or changes k c)) (λ same. of_no_change changes p e k c within (sym same)))) ∙ t))

-- an entry has no change of a path that isn't of the tree
pub none_outside : (changes : List Change) (path : List ℕ) → IsEntry changes → is_of_tree path ≡ false
    → touches changes path ≡ false
none_outside changes path good out = at_test (touches changes path) refl
  where
    at_test : (b : Bool) → touches changes path ≡ b → touches changes path ≡ false
    at_test false e = e
    at_test true e =
        let found = touching changes path e in
        absurd (false≢true (sym out ∙ ap is_of_tree found.3 ∙ good.of_tree found.0 found.1 found.2))

-- no change is made at first
pub leads_none : (direction : Direction) (changes : List Change) (tree : Files)
    → LeadsBy direction (take 0 changes) tree tree
leads_none direction changes tree = record {
  each = λ k c h. absurd (omega (arith, h, length-take 0 changes));
  others = λ path e. refl;
}

-- what is in the way of a change was so before the changes in front of it, which leave all other paths
pub clashed_before : (changes : List Change) → IsEntry changes → (i : ℕ) → i < length changes → (change : Change)
    → change ≡ get_or changes i change → (before now : Files)
    → ((path : List ℕ) → touches (take i changes) path ≡ false → get now path ≡ get before path)
    → Clashes now (path_of change) → Clashes before (path_of change)
clashed_before changes good i lt change is before now others clash =
    at_test (touches (take i changes) clash.other) refl
  where
    at_test : (b : Bool) → touches (take i changes) clash.other ≡ b → Clashes before (path_of change)
    at_test true e = absurd (false≢true (sym (good.apart (path_of change) clash.other
        (ap (λ c. touches changes (path_of c)) is ∙ touched changes good i change lt)
        (front_touches changes i clash.other e)) ∙ clash.nested))
    at_test false e = record {
      other = clash.other;
      is_file = ap is_some (sym (others clash.other e)) ∙ clash.is_file;
      nested = clash.nested;
    }

module _ (direction : Direction) (changes : List Change) (good : IsEntry changes) (i : ℕ) (lt : i < length changes)
    (change : Change) (is : change ≡ get_or changes i change) (before now : Files)
    (made : LeadsBy direction (take i changes) before now) where
  -- before the change is made, its path holds what it held
  pub still : get now (path_of change) ≡ get before (path_of change)
  still = made.others (path_of change)
      (ap (λ c. touches (take i changes) (path_of c)) is ∙ not_touched changes good i change lt)

  -- one more change is made
  pub leads_more : (after : Files) → LeadsByOneChange direction change now after
      → LeadsBy direction (take (i + 1) changes) before after
  leads_more after step =
      let none : touches (take i changes) (path_of change) ≡ false =
      ap (λ c. touches (take i changes) (path_of c)) is ∙ not_touched changes good i change lt in
      let kept : All (λ c. AppliesBy direction c (get before (path_of c)) (get after (path_of c))) (take i changes) =
      λ k d h. subst
      (λ f. AppliesBy direction (get_or (take i changes) k d) (get before (path_of (get_or (take i changes) k d))) f)
      (sym (step.elsewhere (path_of (get_or (take i changes) k d))
      (of_no_change (take i changes) (path_of change) none k d h))) (made.each k d h) in
      let here : AppliesBy direction change (get before (path_of change)) (get after (path_of change)) =
      subst (λ f. AppliesBy direction change f (get after (path_of change))) still step.here in record {
        each = All-more (λ c. AppliesBy direction c (get before (path_of c)) (get after (path_of c))) changes i change
            lt kept (subst (λ c. AppliesBy direction c (get before (path_of c)) (get after (path_of c))) is here);
        others = λ path e. let both = untouched_more changes i lt change is path e in
            step.elsewhere path both.1 ∙ made.others path both.0;
      }

  -- where each change can be made from the start, this one can be made now
  pub ready_now : CanBeMade direction before change → IsReady direction change (get now (path_of change))
  ready_now can = subst (λ f. IsReady direction change f) (sym still) can.ready

  pub free_now : CanBeMade direction before change → makes direction change ≡ true → Clashes now (path_of change) → ⊥
  free_now can made_here clash =
      can.free made_here (clashed_before changes good i lt change is before now made.others clash)

-- ---- trees between which changes lead

-- a change leads from a file to one file, either way
pub applies_once_by : (direction : Direction) (change : Change) (before after other : Option (List ℕ))
    → AppliesBy direction change before after → AppliesBy direction change before other → after ≡ other
applies_once_by Forward change before after other h k = applies_once change before after other h k
applies_once_by Backward change before after other h k = applies_once (inverse_of change) before after other
    (applies_back change after before h) (applies_back change other before k)

-- the changes lead from a tree to one tree
pub leads_once : (direction : Direction) (changes : List Change) (before after other : Files)
    → LeadsBy direction changes before after → LeadsBy direction changes before other → after ≡ other
leads_once direction changes before after other h k =
    same_files after other (λ path. at_test path (touches changes path) refl)
  where
    at_test : (path : List ℕ) (b : Bool) → touches changes path ≡ b → get after path ≡ get other path
    at_test path false e = h.others path e ∙ sym (k.others path e)
    at_test path true e =
        let found = touching changes path e in
        subst (λ p. get after p ≡ get other p) (sym found.3) (applies_once_by direction
        (get_or changes found.0 found.1) _ _ _ (h.each found.0 found.1 found.2) (k.each found.0 found.1 found.2))

-- what the changes did they undo
pub leads_back : (changes : List Change) (before after : Files) → LeadsBy Forward changes before after
    → LeadsBy Backward changes after before
leads_back changes before after h = record { each = h.each; others = λ path e. sym (h.others path e) }

-- what a change makes is a file
pub made_is_file : (direction : Direction) (change : Change) (old new : Option (List ℕ)) → makes direction change ≡ true
    → AppliesBy direction change old new → IsSome new
made_is_file Forward (Make path new digest) f g e h = ap is_some h.range.1
made_is_file Forward (Drop path old digest) f g e h = absurd (false≢true e)
made_is_file Forward (Splice path at old new rest seal) f g e h = absurd (false≢true e)
made_is_file Backward (Make path new digest) f g e h = absurd (false≢true e)
made_is_file Backward (Drop path old digest) f g e h = ap is_some h.range.0
made_is_file Backward (Splice path at old new rest seal) f g e h = absurd (false≢true e)

-- where changes lead from a tree to a tree, each can be made
pub can_lead : (direction : Direction) (changes : List Change) (before after : Files) → IsEntry changes → AreFiles after
    → LeadsBy direction changes before after → All (CanBeMade direction before) changes
can_lead direction changes before after good are leads i d lt =
    let change = get_or changes i d in
    record {
      ready = (get after (path_of change), leads.each i d lt);
      free = λ made clash.
          let is_file = made_is_file direction change (get before (path_of change)) (get after (path_of change)) made
          (leads.each i d lt) in
          at_test change is_file (touched changes good i d lt) clash (touches changes clash.other) refl;
    }
  where
    at_test : (change : Change) → IsSome (get after (path_of change)) → touches changes (path_of change) ≡ true
        → (clash : Clashes before (path_of change)) → (b : Bool) → touches changes clash.other ≡ b → ⊥
    at_test change is_file here clash true e =
        false≢true (sym (good.apart (path_of change) clash.other here e) ∙ clash.nested)
    at_test change is_file here clash false e = are.apart (path_of change) is_file (record {
      other = clash.other;
      is_file = ap is_some (leads.others clash.other e) ∙ clash.is_file;
      nested = clash.nested;
    })

-- where this holds of each change, there is no first without it
pub none_without : (Holds : Change → Type 0) (changes : List Change) (path : List ℕ) → All Holds changes
    → IsFirstWithout Holds changes path → ⊥
none_without Holds changes path all first =
    let here = (subst (All Holds) first.list all) (length first.before) first.change
    (omega (arith, length-append first.before (first.change ∷ first.behind), length-cons)) in
    first.stuck (subst Holds (get_or-append_seam first.before first.change first.behind first.change) here)
  where
    length-cons : length (first.change ∷ first.behind) ≡ length first.behind + 1
    length-cons = omega arith

-- then none is stuck
pub none_stuck : (direction : Direction) (tree : Files) (changes : List Change) (path : List ℕ)
    → All (CanBeMade direction tree) changes → IsFirstStuck direction tree changes path → ⊥
none_stuck direction tree changes path all first = none_without (CanBeMade direction tree) changes path all first
