-- A revert path by path: one that is as the step left it holds again what it held before the step.
use Rattle.std.proofs.Common.{◌≡◌, ◌⊎◌, inl, inr, ℕ, Bool, true, false, cond, not, ◌&&◌, ◌||◌, List, [], ◌∷◌, Option}
use Rattle.std.proofs.Common.{Some, None, is_some, Ok, refl, sym, ap, subst, ◌∙◌, bytes_eq}
use Rattle.std.specs.List.{AllByRecursion, cons_option}
use Rattle.std.specs.FinMap.{get}
use Rattle.std.proofs.lemmas.Bool.{false≢true}
use Rattle.std.proofs.lemmas.List.Elements.{recursion_from_All}
use Rattle.std.proofs.lemmas.Slice.Eq.{bytes_eq-Decides}
use Rattle.reuse_change.specs.Files.{Files, Clashes}
use Rattle.reuse_change.specs.Change.{path_of, Applies}
use Rattle.reuse_change.specs.declared.change.Change.{Change}
use Rattle.reuse_change.specs.Clash.{is_clash}
use Rattle.reuse_change.specs.Entry.{makes, touches, IsEntry, IsSmall, LeadsAll}
use Rattle.reuse_change.specs.Listing.{is_among}
use Rattle.reuse_edit.specs.Edit.{Edit}
use Rattle.reuse_plan.specs.Outcome.{edited, outcome_of, edits_of, tree_after}
use Rattle.reuse_plan.specs.Reverting.{taken_back, taken_back_on, taken_back_unless}
use Rattle.reuse_command.specs.declared.command.Command.TheVariants.{Revert}
use Rattle.reuse_change.specs.declared.direction.Direction.TheVariants.{Backward}
use Rattle.reuse_plan.proofs.Planning.{paths_at, EachHas, edited_other, edited_has}
use Rattle.reuse_plan.proofs.RevertPlanning.{backs, back_on, path_unless, edits_are, still_ascend, still_among}
use Rattle.reuse_plan.proofs.RevertPlanning.{where_free, where_untouched, untouched_back}
use Rattle.reuse_plan.proofs.RevertLaws.{takes_to, not_both}
use Rattle.reuse_store.proofs.Testing.{clashes_keys}
use Rattle.reuse_plan.proofs.Outcomes.{edits_of_tree}
use Rattle.reuse_plan.proofs.CommandEdits.{stuck_on, unless_stuck, revert_edits, of_revert}

-- the edits of a revert that isn't refused
reverted_edits : (changes : List Change) (touched : List (List ℕ)) (skip : Bool) (now reverted : Files)
    → tree_after now (edits_of (Revert changes touched skip) now) ≡ Ok reverted
    → (edits : List Edit) × (revert_edits changes touched skip now ≡ Ok edits) × (edited now edits ≡ reverted)
reverted_edits changes touched skip now reverted h =
    let given = edits_of_tree now reverted (edits_of (Revert changes touched skip) now) h in
    (given.0, sym (of_revert changes touched skip now) ∙ given.1, given.2)

-- ---- what can be taken back

free_where : (tree : Files) (change : Change) → (is_some (taken_back_on tree change) ≡ true)
    ⊎ (Clashes tree (path_of change) → ⊥) → (makes Backward change && is_clash tree (path_of change)) ≡ false
free_where tree change (inl e) = of_back (taken_back_on tree change) refl e
  where
    of_back : (o : Option Edit) → taken_back_on tree change ≡ o → is_some o ≡ true
        → (makes Backward change && is_clash tree (path_of change)) ≡ false
    of_back None is e = absurd (false≢true e)
    of_back (Some edit) is e = (back_on tree change edit is).1
free_where tree change (inr none) = not_both (makes Backward change) (is_clash tree (path_of change))
    (λ m c. none ((clashes_keys tree (path_of change)).0 c))

free_unless : (touched : List (List ℕ)) (tree : Files) (change : Change)
    → (is_some (taken_back_unless touched tree change) ≡ true)
    ⊎ ((Clashes tree (path_of change) → ⊥) × (is_among touched (path_of change) ≡ false))
    → ((makes Backward change && is_clash tree (path_of change)) ≡ false) × (is_among touched (path_of change) ≡ false)
free_unless touched tree change (inl e) = of_test (is_among touched (path_of change)) refl e
  where
    of_test : (b : Bool) → is_among touched (path_of change) ≡ b
        → is_some (cond b None (taken_back_on tree change)) ≡ true
        → ((makes Backward change && is_clash tree (path_of change)) ≡ false)
        × (is_among touched (path_of change) ≡ false)
    of_test true is h = absurd (false≢true h)
    of_test false is h = (free_where tree change (inl h), is)
free_unless touched tree change (inr none) = (free_where tree change (inr none.0), none.1)

all_back : (touched : List (List ℕ)) (tree : Files) (changes : List Change) → stuck_on touched tree changes ≡ []
    → AllByRecursion (λ c. is_some (taken_back_unless touched tree c) ≡ true) changes
all_back touched tree [] e = tt
all_back touched tree (c ∷ cs) e =
    by_back (is_some (taken_back_unless touched tree c)) refl e (all_back touched tree cs)
  where
    by_back : (b : Bool) → is_some (taken_back_unless touched tree c) ≡ b
        → cond (not b) (c ∷ stuck_on touched tree cs) (stuck_on touched tree cs) ≡ []
        → (stuck_on touched tree cs ≡ [] → AllByRecursion (λ c. is_some (taken_back_unless touched tree c) ≡ true) cs)
        → (is_some (taken_back_unless touched tree c) ≡ true)
        × AllByRecursion (λ c. is_some (taken_back_unless touched tree c) ≡ true) cs
    by_back true is h rest = (is, rest h)
    by_back false is h rest = absurd (cc)

none_stuck : (stuck : List Change) (given edits : List Edit) → unless_stuck stuck given ≡ Ok edits → stuck ≡ []
none_stuck [] given edits e = refl
none_stuck (c ∷ stuck) given edits e = absurd (cc)

-- ---- one path

module _ (touched : List (List ℕ)) (before after now : Files) (path : List ℕ) where
  -- what is known of a change of the path
  pub record Returns (change : Change) : Type 0 where
    pub small : IsSmall change
    pub applies : Applies change (get before (path_of change)) (get after (path_of change))
    pub back : (path ≡ path_of change → (is_some (taken_back_unless touched now change) ≡ true)
        ⊎ ((Clashes now (path_of change) → ⊥) × (is_among touched (path_of change) ≡ false)))

  others_have : (files : Files) (o : Option Edit) (edits : List Edit) → EachHas files (cons_option o edits)
      → EachHas files edits
  others_have files None edits has = has
  others_have files (Some edit) edits has = has.1

  returns_there : (files : Files) (changes : List Change) → get now path ≡ get after path
      → AllByRecursion Returns changes → EachHas files (backs touched now changes) → touches changes path ≡ true
      → get files path ≡ get before path
  returns_there files [] same all has t = absurd (false≢true t)
  returns_there files (c ∷ cs) same all has t = of_test (bytes_eq path (path_of c)) refl t (returns_there files cs same
      all.1 (others_have files (taken_back_unless touched now c) (backs touched now cs) has))
    where
      here : path ≡ path_of c → get files path ≡ get before path
      here is =
          let taken = takes_to c (get before (path_of c))
          (get after (path_of c)) all.0.small all.0.applies.range all.0.applies.to in
          let same_there = subst (λ p. get now p ≡ get after p) is same in
          let free = free_unless touched now c (all.0.back is) in
          let done =
          where_untouched touched now c free.1 ∙ where_free now c free.0 ∙ ap (taken_back c) same_there ∙ taken.is in
          let holds : EachHas files (taken.edit ∷ backs touched now cs) =
          subst (λ o. EachHas files (cons_option o (backs touched now cs))) done has in
          subst (λ p. get files p ≡ get before p) (sym is) (ap (get files) (sym taken.path) ∙ holds.0 ∙ taken.file)

      of_test : (b : Bool) → bytes_eq path (path_of c) ≡ b → (b || touches cs path) ≡ true
          → (touches cs path ≡ true → get files path ≡ get before path) → get files path ≡ get before path
      of_test true e h rest = here ((bytes_eq-Decides path (path_of c)).0 e)
      of_test false e h rest = rest h

  returns_all : (changes : List Change) (skip : Bool) (edits : List Edit) → IsEntry changes
      → LeadsAll changes before after → revert_edits changes touched skip now ≡ Ok edits
      → (skip ≡ false) ⊎ ((Clashes now path → ⊥) × (is_among touched path ≡ false))
      → AllByRecursion Returns changes
  returns_all changes skip edits entry leads h (inl asked) =
      let none = none_stuck (stuck_on touched now changes) (backs touched now changes) edits
      (ap (λ b. unless_stuck (cond b [] (stuck_on touched now changes)) (backs touched now changes)) (sym asked) ∙ h) in
      each changes (recursion_from_All IsSmall changes entry.small) (recursion_from_All (λ (c : Change). Applies c
      (get before (path_of c)) (get after (path_of c))) changes leads.each) (all_back touched now changes none)
    where
      each : (cs : List Change) → AllByRecursion IsSmall cs
          → AllByRecursion (λ (c : Change). Applies c (get before (path_of c)) (get after (path_of c))) cs
          → AllByRecursion (λ c. is_some (taken_back_unless touched now c) ≡ true) cs → AllByRecursion Returns cs
      each [] small applies back = tt
      each (c ∷ cs) small applies back =
          (record { small = small.0; applies = applies.0; back = λ here. inl back.0 }, each cs small.1 applies.1 back.1)
  returns_all changes skip edits entry leads h (inr free) =
      recursion_from_All Returns changes (λ k d low.
      record {
        small = entry.small k d low;
        applies = leads.each k d low;
        back = λ here. inr (subst (λ p. (Clashes now p → ⊥) × (is_among touched p ≡ false)) here free);
      })

  untouched : (changes : List Change) (b : Bool) → is_among (paths_at (backs touched now changes)) path ≡ b
      → touches changes path ≡ false → b ≡ false
  untouched changes true e none = absurd (false≢true (sym none ∙ still_among touched now changes path e))
  untouched changes false e none = refl

  pub returned : (changes : List Change) (skip : Bool) (reverted : Files) → IsEntry changes
      → LeadsAll changes before after → outcome_of (Revert changes touched skip) now ≡ Ok reverted
      → (skip ≡ false) ⊎ ((Clashes now path → ⊥) × (is_among touched path ≡ false))
      → get now path ≡ get after path → get reverted path ≡ get before path
  unfolding outcome_of
  returned changes skip reverted entry leads h free same =
      let given = reverted_edits changes touched skip now reverted h in
      let backs_are =
      edits_are touched now (cond skip [] (stuck_on touched now changes)) (backs touched now changes) given.0 given.1 in
      ap (λ t. get t path) (sym (ap (edited now) backs_are ∙ given.2))
      ∙ of_test (touches changes path) refl given.0 given.1
    where
      of_test : (b : Bool) → touches changes path ≡ b → (edits : List Edit)
          → revert_edits changes touched skip now ≡ Ok edits
          → get (edited now (backs touched now changes)) path ≡ get before path
      of_test false e edits k = edited_other now (backs touched now changes) path
          (untouched changes (is_among (paths_at (backs touched now changes)) path) refl e) ∙ same ∙ leads.others path e
      of_test true e edits k =
          returns_there (edited now (backs touched now changes)) changes same
          (returns_all changes skip edits entry leads k free)
          (edited_has now (backs touched now changes) (still_ascend touched now changes entry.ascending)) e

-- ---- paths that later steps touched

module _ (touched : List (List ℕ)) (now : Files) (path : List ℕ) (later : is_among touched path ≡ true) where
  none_of_them : (changes : List Change) → is_among (paths_at (backs touched now changes)) path ≡ false
  none_of_them [] = refl
  none_of_them (c ∷ cs) = by_back (taken_back_unless touched now c) refl (none_of_them cs)
    where
      other : (edit : Edit) → taken_back_unless touched now c ≡ Some edit → (b : Bool)
          → bytes_eq path edit.path ≡ b → b ≡ false
      other edit is true e =
          let same = (bytes_eq-Decides path edit.path).0 e ∙ path_unless touched now c edit is in
          absurd (false≢true (sym (untouched_back touched now c edit is).0 ∙ ap (is_among touched) (sym same) ∙ later))
      other edit is false e = refl

      by_back : (o : Option Edit) → taken_back_unless touched now c ≡ o
          → is_among (paths_at (backs touched now cs)) path ≡ false
          → is_among (paths_at (cons_option o (backs touched now cs))) path ≡ false
      by_back None is rest = rest
      by_back (Some edit) is rest = ap (λ b. b || is_among (paths_at (backs touched now cs)) path)
          (other edit is (bytes_eq path edit.path) refl) ∙ rest

  -- it holds what it held
  pub still_there : (changes : List Change) (skip : Bool) (reverted : Files)
      → outcome_of (Revert changes touched skip) now ≡ Ok reverted → get reverted path ≡ get now path
  unfolding outcome_of
  still_there changes skip reverted h =
      let given = reverted_edits changes touched skip now reverted h in
      let backs_are =
      edits_are touched now (cond skip [] (stuck_on touched now changes)) (backs touched now changes) given.0 given.1 in
      ap (λ t. get t path) (sym (ap (edited now) backs_are ∙ given.2))
      ∙ edited_other now (backs touched now changes) path (none_of_them changes)

  untaken : (changes : List Change) → AllByRecursion (λ c. is_some (taken_back_unless touched now c) ≡ true) changes
      → touches changes path ≡ true → ⊥
  untaken [] all t = false≢true t
  untaken (c ∷ cs) all t = of_test (bytes_eq path (path_of c)) refl t (untaken cs all.1)
    where
      of_test : (b : Bool) → bytes_eq path (path_of c) ≡ b → (b || touches cs path) ≡ true
          → (touches cs path ≡ true → ⊥) → ⊥
      of_test true e h rest =
          false≢true (sym (free_unless touched now c (inl all.0)).1
          ∙ ap (is_among touched) (sym ((bytes_eq-Decides path (path_of c)).0 e)) ∙ later)
      of_test false e h rest = rest h

  -- unless such are skipped, the revert is refused
  pub is_refused : (changes : List Change) (reverted : Files) → touches changes path ≡ true
      → outcome_of (Revert changes touched false) now ≡ Ok reverted → ⊥
  unfolding outcome_of
  is_refused changes reverted touch h =
      let given = reverted_edits changes touched false now reverted h in
      untaken changes (all_back touched now changes
      (none_stuck (stuck_on touched now changes) (backs touched now changes) given.0 given.1)) touch
