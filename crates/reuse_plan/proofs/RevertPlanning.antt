-- The changes that a revert plans, and that they fit the tree.
use Rattle.std.proofs.Common.{◌≡◌, ◌≢◌, ℕ, ◌+◌, ◌-◌, ◌≤◌, Bool, true, false, cond, not, ◌&&◌, ◌||◌, nat_eq, nat_le}
use Rattle.std.proofs.Common.{List, ◌++◌, length, take, drop, Option, Some, None, Result, Ok, refl, sym, ap, ap₂, subst}
use Rattle.std.proofs.Common.{◌∙◌, arith, length-append, append_assoc, le-leb, leb-true, [], ◌∷◌, Less, filter_map}
use Rattle.std.proofs.Common.{IsTrue, bytes_eq, option_map}
use Rattle.std.specs.List.{starts_with, AllByRecursion, cons_option}
use Rattle.reuse_command.specs.Reading.{get, Files}
use Rattle.std.proofs.lemmas.Bool.{false≢true, or_right}
use Rattle.std.proofs.lemmas.Option.{none-some, same_Some, cond_some}
use Rattle.std.proofs.lemmas.Bool.Decides.{Decides-eqb}
use Rattle.std.proofs.lemmas.List.{take-append-drop, length-take-le, drop-drop, length-drop, append_cancel_left}
use Rattle.std.proofs.lemmas.List.{append_cancel_right}
use Rattle.std.proofs.lemmas.Slice.Eq.{bytes_eq-Decides, starts_is}
use Rattle.sha2.specs.Sha256.{sha256}
use Rattle.reuse_text.specs.Text.{spliced}
use Rattle.reuse_change.specs.Change.{path_of, sealed_make, sealed_drop, sealed_splice}
use Rattle.reuse_change.specs.declared.change.Change.{Change}
use Rattle.reuse_change.specs.declared.change.Change.TheVariants.{Make, Drop, Splice}
use Rattle.reuse_change.specs.declared.digest.Seal.{Seal}
use Rattle.reuse_text.specs.declared.TheConstants.{LONGEST_FILE}
use Rattle.reuse_change.specs.Clash.{is_clash}
use Rattle.reuse_edit.specs.Edit.{Edit, made, dropped}
use Rattle.reuse_change.specs.Entry.{makes, paths_of, touches, IsEntry}
use Rattle.reuse_change.specs.Listing.{is_among, ArePaths}
use Rattle.reuse_edit.specs.Answered.{CarriesOutEdit, MakesEdit}
use Rattle.reuse_plan.specs.Reverting.{stands_at, is_as_left, stands_as_written, is_short, put_back, taken_back}
use Rattle.reuse_plan.specs.Reverting.{taken_back_on, taken_back_unless}
use Rattle.reuse_change.specs.declared.direction.Direction.TheVariants.{Backward}
use Rattle.reuse_command.specs.declared.reply.Refusal.{Refusal}
use Rattle.std.specs.Ordering.{nat_cmp}
use Rattle.std.specs.Cmp.Lexicographic.{slice_cmp}
use Rattle.std.specs.List.Sorted.{IsStrictlySortedBy}
use Rattle.std.proofs.lemmas.List.Elements.{recursion_from_All}
use Rattle.reuse_change.specs.Path.{is_path}
use Rattle.reuse_json.specs.EntryText.{HavePaths}
use Rattle.reuse_change.specs.Tree.{is_of_tree}
use Rattle.reuse_plan.proofs.Planning.{paths_at, IsFit, AreEdits}
use Rattle.reuse_store.proofs.Testing.{clashes_keys}
use Rattle.reuse_plan.proofs.CommandEdits.{stuck_on, unless_stuck, revert_edits}

-- ---- the planner of a revert: what takes a change back does what its edit says

abbrev pub found : Option Edit → Result (Option Edit) Refusal
found edit = Ok edit

pub and_first : (a b : Bool) → (a && b) ≡ true → a ≡ true
and_first true b e = refl
and_first false b e = e

pub and_second : (a b : Bool) → (a && b) ≡ true → b ≡ true
and_second true b e = e
and_second false b e = absurd (false≢true e)

all_true : (a b c : Bool) → a ≡ true → b ≡ true → (a && b && c) ≡ c
all_true a b c e f = ap₂ (λ x y. x && y && c) e f

short_test : (n : ℕ) → n ≤ LONGEST_FILE → nat_le n LONGEST_FILE ≡ true
short_test n h = le-leb n LONGEST_FILE h

-- ---- a file that was made

module _ (tree : Files) (path file new : List ℕ) (after : Option (List ℕ)) where
  pub drop_makes : (clone : List ℕ) → clone ≡ path → get tree path ≡ Some file → length new ≤ LONGEST_FILE
      → bytes_eq file new ≡ true
      → MakesEdit tree (found (taken_back (Make path new after) (Some file))) (Some (sealed_drop clone file))
  drop_makes clone cloned here short same =
      let is : file ≡ new = (bytes_eq-Decides file new).0 same in (
        dropped path new,
        ap (λ b. found (cond b (Some (dropped path new)) None)) same,
        subst (λ p. CarriesOutEdit tree (sealed_drop p file) (dropped path new)) (sym cloned) (record {
          path = refl;
          removed = is;
          written = refl;
          proper = tt;
          small = subst (λ (f : List ℕ). length f ≤ LONGEST_FILE) (sym is) short;
          applies = record { range = (here, refl); from = ap (option_map sha256) here; to = tt };
          sealed = refl;
        }),
      )

-- ---- a file that was removed

pub make_makes : (tree : Files) (path old : List ℕ) (before : Option (List ℕ)) (clone bytes : List ℕ) → clone ≡ path
    → bytes ≡ old → get tree path ≡ None → length old ≤ LONGEST_FILE
    → MakesEdit tree (found (taken_back (Drop path old before) None)) (Some (sealed_make clone bytes))
make_makes tree path old before clone bytes cloned same here short = (
  made path old,
  refl,
  subst (λ p. CarriesOutEdit tree (sealed_make p bytes) (made path old)) (sym cloned)
      (subst (λ b. CarriesOutEdit tree (sealed_make path b) (made path old)) (sym same) (record {
        path = refl;
        removed = refl;
        written = refl;
        proper = tt;
        small = short;
        applies = record { range = (here, refl); from = tt; to = refl };
        sealed = refl;
      })),
)

-- ---- a file that was edited

module _ (tree : Files) (path file old new : List ℕ) (at rest : ℕ) (seal : Option Seal) where
  abbrev given_back : Option Edit
  given_back = taken_back (Splice path at old new rest seal) (Some file)

  module _ (as_written : stands_as_written file at old new rest seal ≡ true) where
    stands : stands_at file new at ≡ true
    stands = and_first (stands_at file new at)
        (not (starts_with nat_eq old new) || is_as_left file at new rest seal) as_written

    low : at ≤ length file
    low = leb-true at (length file) (and_first (nat_le at (length file)) (starts_with nat_eq (drop at file) new) stands)

    behind : drop at file ≡ new ++ drop (length new) (drop at file)
    behind = (starts_is Decides-eqb (drop at file) new _ refl).0
        (and_second (nat_le at (length file)) (starts_with nat_eq (drop at file) new) stands)

    pub within : at + length new ≤ length file
    within =
        omega (arith, low, length-drop at file, ap length behind, length-append new (drop (length new) (drop at file)))

    pub whole_there : file ≡ take at file ++ new ++ drop (at + length new) file
    whole_there =
        sym (append_assoc (take at file) new (drop (at + length new) file)
        ∙ ap (λ xs. take at file ++ (new ++ xs)) (sym (drop-drop (length new) at file))
        ∙ ap (λ xs. take at file ++ xs) (sym behind) ∙ take-append-drop at file)

    front_len : length (take at file) ≡ at
    front_len = length-take-le at file low

    rest_len : length (drop (at + length new) file) ≡ length file - at - length new
    rest_len = omega (arith, length-drop (at + length new) file)

    -- where the bytes differ that give way, the file changes
    pub splice_differs : old ≢ new → file ≢ spliced file at (length new) old
    splice_differs apart same =
        apart (sym (append_cancel_left (take at file) new old
        (append_cancel_right (take at file ++ new) (take at file ++ old) (drop (at + length new) file)
        (sym whole_there ∙ same))))

    pub spliced_len : length (spliced file at (length new) old) ≡ length file - length new + length old
    spliced_len = omega (
      arith,
      within,
      front_len,
      rest_len,
      length-append (take at file ++ old) (drop (at + length new) file),
      length-append (take at file) old,
    )

    pub splice_makes : (clone removed written : List ℕ) → clone ≡ path → removed ≡ new → written ≡ old → old ≢ new
        → get tree path ≡ Some file → length file ≤ LONGEST_FILE
        → length file - length new + length old ≤ LONGEST_FILE
        → MakesEdit tree (found given_back) (Some (sealed_splice clone file at removed written))
    splice_makes clone removed written cloned is_new is_old differ here short fits = (
      put_back path file at old new,
      ap (λ b. found (cond b (Some (put_back path file at old new)) None))
          (all_true (stands_as_written file at old new rest seal) (is_short file)
          (is_short (spliced file at (length new) old)) as_written (short_test (length file) short)
          ∙ short_test (length (spliced file at (length new) old)) (omega (arith, fits, spliced_len))),
      subst
          (λ p. CarriesOutEdit tree (sealed_splice p file at removed written) (put_back path file at old new))
          (sym cloned)
          (subst
          (λ r. CarriesOutEdit tree (sealed_splice path file at r written) (put_back path file at old new)) (sym is_new)
          (subst (λ w. CarriesOutEdit tree (sealed_splice path file at new w) (put_back path file at old new))
          (sym is_old) (record {
            path = refl;
            removed = refl;
            written = refl;
            proper = λ e. differ (sym e);
            small = (omega (arith, within, short), omega (arith, within, fits));
            applies = record {
              range = (
                take at file,
                drop (at + length new) file,
                record { whole = here ∙ ap (λ b. Some b) whole_there; before = front_len; behind = rest_len },
                record { whole = refl; before = front_len; behind = rest_len },
              );
              from = ap (option_map sha256) here;
              to = refl;
            };
            sealed = refl;
          }))),
    )

-- ---- on a tree

pub stuck_by_clash : (tree : Files) (change : Change) → (makes Backward change && is_clash tree (path_of change)) ≡ true
    → MakesEdit tree (found (taken_back_on tree change)) None
stuck_by_clash tree change e = ap (λ b. found (cond b None (taken_back change (get tree (path_of change))))) e

pub where_free : (tree : Files) (change : Change) → (makes Backward change && is_clash tree (path_of change)) ≡ false
    → taken_back_on tree change ≡ taken_back change (get tree (path_of change))
where_free tree change e = ap (λ b. cond b None (taken_back change (get tree (path_of change)))) e

-- ---- beside paths that later steps touched

pub stuck_by_touch : (touched : List (List ℕ)) (tree : Files) (change : Change)
    → is_among touched (path_of change) ≡ true → MakesEdit tree (found (taken_back_unless touched tree change)) None
stuck_by_touch touched tree change e = ap (λ b. found (cond b None (taken_back_on tree change))) e

pub where_untouched : (touched : List (List ℕ)) (tree : Files) (change : Change)
    → is_among touched (path_of change) ≡ false → taken_back_unless touched tree change ≡ taken_back_on tree change
where_untouched touched tree change e = ap (λ b. cond b None (taken_back_on tree change)) e

-- what is taken back isn't touched, and is taken back on the tree
pub untouched_back : (touched : List (List ℕ)) (tree : Files) (change : Change) (edit : Edit)
    → taken_back_unless touched tree change ≡ Some edit
    → (is_among touched (path_of change) ≡ false) × (taken_back_on tree change ≡ Some edit)
untouched_back touched tree change edit e = of_test (is_among touched (path_of change)) refl e
  where
    of_test : (b : Bool) → is_among touched (path_of change) ≡ b → cond b None (taken_back_on tree change) ≡ Some edit
        → (is_among touched (path_of change) ≡ false) × (taken_back_on tree change ≡ Some edit)
    of_test true is h = absurd (none-some edit h)
    of_test false is h = (is, h)

pub same_found : (a b : Option Edit) → found a ≡ found b → a ≡ b
same_found a b e = cc

-- ---- the edits of a revert: of distinct paths in byte order, none a folder of another

-- ---- one change

-- the edit is of the change's path
pub back_path : (change : Change) (file : Option (List ℕ)) (edit : Edit) → taken_back change file ≡ Some edit
    → edit.path ≡ path_of change
back_path (Make path new after) None edit e = absurd (none-some edit e)
back_path (Make path new after) (Some file) edit e =
    ap (λ (x : Edit). x.path) (sym (cond_some (bytes_eq file new) (dropped path new) edit e).1)
back_path (Drop path old before) None edit e = ap (λ (x : Edit). x.path) (sym (same_Some (made path old) edit e))
back_path (Drop path old before) (Some file) edit e = absurd (none-some edit e)
back_path (Splice path at old new rest seal) None edit e = absurd (none-some edit e)
back_path (Splice path at old new rest seal) (Some file) edit e =
    ap (λ (x : Edit). x.path) (sym (cond_some (stands_as_written file at old new rest seal && is_short file && is_short
    (spliced file at (length new) old)) (put_back path file at old new) edit e).1)

-- only a change that makes a file again is taken back where nothing is
makes_there : (change : Change) (edit : Edit) → taken_back change None ≡ Some edit → makes Backward change ≡ true
makes_there (Make path new after) edit e = absurd (none-some edit e)
makes_there (Drop path old before) edit e = refl
makes_there (Splice path at old new rest seal) edit e = absurd (none-some edit e)

-- a change that can be taken back is, as its path holds it, and where it makes a file nothing clashes
pub back_on : (tree : Files) (change : Change) (edit : Edit) → taken_back_on tree change ≡ Some edit
    → (taken_back change (get tree (path_of change)) ≡ Some edit)
    × ((makes Backward change && is_clash tree (path_of change)) ≡ false)
back_on tree change edit e = of_test (makes Backward change && is_clash tree (path_of change)) refl e
  where
    of_test : (b : Bool) → (makes Backward change && is_clash tree (path_of change)) ≡ b
        → cond b None (taken_back change (get tree (path_of change))) ≡ Some edit
        → (taken_back change (get tree (path_of change)) ≡ Some edit)
        × ((makes Backward change && is_clash tree (path_of change)) ≡ false)
    of_test true is h = absurd (none-some edit h)
    of_test false is h = (h, is)

fit_back : (tree : Files) (change : Change) (edit : Edit) → is_of_tree (path_of change) ≡ true
    → IsTrue (is_path (path_of change)) → taken_back_on tree change ≡ Some edit → IsFit tree edit
fit_back tree change edit of_tree good e = record {
  of_tree = ap is_of_tree same ∙ of_tree;
  good_path = subst (λ p. IsTrue (is_path p)) (sym same) good;
  free = λ none some clash.
      let absent : get tree (path_of change) ≡ None = ap (get tree) (sym same) ∙ none in
      let makes_it = makes_there change edit (ap (taken_back change) (sym absent) ∙ back.0) in
      let clashes : is_clash tree (path_of change) ≡ true =
      ap (is_clash tree) (sym same) ∙ (clashes_keys tree edit.path).1 clash in
      false≢true (sym back.1 ∙ ap (λ b. b && is_clash tree (path_of change)) makes_it ∙ clashes);
}
  where
    back : (taken_back change (get tree (path_of change)) ≡ Some edit)
        × ((makes Backward change && is_clash tree (path_of change)) ≡ false)
    back = back_on tree change edit e

    same : edit.path ≡ path_of change
    same = back_path change (get tree (path_of change)) edit back.0

pub path_back : (tree : Files) (change : Change) (edit : Edit) → taken_back_on tree change ≡ Some edit
    → edit.path ≡ path_of change
path_back tree change edit e = back_path change (get tree (path_of change)) edit (back_on tree change edit e).0

-- ---- all changes

module _ (touched : List (List ℕ)) (tree : Files) where
  abbrev pub backs : List Change → List Edit
  backs changes = filter_map (taken_back_unless touched tree) changes

  pub path_unless : (change : Change) (edit : Edit) → taken_back_unless touched tree change ≡ Some edit
      → edit.path ≡ path_of change
  path_unless change edit e = path_back tree change edit (untouched_back touched tree change edit e).1

  -- what is known of each path of the changes is known of those of the edits
  still_each : (P : List ℕ → Type 0) (changes : List Change) → AllByRecursion P (paths_of changes)
      → AllByRecursion P (paths_at (backs changes))
  still_each P [] each = tt
  still_each P (c ∷ cs) each = by_back (taken_back_unless touched tree c) refl (still_each P cs each.1)
    where
      by_back : (o : Option Edit) → taken_back_unless touched tree c ≡ o → AllByRecursion P (paths_at (backs cs))
          → AllByRecursion P (paths_at (cons_option o (backs cs)))
      by_back None is rest = rest
      by_back (Some edit) is rest = (subst P (sym (path_unless c edit is)) each.0, rest)

  pub still_ascend : (changes : List Change) → ArePaths (paths_of changes) → ArePaths (paths_at (backs changes))
  unfolding IsStrictlySortedBy
  still_ascend [] h = tt
  still_ascend (c ∷ cs) h = by_back (taken_back_unless touched tree c) refl (still_ascend cs h.1)
    where
      by_back : (o : Option Edit) → taken_back_unless touched tree c ≡ o → ArePaths (paths_at (backs cs))
          → ArePaths (paths_at (cons_option o (backs cs)))
      by_back None is rest = rest
      by_back (Some edit) is rest = (
        subst (λ p. AllByRecursion (λ q. slice_cmp nat_cmp p q ≡ Less) (paths_at (backs cs)))
            (sym (path_unless c edit is)) (still_each (λ q. slice_cmp nat_cmp (path_of c) q ≡ Less) cs h.0),
        rest,
      )

  pub still_among : (changes : List Change) (q : List ℕ) → is_among (paths_at (backs changes)) q ≡ true
      → touches changes q ≡ true
  still_among [] q h = h
  still_among (c ∷ cs) q h = by_back (taken_back_unless touched tree c) refl h (still_among cs q)
    where
      by_back : (o : Option Edit) → taken_back_unless touched tree c ≡ o
          → is_among (paths_at (cons_option o (backs cs))) q ≡ true
          → (is_among (paths_at (backs cs)) q ≡ true → touches cs q ≡ true)
          → (bytes_eq q (path_of c) || touches cs q) ≡ true
      by_back None is among rest =
          ap (λ b. bytes_eq q (path_of c) || b) (rest among) ∙ or_right (bytes_eq q (path_of c)) true refl
      by_back (Some edit) is among rest = by_test (bytes_eq q (path_of c))
          (ap (λ p. bytes_eq q p || is_among (paths_at (backs cs)) q) (sym (path_unless c edit is)) ∙ among)
        where
          by_test : (b : Bool) → (b || is_among (paths_at (backs cs)) q) ≡ true → (b || touches cs q) ≡ true
          by_test true t = refl
          by_test false t = rest t

  fit_each : (changes : List Change) → AllByRecursion (λ (c : Change). is_of_tree (path_of c) ≡ true) changes
      → AllByRecursion (λ (c : Change). IsTrue (is_path (path_of c))) changes
      → AllByRecursion (IsFit tree) (backs changes)
  fit_each [] of_tree good = tt
  fit_each (c ∷ cs) of_tree good = by_back (taken_back_unless touched tree c) refl (fit_each cs of_tree.1 good.1)
    where
      by_back : (o : Option Edit) → taken_back_unless touched tree c ≡ o → AllByRecursion (IsFit tree) (backs cs)
          → AllByRecursion (IsFit tree) (cons_option o (backs cs))
      by_back None is rest = rest
      by_back (Some edit) is rest =
          (fit_back tree c edit of_tree.0 good.0 (untouched_back touched tree c edit is).1, rest)

  are_edits : (changes : List Change) → IsEntry changes → HavePaths changes → AreEdits tree (backs changes)
  are_edits changes entry paths = record {
    ascending = still_ascend changes entry.ascending;
    apart = λ p q h k. entry.apart p q (still_among changes p h) (still_among changes q k);
    each = fit_each changes (recursion_from_All (λ (c : Change). is_of_tree (path_of c) ≡ true) changes entry.of_tree)
        (recursion_from_All (λ (c : Change). IsTrue (is_path (path_of c))) changes paths);
  }

  -- where nothing is refused the edits are those of all changes that can be taken back
  pub edits_are : (stuck : List Change) (given edits : List Edit) → unless_stuck stuck given ≡ Ok edits → given ≡ edits
  edits_are [] given edits e = same_ok given edits e
    where
      same_ok : (a b : List Edit) → unless_stuck [] a ≡ Ok b → a ≡ b
      same_ok a b h = cc
  edits_are (c ∷ cs) given edits e = absurd (cc)

  pub revert_fits : (changes : List Change) (skip : Bool) (edits : List Edit) → IsEntry changes → HavePaths changes
      → revert_edits changes touched skip tree ≡ Ok edits → AreEdits tree edits
  revert_fits changes skip edits entry paths e = subst (AreEdits tree)
      (edits_are (cond skip [] (stuck_on touched tree changes)) (backs changes) edits e) (are_edits changes entry paths)
