-- What is drawn of changes, and of all at which two trees differ.
use Rattle.std.proofs.Common.{◌≡◌, ◌∙◌, ◌+◌, ◌<◌, ◌≤◌, ℕ, List, [], ◌∷◌, ◌++◌, length, take, get_or, Option, Some, Result}
use Rattle.std.proofs.Common.{Ok, Err, IfOk, refl, sym, ap, subst, arith, length-append}
use Rattle.std.specs.FinMap.{get}
use Rattle.std.specs.Option.{option_map}
use Rattle.std.specs.Prelude.{unwrap_or}
use Rattle.std.specs.declared.vec.Vec.{Vec}
use Rattle.reuse_text.specs.Text.{spliced}
use Rattle.reuse_text.specs.declared.TheConstants.{LONGEST_FILE}
use Rattle.reuse_change.specs.Change.{path_of, AppliesByRange}
use Rattle.reuse_change.specs.Digest.{swapped}
use Rattle.reuse_change.specs.Entry.{paths_of, IsSmall, AppliesBy}
use Rattle.reuse_change.specs.Files.{Files, tree_of}
use Rattle.reuse_change.specs.Tree.{changed_paths}
use Rattle.reuse_store.specs.Store.{reading_of}
use Rattle.reuse_change.specs.declared.change.Change.{Change}
use Rattle.reuse_change.specs.declared.change.Change.TheVariants.{Make, Drop, Splice}
use Rattle.reuse_change.specs.declared.digest.Seal.{Seal}
use Rattle.reuse_change.specs.declared.direction.Direction.{Direction}
use Rattle.reuse_change.specs.declared.direction.Direction.TheVariants as go
use Rattle.reuse_store.specs.declared.store.Reading.TheVariants.{Absent, Found, TooLong}
use Rattle.reuse_store.proofs.ReadingLemmas.{absent_is, found_is, long_is}
use Rattle.reuse_change.proofs.Sealed.{splices}
use Rattle.reuse_store.proofs.TreeLemmas.{read_there}
use Rattle.reuse_change.proofs.Applying.{applies_back_by_range, applies_once_by_range}
use Rattle.reuse_diff.specs.DiffText.{part_before, part_after, IsDiff}
use Rattle.reuse_report.specs.Drawn.{gone, AreDiffs, AreSmallSteps, IsPathDiff, IsRangeWithin, IsTreeDiff}
use Rattle.reuse_shown.specs.JoinedTexts.{AppendsSome, AreJoined}
use Rattle.reuse_shown.proofs.JoinedLemmas.{AppendsSome-row}

-- ---- one change

-- the change that is made leads from what the path holds to what it is to hold
pub gone_by_range : (direction : Direction) (change : Change) (before after : Option (List ℕ))
    → AppliesBy direction change before after → AppliesByRange (gone direction change) before after
gone_by_range go.Forward change before after applies = applies.range
gone_by_range go.Backward change before after applies = applies_back_by_range change after before applies.range

-- a change of a range, of the file that it leads from
range_once : (path : List ℕ) (at : ℕ) (old new : List ℕ) (rest : ℕ) (seal : Option Seal)
    (before after : Option (List ℕ)) → at + length old + rest ≤ LONGEST_FILE → at + length new + rest ≤ LONGEST_FILE
    → AppliesByRange (Splice path at old new rest seal) before after
    → (file : List ℕ) × (before ≡ Some file) × IsRangeWithin file at old new
    × (after ≡ Some (spliced file at (length old) new))
range_once path at old new rest seal before after small new_small h =
    let front = h.0 in
    let back = h.1 in
    let file = front ++ old ++ back in
    let held = h.2 in
    let change = Splice path at old new rest seal in
    let long : length file ≡ length front + length old + length back =
    length-append (front ++ old) back ∙ ap (λ n. n + length back) (length-append front old) in
    let from : AppliesByRange change (Some file) after = subst (λ b. AppliesByRange change b after) held.whole h in (
      file,
      held.whole,
      record {
        within = omega (arith, long, held.before);
        small = omega (arith, long, held.before, held.behind, small);
        new_small = omega (arith, new_small);
      },
      applies_once_by_range change (Some file) after _ from
          (splices path at old new rest seal file (from.0, from.1, from.2)),
    )

-- the same, gone through this way
pub range_of : (direction : Direction) (path : List ℕ) (at : ℕ) (old new : List ℕ) (rest : ℕ) (seal : Option Seal)
    (before after : Option (List ℕ)) → IsSmall (Splice path at old new rest seal)
    → AppliesBy direction (Splice path at old new rest seal) before after
    → (file : List ℕ) × (before ≡ Some file)
    × IsRangeWithin file at (unwrap_or (part_before (gone direction (Splice path at old new rest seal))) [])
    (unwrap_or (part_after (gone direction (Splice path at old new rest seal))) [])
    × (after ≡ Some
    (spliced file at (length (unwrap_or (part_before (gone direction (Splice path at old new rest seal))) []))
    (unwrap_or (part_after (gone direction (Splice path at old new rest seal))) [])))
range_of go.Forward path at old new rest seal before after small applies =
    range_once path at old new rest seal before after small.0 small.1 applies.range
range_of go.Backward path at old new rest seal before after small applies =
    let change = Splice path at old new rest seal in
    range_once path at new old rest (option_map swapped seal) before after small.1 small.0
    (gone_by_range go.Backward change before after applies)

-- what is drawn of a range is the diff of its file
pub drawn_range : (direction : Direction) (change : Change) (path : List ℕ) (at : ℕ) (old new : List ℕ) (rest : ℕ)
    (seal : Option Seal) → change ≡ Splice path at old new rest seal
    → (tree after : Files) (name : List ℕ) (before_part after_part : Option (List ℕ)) → name ≡ path_of change
    → before_part ≡ part_before (gone direction change) → after_part ≡ part_after (gone direction change)
    → IsSmall change → AppliesBy direction change (get tree (path_of change)) (get after (path_of change))
    → (Holds : (List ℕ → Type 0) → Type 0)
    → ((file : List ℕ) → get tree name ≡ Some file
    → IsRangeWithin file at (unwrap_or before_part []) (unwrap_or after_part [])
    → Holds
    (IsDiff name (Some file) (Some (spliced file at (length (unwrap_or before_part [])) (unwrap_or after_part [])))))
    → Holds (IsPathDiff tree after (path_of change))
drawn_range direction
    (Make p w d) path at old new rest seal is tree after name b a here from to small applies Holds drawn = absurd (cc)
drawn_range direction
    (Drop p o d) path at old new rest seal is tree after name b a here from to small applies Holds drawn = absurd (cc)
drawn_range direction
    (Splice p n o w r s) path at old new rest seal is tree after name b a here from to small applies Holds drawn =
    let range = range_of direction p n o w r s (get tree p) (get after p) small applies in
    let file = range.0 in
    let place : n ≡ at = cc in
    let one = part_before (gone direction (Splice p n o w r s)) in
    let within : IsRangeWithin file at (unwrap_or b []) (unwrap_or a []) =
    subst (λ m. IsRangeWithin file m (unwrap_or b []) (unwrap_or a [])) place (
    subst (λ (x : Option (List ℕ)). IsRangeWithin file n (unwrap_or x []) (unwrap_or a [])) (sym from) (
    subst (λ (y : Option (List ℕ)). IsRangeWithin file n (unwrap_or one []) (unwrap_or y [])) (sym to) range.2)) in
    let made : Some (spliced file at (length (unwrap_or b [])) (unwrap_or a [])) ≡ get after p =
    ap (λ m. Some (spliced file m (length (unwrap_or b [])) (unwrap_or a []))) (sym place)
    ∙ ap (λ (x : Option (List ℕ)). Some (spliced file n (length (unwrap_or x [])) (unwrap_or a []))) from
    ∙ ap (λ (y : Option (List ℕ)). Some (spliced file n (length (unwrap_or one [])) (unwrap_or y []))) to
    ∙ sym range.3 in
    subst (λ (q : List ℕ). Holds (IsDiff q (get tree p) (get after p))) here (
    subst (λ (x : Option (List ℕ)). Holds (IsDiff name x (get after p))) (sym range.1) (
    subst (λ (y : Option (List ℕ)). Holds (IsDiff name (Some file) y)) made
    (drawn file (ap (get tree) here ∙ range.1) within)))

-- ---- what was read of its file

-- nothing is drawn only where the file isn't there or is too long
pub absent_drawn : (files : Files) (path file : List ℕ) → get (tree_of files) path ≡ Some file
    → length file ≤ LONGEST_FILE → Absent ≡ reading_of (get files path) LONGEST_FILE → ⊥
absent_drawn files path file there small read =
    let none = absent_is (Some file) LONGEST_FILE (read_there files path file LONGEST_FILE Absent there read) in cc

pub long_drawn : (files : Files) (path file : List ℕ) → get (tree_of files) path ≡ Some file
    → length file ≤ LONGEST_FILE → TooLong ≡ reading_of (get files path) LONGEST_FILE → ⊥
long_drawn files path file there small read =
    let long = long_is (Some file) LONGEST_FILE (read_there files path file LONGEST_FILE TooLong there read) in
    let same : file ≡ long.0 = same_bytes file long.0 long.1 in
    omega (arith, small, long.2, ap length same)
  where
    same_bytes : (one other : List ℕ) → Some one ≡ Some other → one ≡ other
    same_bytes one other e = cc

-- what is found is the file
pub found_drawn : (files : Files) (path file found : List ℕ) → get (tree_of files) path ≡ Some file
    → Found found ≡ reading_of (get files path) LONGEST_FILE → file ≡ found
found_drawn files path file found there read =
    let is =
    (found_is (Some file) LONGEST_FILE found (read_there files path file LONGEST_FILE (Found found) there read)).0 in cc

-- what is drawn of what was found is drawn of the file
pub within_drawn : (Holds : (List ℕ → Type 0) → Type 0) (name file found old new old_part new_part : List ℕ) (at : ℕ)
    → found ≡ file → old_part ≡ old → new_part ≡ new → IsRangeWithin file at old new
    → (at + length old_part ≤ length found → length new_part ≤ LONGEST_FILE
    → Holds (IsDiff name (Some found) (Some (spliced found at (length old_part) new_part))))
    → Holds (IsDiff name (Some file) (Some (spliced file at (length old) new)))
within_drawn Holds name file found old new old_part new_part at is from to within drawn =
    let here =
    subst (λ f. at + length old_part ≤ length f → length new_part ≤ LONGEST_FILE
    → Holds (IsDiff name (Some f) (Some (spliced f at (length old_part) new_part)))) is drawn in
    let gone_from =
    subst (λ x. at + length x ≤ length file → length new_part ≤ LONGEST_FILE
    → Holds (IsDiff name (Some file) (Some (spliced file at (length x) new_part)))) from here in
    let gone_to =
    subst (λ y. at + length old ≤ length file → length y ≤ LONGEST_FILE
    → Holds (IsDiff name (Some file) (Some (spliced file at (length old) y)))) to gone_from in
    gone_to within.within within.new_small

-- ---- all changes

-- with one more
pub drawn_more : (before after : Files) (changes : List Change) (i : ℕ) (x : Change) (old new : List ℕ)
    → i < length changes → x ≡ get_or changes i x → AreDiffs before after (take i changes) old
    → AppendsSome (Some old) (Some new) (IsPathDiff before after (path_of x))
    → AreDiffs before after (take (i + 1) changes) new
drawn_more before after changes i x old new low is drawn one =
    let IsText : Change → List ℕ → Type 0 = λ change. IsPathDiff before after (path_of change) in
    let all = AppendsSome-row IsText (Some []) (Some old) (Some new) changes i x low is (old, (drawn, refl)) one in
    subst (AreDiffs before after (take (i + 1) changes)) (sym all.1.1) all.1.0

-- the same of changes that lead from one tree to the other
pub drawn_step : (direction : Direction) (before after : Files) (changes : List Change) (i : ℕ) (x : Change)
    (old new : List ℕ) → i < length changes → x ≡ get_or changes i x → AreSmallSteps direction changes before after
    → AreDiffs before after (take i changes) old
    → (IsSmall x → AppliesBy direction x (get before (path_of x)) (get after (path_of x))
    → AppendsSome (Some old) (Some new) (IsPathDiff before after (path_of x)))
    → AreDiffs before after (take (i + 1) changes) new
drawn_step direction before after changes i x old new low is steps drawn one =
    let small = subst IsSmall (sym is) (steps.small i x low) in
    let applies = subst (λ (y : Change). AppliesBy direction y (get before (path_of y)) (get after (path_of y)))
    (sym is) (steps.leads.each i x low) in
    drawn_more before after changes i x old new low is drawn (one small applies)

-- ---- the diff of two trees

joined_paths : (IsText : List ℕ → List ℕ → Type 0) (changes : List Change) (text : List ℕ)
    → AreJoined (λ change. IsText (path_of change)) changes text → AreJoined IsText (paths_of changes) text
joined_paths IsText [] text all = all
joined_paths IsText (change ∷ changes) text all =
    (all.0, (all.1.0, (all.1.1.0, (joined_paths IsText changes all.1.0 all.1.1.1.0, all.1.1.1.1))))

-- the diffs of all paths at which the trees differ are the diff of the trees
pub tree_diff : (before after : Files) (changes : List Change) (text : List ℕ)
    → changed_paths before after ≡ paths_of changes → AreDiffs before after changes text → IsTreeDiff before after text
tree_diff before after changes text same all =
    subst (λ paths. AreJoined (IsPathDiff before after) paths text) (sym same)
    (joined_paths (IsPathDiff before after) changes text all)

pub drawn_trees : {A E : Type 0} (before after : Files) (changes : List Change) (result : Result (Vec ℕ A) E)
    → changed_paths before after ≡ paths_of changes
    → IfOk result (λ text. AreDiffs before after changes text.items)
    → IfOk result (λ text. IsTreeDiff before after text.items)
drawn_trees before after changes (Ok text) same all = tree_diff before after changes text.items same all
drawn_trees before after changes (Err fault) same all = tt
