-- Changes that lead between two trees without a clash lead from any such tree to one without.
use Rattle.std.proofs.Common.{◌≡◌, ◌||◌, Bool, true, false, List, ℕ, get_or, Option, IsSome, is_some, IsTrue, refl, sym}
use Rattle.std.proofs.Common.{ap, subst, ◌∙◌}
use Rattle.std.specs.FinMap.{get}
use Rattle.std.specs.List.{All}
use Rattle.std.proofs.lemmas.Bool.{false≢true}
use Rattle.reuse_change.specs.Change.{path_of}
use Rattle.reuse_change.specs.Entry.{touches, makes, AppliesBy, CanBeMade, IsEntry, LeadsBy}
use Rattle.reuse_change.specs.Files.{Files, AreFiles, Clashes}
use Rattle.reuse_change.specs.Path.{is_path, lies_under}
use Rattle.reuse_change.specs.declared.change.Change.{Change}
use Rattle.reuse_change.specs.declared.change.Change.TheVariants.{Make, Drop, Splice}
use Rattle.reuse_change.specs.declared.direction.Direction.{Direction}
use Rattle.reuse_change.specs.declared.direction.Direction.TheVariants.{Forward, Backward}
use Rattle.reuse_change.proofs.Differ.{touching}

-- whether a file is left goes by the change alone
leaves_alike : (direction : Direction) (change : Change) (old new was then : Option (List ℕ))
    → AppliesBy direction change old new → AppliesBy direction change was then → IsSome new → IsSome then
leaves_alike Forward (Make path bytes digest) old new was then h k some = ap is_some k.range.1
leaves_alike Forward (Drop path bytes digest) old new was then h k some =
    absurd (false≢true (sym (ap is_some h.range.1) ∙ some))
leaves_alike Forward (Splice path at before after rest seal) old new was then h k some = ap is_some k.range.3.whole
leaves_alike Backward (Make path bytes digest) old new was then h k some =
    absurd (false≢true (sym (ap is_some h.range.0) ∙ some))
leaves_alike Backward (Drop path bytes digest) old new was then h k some = ap is_some k.range.0
leaves_alike Backward (Splice path at before after rest seal) old new was then h k some = ap is_some k.range.2.whole

-- a file that is left and isn't made was there
was_there : (direction : Direction) (change : Change) (old new : Option (List ℕ)) → makes direction change ≡ false
    → AppliesBy direction change old new → IsSome new → IsSome old
was_there Forward (Make path bytes digest) old new e h some = absurd (false≢true (sym e))
was_there Forward (Drop path bytes digest) old new e h some = absurd (false≢true (sym (ap is_some h.range.1) ∙ some))
was_there Forward (Splice path at before after rest seal) old new e h some = ap is_some h.range.2.whole
was_there Backward (Make path bytes digest) old new e h some = absurd (false≢true (sym (ap is_some h.range.0) ∙ some))
was_there Backward (Drop path bytes digest) old new e h some = absurd (false≢true (sym e))
was_there Backward (Splice path at before after rest seal) old new e h some = ap is_some h.range.3.whole

either_way : (a b : Bool) → (a || b) ≡ true → (b || a) ≡ true
either_way true true e = e
either_way true false e = e
either_way false true e = e
either_way false false e = e

module _ (direction : Direction) (changes : List Change) (good : IsEntry changes)
    (from to : Files) (leads : LeadsBy direction changes from to) (to_are : AreFiles to)
    (before after : Files) (before_are : AreFiles before) (can : All (CanBeMade direction before) changes)
    (goes : LeadsBy direction changes before after)
  where
    -- a file that a change leaves is one of the tree to which they lead
    left_there : (path : List ℕ) → touches changes path ≡ true → IsSome (get after path) → IsSome (get to path)
    left_there path e some =
        let found = touching changes path e in
        let there : IsSome (get after (path_of (get_or changes found.0 found.1))) =
        subst (λ p. IsSome (get after p)) found.3 some in
        subst (λ p. IsSome (get to p)) (sym found.3)
        (leaves_alike direction (get_or changes found.0 found.1) _ _ _ _ (goes.each found.0 found.1 found.2)
        (leads.each found.0 found.1 found.2) there)

    -- beside a file that is made or was there stands no file that no change touches
    clear_of : (path other : List ℕ) → touches changes path ≡ true → IsSome (get after path)
        → touches changes other ≡ false → IsSome (get after other)
        → (lies_under other path || lies_under path other) ≡ true → ⊥
    clear_of path other e some none is nested =
        let found = touching changes path e in
        let change = get_or changes found.0 found.1 in
        let still : IsSome (get before other) = subst IsSome (goes.others other none) is in
        at_path change (subst (λ p. IsSome (get after p)) found.3 some) (goes.each found.0 found.1 found.2)
        (can found.0 found.1 found.2)
        (record {
          other = other;
          is_file = still;
          nested = subst (λ p. (lies_under other p || lies_under p other) ≡ true) found.3 nested;
        }) (makes direction change) refl
      where
        at_path : (change : Change) → IsSome (get after (path_of change))
            → AppliesBy direction change (get before (path_of change)) (get after (path_of change))
            → CanBeMade direction before change → Clashes before (path_of change)
            → (b : Bool) → makes direction change ≡ b → ⊥
        at_path change there applies free clash true made = free.free made clash
        at_path change there applies free clash false made =
            before_are.apart (path_of change) (was_there direction change _ _ made applies there) clash

    apart : (path other : List ℕ) → IsSome (get after path) → IsSome (get after other)
        → (lies_under other path || lies_under path other) ≡ true → (a b : Bool) → touches changes path ≡ a
        → touches changes other ≡ b → ⊥
    apart path other some is nested true true e f = false≢true (sym (good.apart path other e f) ∙ nested)
    apart path other some is nested true false e f = clear_of path other e some f is nested
    apart path other some is nested false true e f =
        clear_of other path f is e some (either_way (lies_under other path) (lies_under path other) nested)
    apart path other some is nested false false e f =
        before_are.apart path (subst IsSome (goes.others path e) some)
        (record { other = other; is_file = subst IsSome (goes.others other f) is; nested = nested })

    pub reach_files : AreFiles after
    reach_files = record {
      are_paths = λ path some. at path some (touches changes path) refl;
      apart = λ path some clash. apart path clash.other some clash.is_file clash.nested (touches changes path)
          (touches changes clash.other) refl refl;
    }
      where
        at : (path : List ℕ) → IsSome (get after path) → (b : Bool) → touches changes path ≡ b → IsTrue (is_path path)
        at path some true e = to_are.are_paths path (left_there path e some)
        at path some false e = before_are.are_paths path (subst IsSome (goes.others path e) some)
