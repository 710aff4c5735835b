-- Some of the changes of an entry, chosen by a test: they are changes of an entry, or none.
use Rattle.std.proofs.Common.{◌≡◌, inl, inr, ℕ, suc, ◌<◌, ◌≤◌, Bool, true, false, not, ◌||◌, cond, List, [], ◌∷◌}
use Rattle.std.proofs.Common.{length, arith, refl, sym, ap, subst, ◌∙◌}
use Rattle.std.specs.List.{All, filter, sum_by}
use Rattle.std.specs.List.Sorted.{IsStrictlySortedBy}
use Rattle.std.specs.Ordering.{nat_cmp}
use Rattle.std.specs.Cmp.Lexicographic.{slice_cmp}
use Rattle.std.specs.Str.{bytes_eq}
use Rattle.std.proofs.lemmas.Bool.{false≢true, or_parts, or_from}
use Rattle.std.proofs.lemmas.List.Elements.{All-cons, All-head, All-nil, All-tail, All-filter}
use Rattle.std.proofs.lemmas.List.Filters.{sum_by-filter_both}
use Rattle.std.proofs.lemmas.List.Kept.{IsStrictlySortedBy-filter}
use Rattle.std.proofs.lemmas.Slice.Eq.{bytes_eq-Decides}
use Rattle.reuse_change.specs.Change.{path_of, is_sealed, IsProper}
use Rattle.reuse_change.specs.Entry.{change_size, paths_of, touches, HasOwnDigest, IsEntry, IsSmall}
use Rattle.reuse_change.specs.Tree.{is_of_tree}
use Rattle.reuse_change.specs.declared.change.Change.{Change}
use Rattle.reuse_journal.specs.Recovery.{ArePart}

module _ {X : Type 0} (test : X → Bool) where
  -- what holds of each item that passes holds of all that are left
  pub all_left : (P : X → Type 0) (xs : List X) → All (λ x. test x ≡ true → P x) xs → All P (filter test xs)
  all_left P [] all = All-nil P
  all_left P (x ∷ xs) all = of_test (test x) refl (all_left P xs (All-tail (λ y. test y ≡ true → P y) x xs all))
    where
      of_test : (b : Bool) → test x ≡ b → All P (filter test xs) → All P (cond b (x ∷ filter test xs) (filter test xs))
      of_test true e rest = All-cons P x (filter test xs) (All-head (λ y. test y ≡ true → P y) x xs all e) rest
      of_test false e rest = rest

  -- what holds of all that are left holds of each item that passes
  pub left_all : (P : X → Type 0) (xs : List X) → All P (filter test xs) → All (λ x. test x ≡ true → P x) xs
  left_all P [] all = All-nil (λ x. test x ≡ true → P x)
  left_all P (x ∷ xs) all = of_test (test x) refl (left_all P xs) all
    where
      of_test : (b : Bool) → test x ≡ b → (All P (filter test xs) → All (λ y. test y ≡ true → P y) xs)
          → All P (cond b (x ∷ filter test xs) (filter test xs)) → All (λ y. test y ≡ true → P y) (x ∷ xs)
      of_test true e later here = All-cons (λ y. test y ≡ true → P y) x xs
          (λ passes. All-head P x (filter test xs) here) (later (All-tail P x (filter test xs) here))
      of_test false e later here =
          All-cons (λ y. test y ≡ true → P y) x xs (λ passes. absurd (false≢true (sym e ∙ passes))) (later here)

  fewer : (xs : List X) → length (filter test xs) ≤ length xs
  fewer [] = omega arith
  fewer (x ∷ xs) = of_test (test x) (fewer xs)
    where
      of_test : (b : Bool) → length (filter test xs) ≤ length xs
          → length (cond b (x ∷ filter test xs) (filter test xs)) ≤ suc (length xs)
      of_test true h = omega arith
      of_test false h = omega arith

  less : (f : X → ℕ) (xs : List X) → sum_by f (filter test xs) ≤ sum_by f xs
  less f xs = omega (arith, sum_by-filter_both test (λ x. not (test x)) (λ x. refl) f xs)

-- a test of the path alone
by_path : (test : List ℕ → Bool) (changes : List Change)
    → paths_of (filter (λ change. test (path_of change)) changes) ≡ filter test (paths_of changes)
by_path test [] = refl
by_path test (change ∷ changes) = of_test (test (path_of change)) (by_path test changes)
  where
    of_test : (b : Bool) → paths_of (filter (λ c. test (path_of c)) changes) ≡ filter test (paths_of changes)
        → paths_of (cond b (change ∷ filter (λ c. test (path_of c)) changes) (filter (λ c. test (path_of c)) changes))
        ≡ cond b (path_of change ∷ filter test (paths_of changes)) (filter test (paths_of changes))
    of_test true e = ap (λ ps. path_of change ∷ ps) e
    of_test false e = e

module _ (test : List ℕ → Bool) where
  abbrev chosen : List Change → List Change
  chosen changes = filter (λ change. test (path_of change)) changes

  -- none of those left is of a path that doesn't pass
  pub none_left : (changes : List Change) (path : List ℕ) → test path ≡ false → touches (chosen changes) path ≡ false
  none_left [] path fails = refl
  none_left (change ∷ changes) path fails =
      of_test (test (path_of change)) refl (bytes_eq path (path_of change)) refl (none_left changes path fails)
    where
      of_test : (b : Bool) → test (path_of change) ≡ b → (same : Bool) → bytes_eq path (path_of change) ≡ same → touches
          (chosen changes) path ≡ false → touches (cond b (change ∷ chosen changes) (chosen changes)) path ≡ false
      of_test false e same is rest = rest
      of_test true e false is rest = ap (λ b. b || touches (chosen changes) path) is ∙ rest
      of_test true e true is rest =
          absurd (false≢true (sym fails ∙ ap test ((bytes_eq-Decides path (path_of change)).0 is) ∙ e))

  -- and none is of another path than the changes are
  pub none_more : (changes : List Change) (path : List ℕ) → touches changes path ≡ false
      → touches (chosen changes) path ≡ false
  none_more [] path none = refl
  none_more (change ∷ changes) path none = of_test (test (path_of change)) (none_more changes path parts.1)
    where
      parts : (bytes_eq path (path_of change) ≡ false) × (touches changes path ≡ false)
      parts = or_parts (bytes_eq path (path_of change)) (touches changes path) none

      of_test : (b : Bool) → touches (chosen changes) path ≡ false
          → touches (cond b (change ∷ chosen changes) (chosen changes)) path ≡ false
      of_test true rest = or_from (bytes_eq path (path_of change)) (touches (chosen changes) path) parts.0 rest
      of_test false rest = rest

  touched_still : (changes : List Change) (path : List ℕ) → touches (chosen changes) path ≡ true
      → touches changes path ≡ true
  touched_still changes path e = of_test (touches changes path) refl
    where
      of_test : (b : Bool) → touches changes path ≡ b → touches changes path ≡ true
      of_test true is = is
      of_test false is = absurd (false≢true (sym (none_more changes path is) ∙ e))

  pub part_of_entry : (changes : List Change) → IsEntry changes → ArePart (chosen changes)
  part_of_entry changes good = of_list (chosen changes) refl
    where
      of_list : (left : List Change) → chosen changes ≡ left → ArePart (chosen changes)
      of_list [] e = inl e
      of_list (first ∷ rest) e = inr (record {
        some = subst (λ l. 0 < length l) (sym e) (omega arith);
        proper = All-filter (λ c. test (path_of c)) IsProper changes good.proper;
        small = All-filter (λ c. test (path_of c)) IsSmall changes good.small;
        of_tree = All-filter (λ c. test (path_of c)) (λ c. is_of_tree (path_of c) ≡ true) changes good.of_tree;
        ascending = subst (IsStrictlySortedBy (slice_cmp nat_cmp)) (sym (by_path test changes))
            (IsStrictlySortedBy-filter (slice_cmp nat_cmp) test (paths_of changes) good.ascending);
        apart = λ path other here there. good.apart path other (touched_still changes path here)
            (touched_still changes other there);
        few = omega (arith, good.few, fewer (λ c. test (path_of c)) changes);
        light = omega (arith, good.light, less (λ c. test (path_of c)) change_size changes);
        alike =
            (good.alike.0, All-filter (λ c. test (path_of c)) (λ c. is_sealed c ≡ good.alike.0) changes good.alike.1);
        own = All-filter (λ c. test (path_of c)) HasOwnDigest changes good.own;
      })
