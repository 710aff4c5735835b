-- The choice of the files beneath folders, and the paths that are selected.
use Rattle.std.proofs.Common.{◌≡◌, ◌↔◌, ◌⊎◌, inl, inr, ℕ, Bool, true, false, not, ◌&&◌, ◌||◌, cond, List, [], ◌∷◌}
use Rattle.std.proofs.Common.{Option, Some, None, filter, flat_map, refl, sym, ap, subst, ◌∙◌, arith, suc, ◌++◌, codes}
use Rattle.std.proofs.Common.{append_assoc, chars, bytes_eq}
use Rattle.std.specs.List.{Contains, list_any, All}
use Rattle.std.specs.FinMap.{keys}
use Rattle.std.specs.Cmp.Lexicographic.{nat_list_eq_equiv, slice_cmp}
use Rattle.std.proofs.lemmas.Bool.{false≢true, false_from_ne_true, or_parts, and_from, and_parts, or_cases, or_right}
use Rattle.std.proofs.lemmas.List.Elements.{All-nil, All-cons}
use Rattle.std.proofs.lemmas.Map.Views.{Contains-from_any, list_any-from_Contains}
use Rattle.std.proofs.lemmas.Slice.Eq.{bytes_eq-Decides}
use Rattle.reuse_toml.specs.declared.glob.GlobPiece.{GlobPiece}
use Rattle.reuse_toml.specs.GlobMatch.{GlobMatches, matches_glob}
use Rattle.reuse_toml.proofs.GlobTests.{match_from_test, test_from_match}
use Rattle.reuse_toml.proofs.ReadGlobLemmas.{both_parts, both_true}
use Rattle.reuse_notice.specs.Sets.{set_of}
use Rattle.reuse_notice.proofs.ClassLemmas.{In-append, In-left, In-right}
use Rattle.reuse_notice.proofs.SetLemmas.{In, In-from_contains, Contains-from_in, In-set_of, set_of-has, sorted-set_of}
use Rattle.reuse_change.specs.Path.{lies_under, folders_above}
use Rattle.reuse_change.specs.Files.{Files, AreFiles}
use Rattle.reuse_command.specs.Choice.{leaves_out, is_listed, matches_one, is_passed_over, lists_none, matches_folder}
use Rattle.reuse_plan.specs.Chosen.{IsNamed, StandsBeneath, IsListed, LeavesIn, MatchesNone, IsAskedFor}
use Rattle.reuse_command.specs.Command.{has_root, paths_among}
use Rattle.reuse_command.specs.Covered.{is_covered}
use Rattle.reuse_change.specs.Listing.{ArePaths, is_folder, is_among, is_asked, is_folder_of, is_pruned, is_wanted}
use Rattle.reuse_change.specs.Listing.{listed_paths}
use Rattle.reuse_plan.specs.Selected.{is_chosen, expanded, paths_for, selected_paths}
use Rattle.reuse_command.specs.declared.command.Place.{Place}
use Rattle.reuse_command.specs.declared.command.Place.TheVariants.{Root, Path}
use Rattle.reuse_command.specs.declared.command.Scope.{Scope}
use Rattle.reuse_plan.proofs.FoldersAbove.{above_under, under_above}
use Rattle.reuse_plan.proofs.Members.{In-filter, filter-has, any_has, any_from}
use Rattle.std.specs.Ordering.{nat_cmp}
use Rattle.std.proofs.lemmas.List.Kept.{IsStrictlySortedBy-filter}
use Rattle.reuse_change.proofs.ListingLemmas.{under_from_test, test_from_under}
use Rattle.reuse_change.proofs.NeedLemmas.{above_from, above_some}
use Rattle.reuse_store.proofs.TreeLemmas.{keys_ascend}
use Rattle.reuse_edit.specs.Annotate.{neighbour_of}
use Rattle.reuse_plan.specs.Shown.{ShowsEach, ShowsPlace, folders_for, with_neighbours}
use Rattle.reuse_edit.specs.Pair.{ShowsPair}
use Rattle.reuse_plan.specs.declared.select.Listing.TheVariants.{Listed}
use Rattle.reuse_plan.proofs.ShownLemmas.{asked_one, in_pairs, in_pairs_beside, none_kept, shows_pair}

-- ---- which paths are gone through where files are chosen

-- ---- what stands in the place of places

module _ (chooses : List ℕ → Bool) (tree : Files) (t : List ℕ) where
  abbrev Named : List Place → Type 0
  Named places = In t (paths_among places) × (is_folder tree t ≡ false)

  abbrev Beneath : List Place → Type 0
  Beneath places = In t (keys tree)
      × ((has_root places ≡ true) ⊎ ((folder : List ℕ) × In folder (paths_among places) × (lies_under t folder ≡ true)))

  abbrev Selected : List Place → Type 0
  Selected places = Named places ⊎ (Beneath places × (chooses t ≡ true))

  abbrev for_folder : List ℕ → Bool → List (List ℕ)
  for_folder path b =
      cond b (filter chooses (filter (λ other. lies_under other path) (keys tree))) (path ∷ [])

  behind_root : (places : List Place) → Selected places → Selected (Root ∷ places)
  behind_root places (inl named) = inl named
  behind_root places (inr (there, chosen)) = inr ((there.0, inl refl), chosen)

  behind_path : (path : List ℕ) (places : List Place) → Selected places → Selected (Path path ∷ places)
  behind_path path places (inl named) = inl (inr named.0, named.1)
  behind_path path places (inr (there, chosen)) =
      inr ((there.0, elim there.1 [ inl root ↦ inl root | inr found ↦ inr (found.0, inr found.1, found.2) ]), chosen)

  at_path : (path : List ℕ) (places : List Place) (b : Bool) → is_folder tree path ≡ b → In t (for_folder path b)
      → Selected (Path path ∷ places)
  at_path path places true e h =
      let f = In-filter chooses t (filter (λ other. lies_under other path) (keys tree)) h in
      let g = In-filter (λ other. lies_under other path) t (keys tree) f.0 in
      inr ((g.0, inr (path, inl refl, g.1)), f.1)
  at_path path places false e (inl is) = inl (inl is, ap (is_folder tree) is ∙ e)
  at_path path places false e (inr h) = absurd h

  pub from_expanded : (places : List Place) → In t (flat_map (expanded chooses tree) places) → Selected places
  from_expanded [] h = absurd h
  from_expanded (Root ∷ places) h =
      elim (In-append (filter chooses (keys tree)) (flat_map (expanded chooses tree) places) t h) [
        | inl k ↦ (let f = In-filter chooses t (keys tree) k in inr ((f.0, inl refl), f.1))
        | inr k ↦ behind_root places (from_expanded places k)
      ]
  from_expanded (Path path ∷ places) h =
      elim (In-append (for_folder path (is_folder tree path)) (flat_map (expanded chooses tree) places) t h) [
        | inl k ↦ at_path path places (is_folder tree path) refl k
        | inr k ↦ behind_path path places (from_expanded places k)
      ]

  named_expanded : (places : List Place) → In t (paths_among places) → is_folder tree t ≡ false
      → In t (flat_map (expanded chooses tree) places)
  named_expanded [] h e = absurd h
  named_expanded (Root ∷ places) h e = In-right (filter chooses (keys tree))
      (flat_map (expanded chooses tree) places) t (named_expanded places h e)
  named_expanded (Path path ∷ places) (inl is) e =
      In-left (for_folder path (is_folder tree path)) (flat_map (expanded chooses tree) places) t
      (subst (λ b. In t (for_folder path b)) (sym (ap (is_folder tree) (sym is) ∙ e)) (inl is))
  named_expanded (Path path ∷ places) (inr h) e =
      In-right (for_folder path (is_folder tree path)) (flat_map (expanded chooses tree) places) t
      (named_expanded places h e)

  root_expanded : (places : List Place) → has_root places ≡ true → In t (keys tree) → chooses t ≡ true
      → In t (flat_map (expanded chooses tree) places)
  root_expanded [] root there chosen = absurd (false≢true root)
  root_expanded (Root ∷ places) root there chosen =
      In-left (filter chooses (keys tree)) (flat_map (expanded chooses tree) places) t
      (filter-has chooses t (keys tree) there chosen)
  root_expanded (Path path ∷ places) root there chosen =
      In-right (for_folder path (is_folder tree path)) (flat_map (expanded chooses tree) places) t
      (root_expanded places root there chosen)

  beneath_expanded : (places : List Place) (folder : List ℕ) → In folder (paths_among places)
      → lies_under t folder ≡ true → In t (keys tree) → chooses t ≡ true
      → In t (flat_map (expanded chooses tree) places)
  beneath_expanded [] folder h under there chosen = absurd h
  beneath_expanded (Root ∷ places) folder h under there chosen =
      In-right (filter chooses (keys tree)) (flat_map (expanded chooses tree) places) t
      (beneath_expanded places folder h under there chosen)
  beneath_expanded (Path path ∷ places) folder (inl is) under there chosen =
      let under' : lies_under t path ≡ true = ap (lies_under t) (sym is) ∙ under in
      In-left (for_folder path (is_folder tree path)) (flat_map (expanded chooses tree) places) t
      (subst (λ b. In t (for_folder path b)) (sym (any_has (λ other. lies_under other path) t (keys tree) there under'))
      (filter-has chooses t (filter (λ other. lies_under other path) (keys tree))
      (filter-has (λ other. lies_under other path) t (keys tree) there under') chosen))
  beneath_expanded (Path path ∷ places) folder (inr h) under there chosen =
      In-right (for_folder path (is_folder tree path)) (flat_map (expanded chooses tree) places) t
      (beneath_expanded places folder h under there chosen)

  to_expanded : (places : List Place) → Selected places → In t (flat_map (expanded chooses tree) places)
  to_expanded places (inl named) = named_expanded places named.0 named.1
  to_expanded places (inr (there, chosen)) = elim there.1 [
    | inl root ↦ root_expanded places root there.0 chosen
    | inr found ↦ beneath_expanded places found.0 found.1 found.2 there.0 chosen
  ]

-- ---- which files are asked for

pub listed_from_test : (listed : Option (List (List ℕ))) (path : List ℕ) → is_listed listed path ≡ true
    → IsListed listed path
listed_from_test None path e = tt
listed_from_test (Some paths) path e = Contains-from_any (λ x y k. (bytes_eq-Decides x y).0 k) path paths e

pub test_from_listed : (listed : Option (List (List ℕ))) (path : List ℕ) → IsListed listed path
    → is_listed listed path ≡ true
test_from_listed None path h = refl
test_from_listed (Some paths) path h = list_any-from_Contains nat_list_eq_equiv path paths h

module _ (glob : List GlobPiece) (path : List ℕ) where
  above : List ℕ → Bool
  above folder = matches_glob glob (chars folder)

  in_from_test : leaves_out glob path ≡ false → LeavesIn glob path
  unfolding above
  in_from_test e =
      let parts = or_parts (above path) (list_any above (folders_above path)) e in (
        λ m. false≢true (sym parts.0 ∙ test_from_match glob (chars path) m),
        λ folder under m. false≢true (sym parts.1 ∙ any_has above folder (folders_above path)
            (under_above path folder under) (test_from_match glob (chars folder) m)),
      )

  test_from_in : LeavesIn glob path → leaves_out glob path ≡ false
  unfolding above
  test_from_in h = false_from_ne_true _ (λ e.
      let found = any_from above (path ∷ folders_above path) e in
      at_one found.0 found.1 (match_from_test glob (chars found.0) found.2))
    where
      at_one : (t : List ℕ) → In t (path ∷ folders_above path) → GlobMatches glob (chars t) → ⊥
      at_one t (inl is) m = h.0 (subst (λ p. GlobMatches glob (chars p)) is m)
      at_one t (inr k) m = h.1 t (above_under path t k) m

pub none_from_test : (globs : List (List GlobPiece)) (path : List ℕ) → not (matches_one globs path) ≡ true
    → MatchesNone globs path
none_from_test [] path e = All-nil (λ glob. LeavesIn glob path)
none_from_test (glob ∷ globs) path e = of_test (leaves_out glob path) refl e (none_from_test globs path)
  where
    of_test : (b : Bool) → leaves_out glob path ≡ b → not (b || matches_one globs path) ≡ true
        → (not (matches_one globs path) ≡ true → MatchesNone globs path) → MatchesNone (glob ∷ globs) path
    of_test true is h rest = absurd (false≢true h)
    of_test false is h rest = All-cons (λ g. LeavesIn g path) glob globs (in_from_test glob path is) (rest h)

pub test_from_none : (globs : List (List GlobPiece)) (path : List ℕ) → MatchesNone globs path
    → not (matches_one globs path) ≡ true
test_from_none [] path h = refl
test_from_none (glob ∷ globs) path h =
    let rest : not (matches_one globs path) ≡ true =
    test_from_none globs path (λ k d low. h (suc k) d (omega (arith, low))) in
    ap (λ b. not (b || matches_one globs path)) (test_from_in glob path (h 0 glob (omega arith))) ∙ rest

-- the command works on it, it is listed, and it is not excluded
abbrev pub IsChosen : (List ℕ → Bool) → Scope → List ℕ → Type 0
IsChosen works_on scope path =
    (works_on path ≡ true) × IsListed scope.listed path × MatchesNone scope.excluded path

module _ (works_on : List ℕ → Bool) (scope : Scope) (path : List ℕ) where
  from_chosen_test : is_chosen works_on scope path ≡ true → IsChosen works_on scope path
  from_chosen_test e =
      let parts =
      both_parts (works_on path && is_listed scope.listed path) (not (matches_one scope.excluded path)) e in
      let first = both_parts (works_on path) (is_listed scope.listed path) parts.0 in
      (first.0, listed_from_test scope.listed path first.1, none_from_test scope.excluded path parts.1)

  chosen_test_from : IsChosen works_on scope path → is_chosen works_on scope path ≡ true
  chosen_test_from h =
      both_true (works_on path && is_listed scope.listed path) (not (matches_one scope.excluded path))
      (both_true (works_on path) (is_listed scope.listed path) h.0 (test_from_listed scope.listed path h.1))
      (test_from_none scope.excluded path h.2)

-- ---- laws

-- the root, or a folder of which this holds
under_as : {Root : Type 0} {Under : List ℕ → Type 0} (Has Had : List ℕ → Type 0) → ((p : List ℕ) → Had p → Has p)
    → Root ⊎ ((p : List ℕ) × Had p × Under p) → Root ⊎ ((p : List ℕ) × Has p × Under p)
under_as Has Had turn (inl root) = inl root
under_as Has Had turn (inr under) = inr (under.0, turn under.0 under.1, under.2)

module _ (works_on : List ℕ → Bool) (scope : Scope) (places : List Place) (tree : Files) (path : List ℕ)
    (recursive : scope.recursive ≡ true) where
  selected_is : paths_for works_on scope places tree ≡ set_of (flat_map (expanded (is_chosen works_on scope) tree) places)
  selected_is = ap (λ b. set_of (cond b (flat_map (expanded (is_chosen works_on scope) tree) places) (paths_among places))) recursive

  found : Selected (is_chosen works_on scope) tree path places
      → IsNamed places tree path ⊎ (StandsBeneath places tree path × IsChosen works_on scope path)
  found (inl named) = inl (Contains-from_in (paths_among places) path named.0, named.1)
  found (inr (there, chosen)) = inr (
    (
      Contains-from_in (keys tree) path there.0,
      under_as (λ p. Contains (paths_among places) p) (λ p. In p (paths_among places))
          (λ p. Contains-from_in (paths_among places) p) there.1,
    ),
    from_chosen_test works_on scope path chosen,
  )

  selected_as : IsNamed places tree path ⊎ (StandsBeneath places tree path × IsChosen works_on scope path)
      → Selected (is_chosen works_on scope) tree path places
  selected_as (inl named) = inl (In-from_contains (paths_among places) path named.0, named.1)
  selected_as (inr (there, asked)) = inr (
    (
      In-from_contains (keys tree) path there.0,
      under_as (λ p. In p (paths_among places)) (λ p. Contains (paths_among places) p)
          (λ p. In-from_contains (paths_among places) p) there.1,
    ),
    chosen_test_from works_on scope path asked,
  )

  pub chosen_exactly : Contains (paths_for works_on scope places tree) path
      ↔ (IsNamed places tree path ⊎ (StandsBeneath places tree path × IsChosen works_on scope path))
  chosen_exactly = (
    λ h. found (from_expanded (is_chosen works_on scope) tree path places (In-set_of (flat_map (expanded (is_chosen works_on scope) tree) places) path
        (In-from_contains (set_of (flat_map (expanded (is_chosen works_on scope) tree) places)) path
        (subst (λ ps. Contains ps path) selected_is h)))),
    λ h. subst (λ ps. Contains ps path) (sym selected_is)
        (Contains-from_in (set_of (flat_map (expanded (is_chosen works_on scope) tree) places)) path
        (set_of-has (flat_map (expanded (is_chosen works_on scope) tree) places) path (to_expanded (is_chosen works_on scope) tree path places (selected_as h)))),
  )

pub selected_exactly : (scope : Scope) (places : List Place) (tree : Files) (path : List ℕ) → scope.recursive ≡ true
    → Contains (selected_paths scope places tree) path
    ↔ (IsNamed places tree path ⊎ (StandsBeneath places tree path × IsAskedFor scope path))
selected_exactly = chosen_exactly is_covered

and_true : (b : Bool) → (b && true) ≡ b
and_true true = refl
and_true false = refl

pub all_chosen : (works_on : List ℕ → Bool) (scope : Scope) (path : List ℕ) → scope.listed ≡ None
    → scope.excluded ≡ [] → is_chosen works_on scope path ≡ works_on path
all_chosen works_on scope path unlisted none =
    ap (λ globs. works_on path && is_listed scope.listed path && not (matches_one globs path)) none
    ∙ and_true (works_on path && is_listed scope.listed path)
    ∙ ap (λ listed. works_on path && is_listed listed path) unlisted
    ∙ and_true (works_on path)

-- without going through folders
module _ (works_on : List ℕ → Bool) (scope : Scope) (places : List Place) (tree : Files) where
  pub given_exactly : (path : List ℕ) → scope.recursive ≡ false
      → Contains (paths_for works_on scope places tree) path ↔ Contains (paths_among places) path
  given_exactly path alone =
      let selected : paths_for works_on scope places tree ≡ set_of (paths_among places) =
      ap (λ b. set_of (cond b (flat_map (expanded (is_chosen works_on scope) tree) places) (paths_among places))) alone in (
        λ h. Contains-from_in (paths_among places) path (In-set_of (paths_among places) path
            (In-from_contains (set_of (paths_among places)) path (subst (λ ps. Contains ps path) selected h))),
        λ h. subst (λ ps. Contains ps path) (sym selected) (Contains-from_in (set_of (paths_among places)) path
            (set_of-has (paths_among places) path (In-from_contains (paths_among places) path h))),
      )

  pub paths_ascend : ArePaths (paths_for works_on scope places tree)
  paths_ascend = sorted-set_of (cond scope.recursive (flat_map (expanded (is_chosen works_on scope) tree) places) (paths_among places))

pub selected_ascend : (scope : Scope) (places : List Place) (tree : Files)
    → ArePaths (selected_paths scope places tree)
selected_ascend = paths_ascend is_covered

-- ---- what a listing shows that passes over the folders beneath which nothing is selected

not_true : (b : Bool) → not b ≡ true → b ≡ false
not_true true e = absurd (false≢true e)
not_true false e = refl

any_weaker : {A : Type 0} (p q : A → Bool) → ((x : A) → p x ≡ true → q x ≡ true) → (xs : List A) → list_any p xs ≡ true
    → list_any q xs ≡ true
any_weaker p q all [] e = e
any_weaker {A} p q all (x ∷ xs) e = elim (or_cases (p x) (list_any p xs) e) [
  | inl here ↦ ap (λ b. b || list_any q xs) (all x here)
  | inr later ↦ ap (λ b. q x || b) (any_weaker p q all xs later) ∙ or_right (q x) true refl
]

same_path : (path : List ℕ) → bytes_eq path path ≡ true
same_path path = (bytes_eq-Decides path path).1 refl

some_under : (paths : List (List ℕ)) (path folder : List ℕ) → is_among paths path ≡ true → lies_under path folder ≡ true
    → is_folder_of paths folder ≡ true
some_under paths path folder among under =
    any_weaker (λ other. bytes_eq path other) (λ other. lies_under other folder)
    (λ other e. subst (λ p. lies_under p folder ≡ true) ((bytes_eq-Decides path other).0 e) under) paths among

-- ---- what is selected lies under no folder that is passed over

not_listed : (listed : Option (List (List ℕ))) (path folder : List ℕ) → is_listed listed path ≡ true
    → lies_under path folder ≡ true → lists_none listed folder ≡ true → ⊥
not_listed None path folder there under none = false≢true none
not_listed (Some paths) path folder there under none =
    false≢true (sym (not_true (is_folder_of paths folder) none) ∙ some_under paths path folder there under)

left_out : (globs : List (List GlobPiece)) (path folder : List ℕ) → lies_under path folder ≡ true
    → matches_folder globs folder ≡ true → matches_one globs path ≡ true
left_out globs path folder under e =
    any_weaker (λ glob. matches_glob glob (chars folder)) (λ glob. leaves_out glob path) (λ glob is.
    ap (λ b. matches_glob glob (chars path) || b)
    (above_from (λ place. matches_glob glob (chars place)) path folder under is)
    ∙ or_right (matches_glob glob (chars path)) true refl) globs e

module _ (scope : Scope) (given : List (List ℕ)) (path : List ℕ) where
  pub chosen_free : (works_on : List ℕ → Bool) → is_chosen works_on scope path ≡ true
      → is_pruned (is_passed_over scope given) path ≡ false
  chosen_free works_on chosen = false_from_ne_true (is_pruned (is_passed_over scope given) path) (λ e.
      let outer =
      and_parts (works_on path && is_listed scope.listed path) (not (matches_one scope.excluded path)) chosen in
      let inner = and_parts (works_on path) (is_listed scope.listed path) outer.0 in
      let found = above_some (is_passed_over scope given) path e in
      let parts = and_parts (lists_none scope.listed found.0 || matches_folder scope.excluded found.0)
      (not (is_folder_of given found.0)) found.2 in
      elim (or_cases (lists_none scope.listed found.0) (matches_folder scope.excluded found.0) parts.0) [
        | inl none ↦ not_listed scope.listed path found.0 inner.1 found.1 none
        | inr glob ↦ false≢true (sym (not_true (matches_one scope.excluded path) outer.1)
            ∙ left_out scope.excluded path found.0 found.1 glob)
      ])

  pub given_free : In path given → is_pruned (is_passed_over scope given) path ≡ false
  given_free h = false_from_ne_true (is_pruned (is_passed_over scope given) path) (λ e.
      let found = above_some (is_passed_over scope given) path e in
      let parts = and_parts (lists_none scope.listed found.0 || matches_folder scope.excluded found.0)
      (not (is_folder_of given found.0)) found.2 in
      false≢true (sym (not_true (is_folder_of given found.0) parts.1)
      ∙ any_has (λ other. lies_under other found.0) path given h found.1))

-- ---- what is kept of what is kept

one_kept : (outer keeps : List ℕ → Bool) → ((x : List ℕ) → outer x ≡ true → keeps x ≡ true) → (xs : List (List ℕ))
    → filter outer (filter keeps xs) ≡ filter outer xs
one_kept outer keeps all [] = refl
one_kept outer keeps all (x ∷ xs) = of_test (keeps x) refl (one_kept outer keeps all xs)
  where
    of_test : (b : Bool) → keeps x ≡ b → filter outer (filter keeps xs) ≡ filter outer xs → filter outer
        (cond b (x ∷ filter keeps xs) (filter keeps xs)) ≡ cond (outer x) (x ∷ filter outer xs) (filter outer xs)
    of_test true e more = ap (λ l. cond (outer x) (x ∷ l) l) more
    of_test false e more = more ∙ ap (λ b. cond b (x ∷ filter outer xs) (filter outer xs))
        (sym (false_from_ne_true (outer x) (λ is. false≢true (sym e ∙ all x is))))

two_kept : (outer inner keeps : List ℕ → Bool) → ((x : List ℕ) → inner x ≡ true → outer x ≡ true → keeps x ≡ true)
    → (xs : List (List ℕ)) → filter outer (filter inner (filter keeps xs)) ≡ filter outer (filter inner xs)
two_kept outer inner keeps all [] = refl
two_kept outer inner keeps all (x ∷ xs) = of_tests (keeps x) refl (inner x) refl (two_kept outer inner keeps all xs)
  where
    of_tests : (k : Bool) → keeps x ≡ k → (i : Bool) → inner x ≡ i
        → filter outer (filter inner (filter keeps xs)) ≡ filter outer (filter inner xs)
        → filter outer (filter inner (cond k (x ∷ filter keeps xs) (filter keeps xs))) ≡ filter outer
        (cond i (x ∷ filter inner xs) (filter inner xs))
    of_tests true e true f more =
        ap (λ b. filter outer (cond b (x ∷ filter inner (filter keeps xs)) (filter inner (filter keeps xs)))) f
        ∙ ap (λ l. cond (outer x) (x ∷ l) l) more
    of_tests true e false f more =
        ap (λ b. filter outer (cond b (x ∷ filter inner (filter keeps xs)) (filter inner (filter keeps xs)))) f ∙ more
    of_tests false e true f more =
        more ∙ ap (λ b. cond b (x ∷ filter outer (filter inner xs)) (filter outer (filter inner xs)))
        (sym (false_from_ne_true (outer x) (λ is. false≢true (sym e ∙ all x f is))))
    of_tests false e false f more = more

-- ---- the listing for some places

all_of_in : (P : List ℕ → Type 0) (xs : List (List ℕ)) → ((t : List ℕ) → In t xs → P t) → All P xs
all_of_in P [] each = All-nil P
all_of_in P (x ∷ xs) each = All-cons P x xs (each x (inl refl)) (all_of_in P xs (λ t h. each t (inr h)))

module _ (works_on : List ℕ → Bool) (scope : Scope) (places : List Place) (tree : Files) where
  abbrev pub given : List (List ℕ)
  given = set_of (paths_among places)

  abbrev pub folders : List (List ℕ)
  folders = folders_for places given

  abbrev pub wanted : List ℕ → Bool
  wanted = is_wanted folders (is_passed_over scope given)

  abbrev pub listed : List (List ℕ)
  listed = listed_paths tree folders (is_passed_over scope given)

  in_given : (path : List ℕ) → In path (paths_among places) → In path given
  in_given path h = set_of-has (paths_among places) path h

  asked_root : (path : List ℕ) → has_root places ≡ true → is_asked folders path ≡ true
  asked_root path root = subst (λ b. is_asked (cond b [] (with_neighbours given)) path ≡ true) (sym root) refl

  asked_at : (path place : List ℕ) → In place (with_neighbours given)
      → (bytes_eq path place || lies_under path place) ≡ true → is_asked folders path ≡ true
  asked_at path place h e = of_root (has_root places) refl
    where
      of_root : (b : Bool) → has_root places ≡ b → is_asked (cond b [] (with_neighbours given)) path ≡ true
      of_root true root = refl
      of_root false root = asked_one (with_neighbours given) place path h e

  asked_itself : (path : List ℕ) → In path (with_neighbours given) → is_asked folders path ≡ true
  asked_itself path h = asked_at path path h (ap (λ b. b || lies_under path path) (same_path path))

  asked_under : (path folder : List ℕ) → In folder (paths_among places) → lies_under path folder ≡ true
      → is_asked folders path ≡ true
  asked_under path folder h e = asked_at path folder (in_pairs given folder (in_given folder h))
      (ap (λ b. bytes_eq path folder || b) e ∙ or_right (bytes_eq path folder) true refl)

  chosen_wanted : (path : List ℕ) → is_asked folders path ≡ true → is_chosen works_on scope path ≡ true
      → wanted path ≡ true
  chosen_wanted path asked chosen = and_from _ _ asked (ap not (chosen_free scope given path works_on chosen))

  shows_places : (left : List Place) → ((path : List ℕ) → In path (paths_among left) → In path (paths_among places))
      → (has_root left ≡ true → has_root places ≡ true) → All (ShowsPlace (is_chosen works_on scope) listed tree) left
  shows_places [] within root = All-nil (ShowsPlace (is_chosen works_on scope) listed tree)
  shows_places (Root ∷ left) within root =
      All-cons (ShowsPlace (is_chosen works_on scope) listed tree) Root left
      (one_kept (is_chosen works_on scope) wanted
      (λ path chosen. chosen_wanted path (asked_root path (root refl)) chosen) (keys tree))
      (shows_places left within (λ e. root refl))
  shows_places (Path place ∷ left) within root =
      All-cons (ShowsPlace (is_chosen works_on scope) listed tree) (Path place) left
      (record {
        chosen = two_kept (is_chosen works_on scope) (λ other. lies_under other place) wanted (λ path under chosen.
            chosen_wanted path (asked_under path place (within place (inl refl)) under) chosen) (keys tree);
        some = λ some. true_or (is_folder tree place) refl some;
      })
      (shows_places left (λ path h. within path (inr h)) root)
    where
      true_or : (b : Bool) → is_folder tree place ≡ b → is_folder_of listed place ≡ true → is_folder tree place ≡ true
      true_or true e some = e
      true_or false e some =
          absurd (false≢true (sym (none_kept (λ other. lies_under other place) wanted (keys tree) e) ∙ some))

  pub shows_each_place : All (ShowsPlace (is_chosen works_on scope) listed tree) places
  shows_each_place = shows_places places (λ path h. h) (λ e. e)

  pub listed_ascend : ArePaths listed
  listed_ascend = IsStrictlySortedBy-filter (slice_cmp nat_cmp) wanted (keys tree) (keys_ascend tree)

  beside_under : (path folder : List ℕ) → lies_under path folder ≡ true → lies_under (neighbour_of path) folder ≡ true
  beside_under path folder under =
      let x = under_from_test path folder under in
      test_from_under (neighbour_of path) folder
      (x.0 ++ codes ".license", ap (λ p. p ++ codes ".license") x.1 ∙ append_assoc folder (47 ∷ x.0) (codes ".license"))

  shows_one : AreFiles tree → (t : List ℕ) → In t (flat_map (expanded (is_chosen works_on scope) tree) places)
      → ShowsPair listed tree t
  shows_one are t h = elim (from_expanded (is_chosen works_on scope) tree t places h) [
    | inl named ↦ (
        let here = in_given t named.0 in
        shows_pair tree are folders (is_passed_over scope given) t (asked_itself t (in_pairs given t here))
        (λ fits. asked_itself (neighbour_of t) (in_pairs_beside given t here fits)) (given_free scope given t here)
        (λ absent. none_kept (λ other. lies_under other t) wanted (keys tree) named.1 ∙ sym named.1))
    | inr beneath ↦ (
        let free = chosen_free scope given t works_on beneath.1 in
        let there : is_among (keys tree) t ≡ true =
        any_has (λ other. bytes_eq t other) t (keys tree) beneath.0.0 (same_path t) in
        elim beneath.0.1 [
          | inl root ↦ shows_pair tree are folders (is_passed_over scope given) t (asked_root t root)
              (λ fits. asked_root (neighbour_of t) root) free (λ absent. absurd (false≢true (sym absent ∙ there)))
          | inr found ↦
              shows_pair tree are folders (is_passed_over scope given) t (asked_under t found.0 found.1 found.2)
              (λ fits. asked_under (neighbour_of t) found.0 found.1 (beside_under t found.0 found.2)) free
              (λ absent. absurd (false≢true (sym absent ∙ there)))
        ])
  ]

  pub shows_selected : AreFiles tree
      → ShowsEach (Listed listed) tree (set_of (flat_map (expanded (is_chosen works_on scope) tree) places))
  shows_selected are = record {
    each = all_of_in (ShowsPair listed tree) (set_of (flat_map (expanded (is_chosen works_on scope) tree) places))
        (λ t h. shows_one are t (In-set_of (flat_map (expanded (is_chosen works_on scope) tree) places) t h));
  }
