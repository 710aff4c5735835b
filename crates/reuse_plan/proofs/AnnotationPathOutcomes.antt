-- What an annotation gives on a whole tree, and path by path.
use Rattle.std.proofs.Common.{◌≡◌, inl, inr, ℕ, not, ◌&&◌, List, Option, Some, Result, Ok, Err, refl, sym, ap₂, subst}
use Rattle.std.proofs.Common.{◌∙◌, ◌↔◌, Bool, true, false, cond, [], ◌∷◌, None, ap, ◌⊎◌, nat_lt, length, zero, suc, map}
use Rattle.std.proofs.Common.{◌++◌, is_some, arith, Contains}
use Rattle.reuse_command.specs.declared.command.HeaderAdditions.{HeaderAdditions}
use Rattle.reuse_notice.proofs.SetLemmas.{In, In-from_contains, Contains-from_in}
use Rattle.reuse_header.specs.declared.annotation.How.{How}
use Rattle.reuse_command.specs.Reading.{get, Files}
use Rattle.reuse_edit.specs.Annotate.{neighbour_of, annotated_at, neighbour_is_tagged, goes_to_neighbour, target_of}
use Rattle.reuse_edit.specs.Annotate.{edit_neighbour, edit_target, annotated_where}
use Rattle.reuse_plan.specs.Annotated.{pair_at, IsAnnotated, Annotates, IsSkipped, IsSkippedAt}
use Rattle.reuse_command.specs.Command.{has_root}
use Rattle.reuse_change.specs.Listing.{ArePaths, is_folder}
use Rattle.reuse_edit.specs.Edit.{file_then, Edit}
use Rattle.reuse_plan.specs.Outcome.{edited, outcome_of, edits_of, is_too_many, annotations_by}
use Rattle.reuse_edit.specs.AtPath.{annotation_at}
use Rattle.reuse_plan.specs.TreeStyles.{styles_in}
use Rattle.reuse_style.specs.Kinds.{OwnKinds}
use Rattle.reuse_plan.specs.Selected.{selected_paths}
use Rattle.reuse_command.specs.declared.command.Command.TheVariants.{Annotate}
use Rattle.reuse_command.specs.declared.command.Place.{Place}
use Rattle.reuse_command.specs.declared.command.Place.TheVariants as place
use Rattle.reuse_command.specs.declared.command.Scope.{Scope}
use Rattle.reuse_command.specs.declared.reply.Refusal.{Refusal}
use Rattle.reuse_command.specs.declared.reply.Refusal.TheVariants as refusals
use Rattle.reuse_plan.proofs.AnnotatedFiles.{ReplacesBlock, InsertsBlock, ReplacesNeighbour, InsertsNeighbour}
use Rattle.reuse_plan.proofs.AnnotatedFiles.{annotated_there, pair, Takes, takes}
use Rattle.reuse_plan.proofs.Annotating.{if_not}
use Rattle.reuse_edit.proofs.Results.{both_err, err_or, same_Ok}
use Rattle.reuse_plan.proofs.Choosing.{selected_ascend}
use Rattle.reuse_plan.proofs.Fitting.{is_placed}
use Rattle.reuse_plan.proofs.PlacedEdits as placed_edits
use Rattle.reuse_plan.proofs.PlacedEdits.{IsPlaceOf, HoldsDone}
use Rattle.reuse_edit.proofs.TableLemmas.{IsWorkable}
use Rattle.reuse_plan.proofs.Outcomes.{edits_of_tree, held, tree_comes}
use Rattle.reuse_edit.proofs.EditResults.{done}
use Rattle.reuse_plan.proofs.CommandEdits.{edits_at, edits_by_names, of_annotation, annotation_edits}
use Rattle.std.proofs.lemmas.Bool.{false≢true, and_parts, and_right}
use Rattle.reuse_plan.specs.Accepted.{CanAnnotate, FitsEntry}
use Rattle.reuse_plan.proofs.AcceptedFiles.{IsDone, accepted_is_done, done_is_accepted}
use Rattle.reuse_edit.specs.PathEdits.{or_first, refused_alone}
use Rattle.std.proofs.lemmas.List.Elements.{Contains-append_cases, Contains-append_left}
use Rattle.std.proofs.lemmas.Option.{same_Some, none-some}
use Rattle.reuse_style.specs.declared.style.Style.{Style}
use Rattle.reuse_header.specs.Header.{header_of}
use Rattle.reuse_text.specs.declared.TheConstants.{LONGEST_FILE}
use Rattle.reuse_command.specs.Covered.{is_covered}
use Rattle.reuse_header.specs.declared.harm.Harm.{Harm}
use Rattle.reuse_edit.specs.Harmed.{harm_in}
use Rattle.reuse_plan.specs.PathOutcomes.{path_outcome_by, path_outcome_of, limit_path_outcomes, path_outcomes_of}
use Rattle.reuse_plan.specs.PathOutcomes.{left_paths}
use Rattle.reuse_command.specs.declared.path_outcome.PathOutcome.{PathOutcome}
use Rattle.reuse_command.specs.declared.path_outcome.PathOutcome.TheVariants as path_outcome
use Rattle.reuse_edit.specs.declared.target.Target.{Target}
use Rattle.reuse_edit.specs.declared.target.Target.TheVariants.{Inside, InNeighbour, Nowhere}
use Rattle.reuse_plan.proofs.OneAnnotation.{comment_not_skipped, beside_not_skipped}
use Rattle.reuse_edit.specs.Skipped.{has_tagged, is_skipped_at, is_skipped_where, is_skipped}

-- ---- where an annotate isn't refused, each file that is gone through is annotated, and all else stays

module _ (replaces : ReplacesBlock) (inserts : InsertsBlock) (replaces_beside : ReplacesNeighbour)
    (inserts_beside : InsertsNeighbour)
    (additions : HeaderAdditions) (how : How) (scope : Scope) (own : OwnKinds) (tree : Files) where
  abbrev pub at : List ℕ → Result (Option Edit) Refusal
  at = annotated_at how scope additions own tree

  pub placed : (path : List ℕ) (edit : Edit) → at path ≡ Ok (Some edit) → IsPlaceOf path edit.path × IsWorkable path
  placed path edit h = let is = is_placed how scope additions tree path edit own h in
      (elim is.placed [ inl here ↦ inl here | inr beside ↦ inr beside.0 ], is.workable)

  pub workable_of : (path : List ℕ) (given : Option Edit) → at path ≡ Ok given → IsWorkable path
  workable_of path given h = inl (annotated_there replaces inserts replaces_beside inserts_beside additions how scope
      own tree path given h).covered

  -- what is done at each of the paths
  pub each_done : (paths : List (List ℕ)) (edits : List Edit) → edits_at at paths ≡ Ok edits → (path : List ℕ)
      → In path paths → (given : Option Edit) × (at path ≡ Ok given)
  each_done = placed_edits.each_done at tree placed workable_of

  -- what a path holds that is gone through, and its neighbour
  pub all_done : (paths : List (List ℕ)) (edits : List Edit) → edits_at at paths ≡ Ok edits → ArePaths paths
      → (path : List ℕ) → In path paths → HoldsDone at tree placed workable_of edits path
  all_done = placed_edits.all_done at tree placed workable_of

  annotated_tree : (places : List Place) (edits : List Edit) → styles_in tree ≡ Ok own
      → edits_at at (selected_paths scope places tree) ≡ Ok edits
      → Annotates places additions how scope tree (edited tree edits)
  annotated_tree places edits styles h = record {
    own = own;
    styles = styles;
    selected = λ path there.
        let is = all_done (selected_paths scope places tree) edits h (selected_ascend scope places tree) path
        (In-from_contains (selected_paths scope places tree) path there) in
        subst (IsAnnotated additions how scope own path (pair_at tree path))
        (sym (ap₂ pair (is.2 path (inl refl)) (is.2 (neighbour_of path) (inr refl))))
        (annotated_there replaces inserts replaces_beside inserts_beside additions how scope own tree path is.0 is.1);
    others = λ other none. placed_edits.outside at tree placed workable_of
        (selected_paths scope places tree) edits h other (λ path there.
        let apart = none path (Contains-from_in (selected_paths scope places tree) path there) in
        λ place. elim place [ inl here ↦ apart.0 here | inr beside ↦ apart.1 beside ]);
  }

module _ (replaces : ReplacesBlock) (inserts : InsertsBlock) (replaces_beside : ReplacesNeighbour)
    (inserts_beside : InsertsNeighbour)
    (places : List Place) (additions : HeaderAdditions) (how : How) (scope : Scope) (tree : Files) where
  by_names : (edits : List Edit) (styles : Result OwnKinds Refusal) → styles_in tree ≡ styles
      → edits_by_names places additions how scope tree styles ≡ Ok edits
      → Annotates places additions how scope tree (edited tree edits)
  by_names edits (Err refusal) is h = absurd (cc)
  by_names edits (Ok own) is h =
      annotated_tree replaces inserts replaces_beside inserts_beside additions how scope own tree places edits is
      (if_not (not scope.recursive && has_root places) (refusals.IsFolder place.Root)
      (edits_at (annotated_at how scope additions own tree) (selected_paths scope places tree)) edits h)

  pub annotates : (after : Files) → outcome_of (Annotate places additions how scope) tree ≡ Ok after
      → Annotates places additions how scope tree after
  unfolding outcome_of
  annotates after h =
      let given = edits_of_tree tree after (edits_of (Annotate places additions how scope) tree) h in
      subst (Annotates places additions how scope tree) given.2
      (by_names given.0 (styles_in tree) refl (sym (of_annotation places additions how scope tree) ∙ given.1))

-- ---- where annotate is accepted on a tree

-- where each is done they are done together
pub all_at : (at : List ℕ → Result (Option Edit) Refusal) (paths : List (List ℕ))
    → ((path : List ℕ) → In path paths → IsDone (at path)) → (edits : List Edit) × (edits_at at paths ≡ Ok edits)
all_at at [] each = ([], refl)
all_at at (path ∷ paths) each =
    let first = each path (inl refl) in
    let rest = all_at at paths (λ other there. each other (inr there)) in
    let both = joined first.0 rest.0 in
    (both.0, ap₂ or_first first.1 rest.1 ∙ both.1)
  where
    joined : (given : Option Edit) (edits : List Edit) → (all : List Edit) × (or_first (Ok given) (Ok edits) ≡ Ok all)
    joined None edits = (edits, refl)
    joined (Some edit) edits = (edit ∷ edits, refl)

-- the root is given only where folders are gone through
pub root_from_test : (recursive root : Bool) → (not recursive && root) ≡ false → root ≡ true → recursive ≡ true
root_from_test true root e given = refl
root_from_test false root e given = absurd (false≢true (sym e ∙ given))

pub test_from_root : (recursive root : Bool) → (root ≡ true → recursive ≡ true) → (not recursive && root) ≡ false
test_from_root true root through = refl
test_from_root false false through = refl
test_from_root false true through = absurd (false≢true (through refl))

module _ (places : List Place) (additions : HeaderAdditions) (how : How) (scope : Scope) (tree : Files) where
  abbrev edits_named : Result OwnKinds Refusal → Result (List Edit) Refusal
  edits_named styles = edits_by_names places additions how scope tree styles

  accepts : ReplacesBlock → InsertsBlock → ReplacesNeighbour → InsertsNeighbour
      → (edits : List Edit) (styles : Result OwnKinds Refusal) → styles_in tree ≡ styles → edits_named styles ≡ Ok edits
      → FitsEntry (Annotate places additions how scope) tree
      → CanAnnotate places additions how scope tree
  accepts replaces inserts replaces_beside inserts_beside edits (Err refusal) is h fits = absurd (cc)
  accepts replaces inserts replaces_beside inserts_beside edits (Ok own) is h fits =
      let at = annotated_at how scope additions own tree in
      let paths = selected_paths scope places tree in
      let parts =
      err_or (not scope.recursive && has_root places) (refusals.IsFolder place.Root) (edits_at at paths) edits h in
      record {
        own = own;
        styles = is;
        root = root_from_test scope.recursive (has_root places) parts.0;
        each = λ path there.
            done_is_accepted additions how scope own tree path replaces inserts replaces_beside inserts_beside
            (each_done replaces inserts replaces_beside inserts_beside additions how scope own tree paths edits parts.1
            path (In-from_contains paths path there));
        fits = fits;
      }

  comes : CanAnnotate places additions how scope tree
      → (edits : List Edit) × (annotation_edits places additions how scope tree ≡ Ok edits)
  comes can =
      let at = annotated_at how scope additions can.own tree in
      let paths = selected_paths scope places tree in
      let all = all_at at paths (λ path there. accepted_is_done additions how scope can.own tree path
      (can.each path (Contains-from_in paths path there))) in (
        all.0,
        ap edits_named can.styles ∙ ap (λ b. cond b (Err (refusals.IsFolder place.Root)) (edits_at at paths))
            (test_from_root scope.recursive (has_root places) can.root) ∙ all.1,
      )

  pub annotation_accepted : ReplacesBlock → InsertsBlock → ReplacesNeighbour → InsertsNeighbour
      → ((after : Files) × (outcome_of (Annotate places additions how scope) tree ≡ Ok after))
      ↔ CanAnnotate places additions how scope tree
  unfolding outcome_of
  annotation_accepted replaces inserts replaces_beside inserts_beside = (
    λ given.
        let of_tree = edits_of_tree tree given.0 (edits_of (Annotate places additions how scope) tree) given.1 in
        accepts replaces inserts replaces_beside inserts_beside of_tree.0 (styles_in tree) refl
        (sym (of_annotation places additions how scope tree) ∙ of_tree.1)
        (held tree given.0 (edits_of (Annotate places additions how scope) tree) given.1),
    λ can. let edits = comes can in tree_comes tree (edits_of (Annotate places additions how scope) tree) edits.0
        (of_annotation places additions how scope tree ∙ edits.1) can.fits,
  )

-- ---- the path outcomes of an annotation: which files are skipped, and what stays

-- ---- one path

-- where this is done at the path, the test reports whether its file is skipped, and nothing is done where it is
abbrev Reports : Option Edit → Type 0 → Bool → Type 0
Reports given P true = P × (given ≡ None)
Reports given P false = P → ⊥

module _ (how : How) (scope : Scope) (additions : HeaderAdditions) (own : OwnKinds) (tree : Files) (path bytes : List ℕ)
    (given : Option Edit) where
  abbrev ReportsOf : Bool → Type 0
  ReportsOf = Reports given (IsSkipped scope own path bytes (pair_at tree path))

  inside : (style : Style) → Takes scope own tree path bytes (Inside style)
      → (rest : Result (Option Edit) Refusal) (b : Bool) → (scope.skip_existing && is_some (header_of style bytes)) ≡ b
      → cond b (done None) rest ≡ Ok given → ReportsOf b
  inside style reason rest true e h = let tests = and_parts scope.skip_existing (is_some (header_of style bytes)) e in
      (inr (tests.0, inl (style, reason, tests.1)), sym (same_Ok None given h))
  inside style reason rest false e h = comment_not_skipped scope own path bytes (pair_at tree path) style reason e

  tagged : (there : List ℕ) → get tree (neighbour_of path) ≡ Some there → Takes scope own tree path bytes InNeighbour
      → (rest : Result (Option Edit) Refusal) (b : Bool) → (scope.skip_existing && neighbour_is_tagged there) ≡ b
      → cond b (done None) rest ≡ Ok given → ReportsOf b
  tagged there is reason rest true e h = let tests = and_parts scope.skip_existing (neighbour_is_tagged there) e in
      (inr (tests.0, inr (there, is, tests.1)), sym (same_Ok None given h))
  tagged there is reason rest false e h =
      beside_not_skipped scope own path bytes (pair_at tree path) reason
      (λ other is_other. ap (λ f. scope.skip_existing && has_tagged f) (sym is_other ∙ is) ∙ e)

  beside : (file : Option (List ℕ)) → get tree (neighbour_of path) ≡ file → Takes scope own tree path bytes InNeighbour
      → edit_neighbour how scope additions tree path file ≡ Ok given
      → ReportsOf (scope.skip_existing && has_tagged file)
  beside None is reason h =
      subst ReportsOf (sym (and_right scope.skip_existing false refl)) (beside_not_skipped scope own path bytes
      (pair_at tree path) reason (λ other there. absurd (none-some other (sym is ∙ there))))
  beside (Some there) is reason h =
      tagged there is reason _ (scope.skip_existing && neighbour_is_tagged there) refl
      (if_not (nat_lt LONGEST_FILE (length there)) (refusals.TooLong path) _ given h)

  by_aim : (aim : Result Target Refusal)
      → ((target : Target) → aim ≡ Ok target → Takes scope own tree path bytes target)
      → edit_target how scope additions tree path bytes aim ≡ Ok given
      → ReportsOf (is_skipped_at scope tree path bytes aim)
  by_aim (Err refusal) reason h = absurd (cc)
  by_aim (Ok (Inside style)) reason h =
      inside style (reason (Inside style) refl) _ (scope.skip_existing && is_some (header_of style bytes)) refl h
  by_aim (Ok InNeighbour) reason h =
      beside (get tree (neighbour_of path)) refl (reason InNeighbour refl)
      (if_not (nat_lt 4096 (length (neighbour_of path))) (refusals.TooLong path)
      (edit_neighbour how scope additions tree path (get tree (neighbour_of path))) given h)
  by_aim (Ok Nowhere) reason h = (inl (reason Nowhere refl), sym (same_Ok None given h))

module _ (how : How) (scope : Scope) (additions : HeaderAdditions) (own : OwnKinds) (tree : Files) (path : List ℕ) where
  reported_of : (given : Option Edit) → annotated_at how scope additions own tree path ≡ Ok given
      → (bytes : List ℕ) × (get tree path ≡ Some bytes)
      × Reports given (IsSkipped scope own path bytes (pair_at tree path)) (is_skipped scope own tree path)
  reported_of given h = of_file (get tree path) refl h
    where
      of_file : (file : Option (List ℕ)) → get tree path ≡ file
          → annotated_where how scope additions own tree path file ≡ Ok given
          → (bytes : List ℕ) × (get tree path ≡ Some bytes)
          × Reports given (IsSkipped scope own path bytes (pair_at tree path)) (is_skipped scope own tree path)
      of_file None is k = absurd
          (both_err (is_folder tree path) (refusals.IsFolder (place.Path path)) (refusals.NoSuchPath path) given k)
      of_file (Some bytes) is k = (
        bytes,
        is,
        subst (λ file. Reports given (IsSkipped scope own path bytes (pair_at tree path))
            (is_skipped_where scope own tree path file)) (sym is)
            (by_aim how scope additions own tree path bytes given (target_of scope own tree path bytes)
            (takes scope own tree path bytes (goes_to_neighbour scope own tree path) refl)
            (if_not (not (is_covered path)) (refusals.NotCovered path)
            (edit_target how scope additions tree path bytes (target_of scope own tree path bytes)) given k)),
      )

  -- where nothing is done and that is reported as skipping, the file is skipped
  skips : annotated_at how scope additions own tree path ≡ Ok None → is_skipped scope own tree path ≡ true
      → IsSkippedAt scope own tree path
  skips h e =
      let reported = reported_of None h in (
        reported.0,
        reported.1,
        (subst (Reports None (IsSkipped scope own path reported.0 (pair_at tree path))) e reported.2).0,
      )

  -- a file that is skipped is reported so
  is_reported : (given : Option Edit) → annotated_at how scope additions own tree path ≡ Ok given
      → IsSkippedAt scope own tree path
      → path_outcome_of (annotation_at how scope additions own tree path) ≡ path_outcome.Skipped path
  is_reported given h skipped =
      let reported = reported_of given h in
      let is : IsSkipped scope own path reported.0 (pair_at tree path) =
      subst (λ bs. IsSkipped scope own path bs (pair_at tree path))
      (same_Some skipped.0 reported.0 (sym skipped.1 ∙ reported.1)) skipped.2 in
      let by = of_test (is_skipped scope own tree path) reported.2 is in
      let harm = harm_in scope own tree path in
      ap (λ b. path_outcome_by path b harm (annotated_at how scope additions own tree path)) by.0
      ∙ ap (path_outcome_by path true harm) (h ∙ ap done by.1)
    where
      of_test : {P : Type 0} (b : Bool) → Reports given P b → P → (b ≡ true) × (given ≡ None)
      of_test true states p = (refl, states.1)
      of_test false states p = absurd (states p)

-- ---- one path outcome

reported_skipped : (p path : List ℕ) (b : Bool) (harm : Option Harm) (r : Result (Option Edit) Refusal)
    → path_outcome_by p b harm r ≡ path_outcome.Skipped path → (p ≡ path) × (b ≡ true) × (r ≡ Ok None)
reported_skipped p path b harm (Err refusal) e = absurd (cc)
reported_skipped p path b harm (Ok (Some edit)) e = absurd (cc)
reported_skipped p path true harm (Ok None) e = (cc, refl, refl)
reported_skipped p path false harm (Ok None) e = absurd (cc)

reported_unchanged : (p path : List ℕ) (b : Bool) (harm : Option Harm) (r : Result (Option Edit) Refusal)
    → path_outcome_by p b harm r ≡ path_outcome.Unchanged path → (p ≡ path) × (r ≡ Ok None)
reported_unchanged p path b harm (Err refusal) e = absurd (cc)
reported_unchanged p path b harm (Ok (Some edit)) e = absurd (cc)
reported_unchanged p path true harm (Ok None) e = absurd (cc)
reported_unchanged p path false harm (Ok None) e = (cc, refl)

-- ---- the path outcomes of all paths

none_in : (reported : PathOutcome) → Contains [] reported → ⊥
none_in reported c = omega (arith, c.1)

in_one : (first reported : PathOutcome) → Contains (first ∷ []) reported → first ≡ reported
in_one first reported (zero, low, is) = is
in_one first reported (suc k, low, is) = absurd (omega (arith, low))

from_map : (report : List ℕ → PathOutcome) (paths : List (List ℕ)) (reported : PathOutcome)
    → Contains (map report paths) reported → (p : List ℕ) × In p paths × (report p ≡ reported)
from_map report [] reported c = absurd (none_in reported c)
from_map report (p ∷ paths) reported (zero, low, is) = (p, inl refl, is)
from_map report (p ∷ paths) reported (suc k, low, is) =
    let rest = from_map report paths reported (k, omega arith, is) in (rest.0, inr rest.1, rest.2)

to_map : (report : List ℕ → PathOutcome) (paths : List (List ℕ)) (p : List ℕ) → In p paths
    → Contains (map report paths) (report p)
to_map report [] p there = absurd there
to_map report (first ∷ paths) p (inl same) = (zero, omega arith, ap report (sym same))
to_map report (first ∷ paths) p (inr later) = let c = to_map report paths p later in (suc c.0, omega (arith, c.1), c.2)

-- the path outcome reports no refusal, nor that its path is left
abbrev ReportsNone : PathOutcome → Type 0
ReportsNone reported = ((refusal : Refusal) → path_outcome.Refused refusal ≡ reported → ⊥)
    × ((path : List ℕ) → path_outcome.Left path ≡ reported → ⊥)

no_left : (paths : List (List ℕ)) (reported : PathOutcome) → ReportsNone reported
    → Contains (map path_outcome.Left paths) reported → ⊥
no_left paths reported none c = let found = from_map path_outcome.Left paths reported c in none.1 found.0 found.2

no_limit : (given : Result (List Edit) Refusal) (reported : PathOutcome) → ReportsNone reported
    → Contains (limit_path_outcomes given) reported → ⊥
no_limit (Err refusal) reported none c = none_in reported c
no_limit (Ok edits) reported none c = by_size (is_too_many edits) c
  where
    by_size : (b : Bool) → Contains (cond b (path_outcome.Refused refusals.TooMany ∷ []) []) reported → ⊥
    by_size true c = none.0 refusals.TooMany (in_one (path_outcome.Refused refusals.TooMany) reported c)
    by_size false c = none_in reported c

module _ (places : List Place) (additions : HeaderAdditions) (how : How) (scope : Scope) (own : OwnKinds) (tree : Files)
    (styles : styles_in tree ≡ Ok own) where
  abbrev report : List ℕ → PathOutcome
  report path = path_outcome_of (annotation_at how scope additions own tree path)

  path_outcomes_of_map : (paths : List (List ℕ))
      → map path_outcome_of (map (annotation_at how scope additions own tree) paths) ≡ map report paths
  path_outcomes_of_map [] = refl
  path_outcomes_of_map (path ∷ paths) = ap (λ fs. report path ∷ fs) (path_outcomes_of_map paths)

  path_outcomes_are : map path_outcome_of (annotations_by places additions how scope tree (styles_in tree))
      ≡ cond (not scope.recursive && has_root places) (path_outcome.Refused (refusals.IsFolder place.Root) ∷ [])
      (map report (selected_paths scope places tree))
  path_outcomes_are = ap (λ given. map path_outcome_of (annotations_by places additions how scope tree given)) styles
      ∙ by_root (not scope.recursive && has_root places)
    where
      by_root : (b : Bool) → map path_outcome_of (cond b (refused_alone (refusals.IsFolder place.Root))
          (map (annotation_at how scope additions own tree) (selected_paths scope places tree)))
          ≡ cond b (path_outcome.Refused (refusals.IsFolder place.Root) ∷ [])
          (map report (selected_paths scope places tree))
      by_root true = refl
      by_root false = path_outcomes_of_map (selected_paths scope places tree)

  abbrev limit : List PathOutcome
  limit = limit_path_outcomes (edits_of (Annotate places additions how scope) tree)

  abbrev of_paths : List PathOutcome
  of_paths = map path_outcome_of (annotations_by places additions how scope tree (styles_in tree))

  abbrev left : List PathOutcome
  left = map path_outcome.Left (left_paths (Annotate places additions how scope) tree)

  reported_at : (reported : PathOutcome) → ReportsNone reported
      → Contains (path_outcomes_of (Annotate places additions how scope) tree) reported
      → (p : List ℕ) × In p (selected_paths scope places tree) × (report p ≡ reported)
  unfolding path_outcomes_of
  reported_at reported none c =
      elim (Contains-append_cases (of_paths ++ limit) left reported c) [
        | inl front ↦ elim (Contains-append_cases of_paths limit reported front) [
          | inl here ↦ by_root (not scope.recursive && has_root places)
              (subst (λ fs. Contains fs reported) path_outcomes_are here)
          | inr over ↦ absurd (no_limit (edits_of (Annotate places additions how scope) tree) reported none over)
        ]
        | inr over ↦ absurd (no_left (left_paths (Annotate places additions how scope) tree) reported none over)
      ]
    where
      by_root : (b : Bool) → Contains (cond b (path_outcome.Refused (refusals.IsFolder place.Root) ∷ [])
          (map report (selected_paths scope places tree))) reported
          → (p : List ℕ) × In p (selected_paths scope places tree) × (report p ≡ reported)
      by_root true h = absurd (none.0 (refusals.IsFolder place.Root)
          (in_one (path_outcome.Refused (refusals.IsFolder place.Root)) reported h))
      by_root false h = from_map report (selected_paths scope places tree) reported h

  pub skipped_reported : (path : List ℕ) → Contains (path_outcomes_of (Annotate places additions how scope) tree)
      (path_outcome.Skipped path) → Contains (selected_paths scope places tree) path × IsSkippedAt scope own tree path
  skipped_reported path c =
      let found = reported_at (path_outcome.Skipped path) (λ refusal e. cc, λ other e. cc) c in
      let parts = reported_skipped found.0 path (is_skipped scope own tree found.0)
      (harm_in scope own tree found.0) (annotated_at how scope additions own tree found.0) found.2 in
      subst (λ p. Contains (selected_paths scope places tree) p × IsSkippedAt scope own tree p) parts.0 (
        Contains-from_in (selected_paths scope places tree) found.0 found.1,
        skips how scope additions own tree found.0 parts.2 parts.1,
      )

  left_reported : (path : List ℕ)
      → Contains (path_outcomes_of (Annotate places additions how scope) tree) (path_outcome.Unchanged path)
      ⊎ Contains (path_outcomes_of (Annotate places additions how scope) tree) (path_outcome.Skipped path)
      → In path (selected_paths scope places tree) × (annotated_at how scope additions own tree path ≡ Ok None)
  left_reported path (inl c) =
      let found = reported_at (path_outcome.Unchanged path) (λ refusal e. cc, λ other e. cc) c in
      let parts = reported_unchanged found.0 path (is_skipped scope own tree found.0)
      (harm_in scope own tree found.0) (annotated_at how scope additions own tree found.0) found.2 in
      subst (λ p. In p (selected_paths scope places tree) × (annotated_at how scope additions own tree p ≡ Ok None))
      parts.0 (found.1, parts.1)
  left_reported path (inr c) =
      let found = reported_at (path_outcome.Skipped path) (λ refusal e. cc, λ other e. cc) c in
      let parts = reported_skipped found.0 path (is_skipped scope own tree found.0)
      (harm_in scope own tree found.0) (annotated_at how scope additions own tree found.0) found.2 in
      subst (λ p. In p (selected_paths scope places tree) × (annotated_at how scope additions own tree p ≡ Ok None))
      parts.0 (found.1, parts.2)

  -- where nothing is refused: the edits, and no refusal for the root
  edits_are : (after : Files) → outcome_of (Annotate places additions how scope) tree ≡ Ok after
      → (edits : List Edit)
      × (edits_at (annotated_at how scope additions own tree) (selected_paths scope places tree) ≡ Ok edits)
      × (edited tree edits ≡ after) × ((not scope.recursive && has_root places) ≡ false)
  unfolding outcome_of
  edits_are after h =
      let given = edits_of_tree tree after (edits_of (Annotate places additions how scope) tree) h in
      let named = ap (edits_by_names places additions how scope tree) (sym styles)
      ∙ sym (of_annotation places additions how scope tree) ∙ given.1 in
      let parts = err_or (not scope.recursive && has_root places) (refusals.IsFolder place.Root)
      (edits_at (annotated_at how scope additions own tree) (selected_paths scope places tree)) given.0 named in
      (given.0, parts.1, given.2, parts.0)

  module _ (replaces : ReplacesBlock) (inserts : InsertsBlock) (replaces_beside : ReplacesNeighbour)
      (inserts_beside : InsertsNeighbour) (after : Files)
      (accepted : outcome_of (Annotate places additions how scope) tree ≡ Ok after) (path : List ℕ) where
    pub reported_skipped_all : Contains (selected_paths scope places tree) path → IsSkippedAt scope own tree path
        → Contains (path_outcomes_of (Annotate places additions how scope) tree) (path_outcome.Skipped path)
    unfolding path_outcomes_of
    reported_skipped_all selected skipped =
        let edits = edits_are after accepted in
        let there = In-from_contains (selected_paths scope places tree) path selected in
        let given = each_done replaces inserts replaces_beside inserts_beside additions how scope own tree
        (selected_paths scope places tree) edits.0 edits.1 path there in
        let reported = to_map report (selected_paths scope places tree) path there in
        let path_outcomes = ap (λ b. cond b (path_outcome.Refused (refusals.IsFolder place.Root) ∷ [])
        (map report (selected_paths scope places tree))) edits.3 in
        Contains-append_left (of_paths ++ limit) left (path_outcome.Skipped path)
        (Contains-append_left of_paths limit (path_outcome.Skipped path)
        (subst (λ fs. Contains fs (path_outcome.Skipped path)) (sym (path_outcomes_are ∙ path_outcomes))
        (subst (Contains (map report (selected_paths scope places tree)))
        (is_reported how scope additions own tree path given.0 given.1 skipped) reported)))

    pub left_stays : Contains (path_outcomes_of (Annotate places additions how scope) tree)
        (path_outcome.Unchanged path)
        ⊎ Contains (path_outcomes_of (Annotate places additions how scope) tree) (path_outcome.Skipped path)
        → pair_at after path ≡ pair_at tree path
    left_stays reported =
        let edits = edits_are after accepted in
        let left = left_reported path reported in
        let is = all_done replaces inserts replaces_beside inserts_beside additions how scope own tree
        (selected_paths scope places tree) edits.0 edits.1 (selected_ascend scope places tree) path left.0 in
        let none : is.0 ≡ None = sym (same_Ok None is.0 (sym left.1 ∙ is.1)) in
        let stays = λ (q : List ℕ) (same : get (edited tree edits.0) q ≡ file_then tree is.0 q). ap (λ t. get t q)
        (sym edits.2) ∙ same ∙ ap (λ g. file_then tree g q) none in
        ap₂ pair (stays path (is.2 path (inl refl))) (stays (neighbour_of path) (is.2 (neighbour_of path) (inr refl)))
