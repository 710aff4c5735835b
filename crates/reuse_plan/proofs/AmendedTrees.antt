-- Where an amend isn't refused, each file that is gone through is amended, and all else stays; that is one tree, with
-- the files of the old.
use Rattle.std.proofs.Common.{◌≡◌, ◌≢◌, ◌⊎◌, inl, inr, ℕ, not, ◌&&◌, Bool, true, false, List, Option, Some, None}
use Rattle.std.proofs.Common.{is_some, Result, Ok, Err, refl, sym, ap, ap₂, subst, ◌∙◌, Contains}
use Rattle.reuse_command.specs.Reading.{get, Files}
use Rattle.std.proofs.lemmas.Bool.{false≢true}
use Rattle.reuse_notice.proofs.SetLemmas.{In, In-from_contains, Contains-from_in}
use Rattle.reuse_edit.specs.Amend.{amended_at}
use Rattle.reuse_plan.specs.Amended.{IsAmended, Amends, HaveSamePaths, KeepsPaths, IsTableAmended, IsCoveredAmended}
use Rattle.reuse_plan.specs.Amended.{BecomesNeighbour, IsNeighbourAmended}
use Rattle.reuse_edit.specs.Annotate.{neighbour_of}
use Rattle.reuse_plan.specs.Annotated.{Pair, pair_at}
use Rattle.reuse_command.specs.Command.{has_root, values_of}
use Rattle.reuse_edit.specs.Edit.{Edit}
use Rattle.reuse_plan.specs.Outcome.{edited, outcome_of, edits_of}
use Rattle.reuse_plan.specs.TreeStyles.{styles_in}
use Rattle.reuse_style.specs.Kinds.{OwnKinds}
use Rattle.reuse_plan.specs.Selected.{amended_paths}
use Rattle.reuse_command.specs.declared.command.Command.TheVariants.{Amend}
use Rattle.reuse_command.specs.declared.command.FileAmendment.{FileAmendment}
use Rattle.reuse_command.specs.declared.command.FileAmendment.TheVariants.{InHeader, Everywhere, Remove}
use Rattle.reuse_command.specs.declared.command.Place.{Place}
use Rattle.reuse_command.specs.declared.command.Place.TheVariants as place
use Rattle.reuse_command.specs.declared.command.Scope.{Scope}
use Rattle.reuse_command.specs.declared.reply.Refusal.{Refusal}
use Rattle.reuse_command.specs.declared.reply.Refusal.TheVariants as refusals
use Rattle.reuse_plan.proofs.AmendedFiles.{KeepsBlock, KeepsNeighbour, amended_there}
use Rattle.reuse_plan.proofs.AnnotatedFiles.{pair}
use Rattle.reuse_plan.proofs.Annotating.{if_not}
use Rattle.reuse_plan.proofs.AmendedPlaces.{amended_ascend}
use Rattle.reuse_plan.proofs.Fitting.{amendment_placed}
use Rattle.reuse_plan.proofs.OneAnnotation.{Found, Lacking, searched}
use Rattle.reuse_plan.proofs.PlacedEdits as placed_edits
use Rattle.reuse_plan.proofs.PlacedEdits.{IsPlaceOf}
use Rattle.reuse_plan.proofs.Outcomes.{edits_of_tree}
use Rattle.reuse_plan.proofs.CommandEdits.{edits_at, amendments_by_names, of_amendment}
use Rattle.reuse_edit.proofs.TableLemmas.{IsWorkable}

module _ (keeps_block : KeepsBlock) (keeps_neighbour : KeepsNeighbour) (amendment : FileAmendment) (scope : Scope)
    (own : OwnKinds) (tree : Files) where
  abbrev pub at : List ℕ → Result (Option Edit) Refusal
  at = amended_at amendment scope own tree

  placed : (path : List ℕ) (edit : Edit) → at path ≡ Ok (Some edit) → IsPlaceOf path edit.path × IsWorkable path
  placed path edit h = let is = amendment_placed amendment scope own tree path edit h in
      (elim is.placed [ inl here ↦ inl here | inr beside ↦ inr beside.0 ], is.workable)

  workable_of : (path : List ℕ) (given : Option Edit) → at path ≡ Ok given → IsWorkable path
  workable_of path given h = elim (amended_there keeps_block keeps_neighbour amendment scope own tree path given h) [
    | inl table ↦ inr table.0
    | inr covered ↦ inl covered.covered
  ]

  -- what is done at each of the paths
  pub each_done : (paths : List (List ℕ)) (edits : List Edit) → edits_at at paths ≡ Ok edits → (path : List ℕ)
      → In path paths → (given : Option Edit) × (at path ≡ Ok given)
  each_done = placed_edits.each_done at tree placed workable_of

  amended_tree : (places : List Place) (edits : List Edit) → styles_in tree ≡ Ok own
      → edits_at at (amended_paths scope places tree) ≡ Ok edits
      → Amends places amendment scope tree (edited tree edits)
  amended_tree places edits styles h = record {
    own = own;
    styles = styles;
    selected = λ path there.
        let is = placed_edits.all_done at tree placed workable_of (amended_paths scope places tree) edits h
        (amended_ascend scope places tree) path
        (In-from_contains (amended_paths scope places tree) path there) in
        subst (IsAmended amendment scope own path (pair_at tree path))
        (sym (ap₂ pair (is.2 path (inl refl)) (is.2 (neighbour_of path) (inr refl))))
        (amended_there keeps_block keeps_neighbour amendment scope own tree path is.0 is.1);
    others = λ other none. placed_edits.outside at tree placed workable_of
        (amended_paths scope places tree) edits h other (λ path there.
        let apart = none path (Contains-from_in (amended_paths scope places tree) path there) in
        λ place. elim place [ inl here ↦ apart.0 here | inr beside ↦ apart.1 beside ]);
  }

module _ (keeps_block : KeepsBlock) (keeps_neighbour : KeepsNeighbour) (places : List Place) (amendment : FileAmendment)
    (scope : Scope) (tree : Files) where
  by_names : (edits : List Edit) (styles : Result OwnKinds Refusal) → styles_in tree ≡ styles
      → amendments_by_names places amendment scope tree styles ≡ Ok edits
      → Amends places amendment scope tree (edited tree edits)
  by_names edits (Err refusal) is h = absurd (cc)
  by_names edits (Ok own) is h =
      amended_tree keeps_block keeps_neighbour amendment scope own tree places edits is
      (if_not (not scope.recursive && has_root places) (refusals.IsFolder place.Root)
      (edits_at (amended_at amendment scope own tree) (amended_paths scope places tree)) edits h)

  pub amends : (after : Files) → outcome_of (Amend places amendment scope) tree ≡ Ok after
      → Amends places amendment scope tree after
  unfolding outcome_of
  amends after h =
      let given = edits_of_tree tree after (edits_of (Amend places amendment scope) tree) h in
      subst (Amends places amendment scope tree) given.2
      (by_names given.0 (styles_in tree) refl (sym (of_amendment places amendment scope tree) ∙ given.1))

-- ---- which files come or go

abbrev takes_out : FileAmendment → Bool
takes_out (InHeader values) = false
takes_out (Everywhere values) = false
takes_out (Remove values removal) = true

-- nothing goes unless something is taken out
left_there : (amendment : FileAmendment) (beside : List ℕ) (left : Option (List ℕ))
    → BecomesNeighbour amendment beside left
    → (is_some left ≡ true) ⊎ ((takes_out amendment ≡ true) × (left ≡ None))
left_there (InHeader values) beside (Some made) is = inl refl
left_there (InHeader values) beside None is = absurd is
left_there (Everywhere values) beside (Some made) is = inl refl
left_there (Everywhere values) beside None is = absurd is
left_there (Remove values removal) beside (Some made) is = inl refl
left_there (Remove values removal) beside None is = inr (refl, refl)

module _ (amendment : FileAmendment) (scope : Scope) (own : OwnKinds) (path : List ℕ) (old new : Pair) where
  abbrev AreThere : Pair → Type 0
  AreThere pair = (is_some pair.file ≡ is_some old.file) × (is_some pair.neighbour ≡ is_some old.neighbour)

  -- the neighbour alone goes
  abbrev HasLost : Pair → Type 0
  HasLost pair =
      (is_some pair.file ≡ is_some old.file) × (takes_out amendment ≡ true) × (is_some pair.neighbour ≡ false)

  table_there : IsTableAmended (values_of amendment) old new → AreThere new
  table_there is = subst AreThere (sym is.holds) (ap is_some (sym is.there), refl)

  beside_there : IsNeighbourAmended amendment old new → AreThere new ⊎ HasLost new
  beside_there is = elim (left_there amendment is.beside is.left is.becomes) [
    | inl some ↦ inl (subst AreThere (sym is.holds) (refl, some ∙ ap is_some (sym is.there)))
    | inr none ↦ inr (subst HasLost (sym is.holds) (refl, none.0, ap is_some none.1))
  ]

  covered_there : IsCoveredAmended amendment scope own path old new → AreThere new ⊎ HasLost new
  covered_there is = elim is.becomes [
    | inl none ↦ inl (subst AreThere (sym none.1) (refl, refl))
    | inr amended ↦ elim amended [
      | inl file ↦ inl (subst AreThere (sym file.holds) (ap is_some (sym is.there), ap is_some (sym file.alone)))
      | inr beside ↦ beside_there beside
    ]
  ]

  are_there : IsAmended amendment scope own path old new → AreThere new ⊎ HasLost new
  are_there is = elim is [ inl table ↦ inl (table_there table.1) | inr covered ↦ covered_there covered ]

module _ (places : List Place) (amendment : FileAmendment) (scope : Scope) (before after : Files)
    (is : Amends places amendment scope before after) where
  abbrev paths : List (List ℕ)
  paths = amended_paths scope places before

  -- a path is as it was, or it is the neighbour that goes
  abbrev IsKept : List ℕ → Type 0
  IsKept q = (is_some (get after q) ≡ is_some (get before q))
      ⊎ ((takes_out amendment ≡ true) × (is_some (get after q) ≡ false)
      × ((gone : List ℕ) × Contains paths gone × (q ≡ neighbour_of gone)))

  kept : (q : List ℕ) → IsKept q
  kept q = by_path (searched (λ path. path) q paths) (searched neighbour_of q paths)
    where
      by_path : Found (λ path. path) q paths ⊎ Lacking (λ path. path) q paths
          → Found neighbour_of q paths ⊎ Lacking neighbour_of q paths → IsKept q
      by_path (inl found) beside =
          let there = are_there amendment scope is.own found.0 _ _
          (is.selected found.0 (Contains-from_in paths found.0 found.1)) in
          inl (subst (λ p. is_some (get after p) ≡ is_some (get before p)) (sym found.2)
          (elim there [ inl same ↦ same.0 | inr lost ↦ lost.0 ]))
      by_path (inr none) (inl found) =
          let there = are_there amendment scope is.own found.0 _ _
          (is.selected found.0 (Contains-from_in paths found.0 found.1)) in
          elim there [
            | inl same ↦ inl (subst (λ p. is_some (get after p) ≡ is_some (get before p)) (sym found.2) same.1)
            | inr lost ↦ inr (
              lost.1,
              subst (λ p. is_some (get after p) ≡ false) (sym found.2) lost.2,
              (found.0, Contains-from_in paths found.0 found.1, found.2),
            )
          ]
      by_path (inr none) (inr lacking) =
          let apart : (path : List ℕ) → Contains paths path → (q ≢ path) × (q ≢ neighbour_of path) = λ path there.
          (none path (In-from_contains paths path there), lacking path (In-from_contains paths path there)) in
          inl (ap is_some (is.others q apart))

  keeps_all : takes_out amendment ≡ false → HaveSamePaths before after
  keeps_all nothing q = elim (kept q) [ inl same ↦ same | inr lost ↦ absurd (false≢true (sym nothing ∙ lost.0)) ]

pub keeps_paths : (places : List Place) (amendment : FileAmendment) (scope : Scope) (before after : Files)
    → Amends places amendment scope before after
    → KeepsPaths amendment (amended_paths scope places before) before after
keeps_paths places (InHeader values) scope before after is =
    keeps_all places (InHeader values) scope before after is refl
keeps_paths places (Everywhere values) scope before after is =
    keeps_all places (Everywhere values) scope before after is refl
keeps_paths places (Remove values removal) scope before after is = λ q.
    elim (kept places (Remove values removal) scope before after is q) [
      | inl same ↦ inl same
      | inr lost ↦ inr (lost.1, lost.2)
    ]
