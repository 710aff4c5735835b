-- Edits that are each of a file that is selected or its neighbour: what the paths then hold.
use Rattle.std.proofs.Common.{◌≡◌, ◌≢◌, ◌⊎◌, inl, inr, ℕ, Bool, true, false, cond, List, [], ◌∷◌, Less, Option, Some}
use Rattle.std.proofs.Common.{None, Result, Ok, refl, sym, ap, subst, ◌∙◌, bytes_eq}
use Rattle.std.specs.Ordering.{nat_cmp}
use Rattle.std.specs.Cmp.Lexicographic.{slice_cmp}
use Rattle.std.specs.List.{AllByRecursion}
use Rattle.reuse_command.specs.Reading.{get, Files}
use Rattle.std.proofs.lemmas.Bool.{false≢true}
use Rattle.std.proofs.lemmas.Map.Keys.{sorted_head, sorted_tail}
use Rattle.std.proofs.lemmas.Slice.Eq.{bytes_eq-Decides}
use Rattle.reuse_notice.proofs.SetLemmas.{In}
use Rattle.reuse_change.specs.Listing.{ArePaths}
use Rattle.reuse_edit.specs.Annotate.{neighbour_of}
use Rattle.reuse_edit.specs.Edit.{file_then, Edit}
use Rattle.reuse_plan.specs.Outcome.{with_file, edited}
use Rattle.reuse_command.specs.declared.reply.Refusal.{Refusal}
use Rattle.reuse_plan.proofs.Annotating.{first_is, no_edits}
use Rattle.reuse_plan.proofs.Fitting.{no_neighbour, same_file}
use Rattle.reuse_plan.proofs.Planning.{with_same, with_other, not_itself}
use Rattle.reuse_edit.proofs.TableLemmas.{IsWorkable}
use Rattle.reuse_plan.proofs.TextsPut.{pick}
use Rattle.reuse_plan.proofs.CommandEdits.{edits_at}

abbrev pub IsPlaceOf : List ℕ → List ℕ → Type 0
IsPlaceOf path place = (place ≡ path) ⊎ (place ≡ neighbour_of path)

-- a place of one file is none of another
one_file : (path other q : List ℕ) → IsWorkable path → IsWorkable other → IsPlaceOf path q
    → IsPlaceOf other q → path ≡ other
one_file path other q workable too (inl a) (inl b) = sym a ∙ b
one_file path other q workable too (inl a) (inr b) = absurd (no_neighbour path other workable (sym a ∙ b))
one_file path other q workable too (inr a) (inl b) = absurd (no_neighbour other path too (sym b ∙ a))
one_file path other q workable too (inr a) (inr b) = same_file path other (sym a ∙ b)

not_above : (path other : List ℕ) (paths : List (List ℕ)) → AllByRecursion (λ p. slice_cmp nat_cmp path p ≡ Less) paths
    → In other paths → path ≢ other
not_above path other paths above there =
    not_itself path other (pick (λ p. slice_cmp nat_cmp path p ≡ Less) paths other there above)

-- the file at a path once another edit is made, or that one
module _ (files tree : Files) (edit : Edit) (q : List ℕ) (same : get files q ≡ get tree q) where
  put_then : get (with_file files edit.path edit.file) q ≡ file_then tree (Some edit) q
  put_then = of_test (bytes_eq q edit.path) refl
    where
      of_test : (b : Bool) → bytes_eq q edit.path ≡ b
          → get (with_file files edit.path edit.file) q ≡ cond b edit.file (get tree q)
      of_test true e = let at = (bytes_eq-Decides q edit.path).0 e in
          ap (get (with_file files edit.path edit.file)) at ∙ with_same files edit.path edit.file
      of_test false e =
          with_other files edit.path edit.file q (λ at. false≢true (sym e ∙ (bytes_eq-Decides q edit.path).1 at)) ∙ same

-- what is done at a path is done at one of its places, and only where it is selected
module _ (at : List ℕ → Result (Option Edit) Refusal) (tree : Files)
    (placed : (path : List ℕ) (edit : Edit) → at path ≡ Ok (Some edit) → IsPlaceOf path edit.path × IsWorkable path)
    (workable_of : (path : List ℕ) (given : Option Edit) → at path ≡ Ok given → IsWorkable path)
  where
    pub outside : (paths : List (List ℕ)) (edits : List Edit) → edits_at at paths ≡ Ok edits → (q : List ℕ)
        → ((path : List ℕ) → In path paths → IsPlaceOf path q → ⊥) → get (edited tree edits) q ≡ get tree q
    outside [] edits h q none = ap (λ es. get (edited tree es) q) (no_edits edits h)
    outside (path ∷ paths) edits h q none = elim (first_is (at path) (edits_at at paths) edits h) [
      | inl nothing ↦ outside paths edits nothing.1 q (λ p there. none p (inr there))
      | inr some ↦
          let rest = outside paths some.1 some.3 q (λ p there. none p (inr there)) in
          let other : q ≢ some.0.path =
          λ same. none path (inl refl) (subst (IsPlaceOf path) (sym same) (placed path some.0 some.2).0) in
          ap (λ es. get (edited tree es) q) some.4
          ∙ with_other (edited tree some.1) some.0.path some.0.file q other ∙ rest
    ]

    pub each_done : (paths : List (List ℕ)) (edits : List Edit) → edits_at at paths ≡ Ok edits → (path : List ℕ)
        → In path paths → (given : Option Edit) × (at path ≡ Ok given)
    each_done [] edits h path there = absurd there
    each_done (first ∷ paths) edits h path (inl same) = elim (first_is (at first) (edits_at at paths) edits h) [
      | inl nothing ↦ (None, ap at same ∙ nothing.0)
      | inr some ↦ (Some some.0, ap at same ∙ some.2)
    ]
    each_done (first ∷ paths) edits h path (inr later) = elim (first_is (at first) (edits_at at paths) edits h) [
      | inl nothing ↦ each_done paths edits nothing.1 path later
      | inr some ↦ each_done paths some.1 some.3 path later
    ]

    -- the first path's places are none of the later ones'
    none_later : (path : List ℕ) (given : Option Edit) → at path ≡ Ok given
        → (paths : List (List ℕ)) (edits : List Edit) → edits_at at paths ≡ Ok edits → ArePaths (path ∷ paths)
        → (q : List ℕ) → IsPlaceOf path q → (other : List ℕ) → In other paths → IsPlaceOf other q → ⊥
    none_later path given h paths edits k sorted q here other there too =
        let later = each_done paths edits k other there in
        not_above path other paths (sorted_head (slice_cmp nat_cmp) path paths sorted) there
        (one_file path other q (workable_of path given h) (workable_of other later.0 later.1) here too)

    -- what a path holds that is gone through, and its neighbour
    abbrev pub HoldsDone : List Edit → List ℕ → Type 0
    HoldsDone edits path = (given : Option Edit) × (at path ≡ Ok given)
        × ((q : List ℕ) → IsPlaceOf path q → get (edited tree edits) q ≡ file_then tree given q)

    pub all_done : (paths : List (List ℕ)) (edits : List Edit) → edits_at at paths ≡ Ok edits → ArePaths paths
        → (path : List ℕ) → In path paths → HoldsDone edits path
    all_done [] edits h sorted path there = absurd there
    all_done (first ∷ paths) edits h sorted path (inl same) =
        subst (HoldsDone edits) (sym same) (elim (first_is (at first) (edits_at at paths) edits h) [
          | inl nothing ↦ (
            None,
            nothing.0,
            λ q here. outside paths edits nothing.1 q
                (none_later first None nothing.0 paths edits nothing.1 sorted q here),
          )
          | inr some ↦ (
            Some some.0,
            some.2,
            λ q here. ap (λ es. get (edited tree es) q) some.4
                ∙ put_then (edited tree some.1) tree some.0 q (outside paths some.1 some.3 q
                (none_later first (Some some.0) some.2 paths some.1 some.3 sorted q here)),
          )
        ])
    all_done (first ∷ paths) edits h sorted path (inr later) = elim (first_is (at first) (edits_at at paths) edits h) [
      | inl nothing ↦ all_done paths edits nothing.1 (sorted_tail (slice_cmp nat_cmp) first paths sorted) path later
      | inr some ↦
          let rest = all_done paths some.1 some.3 (sorted_tail (slice_cmp nat_cmp) first paths sorted) path later in (
            rest.0,
            rest.1,
            λ q here. ap (λ es. get (edited tree es) q) some.4
                ∙ with_other (edited tree some.1) some.0.path some.0.file q
                (λ same. none_later first (Some some.0) some.2 paths some.1 some.3 sorted q
                (subst (IsPlaceOf first) (sym same) (placed first some.0 some.2).0) path later here)
                ∙ rest.2 q here,
          )
    ]
