-- The edits of an annotation: each at a file of the tree or its neighbour, of distinct paths, none a folder of another.
use Rattle.std.proofs.Common.{◌≡◌, ◌⊎◌, inl, inr, ℕ, ◌+◌, ◌-◌, ◌≤◌, Bool, true, false, not, ◌||◌, ◌&&◌, nat_eq, nat_lt}
use Rattle.std.proofs.Common.{List, [], ◌∷◌, ◌++◌, codes, length, reverse, take, drop, Less, Option, Some, None, IsSome}
use Rattle.std.proofs.Common.{is_some, Result, Ok, Err, refl, sym, ap, ap₂, subst, ◌∙◌, arith, length-append}
use Rattle.std.proofs.Common.{length-drop, drop_at, bytes_eq}
use Rattle.std.specs.Ordering.{nat_cmp}
use Rattle.std.specs.Cmp.Lexicographic.{slice_cmp, pointwise}
use Rattle.std.specs.List.{AllByRecursion, IsDistinct, ends_with, suffix_len, prefix_len}
use Rattle.std.specs.FinMap.{get}
use Rattle.std.proofs.lemmas.Bool.{false≢true, false_from_ne_true, not-false, or_cases, or_from, or_parts, ltb-false}
use Rattle.std.proofs.lemmas.List.{drop-drop, reverse-append}
use Rattle.std.proofs.lemmas.List.Sums.{suffix_len-le-length}
use Rattle.std.proofs.lemmas.Map.Keys.{IsDistinct-cons, sorted_head, sorted_tail}
use Rattle.std.proofs.lemmas.Slice.Eq.{bytes_eq-Decides}
use Rattle.reuse_command.specs.declared.command.HeaderAdditions.{HeaderAdditions}
use Rattle.reuse_command.specs.declared.command.FileAmendment.{FileAmendment}
use Rattle.reuse_style.specs.declared.style.Style.{Style}
use Rattle.reuse_header.specs.declared.annotation.How.{How}
use Rattle.reuse_header.specs.Annotation as header
use Rattle.reuse_header.specs.Header.{header_of}
use Rattle.reuse_change.specs.Path.{is_path, lies_under}
use Rattle.reuse_change.specs.Files.{Files, AreFiles}
use Rattle.reuse_text.specs.declared.TheConstants.{LONGEST_FILE}
use Rattle.reuse_edit.specs.Annotation.{annotation_of, neighbour_annotation_of}
use Rattle.reuse_edit.specs.Amend.{amended_at}
use Rattle.reuse_edit.specs.Annotate.{neighbour_of, neighbour_is_tagged, target_of, edit_by, edit_inside}
use Rattle.reuse_edit.specs.Annotate.{edit_neighbour, edit_of_neighbour, edit_target, annotated_where, annotated_at}
use Rattle.reuse_edit.specs.Annotations.{Expected}
use Rattle.reuse_change.specs.Clash.{is_clash}
use Rattle.reuse_command.specs.Command.{has_root, HoldsEntry}
use Rattle.reuse_command.specs.Covered.{last_part, is_outside, has_stem, is_covered}
use Rattle.reuse_change.specs.Listing.{ArePaths, is_among, is_folder}
use Rattle.reuse_edit.specs.Edit.{Edit}
use Rattle.reuse_plan.specs.Outcome.{edits_of}
use Rattle.reuse_change.specs.Tree.{is_of_tree}
use Rattle.reuse_plan.specs.TreeStyles.{styles_in}
use Rattle.reuse_style.specs.Kinds.{OwnKinds}
use Rattle.reuse_plan.specs.Selected.{amended_paths, selected_paths}
use Rattle.reuse_command.specs.declared.command.Command.{Command}
use Rattle.reuse_command.specs.declared.command.Command.TheVariants.{Annotate, Amend, ConvertDep5, Download, Revert}
use Rattle.reuse_command.specs.declared.command.Command.TheVariants.{AddStyles}
use Rattle.reuse_command.specs.declared.command.Place.TheVariants as place
use Rattle.reuse_command.specs.declared.command.Scope.{Scope}
use Rattle.reuse_edit.specs.declared.target.Target.{Target}
use Rattle.reuse_edit.specs.declared.target.Target.TheVariants.{Inside, InNeighbour, Nowhere}
use Rattle.reuse_command.specs.declared.reply.Refusal.{Refusal}
use Rattle.reuse_command.specs.declared.reply.Refusal.TheVariants as refusals
use Rattle.reuse_plan.proofs.AmendedPlaces.{amended_ascend}
use Rattle.reuse_edit.proofs.Amending.{IsBeside, IsEditOf, AmendsThere, amends_there}
use Rattle.reuse_plan.proofs.Annotating.{inside_of_tree, first_is, no_edits, all_edits, if_not}
use Rattle.reuse_edit.proofs.Results.{both_err, err_or}
use Rattle.reuse_plan.proofs.Choosing.{selected_ascend}
use Rattle.reuse_plan.proofs.Converting.{conversion_fits}
use Rattle.reuse_plan.proofs.Downloading.{download_fits}
use Rattle.reuse_plan.proofs.EditOrder.{AreFit}
use Rattle.reuse_change.proofs.ListingLemmas.{under_from_test, test_from_under}
use Rattle.reuse_change.proofs.NeighbourLemmas.{good_neighbour}
use Rattle.reuse_plan.proofs.Planning.{paths_at, IsFit, AreEdits, AreDistinct, distinct_of, not_itself}
use Rattle.reuse_plan.proofs.RevertPlanning.{revert_fits}
use Rattle.reuse_store.proofs.Testing.{clashes_keys}
use Rattle.reuse_edit.proofs.EditResults.{some_edit, same_edit, unskipped}
use Rattle.std.proofs.Math.Seq.{take-append_seam}
use Rattle.reuse_plan.proofs.CommandEdits.{edits_at, edits_by_names, amendments_by_names, of_annotation, of_amendment}
use Rattle.reuse_plan.proofs.CommandEdits.{of_addition, of_conversion, of_download, of_revert}
use Rattle.reuse_plan.proofs.StyleAdding.{addition_fits}
use Rattle.reuse_edit.proofs.TableLemmas.{IsWorkable, workable_within, table_named}
use Rattle.reuse_edit.proofs.NeighbourPaths.{ending, is_slash, cut, beside_of_tree}

-- the last bytes of a neighbour's name
name_ends : (path : List ℕ) → ends_with nat_eq (last_part (path ++ ending)) ending ≡ true
name_ends path =
    let whole = path ++ ending in
    let kept = suffix_len (λ byte. not (is_slash byte)) (path ++ ending) in
    let at = length (path ++ ending) - kept in
    let name = drop at (path ++ ending) in
    let low : kept ≤ length (path ++ ending) = suffix_len-le-length (λ byte. not (is_slash byte)) (path ++ ending) in
    let some : kept
    ≡ 1 + (1 + (1 + (1 + (1 + (1 + (1 + (1 + prefix_len (λ byte. not (is_slash byte)) (reverse path)))))))) =
    ap (prefix_len (λ byte. not (is_slash byte))) (reverse-append path ending) in
    let size = length-append path ending in
    let left : length path ≡ at + (length name - 8) = omega (arith, low, some, size, length-drop at (path ++ ending)) in
    ap (pointwise nat_eq ending)
    (drop-drop (length name - 8) at (path ++ ending) ∙ drop_at path ending (at + (length name - 8)) left)

outer_name : (a b c d e f g : Bool) → b ≡ true → (not a && not (b || c || d || e || f || g)) ≡ false
outer_name true true c d e f g h = refl
outer_name false true c d e f g h = refl
outer_name a false c d e f g h = absurd (false≢true h)

-- a neighbour isn't covered
pub uncovered_neighbour : (path : List ℕ) → is_covered (path ++ ending) ≡ false
uncovered_neighbour path =
    let name = last_part (path ++ ending) in
    outer_name (is_outside (path ++ ending)) (ends_with nat_eq name ending) (ends_with nat_eq name (codes ".spdx"))
    (bytes_eq name (codes "REUSE.toml"))
    (has_stem (codes "LICENSE") name) (has_stem (codes "LICENCE") name) (has_stem (codes "COPYING") name)
    (name_ends path)

under_file : (path folder : List ℕ) → lies_under (path ++ ending) folder ≡ true → lies_under path folder ≡ true
under_file path folder h = let u = under_from_test (path ++ ending) folder h in
    test_from_under path folder (cut path folder u.0 u.1)

pub same_file : (path other : List ℕ) → path ++ ending ≡ other ++ ending → path ≡ other
same_file path other e =
    let size = ap length e in
    let long : length path ≡ length other =
    omega (arith, size, length-append path ending, length-append other ending) in
    sym (take-append_seam path ending) ∙ ap₂ take long e ∙ take-append_seam other ending

-- ---- the paths that are selected

-- they are of the tree, with their neighbours
workable_of_tree : (path : List ℕ) → IsWorkable path → is_of_tree path ≡ true
workable_of_tree path workable = inside_of_tree path (workable_within path workable)

-- and none is a neighbour
pub no_neighbour : (path other : List ℕ) → IsWorkable path → path ≡ other ++ ending → ⊥
no_neighbour path other (inl covered) e = false≢true (sym (uncovered_neighbour other) ∙ ap is_covered (sym e) ∙ covered)
no_neighbour path other (inr table) e =
    false≢true
    (ap (λ n. ends_with nat_eq n ending) (sym (table_named path table) ∙ ap last_part e) ∙ name_ends other)

-- ---- where an edit is

-- it is of a file of the tree that is selected, or of that one's neighbour, which clashes with no file if it is made
pub record IsPlaced (tree : Files) (path : List ℕ) (edit : Edit) : Type 0 where
  pub there : IsSome (get tree path)
  pub workable : IsWorkable path
  pub placed : (edit.path ≡ path) ⊎ ((edit.path ≡ path ++ ending) × (length edit.path ≤ 4096)
      × (get tree edit.path ≡ None → is_clash tree edit.path ≡ false))

edit_at : (path at bytes : List ℕ) (expected : Expected) (edit : Edit) → edit_by path at bytes expected ≡ some_edit edit
    → edit.path ≡ at
edit_at path at bytes (Err refusal) edit e = absurd (cc)
edit_at path at bytes (Ok one) edit e =
    let made = (unskipped (bytes_eq (header.edited bytes one) bytes) _ edit e).1 in
    ap (λ (x : Edit). x.path) (sym (same_edit _ edit made))

module _ (how : How) (scope : Scope) (additions : HeaderAdditions) (tree : Files) (path : List ℕ) (edit : Edit) where
  inside_at : (bytes : List ℕ) (style : Style) → edit_inside how scope additions path bytes style ≡ some_edit edit
      → edit.path ≡ path
  inside_at bytes style e = edit_at path path bytes (annotation_of style how additions bytes) edit
      (unskipped (scope.skip_existing && is_some (header_of style bytes)) _ edit e).1

  neighbour_at : (file : Option (List ℕ)) → edit_neighbour how scope additions tree path file ≡ some_edit edit
      → (edit.path ≡ neighbour_of path) × (file ≡ None → is_clash tree (neighbour_of path) ≡ false)
  neighbour_at None e =
      let h = err_or (is_clash tree (neighbour_of path)) (refusals.Clash (neighbour_of path)) _ (Some edit) e in
      (edit_at path (neighbour_of path) [] (neighbour_annotation_of how additions []) edit h.1, λ none. h.0)
  neighbour_at (Some bytes) e =
      let h = err_or (nat_lt LONGEST_FILE (length bytes)) (refusals.TooLong path) _ (Some edit) e in (
        edit_at path (neighbour_of path) bytes (neighbour_annotation_of how additions bytes) edit
            (unskipped (scope.skip_existing && neighbour_is_tagged bytes) _ edit h.1).1,
        λ none. absurd (cc),
      )

  beside_at : edit_of_neighbour how scope additions tree path ≡ some_edit edit → (edit.path ≡ path ++ ending)
      × (length edit.path ≤ 4096) × (get tree edit.path ≡ None → is_clash tree edit.path ≡ false)
  beside_at e =
      let h = err_or (nat_lt 4096 (length (neighbour_of path))) (refusals.TooLong path) _ (Some edit) e in
      let n = neighbour_at (get tree (neighbour_of path)) h.1 in (
        n.0,
        subst (λ p. length p ≤ 4096) (sym n.0) (ltb-false 4096 (length (neighbour_of path)) h.0),
        subst (λ p. get tree p ≡ None → is_clash tree p ≡ false) (sym n.0) n.1,
      )

  target_at : (bytes : List ℕ) (target : Result Target Refusal)
      → edit_target how scope additions tree path bytes target ≡ some_edit edit
      → (edit.path ≡ path) ⊎ ((edit.path ≡ path ++ ending) × (length edit.path ≤ 4096)
      × (get tree edit.path ≡ None → is_clash tree edit.path ≡ false))
  target_at bytes (Err refusal) e = absurd (cc)
  target_at bytes (Ok Nowhere) e = absurd (cc)
  target_at bytes (Ok InNeighbour) e = inr (beside_at e)
  target_at bytes (Ok (Inside style)) e = inl (inside_at bytes style e)

  pub is_placed : (own : OwnKinds) → annotated_at how scope additions own tree path ≡ some_edit edit
      → IsPlaced tree path edit
  is_placed own e = of_file (get tree path) refl e
    where
      of_file : (file : Option (List ℕ)) → get tree path ≡ file
          → annotated_where how scope additions own tree path file ≡ some_edit edit → IsPlaced tree path edit
      of_file None is h = absurd (both_err (is_folder tree path) (refusals.IsFolder (place.Path path))
          (refusals.NoSuchPath path) (Some edit) h)
      of_file (Some bytes) is h =
          let k = err_or (not (is_covered path)) (refusals.NotCovered path) _ (Some edit) h in
          record {
            there = ap is_some is;
            workable = inl (not-false (is_covered path) k.0);
            placed = target_at bytes (target_of scope own tree path bytes) k.1;
          }

-- an amendment is of a file that is there
pub amendment_placed : (amendment : FileAmendment) (scope : Scope) (own : OwnKinds) (tree : Files) (path : List ℕ)
    (edit : Edit) → amended_at amendment scope own tree path ≡ some_edit edit → IsPlaced tree path edit
amendment_placed amendment scope own tree path edit e =
    let h = amends_there amendment scope own tree path edit e in
    let same = path_is h h.by in
    record { there = h.is_file; workable = h.workable; placed = of_place h same h.placed }
  where
    path_is : (h : AmendsThere tree path edit) → IsEditOf path h.at h.bytes edit → edit.path ≡ h.at
    path_is h (inl one) = edit_at path h.at h.bytes (Ok one.0) edit one.1
    path_is h (inr gone) = ap (λ (x : Edit). x.path) (sym gone)

    there : (h : AmendsThere tree path edit) → edit.path ≡ h.at → get tree edit.path ≡ None
        → is_clash tree edit.path ≡ false
    there h same none = let no : Some h.bytes ≡ None = sym h.here ∙ ap (get tree) (sym same) ∙ none in absurd (cc)

    of_place : (h : AmendsThere tree path edit) → edit.path ≡ h.at → (h.at ≡ path) ⊎ IsBeside path h.at
        → (edit.path ≡ path) ⊎ ((edit.path ≡ path ++ ending) × (length edit.path ≤ 4096)
        × (get tree edit.path ≡ None → is_clash tree edit.path ≡ false))
    of_place h same (inl here) = inl (same ∙ here)
    of_place h same (inr beside) =
        inr (same ∙ beside.same, subst (λ p. length p ≤ 4096) (sym (same ∙ beside.same)) beside.few, there h same)

-- ---- one edit is fit

module _ (tree : Files) (are : AreFiles tree) (path : List ℕ) (edit : Edit) (h : IsPlaced tree path edit) where
  is_fit : IsFit tree edit
  is_fit = of_place h.placed
    where
      of_place : (edit.path ≡ path) ⊎ ((edit.path ≡ path ++ ending) × (length edit.path ≤ 4096)
          × (get tree edit.path ≡ None → is_clash tree edit.path ≡ false)) → IsFit tree edit
      of_place (inl e) = record {
        of_tree = ap is_of_tree e ∙ workable_of_tree path h.workable;
        good_path = ap is_path e ∙ are.are_paths path h.there;
        free = λ none some clash. false≢true (sym (ap is_some (ap (get tree) (sym e) ∙ none)) ∙ h.there);
      }
      of_place (inr n) = record {
        of_tree = ap is_of_tree n.0 ∙ beside_of_tree path h.workable;
        good_path =
            ap is_path n.0 ∙ good_neighbour path (are.are_paths path h.there) (subst (λ p. length p ≤ 4096) n.0 n.1);
        free = λ none some clash. false≢true (sym (n.2 none) ∙ (clashes_keys tree edit.path).1 clash);
      }

-- ---- edits of several paths

-- a file of the tree, or a neighbour that is made
abbrev Stands : Files → List ℕ → Type 0
Stands tree path = IsSome (get tree path)
    ⊎ ((of : List ℕ) × IsSome (get tree of) × (path ≡ of ++ ending) × (is_clash tree path ≡ false))

stands : (tree : Files) (path : List ℕ) (edit : Edit) → IsPlaced tree path edit → Stands tree edit.path
stands tree path edit h = of_place h.placed
  where
    of_file : (file : Option (List ℕ)) → get tree edit.path ≡ file → edit.path ≡ path ++ ending
        → (get tree edit.path ≡ None → is_clash tree edit.path ≡ false) → Stands tree edit.path
    of_file None is e free = inr (path, h.there, e, free is)
    of_file (Some bytes) is e free = inl (ap is_some is)

    of_place : (edit.path ≡ path) ⊎ ((edit.path ≡ path ++ ending) × (length edit.path ≤ 4096)
        × (get tree edit.path ≡ None → is_clash tree edit.path ≡ false)) → Stands tree edit.path
    of_place (inl e) = inl (ap (λ p. is_some (get tree p)) e ∙ h.there)
    of_place (inr n) = of_file (get tree edit.path) refl n.0 n.2

module _ (tree : Files) where
  no_clash : (path other : List ℕ) → is_clash tree path ≡ false → IsSome (get tree other)
      → (lies_under other path || lies_under path other) ≡ false
  no_clash path other free some = false_from_ne_true _ (λ nested. false≢true
      (sym free ∙ (clashes_keys tree path).1 (record { other = other; is_file = some; nested = nested })))

  -- a neighbour that is made doesn't lie under another
  not_under : (path other of : List ℕ) → is_clash tree path ≡ false → IsSome (get tree of) → other ≡ of ++ ending
      → lies_under other path ≡ false
  not_under path other of free some is =
      false_from_ne_true _
      (λ under. false≢true (sym (or_parts (lies_under of path) (lies_under path of) (no_clash path of free some)).0
      ∙ under_file of path (subst (λ o. lies_under o path ≡ true) is under)))

  are_apart : AreFiles tree → (path other : List ℕ) → Stands tree path → Stands tree other
      → (lies_under other path || lies_under path other) ≡ false
  are_apart are path other (inl a) (inl b) =
      false_from_ne_true _ (λ nested. are.apart path a (record { other = other; is_file = b; nested = nested }))
  are_apart are path other (inl a) (inr b) =
      let n = or_parts (lies_under path other) (lies_under other path) (no_clash other path b.3 a) in
      or_from (lies_under other path) (lies_under path other) n.1 n.0
  are_apart are path other (inr a) (inl b) = no_clash path other a.3 b
  are_apart are path other (inr a) (inr b) = or_from (lies_under other path) (lies_under path other)
      (not_under path other b.0 a.3 b.1 b.2) (not_under other path a.0 b.3 a.1 a.2)

  -- the edits of two paths are of two paths
  differ : (path other : List ℕ) (one two : Edit) → IsPlaced tree path one → IsPlaced tree other two
      → (path ≡ other → ⊥) → bytes_eq one.path two.path ≡ false
  differ path other one two h k two_paths =
      false_from_ne_true _ (λ same. by_place ((bytes_eq-Decides one.path two.path).0 same) h.placed k.placed)
    where
      by_place : one.path ≡ two.path
          → (one.path ≡ path) ⊎ ((one.path ≡ path ++ ending) × (length one.path ≤ 4096)
          × (get tree one.path ≡ None → is_clash tree one.path ≡ false))
          → (two.path ≡ other) ⊎ ((two.path ≡ other ++ ending) × (length two.path ≤ 4096)
          × (get tree two.path ≡ None → is_clash tree two.path ≡ false)) → ⊥
      by_place same (inl a) (inl b) = two_paths (sym a ∙ same ∙ b)
      by_place same (inl a) (inr b) = no_neighbour path other h.workable (sym a ∙ same ∙ b.0)
      by_place same (inr a) (inl b) = no_neighbour other path k.workable (sym b ∙ sym same ∙ a.0)
      by_place same (inr a) (inr b) = two_paths (same_file path other (sym a.0 ∙ same ∙ b.0))

distinct_nil : IsDistinct bytes_eq []
unfolding IsDistinct
distinct_nil = tt

among_all : (P : List ℕ → Type 0) (edits : List Edit) → AllByRecursion (λ (e : Edit). P e.path) edits → (q : List ℕ)
    → is_among (paths_at edits) q ≡ true → P q
among_all P [] each q h = absurd (false≢true h)
among_all P (e ∷ edits) each q h =
    by_case (or_cases (bytes_eq q e.path) (is_among (paths_at edits) q) h) (among_all P edits each.1 q)
  where
    by_case : (bytes_eq q e.path ≡ true) ⊎ (is_among (paths_at edits) q ≡ true)
        → (is_among (paths_at edits) q ≡ true → P q) → P q
    by_case (inl same) rest = subst P (sym ((bytes_eq-Decides q e.path).0 same)) each.0
    by_case (inr later) rest = rest later

module _ (at : List ℕ → Result (Option Edit) Refusal) (tree : Files)
    (placed : (path : List ℕ) (edit : Edit) → at path ≡ some_edit edit → IsPlaced tree path edit) where
  others : (path : List ℕ) (edit : Edit) → IsPlaced tree path edit → (ps : List (List ℕ)) (edits : List Edit)
      → edits_at at ps ≡ Ok edits
      → AllByRecursion (λ p. slice_cmp nat_cmp path p ≡ Less) ps
      → AllByRecursion (λ q. bytes_eq edit.path q ≡ false) (paths_at edits)
  others path edit here [] edits h above =
      subst (λ es. AllByRecursion (λ q. bytes_eq edit.path q ≡ false) (paths_at es)) (sym (no_edits edits h)) tt
  others path edit here (p ∷ ps) edits h above = elim (first_is (at p) (edits_at at ps) edits h) [
    | inl none ↦ others path edit here ps edits none.1 above.1
    | inr some ↦
        let rest : AllByRecursion (λ q. bytes_eq edit.path q ≡ false) (paths_at some.1) =
        others path edit here ps some.1 some.3 above.1 in
        subst (λ es. AllByRecursion (λ q. bytes_eq edit.path q ≡ false) (paths_at es)) (sym some.4)
        (differ tree path p edit some.0 here (placed p some.0 some.2) (not_itself path p above.0), rest)
  ]

  are_distinct : (ps : List (List ℕ)) (edits : List Edit) → edits_at at ps ≡ Ok edits → ArePaths ps → AreDistinct edits
  are_distinct [] edits h sorted = subst (λ es. IsDistinct bytes_eq (paths_at es)) (sym (no_edits edits h)) distinct_nil
  are_distinct (p ∷ ps) edits h sorted = elim (first_is (at p) (edits_at at ps) edits h) [
    | inl none ↦ are_distinct ps edits none.1 (sorted_tail (slice_cmp nat_cmp) p ps sorted)
    | inr some ↦
        let rest : AreDistinct some.1 = are_distinct ps some.1 some.3 (sorted_tail (slice_cmp nat_cmp) p ps sorted) in
        let apart =
        others p some.0 (placed p some.0 some.2) ps some.1 some.3 (sorted_head (slice_cmp nat_cmp) p ps sorted) in
        subst (λ es. IsDistinct bytes_eq (paths_at es)) (sym some.4)
        (IsDistinct-cons bytes_eq some.0.path (paths_at some.1) apart rest)
  ]

  -- the edits at paths in byte order
  pub edits_fit : AreFiles tree → (ps : List (List ℕ)) (edits : List Edit) → edits_at at ps ≡ Ok edits → ArePaths ps
      → AreFit tree edits
  edits_fit are ps edits h sorted =
      let all : AllByRecursion (λ (e : Edit). Stands tree e.path) edits =
      all_edits at (λ (e : Edit). Stands tree e.path) (λ p e k. stands tree p e (placed p e k)) ps edits h in
      record {
        distinct = are_distinct ps edits h sorted;
        apart = λ p q in_p in_q. are_apart tree are p q (among_all (Stands tree) edits all p in_p)
            (among_all (Stands tree) edits all q in_q);
        each = all_edits at (IsFit tree) (λ p e k. is_fit tree are p e (placed p e k)) ps edits h;
      }

fit_of : (tree : Files) (edits : List Edit) → AreEdits tree edits → AreFit tree edits
fit_of tree edits are = record {
  distinct = distinct_of (paths_at edits) are.ascending;
  apart = are.apart;
  each = are.each;
}

-- the edits of a command
pub command_fits : (command : Command) (tree : Files) → HoldsEntry command → AreFiles tree → (edits : List Edit)
    → edits_of command tree ≡ Ok edits → AreFit tree edits
command_fits (Annotate places additions how scope) tree holds are edits h =
    by_names (styles_in tree) (sym (of_annotation places additions how scope tree) ∙ h)
  where
    by_names : (styles : Result OwnKinds Refusal) → edits_by_names places additions how scope tree styles ≡ Ok edits
        → AreFit tree edits
    by_names (Err refusal) e = absurd (cc)
    by_names (Ok own) e =
        edits_fit (annotated_at how scope additions own tree) tree
        (λ p e k. is_placed how scope additions tree p e own k) are (selected_paths scope places tree) edits
        (if_not (not scope.recursive && has_root places) (refusals.IsFolder place.Root)
        (edits_at (annotated_at how scope additions own tree) (selected_paths scope places tree)) edits e)
        (selected_ascend scope places tree)
command_fits (Amend places amendment scope) tree holds are edits h =
    by_names (styles_in tree) (sym (of_amendment places amendment scope tree) ∙ h)
  where
    by_names : (styles : Result OwnKinds Refusal) → amendments_by_names places amendment scope tree styles ≡ Ok edits
        → AreFit tree edits
    by_names (Err refusal) e = absurd (cc)
    by_names (Ok own) e =
        edits_fit (amended_at amendment scope own tree) tree (amendment_placed amendment scope own tree) are
        (amended_paths scope places tree) edits
        (if_not (not scope.recursive && has_root places) (refusals.IsFolder place.Root)
        (edits_at (amended_at amendment scope own tree) (amended_paths scope places tree)) edits e)
        (amended_ascend scope places tree)
command_fits ConvertDep5 tree holds are edits h =
    fit_of tree edits (conversion_fits tree edits (sym (of_conversion tree) ∙ h))
command_fits (Download ids texts) tree holds are edits h =
    fit_of tree edits (download_fits ids texts tree edits (sym (of_download ids texts tree) ∙ h))
command_fits (AddStyles additions) tree holds are edits h =
    fit_of tree edits (addition_fits additions tree edits (sym (of_addition additions tree) ∙ h))
command_fits (Revert changes touched skip) tree holds are edits h = fit_of tree edits
    (revert_fits touched tree changes skip edits holds.0 holds.1 (sym (of_revert changes touched skip tree) ∙ h))
