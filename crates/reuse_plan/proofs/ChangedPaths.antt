-- Which paths a command changes, and what its edits say of them.
use Rattle.std.proofs.Common.{◌≡◌, ℕ, cond, not, ◌&&◌, nat_lt, List, [], ◌∷◌, length, map, Option, Some, None, is_some}
use Rattle.std.proofs.Common.{unwrap_or, Result, Ok, Err, refl, subst, sym, ◌∙◌, ◌≢◌, ◌↔◌, inl, inr, Bool, true, false}
use Rattle.std.proofs.Common.{◌||◌, ◌++◌, ap, ◌+◌, take, drop, ap₂, bytes_eq, ◌⊎◌, arith, length-append}
use Rattle.reuse_text.specs.Text.{is_empty, spliced}
use Rattle.std.specs.List.{AllByRecursion, cons_option, Contains, list_any, All}
use Rattle.std.specs.FinMap.{get, empty}
use Rattle.reuse_notice.specs.Sets.{set_of}
use Rattle.reuse_command.specs.declared.command.HeaderAdditions.{HeaderAdditions}
use Rattle.reuse_dep5.specs.Conversion.{converted}
use Rattle.reuse_dep5.specs.declared.refusal.Dep5Refusal.{Dep5Refusal}
use Rattle.reuse_header.specs.declared.annotation.How.{How}
use Rattle.reuse_header.specs.Annotation as header
use Rattle.reuse_header.specs.Header.{header_of}
use Rattle.reuse_change.specs.Files.{Files}
use Rattle.reuse_change.specs.declared.change.Change.{Change}
use Rattle.reuse_text.specs.declared.TheConstants.{LONGEST_FILE}
use Rattle.reuse_edit.specs.Annotation.{annotation_of, neighbour_annotation_of}
use Rattle.reuse_edit.specs.Amend.{amended_at}
use Rattle.reuse_edit.specs.Annotate.{neighbour_of, neighbour_is_tagged, target_of, edit_by, edit_neighbour}
use Rattle.reuse_edit.specs.Annotate.{edit_target, annotated_where, annotated_at}
use Rattle.reuse_edit.specs.Annotations.{Expected}
use Rattle.reuse_change.specs.Clash.{is_clash}
use Rattle.reuse_command.specs.Command.{has_root, HoldsEntry}
use Rattle.reuse_plan.specs.Conversion.{dep5_path, replaced_by, conversion_where, conversion_edits}
use Rattle.reuse_edit.specs.Tables.{toml_path}
use Rattle.reuse_command.specs.Covered.{is_covered}
use Rattle.reuse_edit.specs.Licence.{text_for, licence_path, licence_id}
use Rattle.reuse_plan.specs.Downloads.{ids_refusal, licence_edit, download_edits}
use Rattle.reuse_edit.specs.Edit.{Edit, made, dropped, appended}
use Rattle.reuse_change.specs.Listing.{is_folder, is_among}
use Rattle.reuse_plan.specs.Outcome.{edits_of, with_file, edited, path_edits_of, outcome_of}
use Rattle.reuse_plan.specs.Reverting.{taken_back_on, taken_back_unless, stands_as_written, is_short, put_back}
use Rattle.reuse_plan.specs.Reverting.{taken_back}
use Rattle.reuse_plan.specs.TreeStyles.{styles_in}
use Rattle.reuse_style.specs.Kinds.{OwnKinds}
use Rattle.reuse_plan.specs.Selected.{amended_paths, selected_paths}
use Rattle.reuse_command.specs.declared.command.Command.{Command}
use Rattle.reuse_command.specs.declared.command.Command.TheVariants.{Annotate, Amend, ConvertDep5, Download, Revert}
use Rattle.reuse_command.specs.declared.command.Command.TheVariants.{AddStyles}
use Rattle.reuse_command.specs.declared.command.Place.TheVariants as place
use Rattle.reuse_command.specs.declared.command.Scope.{Scope}
use Rattle.reuse_command.specs.declared.licence.LicenceText.{LicenceText}
use Rattle.reuse_edit.specs.declared.target.Target.{Target}
use Rattle.reuse_edit.specs.declared.target.Target.TheVariants.{Inside, InNeighbour, Nowhere}
use Rattle.reuse_command.specs.declared.reply.Refusal.{Refusal}
use Rattle.reuse_command.specs.declared.reply.Refusal.TheVariants as refusals
use Rattle.reuse_edit.proofs.Amending.{amends_there}
use Rattle.reuse_plan.proofs.Annotating.{if_not, all_edits, first_is, no_edits}
use Rattle.reuse_edit.proofs.Results.{both_err, err_or, same_Ok, none_from_test}
use Rattle.reuse_plan.proofs.Downloading.{IsMade, are_made}
use Rattle.reuse_plan.proofs.Outcomes.{edits_unless, edits_of_tree}
use Rattle.reuse_edit.proofs.EditResults.{some_edit, unskipped, same_edit}
use Rattle.reuse_plan.proofs.RevertPlanning.{backs, edits_are, back_on, path_back, untouched_back, and_first}
use Rattle.reuse_plan.proofs.RevertPlanning.{splice_differs, whole_there}
use Rattle.reuse_plan.proofs.CommandEdits.{edits_at, edits_by_names, amendments_by_names, stuck_on, of_annotation}
use Rattle.reuse_plan.proofs.CommandEdits.{of_addition, of_amendment, of_conversion, of_download, of_revert}
use Rattle.reuse_plan.proofs.StyleAdding.{addition_is, edits_of_lines, IsMadeOfLines, HasLinesBehind}
use Rattle.std.proofs.lemmas.Bool.{false≢true}
use Rattle.std.proofs.lemmas.List.{append-nil}
use Rattle.std.proofs.lemmas.List.Elements.{All-contains, Contains-get_or, recursion_from_All, All-from_recursion}
use Rattle.std.proofs.lemmas.List.Folds.{list_any-append, list_any_at, Any-from_list_any}
use Rattle.std.proofs.lemmas.Slice.Eq.{bytes_eq-Decides}
use Rattle.reuse_header.specs.declared.harm.Harm.{Harm}
use Rattle.reuse_plan.specs.PathOutcomes.{path_outcome_by, path_outcome_of, limit_path_outcomes, path_outcomes_of}
use Rattle.reuse_plan.specs.PathOutcomes.{left_paths}
use Rattle.reuse_edit.specs.PathEdits.{PathEdit, edits_in}
use Rattle.reuse_command.specs.declared.path_outcome.PathOutcome.{PathOutcome}
use Rattle.reuse_command.specs.declared.path_outcome.PathOutcome.TheVariants as path_outcome
use Rattle.reuse_change.specs.Change.{path_of, IsProper}
use Rattle.reuse_change.specs.declared.change.Change.TheVariants.{Make, Drop, Splice}
use Rattle.std.proofs.lemmas.Option.{none-some, same_Some, cond_some}
use Rattle.reuse_plan.proofs.Planning.{paths_at, with_same, with_other, edited_other}
use Rattle.reuse_edit.specs.EditBytes.{TakesAndWrites}
use Rattle.reuse_edit.proofs.EditLemmas.{take_none, drop_none}
use Rattle.reuse_edit.proofs.SpliceLemmas.{three_parts}

-- ---- what holds of each kind of edit holds of all edits of a command

-- what is wanted of the changes that a revert takes back
abbrev pub EachTakenBack : (Change → Type 0) → Command → Type 0
EachTakenBack Q (Revert changes touched skip_moved) = AllByRecursion Q changes
EachTakenBack Q command = Unit {0}

module _
    (tree : Files) (P : Edit → Type 0) (Q : Change → Type 0)
    (there : (path at bytes : List ℕ) (expected : Expected) (edit : Edit) → get tree at ≡ Some bytes
    → edit_by path at bytes expected ≡ some_edit edit → P edit)
    (new : (path at : List ℕ) (expected : Expected) (edit : Edit) → get tree at ≡ None
    → edit_by path at [] expected ≡ some_edit edit → P edit)
    (gone : (path bytes : List ℕ) → get tree path ≡ Some bytes → P (dropped path bytes))
    (comes : (path bytes : List ℕ) → get tree path ≡ None → P (made path bytes))
    (behind : (path bytes more : List ℕ) → get tree path ≡ Some bytes → is_empty more ≡ false
    → P (appended path bytes more))
    (back : (change : Change) (edit : Edit) → Q change → taken_back_on tree change ≡ Some edit → P edit)
  where
    module _ (how : How) (scope : Scope) (additions : HeaderAdditions) (path : List ℕ) (edit : Edit) where
      of_neighbour : (file : Option (List ℕ)) → get tree (neighbour_of path) ≡ file
          → edit_neighbour how scope additions tree path file ≡ some_edit edit → P edit
      of_neighbour None here e =
          new path (neighbour_of path) (neighbour_annotation_of how additions []) edit here
          (if_not (is_clash tree (neighbour_of path)) (refusals.Clash (neighbour_of path)) _ (Some edit) e)
      of_neighbour (Some bytes) here e =
          there path (neighbour_of path) bytes (neighbour_annotation_of how additions bytes) edit here
          (unskipped (scope.skip_existing && neighbour_is_tagged bytes) _ edit
          (if_not (nat_lt LONGEST_FILE (length bytes)) (refusals.TooLong path) _ (Some edit) e)).1

      of_target : (bytes : List ℕ) (target : Result Target Refusal) → get tree path ≡ Some bytes
          → edit_target how scope additions tree path bytes target ≡ some_edit edit → P edit
      of_target bytes (Err refusal) here e = absurd (cc)
      of_target bytes (Ok Nowhere) here e = absurd (cc)
      of_target bytes (Ok InNeighbour) here e =
          of_neighbour (get tree (neighbour_of path)) refl
          (if_not (nat_lt 4096 (length (neighbour_of path))) (refusals.TooLong path) _ (Some edit) e)
      of_target bytes (Ok (Inside style)) here e =
          there path path bytes (annotation_of style how additions bytes) edit here
          (unskipped (scope.skip_existing && is_some (header_of style bytes)) _ edit e).1

      of_annotated : (own : OwnKinds) → annotated_at how scope additions own tree path ≡ some_edit edit → P edit
      of_annotated own e = of_file (get tree path) refl e
        where
          of_file : (file : Option (List ℕ)) → get tree path ≡ file
              → annotated_where how scope additions own tree path file ≡ some_edit edit → P edit
          of_file None here h = absurd (both_err (is_folder tree path) (refusals.IsFolder (place.Path path))
              (refusals.NoSuchPath path) (Some edit) h)
          of_file (Some bytes) here h = of_target bytes (target_of scope own tree path bytes) here
              (if_not (not (is_covered path)) (refusals.NotCovered path) _ (Some edit) h)

    of_converted : (edits : List Edit) → conversion_edits tree ≡ Ok edits → AllByRecursion P edits
    of_converted edits h = of_file (get tree dep5_path) refl h
      where
        of_text : (bytes : List ℕ) (given : Result (List ℕ) Dep5Refusal) → get tree dep5_path ≡ Some bytes
            → get tree toml_path ≡ None → replaced_by tree bytes given ≡ Ok edits → AllByRecursion P edits
        of_text bytes (Err refusal) here free e = absurd (cc)
        of_text bytes (Ok text) here free e =
            let both = dropped dep5_path bytes ∷ made toml_path text ∷ [] in
            subst (AllByRecursion P)
            (same_Ok both edits (if_not (is_clash tree toml_path) (refusals.Clash toml_path) (Ok both) edits e))
            (gone dep5_path bytes here, (comes toml_path text free, tt))

        of_file : (file : Option (List ℕ)) → get tree dep5_path ≡ file → conversion_where tree file ≡ Ok edits
            → AllByRecursion P edits
        of_file None here e = absurd (cc)
        of_file (Some bytes) here e =
            let rest : cond (is_some (get tree toml_path)) (Err (refusals.Exists toml_path))
            (replaced_by tree bytes (converted bytes)) ≡ Ok edits =
            if_not (nat_lt LONGEST_FILE (length bytes)) (refusals.TooLong dep5_path) _ edits e in
            let free = err_or (is_some (get tree toml_path)) (refusals.Exists toml_path)
            (replaced_by tree bytes (converted bytes)) edits rest in
            of_text bytes (converted bytes) here (none_from_test (get tree toml_path) free.0) free.1

    of_downloaded : (ids : List (List ℕ)) (texts : List LicenceText) (edits : List Edit)
        → download_edits ids texts tree ≡ Ok edits → AllByRecursion P edits
    of_downloaded ids texts edits h =
        let paths = set_of (map licence_path (set_of ids)) in
        let parts = edits_unless (ids_refusal tree texts (set_of ids)) (map (licence_edit texts) paths) edits h in
        subst (AllByRecursion P) parts.1 (each paths (are_made tree texts (set_of ids) parts.0))
      where
        each : (paths : List (List ℕ)) → AllByRecursion (IsMade tree texts) paths
            → AllByRecursion P (map (licence_edit texts) paths)
        each [] all = tt
        each (p ∷ paths) all = (comes p (unwrap_or (text_for texts (licence_id p)) []) all.0.absent, each paths all.1)

    of_lines : (path lines : List ℕ) (edit : Edit)
        → IsMadeOfLines tree path lines edit ⊎ HasLinesBehind tree path lines edit → P edit
    of_lines path lines edit (inl new) = subst P new.it_is (comes path lines new.absent)
    of_lines path lines edit (inr more) = subst P more.it_is (behind path more.bytes lines more.here more.some)

    of_reverted : (touched : List (List ℕ)) (changes : List Change) → AllByRecursion Q changes
        → AllByRecursion P (backs touched tree changes)
    of_reverted touched [] all = tt
    of_reverted touched (c ∷ cs) all = by_back (taken_back_unless touched tree c) refl (of_reverted touched cs all.1)
      where
        by_back : (o : Option Edit) → taken_back_unless touched tree c ≡ o → AllByRecursion P (backs touched tree cs)
            → AllByRecursion P (cons_option o (backs touched tree cs))
        by_back None is rest = rest
        by_back (Some edit) is rest = (back c edit all.0 (untouched_back touched tree c edit is).1, rest)

    pub each_edit : (command : Command) (edits : List Edit) → EachTakenBack Q command → edits_of command tree ≡ Ok edits
        → AllByRecursion P edits
    each_edit (Annotate places additions how scope) edits wanted h =
        by_styles (styles_in tree) (sym (of_annotation places additions how scope tree) ∙ h)
      where
        by_styles : (styles : Result OwnKinds Refusal)
            → edits_by_names places additions how scope tree styles ≡ Ok edits → AllByRecursion P edits
        by_styles (Err refusal) e = absurd (cc)
        by_styles (Ok own) e =
            all_edits (annotated_at how scope additions own tree) P
            (λ p edit k. of_annotated how scope additions p edit own k) (selected_paths scope places tree) edits
            (if_not (not scope.recursive && has_root places) (refusals.IsFolder place.Root)
            (edits_at (annotated_at how scope additions own tree) (selected_paths scope places tree)) edits e)
    each_edit (Amend places amendment scope) edits wanted h =
        by_styles (styles_in tree) (sym (of_amendment places amendment scope tree) ∙ h)
      where
        of_amended : (own : OwnKinds) (path : List ℕ) (edit : Edit)
            → amended_at amendment scope own tree path ≡ some_edit edit → P edit
        of_amended own path edit e = let h = amends_there amendment scope own tree path edit e in
            elim h.by [
              | inl one ↦ there path h.at h.bytes (Ok one.0) edit h.here one.1
              | inr dropped_there ↦ subst P dropped_there (gone h.at h.bytes h.here)
            ]

        by_styles : (styles : Result OwnKinds Refusal)
            → amendments_by_names places amendment scope tree styles ≡ Ok edits → AllByRecursion P edits
        by_styles (Err refusal) e = absurd (cc)
        by_styles (Ok own) e =
            all_edits (amended_at amendment scope own tree) P (of_amended own) (amended_paths scope places tree) edits
            (if_not (not scope.recursive && has_root places) (refusals.IsFolder place.Root)
            (edits_at (amended_at amendment scope own tree) (amended_paths scope places tree)) edits e)
    each_edit ConvertDep5 edits wanted h = of_converted edits (sym (of_conversion tree) ∙ h)
    each_edit (Download ids texts) edits wanted h = of_downloaded ids texts edits (sym (of_download ids texts tree) ∙ h)
    each_edit (AddStyles additions) edits wanted h = edits_of_lines additions tree edits P of_lines
        (addition_is additions tree edits (sym (of_addition additions tree) ∙ h))
    each_edit (Revert changes touched skip_moved) edits wanted h =
        subst (AllByRecursion P) (edits_are touched tree (cond skip_moved [] (stuck_on touched tree changes))
        (backs touched tree changes) edits (sym (of_revert changes touched skip_moved tree) ∙ h))
        (of_reverted touched changes wanted)

-- ---- a command changes the paths at which its path outcomes say so

-- ---- the paths that change

-- the path outcome is that this path changes
is_change : List ℕ → PathOutcome → Bool
is_change path (path_outcome.Changes other harm) = bytes_eq path other
is_change path reported = false

-- no path that is left changes by that
none_left : (path : List ℕ) (paths : List (List ℕ)) → list_any (is_change path) (map path_outcome.Left paths) ≡ false
unfolding is_change
none_left path [] = refl
none_left path (other ∷ paths) = none_left path paths

or_false : (b : Bool) → (b || false) ≡ b
or_false true = refl
or_false false = refl

is_that : (path : List ℕ) (reported : PathOutcome) → is_change path reported ≡ true
    → (harm : Option Harm) × (reported ≡ path_outcome.Changes path harm)
unfolding is_change
is_that path (path_outcome.Changes other harm) e =
    (harm, ap (λ p. path_outcome.Changes p harm) (sym ((bytes_eq-Decides path other).0 e)))
is_that path reported e = absurd (false≢true e)

it_is : (path : List ℕ) (harm : Option Harm) → is_change path (path_outcome.Changes path harm) ≡ true
unfolding is_change
it_is path harm = (bytes_eq-Decides path path).1 refl

changes_where : (path_outcomes : List PathOutcome) (path : List ℕ)
    → ((harm : Option Harm) × Contains path_outcomes (path_outcome.Changes path harm))
    ↔ (list_any (is_change path) path_outcomes ≡ true)
changes_where path_outcomes path = (
  λ (harm, h).
      All-contains (λ (f : PathOutcome).
      f ≡ path_outcome.Changes path harm → list_any (is_change path) path_outcomes ≡ true) path_outcomes
      (path_outcome.Changes path harm) (λ i d lt same.
      list_any_at (is_change path) path_outcomes i d lt (ap (is_change path) same ∙ it_is path harm)) h refl,
  λ e.
      let found = Any-from_list_any (is_change path) path_outcomes e in
      let that = is_that path found.1 found.4 in
      (that.0, subst (Contains path_outcomes) (found.3 ∙ that.1) (Contains-get_or path_outcomes found.0 found.1 found.2)),
)

no_change : (path other : List ℕ) (skipped : Bool) (harm : Option Harm) (path_outcomes : List PathOutcome)
    → list_any (is_change path) (path_outcome_by other skipped harm (Ok None) ∷ path_outcomes) ≡ list_any (is_change path) path_outcomes
unfolding is_change
no_change path other true harm path_outcomes = refl
no_change path other false harm path_outcomes = refl

-- where nothing is refused, the paths that change are those of the edits
of_paths : (path : List ℕ) (all : List PathEdit) (edits : List Edit) → edits_in all ≡ Ok edits
    → list_any (is_change path) (map path_outcome_of all) ≡ is_among (paths_at edits) path
unfolding is_change
of_paths path [] edits h = ap (λ es. is_among (paths_at es) path) (sym (no_edits edits h))
of_paths path (here ∷ all) edits h = elim (first_is here.edit (edits_in all) edits h) [
  | inl none ↦
      ap (λ r. list_any (is_change path) (path_outcome_by here.path here.skipped here.harm r ∷ map path_outcome_of all)) none.0
      ∙ no_change path here.path here.skipped here.harm (map path_outcome_of all) ∙ of_paths path all edits none.1
  | inr some ↦
      ap (λ r. list_any (is_change path) (path_outcome_by here.path here.skipped here.harm r ∷ map path_outcome_of all)) some.2
      ∙ ap (λ b. bytes_eq path some.0.path || b) (of_paths path all some.1 some.3)
      ∙ ap (λ es. is_among (paths_at es) path) (sym some.4)
]

-- ---- each edit changes its file

abbrev Differs : Files → Edit → Type 0
Differs tree edit = get tree edit.path ≢ edit.file

-- an edit by an annotation of these bytes is of its place, and gives others
edit_gives : (path at bytes : List ℕ) (expected : Expected) (edit : Edit)
    → edit_by path at bytes expected ≡ some_edit edit
    → (edit.path ≡ at) × (new : List ℕ) × (edit.file ≡ Some new) × (bytes_eq new bytes ≡ false)
edit_gives path at bytes (Err refusal) edit e = absurd (cc)
edit_gives path at bytes (Ok one) edit e =
    let parts = unskipped (bytes_eq (header.edited bytes one) bytes) _ edit e in
    let same = same_edit _ edit parts.1 in
    (ap (λ (x : Edit). x.path) (sym same), header.edited bytes one, ap (λ (x : Edit). x.file) (sym same), parts.0)

differs_there : (tree : Files) (path at bytes : List ℕ) (expected : Expected) (edit : Edit) → get tree at ≡ Some bytes
    → edit_by path at bytes expected ≡ some_edit edit → Differs tree edit
differs_there tree path at bytes expected edit here e = λ same.
    let g = edit_gives path at bytes expected edit e in
    let is : Some bytes ≡ Some g.1 = sym here ∙ ap (get tree) (sym g.0) ∙ same ∙ g.2 in
    false≢true (sym g.3 ∙ (bytes_eq-Decides g.1 bytes).1 (sym (same_Some bytes g.1 is)))

differs_new : (tree : Files) (path at : List ℕ) (expected : Expected) (edit : Edit) → get tree at ≡ None
    → edit_by path at [] expected ≡ some_edit edit → Differs tree edit
differs_new tree path at expected edit here e = λ same.
    let g = edit_gives path at [] expected edit e in
    let is : None ≡ Some g.1 = sym here ∙ ap (get tree) (sym g.0) ∙ same ∙ g.2 in cc

gone_differs : (tree : Files) (path bytes : List ℕ) → get tree path ≡ Some bytes → Differs tree (dropped path bytes)
gone_differs tree path bytes here = λ same. let is : Some bytes ≡ None = sym here ∙ same in cc

made_differs : (tree : Files) (path bytes : List ℕ) → get tree path ≡ None → Differs tree (made path bytes)
made_differs tree path bytes free = λ same. none-some bytes (sym free ∙ same)

more_differs : (tree : Files) (path bytes more : List ℕ) → get tree path ≡ Some bytes → is_empty more ≡ false
    → Differs tree (appended path bytes more)
more_differs tree path bytes more here some = λ same.
    let longer = ap (λ (b : List ℕ). length b) (same_Some bytes (bytes ++ more) (sym here ∙ same)) in
    false≢true (sym some ∙ of_length more (omega (arith, longer, length-append bytes more)))
  where
    of_length : (l : List ℕ) → length l ≡ 0 → is_empty l ≡ true
    of_length [] h = refl
    of_length (b ∷ l) h = absurd (omega (arith, h))

-- what a change that changes something is taken back to isn't what was there
back_differs : (change : Change) (file : Option (List ℕ)) (edit : Edit) → IsProper change
    → taken_back change file ≡ Some edit → file ≢ edit.file
back_differs (Make path new after) None edit proper e = absurd (none-some edit e)
back_differs (Make path new after) (Some file) edit proper e = λ same.
    let got : Some file ≡ None =
    same ∙ ap (λ (x : Edit). x.file) (sym (cond_some (bytes_eq file new) (dropped path new) edit e).1) in cc
back_differs (Drop path old before) None edit proper e = λ same.
    let got : None ≡ Some old = same ∙ ap (λ (x : Edit). x.file) (sym (same_Some (made path old) edit e)) in cc
back_differs (Drop path old before) (Some file) edit proper e = absurd (none-some edit e)
back_differs (Splice path at old new rest seal) None edit proper e = absurd (none-some edit e)
back_differs (Splice path at old new rest seal) (Some file) edit proper e = λ same.
    let is = cond_some (stands_as_written file at old new rest seal && is_short file && is_short
    (spliced file at (length new) old)) (put_back path file at old new) edit e in
    let stands = and_first (stands_as_written file at old new rest seal) (is_short file)
    (and_first (stands_as_written file at old new rest seal && is_short file)
    (is_short (spliced file at (length new) old)) is.0) in
    let got : Some file ≡ Some (spliced file at (length new) old) = same ∙ ap (λ (x : Edit). x.file) (sym is.1) in
    splice_differs empty path file old new at rest seal stands proper
    (same_Some file (spliced file at (length new) old) got)

back_differs_on : (tree : Files) (change : Change) (edit : Edit) → IsProper change
    → taken_back_on tree change ≡ Some edit → Differs tree edit
back_differs_on tree change edit proper e = λ same.
    back_differs change (get tree (path_of change)) edit proper (back_on tree change edit e).0
    (ap (get tree) (sym (path_back tree change edit e)) ∙ same)

each_differs : (command : Command) (tree : Files) (edits : List Edit) → HoldsEntry command
    → edits_of command tree ≡ Ok edits → AllByRecursion (Differs tree) edits
each_differs command tree edits holds h =
    each_edit tree (Differs tree) IsProper (differs_there tree) (differs_new tree) (gone_differs tree)
    (made_differs tree) (more_differs tree) (back_differs_on tree) command edits (all_proper command holds) h
  where
    all_proper : (command : Command) → HoldsEntry command → EachTakenBack IsProper command
    all_proper (Annotate places additions how scope) holds = tt
    all_proper (Amend places amendment scope) holds = tt
    all_proper ConvertDep5 holds = tt
    all_proper (Download ids texts) holds = tt
    all_proper (AddStyles additions) holds = tt
    all_proper (Revert changes touched skip_moved) holds = recursion_from_All IsProper changes holds.0.proper

-- ---- the edited tree

edited_differs : (tree : Files) (edits : List Edit) → AllByRecursion (Differs tree) edits → (path : List ℕ)
    → is_among (paths_at edits) path ≡ true → get tree path ≢ get (edited tree edits) path
edited_differs tree [] each path h = absurd (false≢true h)
edited_differs tree (e ∷ edits) each path h =
    of_test (bytes_eq path e.path) refl h (edited_differs tree edits each.1 path)
  where
    of_test : (b : Bool) → bytes_eq path e.path ≡ b → (b || is_among (paths_at edits) path) ≡ true
        → (is_among (paths_at edits) path ≡ true → get tree path ≢ get (edited tree edits) path)
        → get tree path ≢ get (edited tree (e ∷ edits)) path
    of_test true t k rest =
        let same = (bytes_eq-Decides path e.path).0 t in
        λ is. each.0 (ap (get tree) (sym same) ∙ is ∙ ap (get (with_file (edited tree edits) e.path e.file)) same
        ∙ with_same (edited tree edits) e.path e.file)
    of_test false t k rest =
        λ is. rest k (is ∙ with_other (edited tree edits) e.path e.file path
        (λ same. false≢true (sym t ∙ (bytes_eq-Decides path e.path).1 same)))

differs_where : (tree : Files) (edits : List Edit) → AllByRecursion (Differs tree) edits → (path : List ℕ)
    → (is_among (paths_at edits) path ≡ true) ↔ (get tree path ≢ get (edited tree edits) path)
differs_where tree edits each path =
    (edited_differs tree edits each path, λ other. of_test (is_among (paths_at edits) path) refl other)
  where
    of_test : (b : Bool) → is_among (paths_at edits) path ≡ b → get tree path ≢ get (edited tree edits) path → b ≡ true
    of_test true t other = refl
    of_test false t other = absurd (other (sym (edited_other tree edits path t)))

of_all : (command : Command) (tree after : Files) (path : List ℕ) → HoldsEntry command
    → outcome_of command tree ≡ Ok after
    → (list_any (is_change path) (path_outcomes_of command tree) ≡ true) ↔ (get tree path ≢ get after path)
unfolding path_outcomes_of outcome_of
of_all command tree after path holds h =
    let few = edits_of_tree tree after (edits_of command tree) h in
    let limit : limit_path_outcomes (edits_of command tree) ≡ [] =
    ap limit_path_outcomes few.1 ∙ ap (λ b. cond b (path_outcome.Refused refusals.TooMany ∷ []) []) few.3 in
    let reported = map path_outcome_of (path_edits_of command tree) in
    let left = map path_outcome.Left (left_paths command tree) in
    let same : list_any (is_change path) (reported ++ limit_path_outcomes (edits_of command tree) ++ left)
    ≡ is_among (paths_at few.0) path =
    ap (λ fs. list_any (is_change path) (reported ++ fs ++ left)) limit
    ∙ ap (λ fs. list_any (is_change path) (fs ++ left)) (append-nil reported)
    ∙ list_any-append (is_change path) reported left
    ∙ ap (λ b. list_any (is_change path) reported || b) (none_left path (left_paths command tree))
    ∙ or_false (list_any (is_change path) reported)
    ∙ of_paths path (path_edits_of command tree) few.0 few.1 in
    let where_differs = differs_where tree few.0 (each_differs command tree few.0 holds few.1) path in (
      λ e. subst (λ t. get tree path ≢ get t path) few.2 (where_differs.0 (sym same ∙ e)),
      λ other. same ∙ where_differs.1 (subst (λ t. get tree path ≢ get t path) (sym few.2) other),
    )

pub changes_where_trees_differ : (command : Command) (tree after : Files) (path : List ℕ) → HoldsEntry command
    → outcome_of command tree ≡ Ok after
    → ((harm : Option Harm) × Contains (path_outcomes_of command tree) (path_outcome.Changes path harm))
    ↔ (get tree path ≢ get after path)
changes_where_trees_differ command tree after path holds h =
    let here = changes_where (path_outcomes_of command tree) path in
    let there = of_all command tree after path holds h in
    (λ c. there.0 (here.0 c), λ other. here.1 (there.1 other))

-- ---- what the edits of a command report that they take away and write is what changes at their paths

-- ---- by an annotation

-- the edit that an annotation's header rules make
edit_of : (path at bytes : List ℕ) (expected : Expected) (edit : Edit) → edit_by path at bytes expected ≡ some_edit edit
    → (one : header.Edit) × (record {
      path = at;
      removed = take one.old_len (drop one.start bytes);
      written = header.new_bytes one;
      file = Some (header.edited bytes one);
    } ≡ edit)
edit_of path at bytes (Err refusal) edit e = absurd (cc)
edit_of path at bytes (Ok one) edit e =
    (one, same_edit _ edit (unskipped (bytes_eq (header.edited bytes one) bytes) _ edit e).1)

reported_there : (tree : Files) (path at bytes : List ℕ) (expected : Expected) (edit : Edit) → get tree at ≡ Some bytes
    → edit_by path at bytes expected ≡ some_edit edit → TakesAndWrites tree edit
reported_there tree path at bytes expected edit here e =
    let of = edit_of path at bytes expected edit e in
    let one = of.0 in
    subst (TakesAndWrites tree) of.1 (inr (inr (record {
      front = take one.start bytes;
      back = drop (one.start + one.old_len) bytes;
      before = here ∙ ap (λ b. Some b) (three_parts bytes one.start one.old_len);
      after = refl;
    })))

reported_new : (tree : Files) (path at : List ℕ) (expected : Expected) (edit : Edit) → get tree at ≡ None
    → edit_by path at [] expected ≡ some_edit edit → TakesAndWrites tree edit
reported_new tree path at expected edit here e =
    let of = edit_of path at [] expected edit e in
    let one = of.0 in
    subst (TakesAndWrites tree) of.1 (inl (
      here,
      ap (take one.old_len) (drop_none one.start) ∙ take_none one.old_len,
      ap (λ b. Some b) (ap₂ (λ x y. x ++ header.new_bytes one ++ y) (take_none one.start)
          (drop_none (one.start + one.old_len)) ∙ append-nil (header.new_bytes one)),
    ))

-- ---- of a file that comes or goes

reported_gone : (tree : Files) (path bytes : List ℕ) → get tree path ≡ Some bytes
    → TakesAndWrites tree (dropped path bytes)
reported_gone tree path bytes here = inr (inl (here, refl, refl))

reported_made : (tree : Files) (path bytes : List ℕ) → get tree path ≡ None → TakesAndWrites tree (made path bytes)
reported_made tree path bytes free = inl (free, refl, refl)

reported_more : (tree : Files) (path bytes more : List ℕ) → get tree path ≡ Some bytes → is_empty more ≡ false
    → TakesAndWrites tree (appended path bytes more)
reported_more tree path bytes more here some = inr (inr (record {
  front = bytes;
  back = [];
  before = here ∙ ap (λ b. Some b) (sym (append-nil (bytes ++ []) ∙ append-nil bytes));
  after = ap (λ b. Some b) (sym (append-nil (bytes ++ more)));
}))

-- ---- by a revert

back_reported : (tree : Files) (change : Change) (file : Option (List ℕ)) (edit : Edit)
    → get tree (path_of change) ≡ file → taken_back change file ≡ Some edit → TakesAndWrites tree edit
back_reported tree (Make path new after) None edit here e = absurd (none-some edit e)
back_reported tree (Make path new after) (Some file) edit here e =
    let is = cond_some (bytes_eq file new) (dropped path new) edit e in
    subst (TakesAndWrites tree) is.1
    (reported_gone tree path new (here ∙ ap (λ b. Some b) ((bytes_eq-Decides file new).0 is.0)))
back_reported tree (Drop path old before) None edit here e =
    subst (TakesAndWrites tree) (same_Some (made path old) edit e) (reported_made tree path old here)
back_reported tree (Drop path old before) (Some file) edit here e = absurd (none-some edit e)
back_reported tree (Splice path at old new rest seal) None edit here e = absurd (none-some edit e)
back_reported tree (Splice path at old new rest seal) (Some file) edit here e =
    let is = cond_some (stands_as_written file at old new rest seal && is_short file && is_short
    (spliced file at (length new) old)) (put_back path file at old new) edit e in
    let stands = and_first (stands_as_written file at old new rest seal) (is_short file)
    (and_first (stands_as_written file at old new rest seal && is_short file)
    (is_short (spliced file at (length new) old)) is.0) in
    subst (TakesAndWrites tree) is.1 (inr (inr (record {
      front = take at file;
      back = drop (at + length new) file;
      before = here ∙ ap (λ b. Some b) (whole_there tree path file old new at rest seal stands);
      after = refl;
    })))

back_reported_on : (tree : Files) (change : Change) (edit : Edit) → Unit {0} → taken_back_on tree change ≡ Some edit
    → TakesAndWrites tree edit
back_reported_on tree change edit any e =
    back_reported tree change (get tree (path_of change)) edit refl (back_on tree change edit e).0

-- ---- of a command

pub edits_reported : (command : Command) (tree : Files) (edits : List Edit) → edits_of command tree ≡ Ok edits
    → All (TakesAndWrites tree) edits
edits_reported command tree edits h =
    All-from_recursion (TakesAndWrites tree) edits
    (each_edit tree (TakesAndWrites tree) (λ change. Unit {0}) (reported_there tree) (reported_new tree)
    (reported_gone tree) (reported_made tree) (reported_more tree) (back_reported_on tree) command edits (nothing command) h)
  where
    each_nothing : (changes : List Change) → AllByRecursion (λ change. Unit {0}) changes
    each_nothing [] = tt
    each_nothing (c ∷ cs) = (tt, each_nothing cs)

    nothing : (command : Command) → EachTakenBack (λ change. Unit {0}) command
    nothing (Annotate places additions how scope) = tt
    nothing (Amend places amendment scope) = tt
    nothing ConvertDep5 = tt
    nothing (Download ids texts) = tt
    nothing (AddStyles additions) = tt
    nothing (Revert changes touched skip_moved) = each_nothing changes
