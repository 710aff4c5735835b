-- Where amend is accepted on a tree.
use Rattle.std.proofs.Common.{◌≡◌, ◌↔◌, inl, inr, ℕ, Bool, true, false, cond, not, ◌&&◌, nat_lt, List, length, Option}
use Rattle.std.proofs.Common.{Some, None, Result, Ok, Err, refl, sym, ap, subst, ◌∙◌, IsOk, is_ok}
use Rattle.reuse_command.specs.Reading.{get, Files}
use Rattle.std.proofs.lemmas.Bool.{false≢true, and_from, and_parts, ltb-true, ltb-false, le-ltb, lt-ltb}
use Rattle.std.proofs.lemmas.Option.{none-some, same_Some}
use Rattle.reuse_text.specs.declared.TheConstants.{LONGEST_FILE}
use Rattle.reuse_amend.specs.declared.amendments.Amendments.{Amendments}
use Rattle.reuse_notice.proofs.SetLemmas.{In-from_contains, Contains-from_in}
use Rattle.reuse_toml.specs.declared.toml_change.TomlSplice.{TomlSplice}
use Rattle.reuse_toml.specs.declared.toml_values.AmendTomlRefusal.{AmendTomlRefusal}
use Rattle.reuse_toml.specs.TomlAmending.{toml_amendment_of}
use Rattle.reuse_style.specs.declared.style.Style.{Style}
use Rattle.reuse_header.specs.Amendment.{amended_file, amendment_of, neighbour_amendment_of}
use Rattle.reuse_header.specs.Neighbour.{is_text}
use Rattle.reuse_tags.specs.Everywhere.{amended_everywhere}
use Rattle.reuse_change.specs.Listing.{is_folder}
use Rattle.reuse_plan.specs.Accepted.{CanNeighbourBeAmended, CanFileBeAmended, CanBeAmended, CanAmend, FitsEntry}
use Rattle.reuse_plan.specs.Accepted.{CanTableBeAmended, CanCoveredBeAmended, CanTextBeAmended, IsNeighbourAccepted}
use Rattle.reuse_plan.specs.Accepted.{IsTextAccepted, IsPassedOver}
use Rattle.reuse_edit.specs.Amend.{style_or_named, style_for, amendment_edit, amend_neighbour, amend_inside}
use Rattle.reuse_edit.specs.Amend.{amend_covered, amended_where, amended_at, table_edit, table_amendment, amended_table}
use Rattle.reuse_edit.specs.Amend.{amend_beside, amend_own_text, amend_table, has_no_style_unread, is_passed_over}
use Rattle.reuse_edit.specs.Amend.{text_edit, remove_block, removal_edit, some_text, amend_block}
use Rattle.reuse_edit.specs.AmendmentPlan.{Expected}
use Rattle.reuse_edit.specs.Annotate.{neighbour_of}
use Rattle.reuse_plan.specs.Annotated.{IsStyleOf}
use Rattle.reuse_command.specs.Command.{has_root, values_of}
use Rattle.reuse_edit.specs.Tables.{is_table}
use Rattle.reuse_command.specs.Covered.{is_covered}
use Rattle.reuse_edit.specs.Edit.{edit_between, Edit, edit_to}
use Rattle.reuse_plan.specs.Outcome.{outcome_of, edits_of}
use Rattle.reuse_plan.specs.TreeStyles.{styles_in}
use Rattle.reuse_style.specs.Kinds.{OwnKinds, kind_of_file}
use Rattle.reuse_plan.specs.Selected.{amended_paths}
use Rattle.reuse_command.specs.declared.command.Command.TheVariants.{Amend}
use Rattle.reuse_command.specs.declared.command.FileAmendment.{FileAmendment}
use Rattle.reuse_command.specs.declared.command.FileAmendment.TheVariants.{InHeader, Everywhere, Remove}
use Rattle.reuse_command.specs.declared.header_fault.HeaderFault.TheVariants as faults
use Rattle.reuse_command.specs.declared.command.Place.{Place}
use Rattle.reuse_command.specs.declared.command.Place.TheVariants as place
use Rattle.reuse_command.specs.declared.command.Scope.{Scope}
use Rattle.reuse_command.specs.declared.reply.Refusal.{Refusal}
use Rattle.reuse_command.specs.declared.reply.Refusal.TheVariants as refusals
use Rattle.reuse_plan.proofs.AcceptedFiles.{IsDone, done_nothing, done_rest, done_by}
use Rattle.reuse_plan.proofs.AnnotationPathOutcomes.{all_at, root_from_test, test_from_root}
use Rattle.reuse_plan.proofs.AmendedFiles.{KeepsBlock, KeepsNeighbour, style_reason, reason_unread, unread_reason}
use Rattle.reuse_plan.proofs.AmendedTrees.{each_done}
use Rattle.reuse_edit.proofs.Results.{both_err, err_or}
use Rattle.reuse_plan.proofs.Outcomes.{edits_of_tree, held, tree_comes}
use Rattle.reuse_edit.proofs.EditResults.{done}
use Rattle.reuse_plan.proofs.CommandEdits.{edits_at, amendments_by_names, amendment_edits, of_amendment}
use Rattle.reuse_edit.proofs.TableLemmas.{not_table}
use Rattle.reuse_plan.proofs.LeftParts.{beside_parts, inside_parts, turn_done}
use Rattle.reuse_edit.specs.Removed.{removal_of, text_left, neighbour_removal_of, neighbour_left}

not_false : (b : Bool) → not b ≡ false → b ≡ true
not_false true e = refl
not_false false e = absurd (false≢true (sym e))

-- ---- one place

-- what the rules accept is done, and what is done they accept
amendment_done : (path at bytes : List ℕ) (expected : Expected) → IsOk (amended_file bytes expected)
    → IsDone (amendment_edit path at bytes expected)
amendment_done path at bytes (Ok None) is = (None, refl)
amendment_done path at bytes (Ok (Some edit)) is = done_by path at bytes (Ok edit) refl
amendment_done path at bytes (Err refusal) is = absurd (false≢true is)

amendment_accepted : (path at bytes : List ℕ) (expected : Expected) (given : Option Edit)
    → amendment_edit path at bytes expected ≡ Ok given → IsOk (amended_file bytes expected)
amendment_accepted path at bytes (Ok None) given h = refl
amendment_accepted path at bytes (Ok (Some edit)) given h = refl
amendment_accepted path at bytes (Err refusal) given h = absurd (cc)

-- the style of a file is one of these words
style_is : (scope : Scope) (own : OwnKinds) (path bytes : List ℕ) (style : Style)
    → IsStyleOf scope own path bytes style → style_for scope own path bytes ≡ Some style
style_is scope own path bytes style (inl asked) = ap (λ o. style_or_named o (kind_of_file own path bytes)) asked
style_is scope own path bytes style (inr named) =
    ap (λ o. style_or_named o (kind_of_file own path bytes)) named.0 ∙ ap (style_or_named None) named.1

-- a table: what the rules accept is done, and what is done they accept
table_done : (path bytes : List ℕ) (expected : Result (Option TomlSplice) AmendTomlRefusal)
    → IsOk (amended_table bytes expected) → IsDone (table_amendment path bytes expected)
table_done path bytes (Ok None) is = (None, refl)
table_done path bytes (Ok (Some change)) is = (Some (table_edit path bytes change), refl)
table_done path bytes (Err refusal) is = absurd (false≢true is)

table_accepted : (path bytes : List ℕ) (expected : Result (Option TomlSplice) AmendTomlRefusal) (given : Option Edit)
    → table_amendment path bytes expected ≡ Ok given → IsOk (amended_table bytes expected)
table_accepted path bytes (Ok None) given h = refl
table_accepted path bytes (Ok (Some change)) given h = refl
table_accepted path bytes (Err refusal) given h = absurd (cc)

-- each tag of a text: what the rules accept is done, and what is done they accept
text_done : (values : Amendments) (path at bytes : List ℕ) → CanTextBeAmended values bytes
    → IsDone (text_edit path at bytes (amended_everywhere values bytes))
text_done values path at bytes can = (
  edit_between at bytes can.0,
  ap (text_edit path at bytes) can.1 ∙ ap (λ b. cond b (Err (refusals.Header path faults.TooLong))
      (done (edit_between at bytes can.0))) (le-ltb LONGEST_FILE (length can.0) can.2),
)

text_accepted : (values : Amendments) (path at bytes : List ℕ) (given : Option Edit)
    → text_edit path at bytes (amended_everywhere values bytes) ≡ Ok given → CanTextBeAmended values bytes
text_accepted values path at bytes given h = of_text (amended_everywhere values bytes) refl h
  where
    of_text : (made : Option (List ℕ)) → amended_everywhere values bytes ≡ made
        → text_edit path at bytes made ≡ Ok given → CanTextBeAmended values bytes
    of_text None is e = absurd (cc)
    of_text (Some new) is e =
        let fits = err_or (nat_lt LONGEST_FILE (length new)) (refusals.Header path faults.TooLong) _ given e in
        (new, is, ltb-false LONGEST_FILE (length new) fits.0)

-- a neighbour
beside_is_done : (amendment : FileAmendment) (path beside : List ℕ) → IsNeighbourAccepted amendment beside
    → IsDone (amend_beside amendment path beside)
beside_is_done (InHeader values) path beside can =
    amendment_done path (neighbour_of path) beside (neighbour_amendment_of values beside) can
beside_is_done (Everywhere values) path beside can =
    done_rest _ _ _ (ap not can.0) (text_done values path (neighbour_of path) beside can.1)
beside_is_done (Remove values removal) path beside can =
    let left = turn_done path (amended_file beside (neighbour_amendment_of values beside))
    (λ text. neighbour_left text (neighbour_removal_of removal text)) can.0 can.1 can.2 in
    (edit_to (neighbour_of path) beside left.0, ap (removal_edit (neighbour_of path) beside) left.1)

beside_accepted : (amendment : FileAmendment) (path beside : List ℕ) (given : Option Edit)
    → amend_beside amendment path beside ≡ Ok given → IsNeighbourAccepted amendment beside
beside_accepted (InHeader values) path beside given h =
    amendment_accepted path (neighbour_of path) beside (neighbour_amendment_of values beside) given h
beside_accepted (Everywhere values) path beside given h =
    let text = err_or (not (is_text beside)) (refusals.Header path faults.NotText) _ given h in
    (not_false (is_text beside) text.0, text_accepted values path (neighbour_of path) beside given text.1)
beside_accepted (Remove values removal) path beside given h =
    let m = beside_parts values removal path (neighbour_of path) beside given h in
    (m.amended, m.by_values, ap is_ok m.by_removal)

-- a file that is text
module _ (scope : Scope) (own : OwnKinds) (path bytes : List ℕ) where
  own_text_done : (amendment : FileAmendment) → IsTextAccepted amendment scope own path bytes
      → IsDone (amend_own_text amendment scope own path bytes)
  own_text_done (Everywhere values) can = text_done values path path bytes can
  own_text_done (InHeader values) can = by_style (style_for scope own path bytes) refl
    where
      by_style : (found : Option Style) → style_for scope own path bytes ≡ found
          → IsDone (amend_block values path bytes found)
      by_style None of_style = (None, refl)
      by_style (Some style) of_style = amendment_done path path bytes (amendment_of style values bytes) (can style
          (style_reason scope own path bytes scope.style (kind_of_file own path bytes) style refl refl of_style))
  own_text_done (Remove values removal) can = by_style (style_for scope own path bytes) refl
    where
      by_style : (found : Option Style) → style_for scope own path bytes ≡ found
          → IsDone (remove_block values removal path bytes found)
      by_style None of_style = (None, refl)
      by_style (Some style) of_style =
          let it = can style
          (style_reason scope own path bytes scope.style (kind_of_file own path bytes) style refl refl of_style) in
          let left = turn_done path (amended_file bytes (amendment_of style values bytes))
          (λ text. text_left text (removal_of removal style text)) it.0 it.1 it.2 in
          (edit_between path bytes left.0, ap (λ x. removal_edit path bytes (some_text x)) left.1)

  own_text_accepted : (amendment : FileAmendment) (given : Option Edit)
      → amend_own_text amendment scope own path bytes ≡ Ok given → IsTextAccepted amendment scope own path bytes
  own_text_accepted (Everywhere values) given h = text_accepted values path path bytes given h
  own_text_accepted (InHeader values) given h = λ style styled.
      amendment_accepted path path bytes (amendment_of style values bytes) given
      (sym (ap (amend_block values path bytes) (style_is scope own path bytes style styled)) ∙ h)
  own_text_accepted (Remove values removal) given h = λ style styled.
      let m = inside_parts values removal style path bytes given
      (sym (ap (remove_block values removal path bytes) (style_is scope own path bytes style styled)) ∙ h) in
      (m.amended, m.by_values, ap is_ok m.by_removal)

  test_passed : (amendment : FileAmendment) → IsPassedOver amendment scope own path bytes
      → is_passed_over amendment scope own path bytes ≡ true
  test_passed (InHeader values) is = reason_unread scope own path is
  test_passed (Remove values removal) is = reason_unread scope own path is
  test_passed (Everywhere values) is =
      and_from (nat_lt LONGEST_FILE (length bytes)) (has_no_style_unread scope own path)
      (lt-ltb LONGEST_FILE (length bytes) is.0) (reason_unread scope own path is.1)

  passed_test : (amendment : FileAmendment) → is_passed_over amendment scope own path bytes ≡ true
      → IsPassedOver amendment scope own path bytes
  passed_test (InHeader values) is = unread_reason scope own path is
  passed_test (Remove values removal) is = unread_reason scope own path is
  passed_test (Everywhere values) is =
      let parts = and_parts (nat_lt LONGEST_FILE (length bytes)) (has_no_style_unread scope own path) is in
      (ltb-true LONGEST_FILE (length bytes) parts.0, unread_reason scope own path parts.1)

module _ (amendment : FileAmendment) (scope : Scope) (own : OwnKinds) (tree : Files) (path : List ℕ) where
  -- a table, or another file
  abbrev by_path : List ℕ → Bool → Result (Option Edit) Refusal
  by_path bytes table = cond table (amend_table (values_of amendment) path bytes) (cond (not (is_covered path))
      (Err (refusals.NotCovered path)) (amend_covered amendment scope own path bytes (get tree (neighbour_of path))))

  -- ---- what is accepted is done

  beside_done : (beside : List ℕ) → CanNeighbourBeAmended amendment path beside
      → IsDone (amend_neighbour amendment path beside)
  beside_done beside can =
      done_rest _ _ _ (le-ltb 4096 (length (neighbour_of path)) can.short_path)
      (done_rest _ _ _ (le-ltb LONGEST_FILE (length beside) can.short)
      (beside_is_done amendment path beside can.accepted))

  inside_done : (bytes : List ℕ)
      → (¬ (IsPassedOver amendment scope own path bytes) → CanFileBeAmended amendment scope own path bytes)
      → IsDone (amend_inside amendment scope own path bytes)
  inside_done bytes can = by_passed (is_passed_over amendment scope own path bytes) refl
    where
      by_text : CanFileBeAmended amendment scope own path bytes → (text : Bool) → is_text bytes ≡ text
          → IsDone (cond (not (is_text bytes)) (done None) (amend_own_text amendment scope own path bytes))
      by_text it false e = done_nothing _ _ (ap not e)
      by_text it true e = done_rest _ _ _ (ap not e) (own_text_done scope own path bytes amendment (it.accepted e))

      by_passed : (passed : Bool) → is_passed_over amendment scope own path bytes ≡ passed
          → IsDone (amend_inside amendment scope own path bytes)
      by_passed true e = done_nothing _ _ e
      by_passed false e =
          let it = can (λ is. false≢true (sym e ∙ test_passed scope own path bytes amendment is)) in
          done_rest _ _ _ e (done_rest _ _ _ (le-ltb LONGEST_FILE (length bytes) it.short)
          (by_text it (is_text bytes) refl))

  table_is_done : CanTableBeAmended (values_of amendment) tree path → IsDone (amended_at amendment scope own tree path)
  table_is_done can =
      let here = done_rest (nat_lt LONGEST_FILE (length can.bytes)) (Err (refusals.TooLong path))
      (table_amendment path can.bytes (toml_amendment_of (values_of amendment) can.bytes)) (le-ltb LONGEST_FILE
      (length can.bytes) can.short)
      (table_done path can.bytes (toml_amendment_of (values_of amendment) can.bytes) can.accepted) in (
        here.0,
        ap (amended_where amendment scope own tree path) can.there ∙ ap (by_path can.bytes) can.table ∙ here.1,
      )

  covered_is_done : CanCoveredBeAmended amendment scope own tree path
      → IsDone (amended_at amendment scope own tree path)
  covered_is_done can =
      let here = by_neighbour (get tree (neighbour_of path)) refl in (
        here.0,
        ap (amended_where amendment scope own tree path) can.there ∙ ap (by_path can.bytes)
            (not_table path can.covered) ∙ ap (λ b. cond (not b) (Err (refusals.NotCovered path))
            (amend_covered amendment scope own path can.bytes (get tree (neighbour_of path)))) can.covered ∙ here.1,
      )
    where
      by_neighbour : (beside : Option (List ℕ)) → get tree (neighbour_of path) ≡ beside
          → IsDone (amend_covered amendment scope own path can.bytes beside)
      by_neighbour (Some beside) is = beside_done beside (can.by_neighbour beside is)
      by_neighbour None is = inside_done can.bytes (can.by_file is)

  pub amendable_is_done : CanBeAmended amendment scope own tree path
      → IsDone (amended_at amendment scope own tree path)
  amendable_is_done can = elim can [ inl table ↦ table_is_done table | inr covered ↦ covered_is_done covered ]

  -- ---- what is done is accepted

  table_can : (bytes : List ℕ) (given : Option Edit) → get tree path ≡ Some bytes → is_table path ≡ true
      → amend_table (values_of amendment) path bytes ≡ Ok given → CanTableBeAmended (values_of amendment) tree path
  table_can bytes given here table h =
      let short = err_or (nat_lt LONGEST_FILE (length bytes)) (refusals.TooLong path) _ given h in
      record {
        bytes = bytes;
        there = here;
        table = table;
        short = ltb-false LONGEST_FILE (length bytes) short.0;
        accepted = table_accepted path bytes (toml_amendment_of (values_of amendment) bytes) given short.1;
      }

  neighbour_can : (beside : List ℕ) (given : Option Edit) → amend_neighbour amendment path beside ≡ Ok given
      → CanNeighbourBeAmended amendment path beside
  neighbour_can beside given h =
      let few = err_or (nat_lt 4096 (length (neighbour_of path))) (refusals.TooLong path) _ given h in
      let short = err_or (nat_lt LONGEST_FILE (length beside)) (refusals.TooLong path) _ given few.1 in
      record {
        short_path = ltb-false 4096 (length (neighbour_of path)) few.0;
        short = ltb-false LONGEST_FILE (length beside) short.0;
        accepted = beside_accepted amendment path beside given short.1;
      }

  file_can : (bytes : List ℕ) (given : Option Edit) → amend_inside amendment scope own path bytes ≡ Ok given
      → ¬ (IsPassedOver amendment scope own path bytes) → CanFileBeAmended amendment scope own path bytes
  file_can bytes given h read = by_passed (is_passed_over amendment scope own path bytes) refl h
    where
      inner : Result (Option Edit) Refusal
      inner = cond (not (is_text bytes)) (done None) (amend_own_text amendment scope own path bytes)

      by_passed : (passed : Bool) → is_passed_over amendment scope own path bytes ≡ passed
          → cond passed (done None) (cond (nat_lt LONGEST_FILE (length bytes)) (Err (refusals.TooLong path)) inner)
          ≡ Ok given → CanFileBeAmended amendment scope own path bytes
      by_passed true e f = absurd (read (passed_test scope own path bytes amendment e))
      by_passed false e f =
          let short = err_or (nat_lt LONGEST_FILE (length bytes)) (refusals.TooLong path) inner given f in
          record {
            short = ltb-false LONGEST_FILE (length bytes) short.0;
            accepted = λ text. own_text_accepted scope own path bytes amendment given (sym (ap (λ b. cond (not b)
                (done None) (amend_own_text amendment scope own path bytes)) text) ∙ short.1);
          }

  pub done_is_amendable : IsDone (amended_at amendment scope own tree path)
      → CanBeAmended amendment scope own tree path
  done_is_amendable (given, h) = of_file (get tree path) refl h
    where
      of_neighbour : (bytes : List ℕ) (beside : Option (List ℕ)) → get tree path ≡ Some bytes → is_covered path ≡ true
          → get tree (neighbour_of path) ≡ beside → amend_covered amendment scope own path bytes beside ≡ Ok given
          → CanCoveredBeAmended amendment scope own tree path
      of_neighbour bytes (Some there) here covered is e = record {
        bytes = bytes;
        there = here;
        covered = covered;
        by_neighbour = λ other too. subst (CanNeighbourBeAmended amendment path) (same_Some there other (sym is ∙ too))
            (neighbour_can there given e);
        by_file = λ none read. absurd (none-some there (sym none ∙ is));
      }
      of_neighbour bytes None here covered is e = record {
        bytes = bytes;
        there = here;
        covered = covered;
        by_neighbour = λ other too. absurd (none-some other (sym is ∙ too));
        by_file = λ none read. file_can bytes given e read;
      }

      of_path : (bytes : List ℕ) → get tree path ≡ Some bytes → (b : Bool) → is_table path ≡ b
          → cond b (amend_table (values_of amendment) path bytes)
          (cond (not (is_covered path)) (Err (refusals.NotCovered path))
          (amend_covered amendment scope own path bytes (get tree (neighbour_of path)))) ≡ Ok given
          → CanBeAmended amendment scope own tree path
      of_path bytes is true t e = inl (table_can bytes given is t e)
      of_path bytes is false t e =
          let k = err_or (not (is_covered path)) (refusals.NotCovered path) _ given e in
          inr (of_neighbour bytes (get tree (neighbour_of path)) is (not_false (is_covered path) k.0) refl k.1)

      of_file : (file : Option (List ℕ)) → get tree path ≡ file
          → amended_where amendment scope own tree path file ≡ Ok given → CanBeAmended amendment scope own tree path
      of_file None is e = absurd
          (both_err (is_folder tree path) (refusals.IsFolder (place.Path path)) (refusals.NoSuchPath path) given e)
      of_file (Some bytes) is e = of_path bytes is (is_table path) refl e

-- ---- the tree

module _ (places : List Place) (amendment : FileAmendment) (scope : Scope) (tree : Files) where
  abbrev by_names : Result OwnKinds Refusal → Result (List Edit) Refusal
  by_names styles = amendments_by_names places amendment scope tree styles

  accepts : KeepsBlock → KeepsNeighbour → (edits : List Edit) (styles : Result OwnKinds Refusal)
      → styles_in tree ≡ styles → by_names styles ≡ Ok edits → FitsEntry (Amend places amendment scope) tree
      → CanAmend places amendment scope tree
  accepts keeps_block keeps_neighbour edits (Err refusal) is h fits = absurd (cc)
  accepts keeps_block keeps_neighbour edits (Ok own) is h fits =
      let at = amended_at amendment scope own tree in
      let paths = amended_paths scope places tree in
      let parts = err_or (not scope.recursive && has_root places) (refusals.IsFolder place.Root)
      (edits_at at paths) edits h in
      record {
        own = own;
        styles = is;
        root = root_from_test scope.recursive (has_root places) parts.0;
        each = λ path there. done_is_amendable amendment scope own tree path (each_done keeps_block keeps_neighbour
            amendment scope own tree paths edits parts.1 path (In-from_contains paths path there));
        fits = fits;
      }

  comes : CanAmend places amendment scope tree
      → (edits : List Edit) × (amendment_edits places amendment scope tree ≡ Ok edits)
  comes can =
      let at = amended_at amendment scope can.own tree in
      let paths = amended_paths scope places tree in
      let all = all_at at paths (λ path there. amendable_is_done amendment scope can.own tree path
      (can.each path (Contains-from_in paths path there))) in (
        all.0,
        ap by_names can.styles ∙ ap (λ b. cond b (Err (refusals.IsFolder place.Root)) (edits_at at paths))
            (test_from_root scope.recursive (has_root places) can.root) ∙ all.1,
      )

  pub amend_accepted : KeepsBlock → KeepsNeighbour
      → ((after : Files) × (outcome_of (Amend places amendment scope) tree ≡ Ok after))
      ↔ CanAmend places amendment scope tree
  unfolding outcome_of
  amend_accepted keeps_block keeps_neighbour = (
    λ given.
        let of_tree = edits_of_tree tree given.0 (edits_of (Amend places amendment scope) tree) given.1 in
        accepts keeps_block keeps_neighbour of_tree.0 (styles_in tree) refl
        (sym (of_amendment places amendment scope tree) ∙ of_tree.1)
        (held tree given.0 (edits_of (Amend places amendment scope) tree) given.1),
    λ can. let edits = comes can in tree_comes tree (edits_of (Amend places amendment scope) tree) edits.0
        (of_amendment places amendment scope tree ∙ edits.1) can.fits,
  )
