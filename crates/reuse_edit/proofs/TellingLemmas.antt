-- What tells the licensing of a path behind what amend does there: its neighbour, or the file itself.
use Rattle.std.proofs.Common.{◌≡◌, ◌≢◌, ◌∙◌, ℕ, Bool, true, false, cond, List, Option, Some, None, Result, Ok, Err}
use Rattle.std.proofs.Common.{refl, sym, ap, ap₂, bytes_eq, inl, inr}
use Rattle.std.specs.FinMap.{get}
use Rattle.std.specs.Option.{option_or, option_map_or}
use Rattle.std.proofs.lemmas.Bool.{false≢true}
use Rattle.std.proofs.lemmas.Slice.Eq.{bytes_eq-Decides}
use Rattle.reuse_amend.specs.declared.amendments.Amendments.{Amendments}
use Rattle.reuse_change.specs.Files.{Files}
use Rattle.reuse_change.specs.declared.change.Change.{Change}
use Rattle.reuse_change.specs.declared.change.Change.TheVariants.{Drop, Make, Splice}
use Rattle.reuse_edit.specs.AmendmentPlan.{beside_by, names_behind, takes_away}
use Rattle.reuse_edit.specs.Annotate.{neighbour_of}
use Rattle.reuse_edit.specs.Edit.{Edit, file_then}
use Rattle.reuse_edit.specs.Left.{still_names, still_tells}
use Rattle.reuse_edit.specs.Answered.{CarriesOutEdit, MakesEdit}
use Rattle.reuse_edit.specs.declared.annotation.Amendment.{Amendment}
use Rattle.reuse_command.specs.declared.reply.Refusal.{Refusal}
use Rattle.reuse_edit.proofs.Amending.{IsEditOf, beside_edit}
use Rattle.reuse_edit.proofs.NeighbourPaths.{apart}
use Rattle.reuse_edit.proofs.EditedPlaces.{makes_by}

-- an edit of a place is there
pub edit_place : (path at bytes : List ℕ) (edit : Edit) → IsEditOf path at bytes edit → edit.path ≡ at
edit_place path at bytes edit (inl one) = (makes_by path at bytes (Ok one.0) (Some edit) one.1).2.0
edit_place path at bytes edit (inr same) = sym (ap (λ (e : Edit). e.path) same)

-- that of the neighbour is there
pub beside_place : (asked : Amendment) (path beside : List ℕ) (edit : Edit)
    → beside_by asked path beside ≡ Ok (Some edit) → edit.path ≡ neighbour_of path
beside_place asked path beside edit is =
    edit_place path (neighbour_of path) beside edit (beside_edit path edit asked.amendment.now beside is)

-- the path of another file isn't that of the edit
other_path : (path at : List ℕ) (edit : Edit) → edit.path ≡ at → path ≢ at → bytes_eq path edit.path ≡ false
other_path path at edit is other = of_test (bytes_eq path edit.path) refl
  where
    of_test : (b : Bool) → bytes_eq path edit.path ≡ b → b ≡ false
    of_test true e = absurd (other ((bytes_eq-Decides path edit.path).0 e ∙ is))
    of_test false e = refl

-- what a change leaves of its file
left_by_change : (tree : Files) (change : Change) (edit : Edit) → CarriesOutEdit tree change edit
    → takes_away (Some change) ≡ false → (made : List ℕ) × (edit.file ≡ Some made)
left_by_change tree (Make path new after) edit carries e = (new, carries.applies.range.1)
left_by_change tree (Drop path old before) edit carries e = absurd (false≢true (sym e))
left_by_change tree (Splice path at old new rest seal) edit carries e = (_, carries.applies.range.3.whole)

gone_by_change : (tree : Files) (change : Change) (edit : Edit) → CarriesOutEdit tree change edit
    → takes_away (Some change) ≡ true → edit.file ≡ None
gone_by_change tree (Make path new after) edit carries e = absurd (false≢true e)
gone_by_change tree (Drop path old before) edit carries e = carries.applies.range.1
gone_by_change tree (Splice path at old new rest seal) edit carries e = absurd (false≢true e)

module _ (a : Amendments) (tree : Files) (path : List ℕ) where
  abbrev names : Option (List ℕ) → Bool
  names text = option_map_or (still_names a) text false

  abbrev Given : Type 0
  Given = Result (Option Edit) Refusal

  -- where the neighbour is there
  module _ (bytes beside : List ℕ) (here : get tree path ≡ Some bytes)
      (there : get tree (neighbour_of path) ≡ Some beside) (given : Given)
      (placed : (edit : Edit) → given ≡ Ok (Some edit) → edit.path ≡ neighbour_of path) where
    -- it tells, as what is done leaves it
    pub neighbour_tells : (change : Option Change) → MakesEdit tree given change → takes_away change ≡ false
        → names_behind a beside given ≡ still_tells a tree path given
    neighbour_tells None makes stays =
        ap (names_behind a beside) makes
        ∙ sym (ap (still_tells a tree path) makes ∙ ap (λ t. names (option_or t (get tree path))) there)
    neighbour_tells (Some change) makes stays =
        let edit = makes.0 in
        let left = left_by_change tree change edit makes.2 stays in
        let rest = file_then tree (Some edit) path in
        let same : bytes_eq (neighbour_of path) edit.path ≡ true =
        (bytes_eq-Decides (neighbour_of path) edit.path).1 (sym (placed edit makes.1)) in
        ap (names_behind a beside) makes.1 ∙ ap names left.1
        ∙ sym (ap (still_tells a tree path) makes.1
        ∙ ap₂ (λ b f. names (option_or (cond b f (get tree (neighbour_of path))) rest)) same left.1)

    -- where it goes, the file does
    pub file_tells : (change : Option Change) → MakesEdit tree given change → takes_away change ≡ true
        → still_names a bytes ≡ still_tells a tree path given
    file_tells None makes goes = absurd (false≢true goes)
    file_tells (Some change) makes goes =
        let edit = makes.0 in
        let is = placed edit makes.1 in
        let rest = file_then tree (Some edit) path in
        let same : bytes_eq (neighbour_of path) edit.path ≡ true =
        (bytes_eq-Decides (neighbour_of path) edit.path).1 (sym is) in
        sym (ap (still_tells a tree path) makes.1
        ∙ ap₂ (λ b f. names (option_or (cond b f (get tree (neighbour_of path))) rest)) same
        (gone_by_change tree change edit makes.2 goes)
        ∙ ap (λ b. names (cond b edit.file (get tree path)))
        (other_path path (neighbour_of path) edit is (apart path)) ∙ ap names here)

  -- where it isn't, the file tells, as what is done leaves it
  pub own_text_tells : (bytes : List ℕ) → get tree path ≡ Some bytes → get tree (neighbour_of path) ≡ None
      → (given : Given) → ((edit : Edit) → given ≡ Ok (Some edit) → edit.path ≡ path)
      → names_behind a bytes given ≡ still_tells a tree path given
  own_text_tells bytes here alone (Err refusal) placed = refl
  own_text_tells bytes here alone (Ok None) placed = sym (ap₂ (λ t u. names (option_or t u)) alone here)
  own_text_tells bytes here alone (Ok (Some edit)) placed =
      let is = placed edit refl in
      sym (ap₂ (λ b t. names (option_or (cond b edit.file t) (file_then tree (Some edit) path)))
      (other_path (neighbour_of path) path edit is (λ e. apart path (sym e))) alone
      ∙ ap (λ b. names (cond b edit.file (get tree path))) ((bytes_eq-Decides path edit.path).1 (sym is)))
