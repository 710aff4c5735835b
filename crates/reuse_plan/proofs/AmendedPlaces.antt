-- Which paths amend goes through.
use Rattle.std.proofs.Common.{◌≡◌, ◌↔◌, ◌⊎◌, inl, inr, ℕ, true, ◌||◌, List, refl, ap, ◌∙◌}
use Rattle.std.specs.List.{Contains}
use Rattle.std.proofs.lemmas.Bool.{or_cases, or_right}
use Rattle.reuse_change.specs.Files.{Files}
use Rattle.reuse_change.specs.Listing.{ArePaths}
use Rattle.reuse_command.specs.Covered.{is_covered}
use Rattle.reuse_plan.specs.Chosen.{IsNamed, StandsBeneath, IsAskedToAmend}
use Rattle.reuse_plan.specs.Selected.{amended_paths}
use Rattle.reuse_edit.specs.Tables.{is_table, is_amendable}
use Rattle.reuse_command.specs.declared.command.Place.{Place}
use Rattle.reuse_command.specs.declared.command.Scope.{Scope}
use Rattle.reuse_plan.proofs.Choosing.{IsChosen, chosen_exactly, paths_ascend}

-- it works on covered files and tables
asked_to_amend : (scope : Scope) (path : List ℕ) → IsChosen is_amendable scope path → IsAskedToAmend scope path
asked_to_amend scope path is = (or_cases (is_covered path) (is_table path) is.0, is.1, is.2)

chosen_to_amend : (scope : Scope) (path : List ℕ) → IsAskedToAmend scope path → IsChosen is_amendable scope path
chosen_to_amend scope path (inl covered, listed, none) = (ap (λ b. b || is_table path) covered, listed, none)
chosen_to_amend scope path (inr table, listed, none) =
    (ap (λ b. is_covered path || b) table ∙ or_right (is_covered path) true refl, listed, none)

module _ (scope : Scope) (places : List Place) (tree : Files) where
  pub amended_exactly : (path : List ℕ) → scope.recursive ≡ true → Contains (amended_paths scope places tree) path
      ↔ (IsNamed places tree path ⊎ (StandsBeneath places tree path × IsAskedToAmend scope path))
  amended_exactly path recursive =
      let chosen = chosen_exactly is_amendable scope places tree path recursive in (
        λ h. elim (chosen.0 h) [
          | inl named ↦ inl named
          | inr beneath ↦ inr (beneath.0, asked_to_amend scope path beneath.1)
        ],
        λ h. chosen.1 (elim h [
          | inl named ↦ inl named
          | inr beneath ↦ inr (beneath.0, chosen_to_amend scope path beneath.1)
        ]),
      )

  pub amended_ascend : ArePaths (amended_paths scope places tree)
  amended_ascend = paths_ascend is_amendable scope places tree
