-- What amend makes of a tree, said in other words, is one tree.
use Rattle.std.proofs.Common.{◌≡◌, ◌≢◌, ◌⊎◌, inl, inr, ℕ, List, Option, Some, None, sym, ap, ap₂, subst, ◌∙◌, true}
use Rattle.std.proofs.Common.{Contains, arith}
use Rattle.reuse_command.specs.Reading.{get, Files}
use Rattle.std.proofs.lemmas.Bool.{false≢true}
use Rattle.std.proofs.lemmas.Option.{same_Some, none-some}
use Rattle.reuse_amend.specs.declared.amendments.Amendments.{Amendments}
use Rattle.reuse_notice.proofs.SetLemmas.{In, In-from_contains, Contains-from_in}
use Rattle.reuse_toml.specs.TomlAmending.{toml_amendment_of}
use Rattle.reuse_style.specs.declared.style.Kind.{Kind}
use Rattle.reuse_style.specs.declared.style.Kind.TheVariants as kind
use Rattle.reuse_style.specs.declared.style.Style.{Style}
use Rattle.reuse_header.specs.Amendment.{amended_file, amendment_of}
use Rattle.reuse_change.proofs.FileMaps.{same_files}
use Rattle.reuse_plan.specs.Amended.{IsNeighbourAmended, IsFileAmended, HasNoPlace, IsTableAmended, IsCoveredAmended}
use Rattle.reuse_plan.specs.Amended.{IsAmended, Amends, HasNoText, BecomesFile, BecomesNeighbour, IsBlockAmended}
use Rattle.reuse_edit.specs.Removed.{removal_of, text_left, neighbour_removal_of, neighbour_left}
use Rattle.reuse_edit.specs.Amend.{amended_table}
use Rattle.reuse_edit.specs.Annotate.{neighbour_of}
use Rattle.reuse_plan.specs.Annotated.{IsStyleOf, HasKind, Pair}
use Rattle.reuse_edit.specs.Tables.{is_table}
use Rattle.reuse_edit.proofs.TableLemmas.{not_table}
use Rattle.reuse_command.specs.Command.{values_of}
use Rattle.reuse_command.specs.Covered.{is_covered}
use Rattle.reuse_style.specs.Kinds.{OwnKinds}
use Rattle.reuse_plan.specs.Selected.{amended_paths}
use Rattle.reuse_command.specs.declared.command.FileAmendment.{FileAmendment}
use Rattle.reuse_command.specs.declared.command.FileAmendment.TheVariants.{InHeader, Everywhere, Remove}
use Rattle.reuse_command.specs.declared.command.Place.{Place}
use Rattle.reuse_command.specs.declared.command.Scope.{Scope}
use Rattle.reuse_plan.proofs.OneAnnotation.{one_style, Found, Lacking, searched}
use Rattle.reuse_edit.proofs.Results.{same_Ok}

-- ---- one file

-- a file of a kind without a style has none
module _ (scope : Scope) (own : OwnKinds) (path bytes : List ℕ) (style : Style) where
  styled : (named : Kind) → (kind.Style style ≡ named → ⊥) → IsStyleOf scope own path bytes style
      → HasKind scope own path bytes named → ⊥
  styled named other (inl asked) has = none-some style (sym has.0 ∙ asked)
  styled named other (inr by_name) has = other (sym by_name.1 ∙ has.1)

  uncommentable : kind.Style style ≡ kind.Uncommentable → ⊥
  uncommentable e = cc

  unknown : kind.Style style ≡ kind.Unknown → ⊥
  unknown e = cc

-- what the rules make of a file or of a neighbour is one
module _ (scope : Scope) (own : OwnKinds) (path bytes : List ℕ) where
  becomes_text : (amendment : FileAmendment) (made : List ℕ) → HasNoText amendment scope own path bytes
      → BecomesFile amendment scope own path bytes made → ⊥
  becomes_text (InHeader values) made (inl binary) file = false≢true (sym binary ∙ file.text)
  becomes_text (InHeader values) made (inr (inl is)) file = styled scope own path bytes file.style kind.Uncommentable
      (uncommentable scope own path bytes file.style) file.of_style is
  becomes_text (InHeader values) made (inr (inr is)) file =
      styled scope own path bytes file.style kind.Unknown (unknown scope own path bytes file.style) file.of_style is
  becomes_text (Remove values removal) made (inl binary) file = false≢true (sym binary ∙ file.by_values.text)
  becomes_text (Remove values removal) made (inr (inl is)) file =
      styled scope own path bytes file.by_values.style kind.Uncommentable
      (uncommentable scope own path bytes file.by_values.style) file.by_values.of_style is
  becomes_text (Remove values removal) made (inr (inr is)) file =
      styled scope own path bytes file.by_values.style kind.Unknown
      (unknown scope own path bytes file.by_values.style) file.by_values.of_style is
  becomes_text (Everywhere values) made (inl binary) file = false≢true (sym binary ∙ file.1.text)
  becomes_text (Everywhere values) made (inr long) file = omega (arith, long.0, file.0)

  block_one : (values : Amendments) (made other : List ℕ) (one : IsBlockAmended values scope own path bytes made)
      (two : IsBlockAmended values scope own path bytes other) → (one.style ≡ two.style) × (made ≡ other)
  block_one values made other one two =
      let style = one_style scope own path bytes one.style two.style one.of_style two.of_style in (
        style,
        same_Ok made other (sym one.by_rules ∙ ap (λ s. amended_file bytes (amendment_of s values bytes)) style
            ∙ two.by_rules),
      )

  becomes_file : (amendment : FileAmendment) (made other : List ℕ) → BecomesFile amendment scope own path bytes made
      → BecomesFile amendment scope own path bytes other → made ≡ other
  becomes_file (InHeader values) made other one two =
      (block_one values made other one two).1
  becomes_file (Remove values removal) made other one two =
      let same = block_one values one.amended two.amended one.by_values two.by_values in
      same_Ok made other (sym one.by_rules
      ∙ ap₂ (λ (s : Style) (m : List ℕ). text_left m (removal_of removal s m)) same.0 same.1 ∙ two.by_rules)
  becomes_file (Everywhere values) made other one two = same_Some made other (sym one.1.by_rules ∙ two.1.by_rules)

becomes_neighbour : (amendment : FileAmendment) (beside : List ℕ) (left other : Option (List ℕ))
    → BecomesNeighbour amendment beside left → BecomesNeighbour amendment beside other → left ≡ other
becomes_neighbour (InHeader values) beside None other one two = absurd one
becomes_neighbour (InHeader values) beside (Some made) None one two = absurd two
becomes_neighbour (InHeader values) beside (Some made) (Some other) one two =
    ap (λ (m : List ℕ). Some m) (same_Ok made other (sym one.by_rules ∙ two.by_rules))
becomes_neighbour (Everywhere values) beside None other one two = absurd one
becomes_neighbour (Everywhere values) beside (Some made) None one two = absurd two
becomes_neighbour (Everywhere values) beside (Some made) (Some other) one two =
    ap (λ (m : List ℕ). Some m) (same_Some made other (sym one.by_rules ∙ two.by_rules))
becomes_neighbour (Remove values removal) beside left other one two =
    let same = same_Ok one.amended two.amended (sym one.by_values.by_rules ∙ two.by_values.by_rules) in
    same_Ok left other (sym one.by_rules
    ∙ ap (λ (m : List ℕ). neighbour_left m (neighbour_removal_of removal m)) same ∙ two.by_rules)

module _ (amendment : FileAmendment) (scope : Scope) (own : OwnKinds) (path bytes : List ℕ) (old : Pair) where
  has_place : (new : Pair) → HasNoPlace amendment scope own path bytes old
      → IsFileAmended amendment scope own path bytes old new → ⊥
  has_place new none file = becomes_text scope own path bytes amendment file.made none.1 file.becomes

  both_files : (new other : Pair) → IsFileAmended amendment scope own path bytes old new
      → IsFileAmended amendment scope own path bytes old other → new ≡ other
  both_files new other one two =
      let made = becomes_file scope own path bytes amendment one.made two.made one.becomes two.becomes in
      one.holds ∙ ap (λ (m : List ℕ). record { file = Some m; neighbour = None }) made ∙ sym two.holds

  both_neighbours : (new other : Pair) → IsNeighbourAmended amendment old new
      → IsNeighbourAmended amendment old other → new ≡ other
  both_neighbours new other one two =
      let beside = same_Some one.beside two.beside (sym one.there ∙ two.there) in
      let left = becomes_neighbour amendment two.beside one.left two.left
      (subst (λ (b : List ℕ). BecomesNeighbour amendment b one.left) beside one.becomes) two.becomes in
      one.holds ∙ ap (λ (m : Option (List ℕ)). record { file = old.file; neighbour = m }) left ∙ sym two.holds

  no_neighbour_there : (new : Pair) → old.neighbour ≡ None → IsNeighbourAmended amendment old new → ⊥
  no_neighbour_there new alone beside = none-some beside.beside (sym alone ∙ beside.there)

  abbrev Becomes : Pair → Type 0
  Becomes new = (HasNoPlace amendment scope own path bytes old × (new ≡ old))
      ⊎ IsFileAmended amendment scope own path bytes old new ⊎ IsNeighbourAmended amendment old new

  becomes_one : (new other : Pair) → Becomes new → Becomes other → new ≡ other
  becomes_one new other (inl one) (inl two) = one.1 ∙ sym two.1
  becomes_one new other (inl one) (inr (inl two)) = absurd (has_place other one.0 two)
  becomes_one new other (inl one) (inr (inr two)) = absurd (no_neighbour_there other one.0.0 two)
  becomes_one new other (inr (inl one)) (inl two) = absurd (has_place new two.0 one)
  becomes_one new other (inr (inl one)) (inr (inl two)) = both_files new other one two
  becomes_one new other (inr (inl one)) (inr (inr two)) = absurd (no_neighbour_there other one.alone two)
  becomes_one new other (inr (inr one)) (inl two) = absurd (no_neighbour_there new two.0.0 one)
  becomes_one new other (inr (inr one)) (inr (inl two)) = absurd (no_neighbour_there new two.alone one)
  becomes_one new other (inr (inr one)) (inr (inr two)) = both_neighbours new other one two

covered_one : (amendment : FileAmendment) (scope : Scope) (own : OwnKinds) (path : List ℕ) (old new other : Pair)
    → IsCoveredAmended amendment scope own path old new
    → IsCoveredAmended amendment scope own path old other → new ≡ other
covered_one amendment scope own path old new other one two =
    let same = same_Some two.bytes one.bytes (sym two.there ∙ one.there) in
    becomes_one amendment scope own path one.bytes old new other one.becomes
    (subst (λ bytes. Becomes amendment scope own path bytes old other) same two.becomes)

-- a table
both_tables : (amendments : Amendments) (old new other : Pair) → IsTableAmended amendments old new
    → IsTableAmended amendments old other → new ≡ other
both_tables amendments old new other one two =
    let bytes = same_Some one.bytes two.bytes (sym one.there ∙ two.there) in
    let made = same_Ok one.made two.made
    (sym one.by_rules ∙ ap (λ b. amended_table b (toml_amendment_of amendments b)) bytes ∙ two.by_rules) in
    one.holds ∙ ap (λ (m : List ℕ). record { file = Some m; neighbour = old.neighbour }) made ∙ sym two.holds

-- it isn't covered
not_both : (path : List ℕ) → is_table path ≡ true → is_covered path ≡ true → ⊥
not_both path table covered = false≢true (sym (not_table path covered) ∙ table)

amended_one : (amendment : FileAmendment) (scope : Scope) (own : OwnKinds) (path : List ℕ) (old new other : Pair)
    → IsAmended amendment scope own path old new → IsAmended amendment scope own path old other → new ≡ other
amended_one amendment scope own path old new other (inl one) (inl two) =
    both_tables (values_of amendment) old new other one.1 two.1
amended_one amendment scope own path old new other (inl one) (inr two) = absurd (not_both path one.0 two.covered)
amended_one amendment scope own path old new other (inr one) (inl two) = absurd (not_both path two.0 one.covered)
amended_one amendment scope own path old new other (inr one) (inr two) =
    covered_one amendment scope own path old new other one two

-- ---- the tree

module _ (places : List Place) (amendment : FileAmendment) (scope : Scope) (before after other : Files)
    (one : Amends places amendment scope before after) (two : Amends places amendment scope before other) where
  abbrev paths : List (List ℕ)
  paths = amended_paths scope places before

  same_pair : (path : List ℕ) → In path paths
      → (get after path ≡ get other path) × (get after (neighbour_of path) ≡ get other (neighbour_of path))
  same_pair path there =
      let here = Contains-from_in paths path there in
      let own = same_Ok two.own one.own (sym two.styles ∙ one.styles) in
      let same = amended_one amendment scope one.own path _ _ _ (one.selected path here)
      (subst (λ names. IsAmended amendment scope names path _ _) own (two.selected path here)) in
      (ap (λ (pair : Pair). pair.file) same, ap (λ (pair : Pair). pair.neighbour) same)

  same_at : (q : List ℕ) → get after q ≡ get other q
  same_at q = by_path (searched (λ path. path) q paths) (searched neighbour_of q paths)
    where
      by_path : Found (λ path. path) q paths ⊎ Lacking (λ path. path) q paths
          → Found neighbour_of q paths ⊎ Lacking neighbour_of q paths → get after q ≡ get other q
      by_path (inl found) beside = subst (λ p. get after p ≡ get other p) (sym found.2) (same_pair found.0 found.1).0
      by_path (inr none) (inl found) =
          subst (λ p. get after p ≡ get other p) (sym found.2) (same_pair found.0 found.1).1
      by_path (inr none) (inr lacking) =
          let apart : (path : List ℕ) → Contains paths path → (q ≢ path) × (q ≢ neighbour_of path) = λ path there.
          (none path (In-from_contains paths path there), lacking path (In-from_contains paths path there)) in
          one.others q apart ∙ sym (two.others q apart)

  pub one_amended : after ≡ other
  one_amended = same_files after other same_at
