-- The edits of a command, by the edits at its paths.
use Rattle.std.proofs.Common.{◌≡◌, ℕ, Bool, true, false, cond, not, ◌&&◌, List, [], ◌∷◌, map, filter, filter_map}
use Rattle.std.proofs.Common.{Option, Some, None, is_some, Result, Ok, Err, if◌then◌else◌, refl, sym, ap, ◌∙◌}
use Rattle.std.specs.List.{cons_option}
use Rattle.std.specs.Option.{option_map, option_or}
use Rattle.std.proofs.lemmas.Option.{same_Some}
use Rattle.reuse_notice.specs.Sets.{set_of}
use Rattle.reuse_command.specs.declared.command.HeaderAdditions.{HeaderAdditions}
use Rattle.reuse_command.specs.declared.command.FileAmendment.{FileAmendment}
use Rattle.reuse_header.specs.declared.annotation.How.{How}
use Rattle.reuse_change.specs.Change.{path_of}
use Rattle.reuse_change.specs.Files.{Files}
use Rattle.reuse_change.specs.declared.change.Change.{Change}
use Rattle.reuse_edit.specs.Amend.{amended_at}
use Rattle.reuse_edit.specs.Annotate.{annotated_at}
use Rattle.reuse_command.specs.Command.{has_root}
use Rattle.reuse_plan.specs.Conversion.{conversion_edits}
use Rattle.reuse_plan.specs.Downloads.{id_refusal, ids_refusal, id_refusals, licence_edit, unless_refused, or_else}
use Rattle.reuse_plan.specs.Downloads.{downloads_at, download_edits}
use Rattle.reuse_edit.specs.Licence.{licence_path}
use Rattle.reuse_edit.specs.Edit.{Edit}
use Rattle.reuse_edit.specs.AtPath.{annotation_at, amendment_at}
use Rattle.reuse_plan.specs.Outcome.{annotations_by, amendments_by, edits_of}
use Rattle.reuse_edit.specs.PathEdits.{PathEdit, refused_with, refused_alone, all_or_none, with_edit, or_first}
use Rattle.reuse_edit.specs.PathEdits.{edits_in}
use Rattle.reuse_plan.specs.Reverting.{back_or_refused, reverted_at, taken_back_unless}
use Rattle.reuse_plan.specs.StyleEdits.{style_edits}
use Rattle.reuse_plan.specs.TreeStyles.{styles_in}
use Rattle.reuse_style.specs.Kinds.{OwnKinds}
use Rattle.reuse_plan.specs.Selected.{amended_paths, selected_paths}
use Rattle.reuse_command.specs.declared.command.Command.TheVariants.{Annotate, Amend, ConvertDep5, Download, Revert}
use Rattle.reuse_command.specs.declared.command.Command.TheVariants.{AddStyles}
use Rattle.reuse_command.specs.declared.command.Place.{Place}
use Rattle.reuse_command.specs.declared.command.Place.TheVariants as place
use Rattle.reuse_command.specs.declared.command.Scope.{Scope}
use Rattle.reuse_command.specs.declared.licence.LicenceText.{LicenceText}
use Rattle.reuse_command.specs.declared.reply.Refusal.{Refusal}
use Rattle.reuse_command.specs.declared.reply.Refusal.TheVariants.{IsFolder, Moved}
use Rattle.reuse_ready.specs.declared.additions.StyleAdditions.{StyleAdditions}

-- ---- what is done at the paths

-- the edits at the paths, in their order, or the first refusal
abbrev pub edits_at : (List ℕ → Result (Option Edit) Refusal) → List (List ℕ) → Result (List Edit) Refusal
edits_at at [] = Ok []
edits_at at (path ∷ paths) = or_first (at path) (edits_at at paths)

abbrev pub edits_at_places : (List ℕ → Result (Option Edit) Refusal) → Scope → List Place → List (List ℕ)
    → Result (List Edit) Refusal
edits_at_places at scope places paths =
    if not scope.recursive && has_root places then Err (IsFolder place.Root) else edits_at at paths

abbrev pub edits_by_names : List Place → HeaderAdditions → How → Scope → Files → Result OwnKinds Refusal
    → Result (List Edit) Refusal
edits_by_names places additions how scope tree (Err refusal) = Err refusal
edits_by_names places additions how scope tree (Ok own) =
    edits_at_places (annotated_at how scope additions own tree) scope places (selected_paths scope places tree)

abbrev pub annotation_edits : List Place → HeaderAdditions → How → Scope → Files → Result (List Edit) Refusal
annotation_edits places additions how scope tree = edits_by_names places additions how scope tree (styles_in tree)

abbrev pub amendments_by_names : List Place → FileAmendment → Scope → Files → Result OwnKinds Refusal
    → Result (List Edit) Refusal
amendments_by_names places amendment scope tree (Err refusal) = Err refusal
amendments_by_names places amendment scope tree (Ok own) =
    edits_at_places (amended_at amendment scope own tree) scope places (amended_paths scope places tree)

abbrev pub amendment_edits : List Place → FileAmendment → Scope → Files → Result (List Edit) Refusal
amendment_edits places amendment scope tree =
    amendments_by_names places amendment scope tree (styles_in tree)

-- the changes that can't be taken back
abbrev pub stuck_on : List (List ℕ) → Files → List Change → List Change
stuck_on touched tree changes = filter (λ change. not (is_some (taken_back_unless touched tree change))) changes

-- the first of some changes is refused
abbrev pub unless_stuck : List Change → List Edit → Result (List Edit) Refusal
unless_stuck [] edits = Ok edits
unless_stuck (change ∷ changes) edits = Err (Moved (path_of change))

abbrev pub revert_edits : List Change → List (List ℕ) → Bool → Files → Result (List Edit) Refusal
revert_edits changes touched skip_moved tree =
    unless_stuck (if skip_moved then [] else stuck_on touched tree changes)
    (filter_map (taken_back_unless touched tree) changes)

-- ---- they are the edits of the command

edits_of_map : (at : List ℕ → PathEdit) (paths : List (List ℕ))
    → edits_in (map at paths) ≡ edits_at (λ path. (at path).edit) paths
edits_of_map at [] = refl
edits_of_map at (path ∷ paths) = ap (or_first (at path).edit) (edits_of_map at paths)

edits_of_places : (at : List ℕ → PathEdit) (paths : List (List ℕ)) (b : Bool)
    → edits_in (cond b (refused_alone (IsFolder place.Root)) (map at paths)) ≡ cond b (Err (IsFolder place.Root))
    (edits_at (λ path. (at path).edit) paths)
edits_of_places at paths true = refl
edits_of_places at paths false = edits_of_map at paths

pub of_annotation : (places : List Place) (additions : HeaderAdditions) (how : How) (scope : Scope) (tree : Files)
    → edits_of (Annotate places additions how scope) tree ≡ annotation_edits places additions how scope tree
of_annotation places additions how scope tree = by_styles (styles_in tree)
  where
    by_styles : (styles : Result OwnKinds Refusal) → edits_in
        (annotations_by places additions how scope tree styles) ≡ edits_by_names places additions how scope tree styles
    by_styles (Err refusal) = refl
    by_styles (Ok own) = edits_of_places (annotation_at how scope additions own tree) (selected_paths scope places tree)
        (not scope.recursive && has_root places)

pub of_amendment : (places : List Place) (amendment : FileAmendment) (scope : Scope) (tree : Files)
    → edits_of (Amend places amendment scope) tree ≡ amendment_edits places amendment scope tree
of_amendment places amendment scope tree = by_styles (styles_in tree)
  where
    by_styles : (styles : Result OwnKinds Refusal) → edits_in
        (amendments_by places amendment scope tree styles) ≡ amendments_by_names places amendment scope tree styles
    by_styles (Err refusal) = refl
    by_styles (Ok own) = edits_of_places (amendment_at amendment scope own tree)
        (amended_paths scope places tree) (not scope.recursive && has_root places)

pub of_all_or_none : (given : Result (List Edit) Refusal) → edits_in (all_or_none given) ≡ given
of_all_or_none (Err refusal) = refl
of_all_or_none (Ok []) = refl
of_all_or_none (Ok (edit ∷ edits)) = ap (with_edit (Some edit)) (of_all_or_none (Ok edits))

-- ---- of a download

pub first_of_ids : (tree : Files) (texts : List LicenceText) (ids : List (List ℕ)) (refusal : Refusal)
    → ids_refusal tree texts ids ≡ Some refusal
    → (rest : List PathEdit) × (id_refusals tree texts ids ≡ refused_with refusal ∷ rest)
first_of_ids tree texts [] refusal e = absurd (cc)
first_of_ids tree texts (id ∷ ids) refusal e =
    by_refusal (id_refusal tree texts id) e (first_of_ids tree texts ids refusal)
  where
    by_refusal : (o : Option Refusal) → option_or o (ids_refusal tree texts ids) ≡ Some refusal
        → (ids_refusal tree texts ids ≡ Some refusal
        → (rest : List PathEdit) × (id_refusals tree texts ids ≡ refused_with refusal ∷ rest))
        → (rest : List PathEdit)
        × (cons_option (option_map refused_with o) (id_refusals tree texts ids) ≡ refused_with refusal ∷ rest)
    by_refusal None h k = k h
    by_refusal (Some first) h k =
        (id_refusals tree texts ids, ap (λ r. refused_with r ∷ id_refusals tree texts ids) (same_Some first refusal h))

pub none_refused : (tree : Files) (texts : List LicenceText) (ids : List (List ℕ)) → ids_refusal tree texts ids ≡ None
    → id_refusals tree texts ids ≡ []
none_refused tree texts [] e = refl
none_refused tree texts (id ∷ ids) e = by_refusal (id_refusal tree texts id) e (none_refused tree texts ids)
  where
    by_refusal : (o : Option Refusal) → option_or o (ids_refusal tree texts ids) ≡ None
        → (ids_refusal tree texts ids ≡ None → id_refusals tree texts ids ≡ [])
        → cons_option (option_map refused_with o) (id_refusals tree texts ids) ≡ []
    by_refusal None h k = k h
    by_refusal (Some first) h k = absurd (cc)

pub none_expected : (tree : Files) (texts : List LicenceText) (ids : List (List ℕ)) → id_refusals tree texts ids ≡ []
    → ids_refusal tree texts ids ≡ None
none_expected tree texts ids none = by_refusal (ids_refusal tree texts ids) refl
  where
    by_refusal : (o : Option Refusal) → ids_refusal tree texts ids ≡ o → ids_refusal tree texts ids ≡ None
    by_refusal None e = e
    by_refusal (Some refusal) e = let first = first_of_ids tree texts ids refusal e in
        let no : refused_with refusal ∷ first.0 ≡ [] = sym first.1 ∙ none in absurd (cc)

pub of_download : (ids : List (List ℕ)) (texts : List LicenceText) (tree : Files)
    → edits_of (Download ids texts) tree ≡ download_edits ids texts tree
of_download ids texts tree = by_refusal (ids_refusal tree texts (set_of ids)) refl
  where
    by_refusal : (o : Option Refusal) → ids_refusal tree texts (set_of ids) ≡ o
        → edits_in (downloads_at ids texts tree) ≡ download_edits ids texts tree
    by_refusal None e = ap (λ refused. edits_in (or_else refused (all_or_none (download_edits ids texts tree))))
        (none_refused tree texts (set_of ids) e) ∙ of_all_or_none (download_edits ids texts tree)
    by_refusal (Some refusal) e =
        let first = first_of_ids tree texts (set_of ids) refusal e in
        ap (λ refused. edits_in (or_else refused (all_or_none (download_edits ids texts tree)))) first.1
        ∙ sym (ap (λ o. unless_refused o (map (licence_edit texts) (set_of (map licence_path (set_of ids))))) e)

-- ---- of a revert

module _ (touched : List (List ℕ)) (tree : Files) where
  stuck_or : (skip : Bool) (changes : List Change)
      → edits_in (map (reverted_at touched skip tree) changes) ≡ revert_edits changes touched skip tree
  stuck_or true [] = refl
  stuck_or false [] = refl
  stuck_or true (c ∷ cs) = by_back (taken_back_unless touched tree c) (stuck_or true cs)
    where
      by_back : (o : Option Edit)
          → edits_in (map (reverted_at touched true tree) cs) ≡ revert_edits cs touched true tree
          → or_first (back_or_refused true (path_of c) o) (edits_in (map (reverted_at touched true tree) cs)) ≡ Ok
          (cons_option o (filter_map (taken_back_unless touched tree) cs))
      by_back None rest = ap (with_edit None) rest
      by_back (Some edit) rest = ap (with_edit (Some edit)) rest
  stuck_or false (c ∷ cs) = by_back (taken_back_unless touched tree c) (stuck_or false cs)
    where
      behind : (edit : Edit) (stuck : List Change) (edits : List Edit)
          → with_edit (Some edit) (unless_stuck stuck edits) ≡ unless_stuck stuck (edit ∷ edits)
      behind edit [] edits = refl
      behind edit (first ∷ stuck) edits = refl

      by_back : (o : Option Edit)
          → edits_in (map (reverted_at touched false tree) cs) ≡ revert_edits cs touched false tree
          → or_first (back_or_refused false (path_of c) o) (edits_in (map (reverted_at touched false tree) cs))
          ≡ unless_stuck (cond (not (is_some o)) (c ∷ stuck_on touched tree cs) (stuck_on touched tree cs))
          (cons_option o (filter_map (taken_back_unless touched tree) cs))
      by_back None rest = refl
      by_back (Some edit) rest = ap (with_edit (Some edit)) rest
          ∙ behind edit (stuck_on touched tree cs) (filter_map (taken_back_unless touched tree) cs)

pub of_revert : (changes : List Change) (touched : List (List ℕ)) (skip_moved : Bool) (tree : Files)
    → edits_of (Revert changes touched skip_moved) tree ≡ revert_edits changes touched skip_moved tree
of_revert changes touched skip_moved tree = stuck_or touched tree skip_moved changes

pub of_conversion : (tree : Files) → edits_of ConvertDep5 tree ≡ conversion_edits tree
of_conversion tree = of_all_or_none (conversion_edits tree)

pub of_addition : (additions : StyleAdditions) (tree : Files)
    → edits_of (AddStyles additions) tree ≡ style_edits additions tree
of_addition additions tree = of_all_or_none (style_edits additions tree)
