-- Where a download and a conversion are accepted.
use Rattle.std.proofs.Common.{◌≡◌, ◌↔◌, inl, inr, ℕ, false, cond, nat_lt, List, [], ◌∷◌, length, map, Some, None}
use Rattle.std.proofs.Common.{is_some, Result, Ok, Err, refl, sym, ap, ◌∙◌, IsOk, is_ok}
use Rattle.std.specs.Option.{option_or}
use Rattle.std.specs.FinMap.{get}
use Rattle.std.proofs.lemmas.Bool.{false≢true, false_from_ne_true, le-ltb}
use Rattle.reuse_text.specs.declared.TheConstants.{LONGEST_FILE}
use Rattle.reuse_notice.specs.Sets.{set_of}
use Rattle.reuse_notice.proofs.SetLemmas.{In, Contains-from_in, In-set_of}
use Rattle.reuse_dep5.specs.Conversion.{converted}
use Rattle.reuse_change.specs.Files.{Files, Clashes}
use Rattle.reuse_plan.specs.Accepted.{CanBeDownloaded, CanDownload, CanConvert}
use Rattle.reuse_change.specs.Clash.{is_clash}
use Rattle.reuse_plan.specs.Conversion.{dep5_path, replaced_by, conversion_where, conversion_edits}
use Rattle.reuse_edit.specs.Tables.{toml_path}
use Rattle.reuse_edit.specs.Licence.{text_for, is_id, licence_path, licence_id}
use Rattle.reuse_plan.specs.Downloads.{refusal_of_found, id_refusal, ids_refusal, licence_edit, unless_refused}
use Rattle.reuse_edit.specs.Edit.{Edit}
use Rattle.reuse_plan.specs.Outcome.{outcome_of, edits_of}
use Rattle.reuse_command.specs.declared.command.Command.TheVariants.{ConvertDep5, Download}
use Rattle.reuse_command.specs.declared.licence.LicenceText.{LicenceText}
use Rattle.reuse_command.specs.declared.reply.Refusal.TheVariants as refusals
use Rattle.reuse_plan.proofs.Downloading.{IsMade, none_expected}
use Rattle.reuse_edit.proofs.LicenceLemmas.{id_of_path}
use Rattle.reuse_plan.proofs.Outcomes.{ok_edits, edits_of_tree, edits_unless, held, tree_comes}
use Rattle.reuse_plan.proofs.Converting.{both, by_file}
use Rattle.reuse_store.proofs.Testing.{clashes_keys}
use Rattle.reuse_plan.proofs.TextsPut.{made_at_id}
use Rattle.reuse_plan.proofs.CommandEdits.{of_download, of_conversion}

-- ---- paths

-- a test for a clash, from what a clash is
pub not_clashing : (tree : Files) (path : List ℕ) → is_clash tree path ≡ false → Clashes tree path → ⊥
not_clashing tree path free clash = false≢true (sym free ∙ (clashes_keys tree path).1 clash)

pub free_of_clash : (tree : Files) (path : List ℕ) → ¬ (Clashes tree path) → is_clash tree path ≡ false
free_of_clash tree path free = false_from_ne_true (is_clash tree path) (λ e. free ((clashes_keys tree path).0 e))

pub ok_value : {A E : Type 0} (r : Result A E) → IsOk r → (x : A) × (r ≡ Ok x)
ok_value (Ok x) is = (x, refl)
ok_value (Err e) is = absurd (false≢true is)

-- ---- downloads

module _ (texts : List LicenceText) (tree : Files) where
  downloaded : (id : List ℕ) → IsMade tree texts (licence_path id) → CanBeDownloaded texts tree id
  downloaded id made =
      let same : id ≡ made.id = sym (id_of_path id) ∙ ap licence_id made.here ∙ id_of_path made.id in
      record {
        good = ap is_id same ∙ made.good;
        text = made.text;
        found = ap (text_for texts) same ∙ made.found;
        short = made.short;
        absent = made.absent;
        free = not_clashing tree (licence_path id) made.free;
      }

  unrefused : (id : List ℕ) → CanBeDownloaded texts tree id → id_refusal tree texts id ≡ None
  unrefused id can =
      let path = licence_path id in
      ap (λ b. cond b (refusal_of_found tree id (text_for texts id)) (Some (refusals.BadId id))) can.good
      ∙ ap (refusal_of_found tree id) can.found
      ∙ none_expected (nat_lt LONGEST_FILE (length can.text)) (is_some (get tree path)) (is_clash tree path)
      (refusals.TooLong path) (refusals.Exists path) (refusals.Clash path)
      (le-ltb LONGEST_FILE (length can.text) can.short) (ap is_some can.absent) (free_of_clash tree path can.free)

  none_refused : (ids : List (List ℕ)) → ((id : List ℕ) → In id ids → CanBeDownloaded texts tree id)
      → ids_refusal tree texts ids ≡ None
  none_refused [] each = refl
  none_refused (id ∷ ids) each = ap (λ r. option_or r (ids_refusal tree texts ids)) (unrefused id (each id (inl refl)))
      ∙ none_refused ids (λ other there. each other (inr there))

pub download_accepted : (ids : List (List ℕ)) (texts : List LicenceText) (tree : Files)
    → ((after : Files) × (outcome_of (Download ids texts) tree ≡ Ok after)) ↔ CanDownload ids texts tree
unfolding outcome_of
download_accepted ids texts tree = (
  λ given.
      let of_tree = edits_of_tree tree given.0 (edits_of (Download ids texts) tree) given.1 in
      let none = (edits_unless (ids_refusal tree texts (set_of ids)) whole of_tree.0
      (sym (of_download ids texts tree) ∙ of_tree.1)).0 in
      record {
        each = λ id there. downloaded texts tree id (made_at_id ids texts tree none id there);
        fits = held tree given.0 (edits_of (Download ids texts) tree) given.1;
      },
  λ can.
      let none = none_refused texts tree (set_of ids)
      (λ id there. can.each id (Contains-from_in ids id (In-set_of ids id there))) in
      tree_comes tree (edits_of (Download ids texts) tree) whole
      (of_download ids texts tree ∙ ap (λ r. unless_refused r whole) none) can.fits,
)
  where
    whole : List Edit
    whole = map (licence_edit texts) (set_of (map licence_path (set_of ids)))

-- ---- conversions

module _ (tree : Files) (can : CanConvert tree) where
  text : (text : List ℕ) × (converted can.dep5 ≡ Ok text)
  text = ok_value (converted can.dep5) can.good

  replaces : conversion_edits tree ≡ Ok (both can.dep5 text.0)
  replaces =
      ap (conversion_where tree) can.there
      ∙ ap (λ b. cond b (Err (refusals.TooLong dep5_path)) (cond (is_some (get tree toml_path))
      (Err (refusals.Exists toml_path)) (replaced_by tree can.dep5 (converted can.dep5))))
      (le-ltb LONGEST_FILE (length can.dep5) can.short)
      ∙ ap (λ b. cond b (Err (refusals.Exists toml_path)) (replaced_by tree can.dep5 (converted can.dep5)))
      (ap is_some can.absent)
      ∙ ap (replaced_by tree can.dep5) text.1
      ∙ ap (λ b. cond b (Err (refusals.Clash toml_path)) (ok_edits (both can.dep5 text.0)))
      (free_of_clash tree toml_path can.free)

pub conversion_accepted : (tree : Files)
    → ((after : Files) × (outcome_of ConvertDep5 tree ≡ Ok after)) ↔ CanConvert tree
unfolding outcome_of
conversion_accepted tree = (
  λ given.
      let of_tree = edits_of_tree tree given.0 (edits_of ConvertDep5 tree) given.1 in
      let is = by_file tree of_tree.0 (get tree dep5_path) refl (sym (of_conversion tree) ∙ of_tree.1) in
      record {
        dep5 = is.dep5;
        there = is.was;
        short = is.short;
        good = ap is_ok is.by_rules;
        absent = is.absent;
        free = not_clashing tree toml_path is.free;
        fits = held tree given.0 (edits_of ConvertDep5 tree) given.1;
      },
  λ can. tree_comes tree (edits_of ConvertDep5 tree) (both can.dep5 (text tree can).0)
      (of_conversion tree ∙ replaces tree can) can.fits,
)
