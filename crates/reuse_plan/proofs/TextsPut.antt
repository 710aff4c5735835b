-- Where a download isn't refused, each text stands at its path.
use Rattle.std.proofs.Common.{◌≡◌, ◌≢◌, inl, inr, ℕ, Bool, true, false, ◌||◌, List, [], ◌∷◌, map, Option, Some, None}
use Rattle.std.proofs.Common.{is_some, unwrap_or, Ok, refl, sym, ap, subst, ◌∙◌, bytes_eq}
use Rattle.std.specs.List.{AllByRecursion, Contains}
use Rattle.reuse_command.specs.Reading.{get, Files}
use Rattle.std.proofs.lemmas.Bool.{false≢true}
use Rattle.std.proofs.lemmas.Slice.Eq.{bytes_eq-Decides}
use Rattle.reuse_notice.specs.Sets.{set_of}
use Rattle.reuse_notice.proofs.SetLemmas.{In, In-from_contains, Contains-from_in, In-set_of, set_of-has}
use Rattle.reuse_edit.specs.Licence.{text_for, licence_path, licence_id}
use Rattle.reuse_plan.specs.Downloads.{ids_refusal, licence_edit, unless_refused}
use Rattle.reuse_change.specs.Listing.{is_among}
use Rattle.reuse_edit.specs.Edit.{Edit}
use Rattle.reuse_plan.specs.Outcome.{edited, outcome_of, edits_of}
use Rattle.reuse_plan.specs.TextsPut.{PutsTexts}
use Rattle.reuse_command.specs.declared.command.Command.TheVariants.{Download}
use Rattle.reuse_command.specs.declared.licence.LicenceText.{LicenceText}
use Rattle.reuse_plan.proofs.Downloading.{IsMade, are_made, download_fits}
use Rattle.reuse_edit.proofs.LicenceLemmas.{id_of_path}
use Rattle.reuse_plan.proofs.Outcomes.{edits_of_tree, edits_unless}
use Rattle.reuse_plan.proofs.Planning.{paths_at, EachHas, edited_has, edited_other}
use Rattle.reuse_plan.proofs.CommandEdits.{of_download}

-- ---- the paths of ids

pub pick : (P : List ℕ → Type 0) (paths : List (List ℕ)) (path : List ℕ) → In path paths
    → AllByRecursion P paths → P path
pick P [] path h all = absurd h
pick P (first ∷ paths) path (inl same) all = subst P (sym same) all.0
pick P (first ∷ paths) path (inr later) all = pick P paths path later all.1

mapped : (ids : List (List ℕ)) (id : List ℕ) → In id ids → In (licence_path id) (map licence_path ids)
mapped [] id h = absurd h
mapped (first ∷ ids) id (inl same) = inl (ap licence_path same)
mapped (first ∷ ids) id (inr later) = inr (mapped ids id later)

unmapped : (ids : List (List ℕ)) (path : List ℕ) → In path (map licence_path ids)
    → (id : List ℕ) × In id ids × (path ≡ licence_path id)
unmapped [] path h = absurd h
unmapped (first ∷ ids) path (inl same) = (first, inl refl, same)
unmapped (first ∷ ids) path (inr later) = let more = unmapped ids path later in (more.0, inr more.1, more.2)

-- the paths that a download goes through
abbrev paths_for : List (List ℕ) → List (List ℕ)
paths_for ids = set_of (map licence_path (set_of ids))

path_for : (ids : List (List ℕ)) (id : List ℕ) → Contains ids id → In (licence_path id) (paths_for ids)
path_for ids id h =
    set_of-has (map licence_path (set_of ids)) (licence_path id)
    (mapped (set_of ids) id (set_of-has ids id (In-from_contains ids id h)))

id_for : (ids : List (List ℕ)) (path : List ℕ) → In path (paths_for ids)
    → (id : List ℕ) × Contains ids id × (path ≡ licence_path id)
id_for ids path h =
    let found = unmapped (set_of ids) path (In-set_of (map licence_path (set_of ids)) path h) in
    (found.0, Contains-from_in ids found.0 (In-set_of ids found.0 found.1), found.2)

-- ---- what stands there

module _ (texts : List LicenceText) where
  text_there : (files : Files) (paths : List (List ℕ)) (path : List ℕ) → In path paths → EachHas files
      (map (licence_edit texts) paths) → get files path ≡ Some (unwrap_or (text_for texts (licence_id path)) [])
  text_there files [] path h each = absurd h
  text_there files (first ∷ paths) path (inl same) each =
      subst (λ p. get files p ≡ Some (unwrap_or (text_for texts (licence_id p)) [])) (sym same) each.0
  text_there files (first ∷ paths) path (inr later) each = text_there files paths path later each.1

  among_paths : (paths : List (List ℕ)) (path : List ℕ)
      → is_among (paths_at (map (licence_edit texts) paths)) path ≡ true → In path paths
  among_paths [] path h = absurd (false≢true h)
  among_paths (first ∷ paths) path h = of_test (bytes_eq path first) refl h (among_paths paths path)
    where
      rest : Bool
      rest = is_among (paths_at (map (licence_edit texts) paths)) path

      of_test : (b : Bool) → bytes_eq path first ≡ b → (b || rest) ≡ true → (rest ≡ true → In path paths)
          → In path (first ∷ paths)
      of_test true e k more = inl ((bytes_eq-Decides path first).0 e)
      of_test false e k more = inr (more k)

some_kept : (found : Option (List ℕ)) (text : List ℕ) → found ≡ Some text → Some (unwrap_or found []) ≡ found
some_kept (Some bytes) text e = refl
some_kept None text e = absurd (cc)

module _ (ids : List (List ℕ)) (texts : List LicenceText) (tree : Files)
    (none : ids_refusal tree texts (set_of ids) ≡ None) where
  abbrev edits : List Edit
  edits = map (licence_edit texts) (paths_for ids)

  pub made_at_id : (id : List ℕ) → Contains ids id → IsMade tree texts (licence_path id)
  made_at_id id h = pick (IsMade tree texts) (paths_for ids) (licence_path id) (path_for ids id h)
      (are_made tree texts (set_of ids) none)

  found_for : (id : List ℕ) → Contains ids id → (text : List ℕ) × (text_for texts id ≡ Some text)
  found_for id h =
      let made = made_at_id id h in
      let same : id ≡ made.id = sym (id_of_path id) ∙ ap licence_id made.here ∙ id_of_path made.id in
      (made.text, ap (text_for texts) same ∙ made.found)

  there : (id : List ℕ) → Contains ids id → get (edited tree edits) (licence_path id) ≡ text_for texts id
  there id h =
      let fits = download_fits ids texts tree edits (ap (λ refusal. unless_refused refusal edits) none) in
      let found = found_for id h in
      text_there texts (edited tree edits) (paths_for ids) (licence_path id) (path_for ids id h)
      (edited_has tree edits fits.ascending)
      ∙ ap (λ x. Some (unwrap_or (text_for texts x) [])) (id_of_path id)
      ∙ some_kept (text_for texts id) found.0 found.1

  elsewhere : (path : List ℕ) → ((id : List ℕ) → Contains ids id → path ≢ licence_path id)
      → get (edited tree edits) path ≡ get tree path
  elsewhere path other = edited_other tree edits path (of_test (is_among (paths_at edits) path) refl)
    where
      of_test : (b : Bool) → is_among (paths_at edits) path ≡ b → b ≡ false
      of_test true e = let found = id_for ids path (among_paths texts (paths_for ids) path e) in
          absurd (other found.0 found.1 found.2)
      of_test false e = refl

  texts_put : PutsTexts ids texts tree (edited tree edits)
  texts_put = record {
    found = λ id h. ap is_some (found_for id h).1;
    absent = λ id h. (made_at_id id h).absent;
    put = there;
    others = elsewhere;
  }

pub download_puts : (ids : List (List ℕ)) (texts : List LicenceText) (tree after : Files)
    → outcome_of (Download ids texts) tree ≡ Ok after → PutsTexts ids texts tree after
unfolding outcome_of
download_puts ids texts tree after h =
    let given = edits_of_tree tree after (edits_of (Download ids texts) tree) h in
    let parts = edits_unless (ids_refusal tree texts (set_of ids)) (map (licence_edit texts) (paths_for ids)) given.0
    (sym (of_download ids texts tree) ∙ given.1) in
    subst (PutsTexts ids texts tree) (ap (edited tree) parts.1 ∙ given.2) (texts_put ids texts tree parts.0)
