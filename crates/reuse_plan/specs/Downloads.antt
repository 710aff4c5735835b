-- What download does on a tree: it makes a file of each licence's text (the reuse tool's manual page of `download`;
-- that texts are given, and the refusals: docs/RULES.md).
use Rattle.std.specs.Prelude.{ℕ, List, [], ◌∷◌, length, map, filter_map, Option, Some, None, Result, Ok, Err, nat_lt}
use Rattle.std.specs.Prelude.{if◌then◌else◌, is_some, unwrap_or}
use Rattle.std.specs.Option.{option_map, option_or}
use Rattle.std.specs.FinMap.{get}
use Rattle.reuse_notice.specs.Sets.{set_of}
use Rattle.reuse_change.specs.Files.{Files}
use Rattle.reuse_text.specs.declared.TheConstants.{LONGEST_FILE}
use Rattle.reuse_edit.specs.Edit.{Edit, made}
use Rattle.reuse_change.specs.Clash.{is_clash}
use Rattle.reuse_edit.specs.Licence.{is_id, licence_path, licence_id, text_for}
use Rattle.reuse_edit.specs.PathEdits.{PathEdit, refused_with, all_or_none}
use Rattle.reuse_command.specs.declared.licence.LicenceText.{LicenceText}
use Rattle.reuse_command.specs.declared.reply.Refusal.{Refusal}
use Rattle.reuse_command.specs.declared.reply.Refusal.TheVariants.{BadId, NoText, TooLong, Exists, Clash}

-- why no file is made of what was found for an id
abbrev pub refusal_of_found : Files → List ℕ → Option (List ℕ) → Option Refusal
refusal_of_found tree id None = Some (NoText id)
refusal_of_found tree id (Some text) =
    if nat_lt LONGEST_FILE (length text) then Some (TooLong (licence_path id))
    else if is_some (get tree (licence_path id)) then Some (Exists (licence_path id))
    else if is_clash tree (licence_path id) then Some (Clash (licence_path id))
    else None

-- why no file is made for an id
abbrev pub id_refusal : Files → List LicenceText → List ℕ → Option Refusal
id_refusal tree texts id = if is_id id then refusal_of_found tree id (text_for texts id) else Some (BadId id)

-- the first refusal of some ids
abbrev pub ids_refusal : Files → List LicenceText → List (List ℕ) → Option Refusal
ids_refusal tree texts [] = None
ids_refusal tree texts (id ∷ ids) = option_or (id_refusal tree texts id) (ids_refusal tree texts ids)

-- the text of the licence that stands at a path is made a file
abbrev pub licence_edit : List LicenceText → List ℕ → Edit
licence_edit texts path = made path (unwrap_or (text_for texts (licence_id path)) [])

abbrev pub unless_refused : Option Refusal → List Edit → Result (List Edit) Refusal
unless_refused (Some refusal) edits = Err refusal
unless_refused None edits = Ok edits

-- the first refusal of some ids, or else the files of all, in byte order
abbrev pub download_of : List (List ℕ) → List LicenceText → Files → Result (List Edit) Refusal
download_of ids texts tree =
    unless_refused (ids_refusal tree texts ids) (map (licence_edit texts) (set_of (map licence_path ids)))

-- the ids are gone through in byte order, without repeats
abbrev pub download_edits : List (List ℕ) → List LicenceText → Files → Result (List Edit) Refusal
download_edits ids texts tree = download_of (set_of ids) texts tree

-- ---- path by path

-- the refusal of each id that is refused
abbrev pub id_refusals : Files → List LicenceText → List (List ℕ) → List PathEdit
id_refusals tree texts ids = filter_map (λ id. option_map refused_with (id_refusal tree texts id)) ids

-- these, or the others where there are none
abbrev pub or_else : List PathEdit → List PathEdit → List PathEdit
or_else [] others = others
or_else (first ∷ rest) others = first ∷ rest

-- all refusals, one for each id, or what is done at each path
abbrev pub downloads_at : List (List ℕ) → List LicenceText → Files → List PathEdit
downloads_at ids texts tree =
    or_else (id_refusals tree texts (set_of ids)) (all_or_none (download_edits ids texts tree))
