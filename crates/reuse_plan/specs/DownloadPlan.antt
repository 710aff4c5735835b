-- The changes of a download.
use Rattle.std.specs.Prelude.{◌≤◌, ℕ, List, [], length, IsSome, unwrap_or}
use Rattle.reuse_change.specs.declared.change.Change.{Change}
use Rattle.reuse_change.specs.Change.{sealed_make}
use Rattle.reuse_edit.specs.Licence.{licence_id, text_for}
use Rattle.reuse_command.specs.declared.licence.LicenceText.{LicenceText}

-- the text of the licence that stands at a path is made a file
abbrev pub made_at : List LicenceText → List ℕ → Change
made_at texts path = sealed_make path (unwrap_or (text_for texts (licence_id path)) [])

-- a text was found for the licence whose text stands at the path
abbrev pub HasText : List LicenceText → List ℕ → Type 0
HasText texts path = (13 ≤ length path) × IsSome (text_for texts (licence_id path))
