-- What download leaves.
use Rattle.std.specs.Prelude.{◌≡◌, ◌≢◌, ℕ, List, None, IsSome}
use Rattle.std.specs.List.{Contains}
use Rattle.std.specs.FinMap.{get}
use Rattle.reuse_change.specs.Files.{Files}
use Rattle.reuse_edit.specs.Licence.{text_for, licence_path}
use Rattle.reuse_command.specs.declared.licence.LicenceText.{LicenceText}

-- each id had a text, which stands at `LICENSES/ID.txt` then, where no file was, and no other path differs
pub record PutsTexts (ids : List (List ℕ)) (texts : List LicenceText) (before after : Files) : Type 0 where
  pub found : (id : List ℕ) → Contains ids id → IsSome (text_for texts id)
  pub absent : (id : List ℕ) → Contains ids id → get before (licence_path id) ≡ None
  pub put : (id : List ℕ) → Contains ids id → get after (licence_path id) ≡ text_for texts id
  pub others : (path : List ℕ) → ((id : List ℕ) → Contains ids id → path ≢ licence_path id)
      → get after path ≡ get before path
