-- Texts that a line of a comment can hold (docs/RULES.md, "Licensing information"), and that are UTF-8.
use Rattle.std.specs.Prelude.{◌≡◌, ◌≢◌, ℕ, false, List, [], All, IsUtf8}
use Rattle.std.specs.List.{list_any}
use Rattle.reuse_notice.specs.declared.adding.Additions.{Additions}
use Rattle.reuse_notice.specs.Adding.{is_control, without_spaces}

-- at least one byte, none below 20 hex and no 7F, and no space at either end
pub record IsPlain (text : List ℕ) : Type 0 where
  pub some : text ≢ []
  pub printable : list_any is_control text ≡ false
  pub trimmed : without_spaces text ≡ text

-- each text of the additions is plain
pub record ArePlain (additions : Additions) : Type 0 where
  pub notices : All IsPlain additions.notices
  pub contributors : All IsPlain additions.contributors
  pub licences : All IsPlain additions.licences

-- each text of the additions is UTF-8, as the texts of Rust are
pub record AreUtf8 (additions : Additions) : Type 0 where
  pub notices : All IsUtf8 additions.notices
  pub contributors : All IsUtf8 additions.contributors
  pub licences : All IsUtf8 additions.licences
