-- What convert-dep5 leaves.
use Rattle.std.specs.Prelude.{◌≡◌, ◌≢◌, ℕ, List, Some, None, Ok}
use Rattle.std.specs.FinMap.{get}
use Rattle.reuse_dep5.specs.Conversion.{converted}
use Rattle.reuse_change.specs.Files.{Files}
use Rattle.reuse_plan.specs.Conversion.{dep5_path}
use Rattle.reuse_edit.specs.Tables.{toml_path}

-- `.reuse/dep5` was there and is gone, `REUSE.toml` wasn't and holds the text that the dep5 is converted to, and no
-- other path differs
pub record PutsTable (before after : Files) : Type 0 where
  pub dep5 : List ℕ
  pub was : get before dep5_path ≡ Some dep5
  pub gone : get after dep5_path ≡ None
  pub absent : get before toml_path ≡ None
  pub text : List ℕ
  pub by_rules : converted dep5 ≡ Ok text
  pub put : get after toml_path ≡ Some text
  pub others : (path : List ℕ) → path ≢ dep5_path → path ≢ toml_path → get after path ≡ get before path
