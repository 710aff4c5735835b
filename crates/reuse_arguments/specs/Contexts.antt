-- What words are read by, beside themselves: the current year, and the folder of the tree at which words of files
-- start, if they don't start at the root.
use Rattle.std.specs.Prelude.{ℕ, List, Option}

pub record ContextView : Type 0 where
  pub year : ℕ
  pub folder : Option (List ℕ)
