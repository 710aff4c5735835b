-- A map of rows by names in lower case.
use Rattle.std.specs.Prelude.{◌≡◌, ℕ, List}
use Rattle.std.specs.Ordering.{nat_cmp}
use Rattle.std.specs.Cmp.Lexicographic.{slice_cmp}
use Rattle.std.specs.BTreeMap.{BTreeMap, get, IsOrdered}
use Rattle.reuse_ready.specs.declared.name_count.NameCount.{NameCount}
use Rattle.reuse_ready.specs.Tally.{row_of}

-- a map has the rows of some names, each by its name in lower case
pub record IsCounted (rows : BTreeMap (List ℕ) NameCount) (names : List (List ℕ)) : Type 0 where
  pub ordered : IsOrdered (slice_cmp nat_cmp) rows
  pub counted : (lowered : List ℕ) → get (slice_cmp nat_cmp) rows lowered ≡ row_of names lowered
