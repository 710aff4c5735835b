-- Names in lower case as keys, with their kinds (this project's own).
use Rattle.std.specs.Prelude.{◌≡◌, ℕ, List, map, Option, is_some}
use Rattle.std.specs.List.{list_any}
use Rattle.std.specs.List.Sorted.{IsStrictlySortedBy}
use Rattle.std.specs.Ordering.{nat_cmp}
use Rattle.std.specs.Cmp.Lexicographic.{slice_cmp}
use Rattle.std.specs.BTreeMap.{BTreeMap, get}
use Rattle.std.specs.Map.{keys_of}
use Rattle.std.specs.Str.{str_to_ascii_lowercase, str_eq_ignore_ascii_case}
use Rattle.reuse_style.specs.declared.style.Kind.{Kind}
use Rattle.reuse_style.specs.Names.{lookup}

-- the names are in lower case and in byte order, each once
pub record AreKeys (entries : List (List ℕ × Kind)) : Type 0 where
  pub lowered : map str_to_ascii_lowercase (keys_of entries) ≡ keys_of entries
  pub ordered : IsStrictlySortedBy (slice_cmp nat_cmp) (keys_of entries)

-- a map holds own names: its keys are in lower case, and a name's is found by it in lower case
pub record IsKeyed (names : BTreeMap (List ℕ) Kind) (own : List ℕ → Option Kind) : Type 0 where
  pub keys : AreKeys names.entries
  pub kinds : (name : List ℕ) → get (slice_cmp nat_cmp) names (str_to_ascii_lowercase name) ≡ own name

-- a map holds the entries of earlier names
pub record Keyed (names : BTreeMap (List ℕ) Kind) (earlier : List (List ℕ))
    (entries : List (List ℕ × Kind)) : Type 0 where
  pub own : IsKeyed names (lookup entries)
  pub held : (name : List ℕ)
      → is_some (lookup entries name) ≡ list_any (λ other. str_eq_ignore_ascii_case other name) earlier
