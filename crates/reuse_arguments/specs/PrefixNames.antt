-- The names of the prefixes of a copyright notice.
use Rattle.std.specs.Prelude.{ℕ, List, [], ◌∷◌, Option, find, codes}
use Rattle.std.specs.Str.{bytes_eq}
use Rattle.reuse_notice.specs.declared.prefixes.Prefix.{Prefix}
use Rattle.reuse_notice.specs.declared.prefixes.Prefix.TheVariants.{Spdx, SpdxC, SpdxSymbol, SpdxString, SpdxStringC}
use Rattle.reuse_notice.specs.declared.prefixes.Prefix.TheVariants.{SpdxStringSymbol, String, StringC, StringSymbol}
use Rattle.reuse_notice.specs.declared.prefixes.Prefix.TheVariants.{Symbol}

-- the name of each prefix
abbrev pub prefix_name : Prefix → List ℕ
prefix_name Spdx = codes "spdx"
prefix_name SpdxC = codes "spdx-c"
prefix_name SpdxSymbol = codes "spdx-symbol"
prefix_name SpdxString = codes "spdx-string"
prefix_name SpdxStringC = codes "spdx-string-c"
prefix_name SpdxStringSymbol = codes "spdx-string-symbol"
prefix_name String = codes "string"
prefix_name StringC = codes "string-c"
prefix_name StringSymbol = codes "string-symbol"
prefix_name Symbol = codes "symbol"

-- all prefixes
unfoldable pub all_prefixes : List Prefix
all_prefixes = Spdx ∷ SpdxC ∷ SpdxSymbol ∷ SpdxString ∷ SpdxStringC ∷ SpdxStringSymbol ∷ String ∷ StringC
    ∷ StringSymbol ∷ Symbol ∷ []

-- the prefix that has the name
abbrev pub prefix_named : List ℕ → Option Prefix
prefix_named name = find (λ prefix. bytes_eq (prefix_name prefix) name) all_prefixes
