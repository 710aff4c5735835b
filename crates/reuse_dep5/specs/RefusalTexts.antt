-- The texts of the refusals: what is wrong with a dep5 (docs/RULES.md, "Refusals").
use Rattle.std.specs.Prelude.{ℕ, List, ◌++◌, codes}
use Rattle.std.specs.Fmt.{decimal}
use Rattle.reuse_dep5.specs.declared.refusal.Dep5Cause.{Dep5Cause}
use Rattle.reuse_dep5.specs.declared.refusal.Dep5Cause.TheVariants as causes
use Rattle.reuse_dep5.specs.declared.refusal.Dep5Refusal.{Dep5Refusal}
use Rattle.reuse_dep5.specs.declared.refusal.Dep5Refusal.TheVariants as refusals

-- why a text is no dep5
abbrev pub cause_text : Dep5Cause → List ℕ
cause_text causes.Empty = codes "Empty"
cause_text causes.NoField = codes "NoField"
cause_text causes.Orphan = codes "Orphan"
cause_text causes.Repeated = codes "Repeated"
cause_text causes.NoFormat = codes "NoFormat"
cause_text causes.NoKind = codes "NoKind"
cause_text causes.Missing = codes "Missing"
cause_text causes.BadEscape = codes "BadEscape"

-- the file, the line if one is to blame, and the reason
abbrev pub refusal_text : Dep5Refusal → List ℕ
refusal_text refusals.NotUtf8 = codes ".reuse/dep5: not UTF-8"
refusal_text (refusals.BadDep5 line cause) = codes ".reuse/dep5:" ++ decimal line ++ codes ": " ++ cause_text cause
refusal_text (refusals.Question line) = codes ".reuse/dep5:" ++ decimal line ++ codes ": question mark"
refusal_text refusals.NotToml = codes ".reuse/dep5: not TOML"
refusal_text refusals.TooLong = codes ".reuse/dep5: result too long"
refusal_text refusals.Memory = codes "out of memory"
