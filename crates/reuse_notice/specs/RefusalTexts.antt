-- The texts of the refusals: why arguments are refused (docs/RULES.md, "Refusals").
use Rattle.std.specs.Prelude.{ℕ, List, ◌++◌, codes, encode_utf8_all}
use Rattle.std.specs.Fmt.{decimal}
use Rattle.bstr.specs.Utf8.{lossy_chars}
use Rattle.reuse_notice.specs.declared.adding.NoticeRefusal.{NoticeRefusal}
use Rattle.reuse_notice.specs.declared.adding.NoticeRefusal.TheVariants as refusals

-- bytes as text, with a replacement character for what is not UTF-8
abbrev pub shown : List ℕ → List ℕ
shown bytes = encode_utf8_all (lossy_chars bytes)

-- what is wrong, and the text that is to blame
abbrev pub refusal_text : NoticeRefusal → List ℕ
refusal_text refusals.NothingToAdd = codes "nothing to add"
refusal_text refusals.YearAndExclude = codes "--year and --exclude-year"
refusal_text (refusals.BadYear text) = codes "bad year: " ++ shown text
refusal_text (refusals.BadText text) = codes "bad text: " ++ shown text
refusal_text (refusals.BadExpression text place) =
    codes "bad licence expression at " ++ decimal place ++ codes ": " ++ shown text
refusal_text (refusals.Memory error) = codes "out of memory"
