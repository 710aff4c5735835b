-- What can be done about words that are no line, as a note says it (docs/REFERENCE.md, "Notes").
use Rattle.std.specs.Prelude.{ℕ, ◌==◌, List, length, ◌++◌, Option, None, Some, codes, if◌then◌else◌}
use Rattle.reuse_notice.specs.declared.adding.NoticeRefusal.{NoticeRefusal}
use Rattle.reuse_notice.specs.declared.adding.NoticeRefusal.TheVariants as additions
use Rattle.reuse_arguments.specs.declared.line.LineFault.{LineFault}
use Rattle.reuse_arguments.specs.declared.line.LineFault.TheVariants as lines

-- what a holder or a contributor may be, which this is not
abbrev pub text_advice : List ℕ → List ℕ
text_advice text = if length text == 0
    then codes "a holder or a contributor is empty: give its text, or leave the option out"
    else codes "a holder or a contributor has no control character, "
    ++ codes "and neither REUSE-IgnoreStart nor SPDX-SnippetBegin"

-- what can be done about arguments that can't be written, or add nothing
abbrev pub additions_advice : NoticeRefusal → Option (List ℕ)
additions_advice additions.NothingToAdd = Some (
    codes "say what is to be added, by --copyright, --license or --contributor; "
    ++ codes "--text, --year and --copyright-prefix alone add nothing"
    )
additions_advice (additions.BadYear text) = Some (
    codes "a year has four digits; annotate takes a range as two years, as in --year 2019 --year 2024"
    )
additions_advice (additions.BadText text) = Some (text_advice text)
additions_advice refusal = None

-- what can be done about a fault, where there is a note on it
abbrev pub line_advice : LineFault → Option (List ℕ)
line_advice (lines.BadPath word) = Some (
    codes "a PATH starts at the root: it has no slash in front, no part .. and no empty part; "
    ++ codes "with --up it starts at the working folder"
    )
line_advice lines.NothingToAmend = Some (
    codes "say what is to be changed, as by --replace-license OLD NEW, --replace-holder OLD NEW "
    ++ codes "or --until YEAR; reuse-undo amend --help lists the options"
    )
line_advice (lines.BadAdditions refusal) = additions_advice refusal
line_advice fault = None
