-- The texts that say why words are no line (docs/RULES.md, "Refusals").
use Rattle.std.specs.Prelude.{ℕ, List, ◌++◌, codes, string_bytes}
use Rattle.reuse_notice.specs.RefusalTexts as notice
use Rattle.reuse_words.specs.declared.text.TextRefusal.{TextRefusal}
use Rattle.reuse_words.specs.declared.text.TextRefusal.TheVariants as texts
use Rattle.reuse_arguments.specs.declared.line.LineFault.{LineFault}
use Rattle.reuse_arguments.specs.declared.line.LineFault.TheVariants as lines

-- why a file is no text of a header
abbrev pub text_refusal_text : TextRefusal → List ℕ
text_refusal_text texts.TooLong = codes "text is too long"
text_refusal_text texts.NotText = codes "text is not UTF-8"
text_refusal_text texts.ControlByte = codes "text has a control byte"
text_refusal_text texts.HoldsTag = codes "text has a tag"
text_refusal_text texts.HoldsBarrier = codes "text has a barrier"
text_refusal_text texts.Empty = codes "text is empty"
text_refusal_text (texts.Memory error) = codes "out of memory"

-- why words are no line; the text of a mistake in the words and that of the help are clap's
abbrev pub line_fault_text : LineFault → List ℕ
line_fault_text (lines.Usage text) = string_bytes text
line_fault_text (lines.Help text) = string_bytes text
line_fault_text (lines.BadPath word) = codes "bad path: " ++ string_bytes word
line_fault_text (lines.BadAdditions refusal) = notice.refusal_text refusal
line_fault_text lines.NothingToAmend = codes "nothing to amend"
line_fault_text (lines.BadGlob word) = codes "bad glob: " ++ string_bytes word
line_fault_text (lines.Unreadable file) = string_bytes file ++ codes ": cannot be read"
line_fault_text (lines.BadText file refusal) =
    codes "bad text: " ++ string_bytes file ++ codes ": " ++ text_refusal_text refusal
line_fault_text lines.NoTree = codes "no folder from here upwards has .reuse or .git"
line_fault_text lines.Memory = codes "out of memory"
