-- The rules that pass by what is known of a first line, for private clauses.
use Rattle.std.specs.Prelude.{Bool, true}
use Rattle.std.specs.Option.{option_copied}
use Rattle.reuse_style.specs.declared.rule.FirstLine.{FirstLine}
use Rattle.reuse_style.specs.declared.rule.FirstLine.TheVariants.{Unread, Read}
use Rattle.reuse_style.specs.Rules.{Rule, line_fits}

abbrev pub passes : FirstLine → Rule → Bool
passes Unread rule = true
passes (Read line) rule = line_fits (option_copied line) rule
