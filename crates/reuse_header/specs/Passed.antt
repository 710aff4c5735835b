-- The last of the lines that were passed (this project's own).
use Rattle.std.specs.Prelude.{◌≡◌, ℕ, true, take, drop, Option, None, Some, is_some}
use Rattle.std.specs.Option.{option_map_or}
use Rattle.reuse_text.specs.declared.Line.{Line}
use Rattle.reuse_text.specs.Lines.{lines_left}
use Rattle.reuse_header.specs.declared.prefix.Passed.{Passed}
use Rattle.reuse_header.specs.Body.{PlacedLines}
use Rattle.reuse_header.specs.Annotation.{has_lines, is_last_ended}

-- there is a last line where there are lines, and it is ended where theirs is
pub record IsLastOf (last : Option Line) (lines : PlacedLines) : Type 0 where
  pub some : is_some last ≡ has_lines lines
  pub ended : option_map_or (λ line. is_some line.ending) last true ≡ is_last_ended lines

-- passed lines are the first `count` of some lines, their last and those behind, where there is a count
abbrev pub LeadsTo : Option Passed → Option ℕ → PlacedLines → Type 0
LeadsTo None None lines = Unit {0}
LeadsTo (Some passed) (Some count) lines =
    (lines_left passed.rest ≡ drop count lines) × (IsLastOf passed.last (take count lines))
    × (is_some passed.last ≡ true)
LeadsTo None (Some count) lines = ⊥
LeadsTo (Some passed) None lines = ⊥
