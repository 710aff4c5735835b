use Rattle.std.proofs.Common.{◌≡◌, ◌++◌, length}
use Rattle.std.specs.Option.{option_map}
use Rattle.reuse_text.specs.Lines.{lines_left}
use Rattle.reuse_tags.specs.Everywhere.{lines_made, amended_everywhere}
use Rattle.reuse_tags.proofs.everywhere.amend_everywhere.Given as goal

abbrev pub invariant-lines : goal.invariant-lines
invariant-lines l =
    option_map (λ rest. l.amended ++ rest) (lines_made l.amendments l.ignored (lines_left l.lines))
    ≡ amended_everywhere l.amendments l.text

abbrev pub decreases-lines : goal.decreases-lines
decreases-lines l = length (lines_left l.lines)
