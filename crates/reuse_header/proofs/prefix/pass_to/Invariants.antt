use Rattle.reuse_text.specs.Lines.{lines_left}
use Rattle.reuse_header.proofs.PassedLemmas.{LeadsAs}
use Rattle.reuse_header.proofs.prefix.pass_to.Given as goal

abbrev pub invariant-loop-line : goal.invariant-loop-line
invariant-loop-line l =
    LeadsAs l.text (lines_left l.initial.rest) (lines_left l.rest)
    × (goal.iterator-loop-line).can_next l.rest × (goal.iterator-loop-line).is_finite l.rest
