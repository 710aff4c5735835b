use Rattle.std.proofs.Common.{◌≡◌, drop}
use Rattle.reuse_dep5.specs.ReuseToml.{question_in}
use Rattle.reuse_dep5.proofs.writing.first_question.Given as goal

abbrev pub invariant-loop-pattern : goal.invariant-loop-pattern
invariant-loop-pattern l = question_in (drop l.pattern-index l.patterns) ≡ question_in l.patterns
