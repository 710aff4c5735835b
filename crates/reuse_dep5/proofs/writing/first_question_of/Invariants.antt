use Rattle.std.proofs.Common.{◌≡◌, drop}
use Rattle.reuse_dep5.specs.ReuseToml.{question_of}
use Rattle.reuse_dep5.proofs.writing.first_question_of.Given as goal

abbrev pub invariant-loop-paragraph : goal.invariant-loop-paragraph
invariant-loop-paragraph l = question_of (drop l.paragraph-index l.files) ≡ question_of l.files
