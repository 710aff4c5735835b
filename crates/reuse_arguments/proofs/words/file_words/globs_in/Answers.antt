use Rattle.std.proofs.Common.{arith}
use Rattle.reuse_arguments.specs.FileWords.{globs_of}
use Rattle.reuse_arguments.proofs.LineFaultLemmas.{expected_after}
use Rattle.reuse_arguments.proofs.WordListLemmas.{HasRead-end, HasRead-more, HasRead-stops}
use Rattle.reuse_arguments.proofs.words.file_words.globs_in.Goals as goal

pub returns-in_err-found : goal.returns-in_err-found
returns-in_err-found c =
    expected_after _ _ _ _ c.from_residual.ensures.1
    (HasRead-stops globs_of _ c.loop-word.word-index _ _ _ (omega arith) c.loop-word.invariant c.in_err-found.ensures)

pub loop-word-preserved : goal.loop-word-preserved
loop-word-preserved c = HasRead-more globs_of _ c.loop-word.word-index _ _ _ _
    (omega arith) c.loop-word.invariant c.in_ok-found.ensures c.in_ok-append.ensures.items

pub returns : goal.returns
returns c = HasRead-end globs_of _ c.loop-word.word-index _ (omega arith) c.loop-word.invariant
