use Rattle.reuse_arguments.proofs.HeaderTextLemmas.{HoldFront}
use Rattle.reuse_arguments.proofs.header_texts.texts_of.Given as goal

-- the files so far hold the texts so far
abbrev pub invariant-loop-file : goal.invariant-loop-file
invariant-loop-file g l = HoldFront (g.S.TextSource.gives l.source) l.files l.file-index l.texts.items
