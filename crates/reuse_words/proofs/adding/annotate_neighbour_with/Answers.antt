use Rattle.std.proofs.Common.{◌∙◌, sym}
use Rattle.reuse_words.proofs.AddedLemmas.{neighbour_not_text}
use Rattle.reuse_words.proofs.adding.annotate_neighbour_with.Goals as goal

pub annotate_text-requires-clause-text : goal.annotate_text-requires-clause-text
annotate_text-requires-clause-text c = sym c.is_text_file.ensures ∙ c.if-is_text_file.true

pub returns-else-is_text_file : goal.returns-else-is_text_file
returns-else-is_text_file c =
    neighbour_not_text c.args.how.now c.args.additions.now c.args.texts.now c.args.file.now
    (sym c.is_text_file.ensures ∙ c.if-is_text_file.false)
