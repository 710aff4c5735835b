use Rattle.std.proofs.Common.{◌∙◌, sym}
use Rattle.reuse_words.proofs.AmendedLemmas.{not_text}
use Rattle.reuse_words.proofs.amending.amend_neighbour.Goals as goal

pub amend_text-requires-clause-text : goal.amend_text-requires-clause-text
amend_text-requires-clause-text c = sym c.is_text_file.ensures ∙ c.if-is_text_file.true

pub returns-else-is_text_file : goal.returns-else-is_text_file
returns-else-is_text_file c =
    not_text c.args.texts.now c.args.file.now (sym c.is_text_file.ensures ∙ c.if-is_text_file.false)
