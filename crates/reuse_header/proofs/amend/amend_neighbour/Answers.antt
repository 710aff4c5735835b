use Rattle.std.proofs.Common.{◌∙◌, sym}
use Rattle.reuse_header.proofs.AmendmentLemmas.{text_answered, not_text}
use Rattle.reuse_header.proofs.amend.amend_neighbour.Goals as goal

pub returns-then-is_text_file : goal.returns-then-is_text_file
returns-then-is_text_file c = text_answered c.args.amendments.now c.args.file.now c.amend_text.result
    (sym c.is_text_file.ensures ∙ c.if-is_text_file.true) c.amend_text.ensures

pub returns-else-is_text_file : goal.returns-else-is_text_file
returns-else-is_text_file c =
    not_text c.args.amendments.now c.args.file.now (sym c.is_text_file.ensures ∙ c.if-is_text_file.false)
