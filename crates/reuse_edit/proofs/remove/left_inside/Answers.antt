use Rattle.std.proofs.Common.{subst}
use Rattle.reuse_header.specs.Splices.{IsExpected}
use Rattle.reuse_words.specs.Removal.{edit_answer}
use Rattle.reuse_edit.specs.Removed.{removal_of}
use Rattle.reuse_edit.proofs.Removing.{fits_block, removal_within}
use Rattle.reuse_edit.proofs.remove.left_inside.Goals as goal

pub text_left-requires-clause-within : goal.text_left-requires-clause-within
text_left-requires-clause-within c =
    let bytes = c.args.bytes.now in
    let expected = removal_of c.args.removal.now c.args.style.now bytes in
    removal_within bytes expected c.taken_inside-made.result c.requires
    (fits_block c.args.removal.now c.args.style.now bytes c.requires)
    (λ splice e. subst (IsExpected (edit_answer bytes expected)) e c.taken_inside-made.ensures)

pub returns-clause-text : goal.returns-clause-text
returns-clause-text c =
    let bytes = c.args.bytes.now in
    c.text_left.ensures.text (removal_of c.args.removal.now c.args.style.now bytes)
    (fits_block c.args.removal.now c.args.style.now bytes c.requires) c.taken_inside-made.ensures
