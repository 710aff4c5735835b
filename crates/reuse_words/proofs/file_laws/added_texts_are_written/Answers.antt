use Rattle.reuse_text.specs.Text.{after_mark}
use Rattle.reuse_words.proofs.AddedLawLemmas.{texts_added}
use Rattle.reuse_words.proofs.file_laws.added_texts_are_written.Goals as goal

pub returns : goal.returns
returns c style how additions texts file edit e =
    texts_added style how additions texts file edit (c.lines_are_one.ensures.joined (after_mark file)) e
