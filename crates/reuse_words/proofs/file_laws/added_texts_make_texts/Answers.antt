use Rattle.reuse_header.specs.LowerLaws.{Merges}
use Rattle.reuse_header.proofs.MadeTextLemmas.{text_is}
use Rattle.reuse_words.proofs.AddedTextLemmas.{file_made_text, neighbour_made_text, read_is_text}
use Rattle.reuse_words.proofs.file_laws.added_texts_make_texts.Goals as goal

pub returns : goal.returns
returns c =
    let joined = c.lines_are_one.ensures.joined in
    let well = c.lines_are_one.ensures.well_formed in
    let merges : Merges = record {
      written = c.merged_notices_are_written.ensures;
      some = c.holders_are_values.ensures.some;
      trim = c.holders_are_values.ensures.trimmed;
    } in
    record {
      files = λ style how additions texts file edit plain utf8 are text e.
          file_made_text joined well merges style how additions texts file edit plain utf8 are (text_is file text) e;
      neighbours = λ how additions texts file edit plain utf8 are e.
          neighbour_made_text joined well merges how additions texts file edit plain utf8 are e;
      read = λ file text e. read_is_text joined well file text e;
    }
