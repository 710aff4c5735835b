use Rattle.std.proofs.Common.{◌≡◌, None, Some, refl}
use Rattle.std.specs.Prelude.{Ok}
use Rattle.std.specs.Option.{option_map_or}
use Rattle.reuse_header.specs.Splices.{IsExpected}
use Rattle.reuse_words.specs.Removal.{edit_answer}
use Rattle.reuse_words.specs.Amended.{block_without}
use Rattle.reuse_header.proofs.AnnotationLemmas.{block_found_within, of_found}
use Rattle.reuse_words.proofs.amending.amend_file_without.Goals as goal

pub returns-in-None : goal.returns-in-None
returns-in-None c =
    of_found c.args.style.now c.args.file.now
    (λ o. edit_answer c.args.file.now (option_map_or (block_without c.args.style.now c.args.texts.now c.args.file.now) o (Ok None)) ≡ Ok None)
    c.find.result.block None c.find.ensures.block c.in-None.is refl

pub amend_block-requires-clause-within : goal.amend_block-requires-clause-within
amend_block-requires-clause-within c =
    block_found_within c.args.style.now c.args.file.now c.find.result.block c.in-Some.block c.find.ensures.split
    c.in-Some.is

pub returns-in-Some : goal.returns-in-Some
returns-in-Some c =
    of_found c.args.style.now c.args.file.now
    (λ o. IsExpected (edit_answer c.args.file.now (option_map_or (block_without c.args.style.now c.args.texts.now c.args.file.now) o (Ok None))) c.amend_block.result)
    c.find.result.block (Some c.in-Some.block) c.find.ensures.block c.in-Some.is c.amend_block.ensures
