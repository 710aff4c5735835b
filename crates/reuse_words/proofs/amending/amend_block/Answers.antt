use Rattle.std.proofs.Common.{◌∙◌, ap, sym, List, ℕ, map, Some}
use Rattle.std.specs.Option.{option_map}
use Rattle.reuse_header.specs.Found.{block_view}
use Rattle.reuse_words.specs.Information.{text_in, without_texts}
use Rattle.reuse_words.specs.Amended.{free_to_write}
use Rattle.reuse_words.proofs.AmendedLemmas.{block_same, block_other}
use Rattle.reuse_words.proofs.amending.amend_block.Goals as goal

pub returns-in-None : goal.returns-in-None
returns-in-None c =
    let gap = c.gap_of-gap.result.now in
    let punct = c.punctuation.result.now in
    block_same c.args.style.now c.args.texts.now c.args.file.now (block_view c.args.block) c.in_ok-info.info gap punct
    c.in_ok-info.ensures c.gap_of-gap.ensures c.punctuation.ensures
    (ap (λ (fs : List (List ℕ)). free_to_write fs (without_texts punct (map (text_in gap) c.args.texts.now) fs))
    (sym c.free.ensures) ∙ sym c.in_ok-free_without.ensures ∙ ap (option_map (λ list. list.items)) c.in-None.is)

pub returns : goal.returns
returns c =
    let gap = c.gap_of-gap.result.now in
    let punct = c.punctuation.result.now in
    block_other c.args.style.now c.args.texts.now c.args.file.now (block_view c.args.block) c.in_ok-info.info gap punct
    c.as_slice.result.now
    c.in_ok-info.ensures c.gap_of-gap.ensures c.punctuation.ensures
    (ap (λ (fs : List (List ℕ)). free_to_write fs (without_texts punct (map (text_in gap) c.args.texts.now) fs))
    (sym c.free.ensures) ∙ sym c.in_ok-free_without.ensures ∙ ap (option_map (λ list. list.items)) c.in-Some.is
    ∙ ap Some (sym c.as_slice.ensures.value))
    c.write_free.result c.write_free.ensures
