use Rattle.std.proofs.Common.{◌∙◌, ap, sym, List, ℕ, [], map, Some}
use Rattle.std.specs.Option.{option_map}
use Rattle.reuse_words.specs.Information.{text_in, without_texts}
use Rattle.reuse_words.specs.Amended.{free_to_write}
use Rattle.reuse_words.proofs.AmendedLemmas.{neighbour_same, neighbour_other}
use Rattle.reuse_words.proofs.amending.amend_text.Goals as goal

pub returns-in-None : goal.returns-in-None
returns-in-None c =
    neighbour_same c.args.texts.now c.args.file.now c.in_ok-info.info c.requires.text c.in_ok-info.ensures
    (ap (λ (fs : List (List ℕ)). free_to_write fs (without_texts [] (map (text_in []) c.args.texts.now) fs))
    (sym c.free.ensures) ∙ sym c.in_ok-free_without.ensures ∙ ap (option_map (λ list. list.items)) c.in-None.is)

pub returns : goal.returns
returns c =
    neighbour_other c.args.texts.now c.args.file.now c.in_ok-info.info c.as_slice.result.now c.requires.text
    c.in_ok-info.ensures
    (ap (λ (fs : List (List ℕ)). free_to_write fs (without_texts [] (map (text_in []) c.args.texts.now) fs))
    (sym c.free.ensures) ∙ sym c.in_ok-free_without.ensures ∙ ap (option_map (λ list. list.items)) c.in-Some.is
    ∙ ap Some (sym c.as_slice.ensures.value))
    c.write_free_neighbour.result c.write_free_neighbour.ensures
