use Rattle.std.proofs.Common.{◌∙◌, ap, sym, subst, List, ℕ, map, false}
use Rattle.std.specs.Prelude.{Result}
use Rattle.std.specs.Option.{option_map}
use Rattle.reuse_notice.specs.declared.infos.Info.{Info}
use Rattle.reuse_header.specs.Annotation.{Edit}
use Rattle.reuse_header.specs.Found.{block_view}
use Rattle.reuse_header.specs.Writing.{new_info}
use Rattle.reuse_header.proofs.AnnotationLemmas.{replaced_within}
use Rattle.reuse_words.specs.declared.refusal.TextHeaderRefusal.{TextHeaderRefusal}
use Rattle.reuse_words.specs.Information.{text_in, info_with}
use Rattle.reuse_words.specs.Added.{text_answer, IsExpectedTextEdit}
use Rattle.reuse_words.proofs.AddedLemmas.{added_by, added_bad}
use Rattle.reuse_words.proofs.adding.annotate_file_with.Goals as goal

pub returns-then-closes : goal.returns-then-closes
returns-then-closes c =
    added_bad c.args.style.now c.args.how.now c.args.additions.now c.args.texts.now c.args.file.now
    (option_map block_view c.find.result.block) c.chosen_form-form.result c.gap_of-gap.result.now
    c.find.ensures.block c.chosen_form-form.ensures c.gap_of-gap.ensures
    (sym c.if-closes.true ∙ c.in_ok-closes.ensures)

pub write_with-requires-clause-within : goal.write_with-requires-clause-within
write_with-requires-clause-within c =
    replaced_within c.args.style.now c.args.file.now c.args.how.now.replace
    c.find.result.block c.replaced_block-old.result c.find.ensures.split c.replaced_block-old.ensures

pub returns : goal.returns
returns c =
    let how = c.args.how.now in
    let additions = c.args.additions.now in
    let punct = c.punctuation-punct.result.now in
    let gap = c.gap_of-gap.result.now in
    subst (λ (made : Result Edit TextHeaderRefusal). IsExpectedTextEdit (text_answer c.args.file.now made)
    c.write_with.result)
    (added_by c.args.style.now how additions c.args.texts.now c.args.file.now
    (option_map block_view c.find.result.block) (option_map block_view c.replaced_block-old.result)
    c.chosen_form-form.result gap punct false c.in_ok-info.info
    c.find.ensures.block c.replaced_block-old.ensures c.chosen_form-form.ensures c.gap_of-gap.ensures
    c.punctuation-punct.ensures (sym c.if-closes.false ∙ c.in_ok-closes.ensures)
    (c.in_ok-info.ensures
    ∙ ap (λ (said : Info). info_with punct (map (text_in gap) c.args.texts.now) said)
    (c.in_ok-said.ensures ∙ ap (λ (contents : List (List ℕ)). new_info punct contents how.merge additions)
    (ap (map (λ content. content.now)) c.as_slice.ensures.value ∙ c.in_ok-contents.ensures))))
    c.write_with.ensures
