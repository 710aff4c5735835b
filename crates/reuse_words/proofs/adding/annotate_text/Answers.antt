use Rattle.std.proofs.Common.{◌∙◌, ap, subst, List, ℕ, [], map}
use Rattle.std.specs.Prelude.{Result}
use Rattle.reuse_notice.specs.declared.infos.Info.{Info}
use Rattle.reuse_header.specs.Annotation.{Edit}
use Rattle.reuse_header.specs.Writing.{new_info}
use Rattle.reuse_words.specs.declared.refusal.TextHeaderRefusal.{TextHeaderRefusal}
use Rattle.reuse_words.specs.Information.{text_in, info_with}
use Rattle.reuse_words.specs.Added.{text_answer, IsExpectedTextEdit}
use Rattle.reuse_words.proofs.AddedLemmas.{neighbour_added}
use Rattle.reuse_words.proofs.adding.annotate_text.Goals as goal

pub returns : goal.returns
returns c =
    let how = c.args.how.now in
    let additions = c.args.additions.now in
    subst (λ (made : Result Edit TextHeaderRefusal). IsExpectedTextEdit (text_answer c.args.file.now made)
    c.write_beside.result)
    (neighbour_added how additions c.args.texts.now c.args.file.now c.in_ok-info.info c.requires.text
    (c.in_ok-info.ensures
    ∙ ap (λ (said : Info). info_with [] (map (text_in []) c.args.texts.now) said)
    (c.in_ok-said.ensures ∙ ap (λ (contents : List (List ℕ)). new_info [] contents how.merge additions)
    (ap (map (λ content. content.now)) c.as_slice.ensures.value ∙ c.in_ok-contents.ensures))))
    c.write_beside.ensures
