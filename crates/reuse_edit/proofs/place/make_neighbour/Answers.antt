use Rattle.std.proofs.Common.{◌∙◌, [], sym, ap, subst}
use Rattle.reuse_edit.specs.Annotation.{neighbour_annotation_of}
use Rattle.reuse_edit.specs.Annotate.{edit_by}
use Rattle.reuse_change.specs.Clash.{is_clash}
use Rattle.reuse_edit.specs.Answered.{AnswersEdit}
use Rattle.reuse_edit.proofs.EditLemmas.{fits_by, new_is}
use Rattle.reuse_edit.proofs.place.make_neighbour.Goals as goal

pub returns-clause-edit : goal.returns-clause-edit
returns-clause-edit c tree is none free =
    let expected = neighbour_annotation_of c.args.asked.now.how.now c.args.asked.now.additions.now [] in
    subst (λ r. AnswersEdit tree r c.making_by.result)
    (sym (new_is c.args.asked.now tree c.args.path.now (ap (is_clash tree) (sym is) ∙ free)))
    (subst (λ n. AnswersEdit tree (edit_by c.args.path.now n []
    (neighbour_annotation_of c.args.asked.now.how.now c.args.asked.now.additions.now [])) c.making_by.result) is
    (c.making_by.ensures.edit tree expected none (fits_by [] expected (λ edit e.
    c.text_annotations_fit.ensures.neighbours c.args.asked.now.how.now c.args.asked.now.additions.now.tags
    c.args.asked.now.additions.now.texts [] edit e)) c.annotate_beside-made.ensures))
