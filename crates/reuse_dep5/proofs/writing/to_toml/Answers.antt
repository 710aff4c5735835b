use Rattle.std.proofs.Common.{◌∙◌, ap, sym}
use Rattle.reuse_dep5.specs.Dep5.{Dep5Value}
use Rattle.reuse_dep5.specs.Scalars.{name_characters}
use Rattle.reuse_dep5.specs.ReuseToml.{question_of}
use Rattle.reuse_dep5.proofs.TableLemmas.{answers_agree}
use Rattle.reuse_dep5.proofs.WrittenLemmas.{written_from}
use Rattle.reuse_dep5.proofs.writing.to_toml.Goals as goal

pub returns-clause-agrees : goal.returns-clause-agrees
returns-clause-agrees c =
    answers_agree c.args.dep5.now
    (c.in_default.ensures ∙ ap question_of (c.deref.ensures.value ∙ ap (λ (d : Dep5Value). d.files) c.dep5.view_is))

pub returns-clause-written_agrees : goal.returns-clause-written_agrees
returns-clause-written_agrees c =
    written_from c.args.dep5.now c.in_ok-text.text.items c.deref-2.result.now c.in_ok-reads_back.field-0
    c.deref-2.ensures.value c.if-not-branch.false
    c.in_ok-reads_back.ensures
    (sym
    (c.in_default.ensures ∙ ap question_of (c.deref.ensures.value ∙ ap (λ (d : Dep5Value). d.files) c.dep5.view_is)))
    (ap (λ (d : Dep5Value). name_characters d.files) (sym c.dep5.view_is) ∙ c.dep5.invariant)
