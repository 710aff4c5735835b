use Rattle.std.proofs.Common.{◌∙◌, sym, ap, subst}
use Rattle.reuse_command.specs.Reading.{get, tree_of, reading_of}
use Rattle.reuse_text.specs.declared.TheConstants.{LONGEST_FILE}
use Rattle.reuse_plan.specs.Conversion.{dep5_path}
use Rattle.reuse_edit.specs.Tables.{toml_path}
use Rattle.reuse_plan.specs.Shown.{Shows}
use Rattle.reuse_store.proofs.TreeLemmas.{tree_file}
use Rattle.reuse_plan.proofs.convert.plan_conversion.Goals as goal

pub returns-clause-edits : goal.returns-clause-edits
returns-clause-edits g c honest =
    let files = g.S.Store.files c.args.store.now in
    let listed = c.in_ok-reading.ensures.reads.was_honest honest in
    let path = c.in_ok-dep5.dep5 in
    c.conversion_of.ensures.edits (tree_of (g.S.Store.files c.args.store.now))
    (subst (λ ps. Shows ps (tree_of (g.S.Store.files c.args.store.now)) toml_path) (sym c.deref.ensures.value)
    (c.in_ok-paths.ensures.paths listed)) c.in_ok-dep5.ensures
    (c.in_ok-reading.ensures.reading honest
    ∙ ap (λ fs. reading_of (get fs c.in_ok-dep5.dep5) LONGEST_FILE) (c.in_ok-paths.ensures.reads.files listed)
    ∙ ap (λ p. reading_of (get (g.S.Store.files c.args.store.now) p) LONGEST_FILE) c.in_ok-dep5.ensures
    ∙ ap (λ f. reading_of f LONGEST_FILE) (sym (tree_file (g.S.Store.files c.args.store.now) dep5_path)))
