use Rattle.std.proofs.Common.{◌≡◌, ◌∙◌, false, Ok, sym, ap, subst}
use Rattle.reuse_command.specs.Reading.{get, tree_of, reading_of}
use Rattle.reuse_change.specs.Change.{path_of}
use Rattle.reuse_change.specs.Listing.{is_among}
use Rattle.reuse_text.specs.declared.TheConstants.{LONGEST_FILE}
use Rattle.reuse_store.proofs.AskedLemmas.{reads_more}
use Rattle.reuse_store.proofs.OfTree.{tree_at}
use Rattle.reuse_edit.specs.Answered.{MakesEdit}
use Rattle.reuse_command.specs.Answer.{IsEarlyFailure}
use Rattle.reuse_command.proofs.Asking.{reported}
use Rattle.reuse_plan.proofs.RevertPlanning.{found, stuck_by_touch, stuck_by_clash, where_untouched, where_free}
use Rattle.reuse_plan.proofs.revert.take_back.Goals as goal

pub returns-then-has-clause-edit : goal.returns-then-has-clause-edit
returns-then-has-clause-edit g c honest proper small of_tree =
    stuck_by_touch c.args.touched.now (tree_of (g.S.Store.files c.args.store.now)) c.args.change.now
    (ap (is_among c.args.touched.now) (sym c.path.ensures) ∙ sym c.has.ensures ∙ c.if-has.true)

pub returns-then-branch-clause-edit : goal.returns-then-branch-clause-edit
returns-then-branch-clause-edit g c honest proper small of_tree =
    let tree = tree_of (g.S.Store.files c.args.store.now) in
    let none : is_among c.args.touched.now (path_of c.args.change.now) ≡ false =
    ap (is_among c.args.touched.now) (sym c.path.ensures) ∙ sym c.has.ensures ∙ c.if-has.false in
    ap found (where_untouched c.args.touched.now tree c.args.change.now none)
    ∙ stuck_by_clash tree c.args.change.now
    (sym (c.in_ok-makes_at_clash.ensures.clash honest of_tree) ∙ c.if-branch.true)

pub returns-clause-edit : goal.returns-clause-edit
returns-clause-edit g c honest proper small of_tree =
    let before = c.read.ensures.reads.was_honest honest in
    let files = g.S.Store.files c.args.store.now in
    let tree = tree_of files in
    let change = c.args.change.now in
    let none : is_among c.args.touched.now (path_of c.args.change.now) ≡ false =
    ap (is_among c.args.touched.now) (sym c.path.ensures) ∙ sym c.has.ensures ∙ c.if-has.false in
    let same = c.makes_at_clash.ensures.reads.files before in
    let reading =
    c.in_ok-reading.ensures.reading honest ∙ ap (λ m. reading_of (get m c.path-2.result.now) LONGEST_FILE) same
    ∙ ap (λ p. reading_of (get files p) LONGEST_FILE) c.path-2.ensures
    ∙ ap (λ f. reading_of f LONGEST_FILE) (sym (tree_at files (path_of change) of_tree)) in
    subst (λ o. MakesEdit (tree_of (g.S.Store.files c.args.store.now)) (found o) c.in_ok-change_back.field-0)
    (sym (where_untouched c.args.touched.now tree change none
    ∙ where_free tree change (sym (c.in_ok-makes_at_clash.ensures.clash before of_tree) ∙ c.if-branch.false)))
    (c.in_ok-change_back.ensures tree proper small reading)

pub returns-then-branch-clause-asks : goal.returns-then-branch-clause-asks
returns-then-branch-clause-asks g c = reported g.S.Store IsEarlyFailure _ _ (Ok _) tt tt c.makes_at_clash.ensures.reads

pub returns-clause-asks : goal.returns-clause-asks
returns-clause-asks g c = reported g.S.Store IsEarlyFailure _ _ (Ok _) tt tt
    (reads_more g.S.Store _ _ _ c.makes_at_clash.ensures.reads c.read.ensures.reads)
