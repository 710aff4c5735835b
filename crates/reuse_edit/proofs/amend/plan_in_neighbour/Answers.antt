use Rattle.std.proofs.Common.{◌≡◌, ◌∙◌, false, nat_lt, length, IfSome, ap, subst}
use Rattle.reuse_command.specs.Reading.{get, tree_of}
use Rattle.reuse_text.specs.declared.TheConstants.{LONGEST_FILE}
use Rattle.reuse_store.proofs.TreeLemmas.{read_there}
use Rattle.reuse_edit.specs.Annotate.{neighbour_of}
use Rattle.reuse_edit.proofs.amend.plan_in_neighbour.Goals as goal

pub returns-clause-edit : goal.returns-clause-edit
returns-clause-edit g c honest bytes here =
    let files = g.S.Store.files c.args.store.now in
    let is : c.in-Some.neighbour ≡ neighbour_of c.args.path.now =
    subst (λ o. IfSome o (λ n. n ≡ neighbour_of c.args.path.now)) c.in-Some.is c.in_ok-neighbour.ensures.path in
    let few : nat_lt 4096 (length (neighbour_of c.args.path.now)) ≡ false = subst (λ o. IfSome o
    (λ n. nat_lt 4096 (length (neighbour_of c.args.path.now)) ≡ false)) c.in-Some.is c.in_ok-neighbour.ensures.short in
    let there = ap (get (tree_of files)) is ∙ here in
    c.plan_neighbour.ensures.edit (tree_of files) bytes is few there (read_there files c.in-Some.neighbour bytes
    LONGEST_FILE c.in_ok-reading.reading there (c.in_ok-reading.ensures.reading honest))
