use Rattle.std.proofs.Common.{rules, ◌≡◌, ◌⊎◌, inl, inr, ℕ, List, Some, OnErr, sym, subst, ◌∙◌, arith}
use Rattle.std.proofs.lemmas.Result.{err_from_is_err_and}
use Rattle.reuse_store.specs.Asked.{MaySet}
use Rattle.reuse_change.specs.Files.{Files, tree_of}
use Rattle.reuse_store.specs.Durable.{WithOrWithout}
use Rattle.reuse_change.specs.Tree.{Sets}
use Rattle.reuse_store.proofs.Durable.{may_set_by_put, set_weaker, certain_tree}
use Rattle.reuse_journal.proofs.Barriers.{IsBehind}
use Rattle.reuse_journal.proofs.HeadPuts.{head_keeps_tree}
use Rattle.reuse_journal.specs.JournalFiles.{head_path}
use Rattle.reuse_journal.proofs.JournalReading.{counted_head}
use Rattle.reuse_store.proofs.ApplyLemmas.{put_sets, put_doubt}
use Rattle.reuse_journal.proofs.files.put_head.Given.{Over}
use Rattle.reuse_journal.proofs.files.put_head.Goals.{After-put, After-sync}
use Rattle.reuse_journal.proofs.files.put_head.Goals as goal

pub returns-in_err-put-clause-err : goal.returns-in_err-put-clause-err
returns-in_err-put-clause-err g c honest =
    let old = g.S.Store.files c.args.store.now in
    let new = g.S.Store.files c.put.new.self in
    let p = err_from_is_err_and c.from_residual.result c.from_residual.ensures.1 in
    subst (λ r. OnErr r ((new ≡ old) ⊎ Sets head_path (Some c.args.text.now) old new)) (sym p.1)
    (subst (λ q. (new ≡ old) ⊎ Sets q (Some c.args.text.now) old new) c.head.invariant
    (put_doubt c.in_err-put.field-0.0 old new _ c.args.text.now (c.in_err-put.ensures.puts.err honest)))

-- the head is put, and the barrier leaves it
was_put : (g : Over) (c : After-sync g) → g.S.Store.honest c.sync.new.self
    → Sets head_path (Some c.args.text.now) (g.S.Store.files c.args.store.now) (g.S.Store.files c.sync.new.self)
was_put g c honest =
    let old = g.S.Store.files c.args.store.now in
    let new = g.S.Store.files c.put.new.self in
    subst (λ files. Sets head_path (Some c.args.text.now) old files) (sym (c.sync.ensures.reads.files honest))
    (subst (λ q. Sets q (Some c.args.text.now) old new) c.head.invariant
    (put_sets old new _ c.args.text.now (c.in_ok-put.ensures.puts.ok (c.sync.ensures.reads.was_honest honest))))

pub returns-clause-ok : goal.returns-clause-ok
returns-clause-ok g c = was_put g (goal.at.returns-clause-ok g c).After-sync

pub returns-in_err-sync-clause-err : goal.returns-in_err-sync-clause-err
returns-in_err-sync-clause-err g c honest =
    let old = g.S.Store.files c.args.store.now in
    let new = g.S.Store.files c.sync.new.self in
    let p = err_from_is_err_and c.from_residual-in_err-sync.result c.from_residual-in_err-sync.ensures.1 in
    subst (λ r. OnErr r ((new ≡ old) ⊎ Sets head_path (Some c.args.text.now) old new)) (sym p.1)
    (inr (was_put g (goal.at.returns-in_err-sync-clause-err g c).After-sync honest))

-- what may be left once it was put
left_then : (g : Over) (c : After-put g)
    → MaySet g.S.Store head_path (λ file. file ≡ Some c.args.text.now) c.args.store.now c.put.new.self
left_then g c left is = set_weaker head_path _ left c.head.invariant (λ kept m. m) (λ file e. e)
    (may_set_by_put g.S.Store c.args.store.now c.put.new.self _ _ c.args.text.now c.put.ensures.puts left is)

pub returns-in_err-put-clause-left : goal.returns-in_err-put-clause-left
returns-in_err-put-clause-left g c = left_then g (goal.at.returns-in_err-put-clause-left g c).After-put

pub returns-in_err-sync-clause-left : goal.returns-in_err-sync-clause-left
returns-in_err-sync-clause-left g c left is =
    left_then g (goal.at.returns-in_err-sync-clause-left g c).After-put left (c.sync.ensures.reads.may left is)

pub returns-clause-left : goal.returns-clause-left
returns-clause-left g c left is =
    left_then g (goal.at.returns-clause-left g c).After-put left (c.sync.ensures.reads.may left is)

-- a head leaves the tree
tree_kept : {MightBe : Files → Type 0} (start : Files) (text : List ℕ) (left : Files)
    → ((kept : Files) → MightBe kept → tree_of kept ≡ start)
    → WithOrWithout MightBe head_path (λ file. file ≡ Some text) left → tree_of left ≡ start
tree_kept start text left sure (inl was) = sure left was
tree_kept start text left sure (inr made) = head_keeps_tree made.0 left made.2 made.4 ∙ sure made.0 made.1

pub returns-clause-durable : goal.returns-clause-durable
returns-clause-durable g c honest sure left is =
    let barrier : IsBehind g.S.Store c.put.new.self c.sync.new.self = search rules in
    let got = barrier left is in
    let start = tree_of (g.S.Store.files c.args.store.now) in
    let now = head_keeps_tree (g.S.Store.files c.args.store.now) (g.S.Store.files c.sync.new.self)
    (Some c.args.text.now) (was_put g (goal.at.returns-clause-durable g c).After-sync honest) in
    certain_tree (g.S.Store.files c.sync.new.self) got.0 left
    (tree_kept start c.args.text.now got.0 sure (left_then g (goal.at.returns-clause-durable g c).After-put got.0 got.1)
    ∙ sym now) got.2

pub returns-clause-counted : goal.returns-clause-counted
returns-clause-counted g c = omega (arith, c.put.ensures.puts.written, counted_head _ c.args.text.now c.head.invariant)

pub returns-in_err-put-clause-counted : goal.returns-in_err-put-clause-counted
returns-in_err-put-clause-counted g c =
    omega (arith, c.put.ensures.puts.written, counted_head _ c.args.text.now c.head.invariant)
