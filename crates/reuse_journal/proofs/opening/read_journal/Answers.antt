use Rattle.std.proofs.Common.{◌≡◌, inr, Err, sym, ap, subst, ◌∙◌}
use Rattle.std.specs.FinMap.{get}
use Rattle.std.specs.List.{All, AllZip}
use Rattle.std.proofs.lemmas.Result.{err_from_is_err_and}
use Rattle.reuse_journal.specs.JournalFiles.{head_path, HeadSays}
use Rattle.reuse_journal.specs.Opening.{named, IsListedIn, IsReadable, IsFirstUnreadable}
use Rattle.reuse_command.specs.declared.reply.Refusal.TheVariants.{BadJournal}
use Rattle.reuse_change.specs.Tree.{undo_folder_of}
use Rattle.reuse_journal.proofs.OpeningLemmas.{read_from}
use Rattle.reuse_journal.proofs.opening.read_journal.Goals as goal

pub returns-in_err-history-clause-bad : goal.returns-in_err-history-clause-bad
returns-in_err-history-clause-bad g c honest path e =
    let head = c.in_ok-head.head in
    let with_head = c.read_entries.ensures.reads.was_honest honest in
    let tested = c.read_head.ensures.reads.was_honest with_head in
    let p = err_from_is_err_and c.from_residual-in_err-history.result c.from_residual-in_err-history.ensures.1 in
    let given : p.0 ≡ BadJournal path = let x = sym p.1 ∙ e in cc in
    let was = c.in_err-history.was ∙ ap (λ x. Err x) (sym p.2 ∙ given) in
    let first = c.test_folders.ensures.reads.files tested in
    inr (inr (
      c.in_ok-test_folders.ensures.ok tested,
      inr (
        head,
        subst (λ files. HeadSays (get (undo_folder_of files) head_path) head) first (c.in_ok-head.ensures.ok with_head),
        subst (λ files. IsFirstUnreadable (undo_folder_of files) (named head) path)
            (c.read_head.ensures.reads.files with_head ∙ first) (c.read_entries.ensures.bad honest path was),
      ),
    ))

pub returns-clause-ok : goal.returns-clause-ok
returns-clause-ok g c honest =
    let head = c.in_ok-head.head in
    let memory = c.in_ok-history.history in
    let with_head = c.read_entries.ensures.reads.was_honest honest in
    let tested = c.read_head.ensures.reads.was_honest with_head in
    let first = c.test_folders.ensures.reads.files tested in
    let both = c.read_head.ensures.reads.files with_head ∙ first in
    let none = c.in_ok-test_folders.ensures.ok tested in
    let read = c.in_ok-history.ensures.ok honest in
    read_from (g.S.Store.files c.args.store.now) head memory none.0 none.1
    (subst (λ files. HeadSays (get (undo_folder_of files) head_path) head) first (c.in_ok-head.ensures.ok with_head))
    (subst (λ files. AllZip (IsListedIn (undo_folder_of files)) head.done memory.done) both read.0)
    (subst (λ files. AllZip (IsListedIn (undo_folder_of files)) head.undone memory.undone) both read.1)
    (subst (λ files. All (IsReadable (undo_folder_of files)) (named head)) both read.2)
    read.3
