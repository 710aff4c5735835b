use Rattle.std.proofs.Common.{rules, ◌≡◌, ◌⊎◌, Some, subst}
use Rattle.reuse_change.specs.Tree.{Sets}
use Rattle.reuse_journal.specs.JournalFiles.{head_path}
use Rattle.reuse_journal.proofs.ClearedHeads.{barrier_certain}
use Rattle.reuse_journal.proofs.LeftByRollBacks.{head_or_not}
use Rattle.reuse_journal.proofs.recovery.clear_head.Goals as goal

-- behind the barrier the files are certain, and the head was put on them or not
pub returns-in-Err-clause-left : goal.returns-in-Err-clause-left
returns-in-Err-clause-left g c honest have cause e =
    let store = g.S.Store in
    let old = c.args.store.now in
    let mid = c.sync.new.self in
    let new = c.put_head.new.store in
    let text = c.args.head.now.text.now in
    let same = c.sync.ensures.reads.files (c.put_head.ensures.later.was_honest honest) in
    let sure = barrier_certain store old mid have same (search rules) in
    let head = subst (λ f. (store.files new ≡ f) ⊎ Sets head_path (Some text) f (store.files new)) same
    (c.in-Err.ensures.err (honest)) in
    (head, λ left is. head_or_not (store.files old) left text sure (c.put_head.ensures.left left is))
