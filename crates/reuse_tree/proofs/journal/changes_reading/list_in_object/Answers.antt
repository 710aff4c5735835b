use Rattle.std.proofs.Common.{Err, refl, ap, arith}
use Rattle.json.specs.Json.{value}
use Rattle.serde_json.specs.Data.{no_members, put}
use Rattle.reuse_json.proofs.ReadSoFar.{no_member_read, one_member_read, member_not_read, key_not_read, members_read}
use Rattle.reuse_json.proofs.Trimming.{same_fault}
use Rattle.reuse_tree.proofs.TrimmedEntries.{listed_more}
use Rattle.reuse_tree.proofs.journal.changes_reading.list_in_object.Goals as goal

pub members-init : goal.members-init
members-init c = (no_members, no_member_read _ _, refl)

pub returns-in_err-name-clause-refused : goal.returns-in_err-name-clause-refused
returns-in_err-name-clause-refused c refused =
    key_not_read (value 126) _ _ c.members.invariant.0 c.members.invariant.1 c.in_err-name.ensures.value

pub returns-in_err-found-clause-refused : goal.returns-in_err-found-clause-refused
returns-in_err-found-clause-refused c refused =
    let fault = same_fault _ c.in_err-found.field-0.0 c.from_residual-in_err-found.ensures.1 refused in
    member_not_read (value 126) _ _ c.next_key.new.self c.members.invariant.0 c.in-Some.name.now c.members.invariant.1
    (grind arith) (c.in_err-found.ensures.refused (ap Err fault))

pub members-preserved : goal.members-preserved
members-preserved c =
    let ms = c.members.invariant.0 in
    let k = c.in-Some.name.now in
    let done = c.in_ok-found.ensures in (
      put k done.ok.0 ms,
      one_member_read (value 126) _ _ c.next_key.new.self _ ms k done.ok.0 c.members.invariant.1 (grind arith)
          done.ok.1 done.shorter,
      listed_more c.args.sealed k done.ok.0 ms _ _ done.ok.2 c.members.invariant.2,
    )

pub returns-clause-ok : goal.returns-clause-ok
returns-clause-ok c =
    let ms = c.members.invariant.0 in
    (ms, members_read (value 126) _ _ c.next_key.new.self ms c.members.invariant.1 (grind arith), c.members.invariant.2)
