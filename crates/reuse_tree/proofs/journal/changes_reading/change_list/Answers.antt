use Rattle.std.proofs.Common.{◌∙◌, [], Err, ap, Some, arith}
use Rattle.json.specs.Json.{value}
use Rattle.serde_json.specs.View.{items_of}
use Rattle.reuse_json.proofs.ReadSoFar.{no_item_read, item_not_read, items_read}
use Rattle.reuse_json.proofs.Trimming.{same_fault}
use Rattle.reuse_tree.proofs.ChangeLists.{one_change_read}
use Rattle.reuse_tree.proofs.TrimmedEntries.{no_changes}
use Rattle.reuse_tree.proofs.journal.changes_reading.change_list.Goals as goal

pub items-init : goal.items-init
items-init c = ([], no_item_read _ _, ap Some c.new.ensures.items ∙ no_changes c.args.sealed)

pub returns-in_err-value-clause-refused : goal.returns-in_err-value-clause-refused
returns-in_err-value-clause-refused c refused =
    let l = c.items in
    let fault = same_fault _ c.in_err-value.field-0.0 c.from_residual.ensures.1 refused in
    item_not_read (value 125) _ _ c.take_end_array.new.self l.invariant.0 l.invariant.1 (grind arith)
    (c.in_err-value.ensures.refused (ap Err fault))

pub items-preserved-in_ok-found : goal.items-preserved-in_ok-found
items-preserved-in_ok-found c =
    one_change_read c.args.sealed _ _ c.take_end_array.new.self _ _ _ _ c.items.invariant (grind arith)
    c.in_ok-value.ensures.ok c.in_ok-value.ensures.shorter c.in_ok-found.ensures.ok

pub items-preserved-in_ok-found-2 : goal.items-preserved-in_ok-found-2
items-preserved-in_ok-found-2 c =
    one_change_read c.args.sealed _ _ c.take_end_array.new.self _ _ _ _ c.items.invariant (grind arith)
    c.in_ok-value.ensures.ok c.in_ok-value.ensures.shorter c.in_ok-found.ensures.ok

pub items-preserved-in_ok-found-3 : goal.items-preserved-in_ok-found-3
items-preserved-in_ok-found-3 c =
    one_change_read c.args.sealed _ _ c.take_end_array.new.self _ _ _ _ c.items.invariant (grind arith)
    c.in_ok-value.ensures.ok c.in_ok-value.ensures.shorter c.in_ok-found.ensures.ok

pub items-preserved : goal.items-preserved
items-preserved c =
    one_change_read c.args.sealed _ _ c.take_end_array.new.self _ _ _ _ c.items.invariant (grind arith)
    c.in_ok-value.ensures.ok c.in_ok-value.ensures.shorter c.in_ok-found.ensures.ok

pub returns-clause-ok : goal.returns-clause-ok
returns-clause-ok c =
    let l = c.items in
    let ds = l.invariant.0 in
    (items_of ds, items_read (value 125) _ _ c.take_end_array.new.self ds l.invariant.1 (grind arith), l.invariant.2)
