use Rattle.std.proofs.Common.{◌++◌, ◌+◌, List, ℕ, map, take, sym, ap, ◌∙◌, append-nil, take_all}
use Rattle.std.specs.List.{join_with_byte}
use Rattle.reuse_json.specs.EntryText.{change_text, comma_before}
use Rattle.reuse_json.proofs.Appending.{joined}
use Rattle.reuse_tree.proofs.JoinedTexts.{join-map-more}
use Rattle.reuse_tree.proofs.journal.entry_writing.append_changes.Goals as goal

pub loop-i-init : goal.loop-i-init
loop-i-init c = sym (append-nil c.args.text.now.items)

pub loop-i-preserved : goal.loop-i-preserved
loop-i-preserved c =
    let changes = c.args.changes.now in
    let i = c.loop-i.i in
    let next = c.index-changes-i.result in
    let between = c.extend_from_slice.new.self.items in
    let text = join_with_byte 44 (map change_text (take i changes)) in
    let comma = c.as_bytes.ensures.value ∙ c.comma_before.ensures in
    joined c.args.text.now.items text c.loop-i.text.items between c.append_change.new.text.items (comma_before i)
    (change_text next) (join_with_byte 44 (map change_text (take (i + 1) changes)))
    c.loop-i.invariant
    (c.in_ok-extend_from_slice.ensures.items ∙ ap (λ (l : List ℕ). c.loop-i.text.items ++ l) comma)
    c.in_ok-append_change.ensures
    (join-map-more change_text changes i next c.loop-i-test.true
    ∙ ap (λ v. text ++ (comma_before i ++ change_text v)) (sym c.index-changes-i.is))

pub returns : goal.returns
returns c = c.loop-i.invariant ∙ ap (λ l. c.args.text.now.items ++ join_with_byte 44 (map change_text l))
    (take_all c.loop-i.i c.args.changes.now c.loop-i-test.false)
