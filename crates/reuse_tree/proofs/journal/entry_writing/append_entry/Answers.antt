use Rattle.std.proofs.Common.{◌++◌, ◌∙◌, List, ℕ, codes, decimal, map, ap}
use Rattle.std.specs.List.{join_with_byte}
use Rattle.reuse_change.specs.CommandNames.{command_name}
use Rattle.reuse_json.specs.EntryText.{change_text, is_any_sealed}
use Rattle.reuse_json.specs.Format.{format_number}
use Rattle.reuse_json.proofs.Appending.{first, then, last}
use Rattle.reuse_tree.proofs.journal.entry_writing.append_entry.Goals as goal

pub returns : goal.returns
returns c =
    let e = c.args.entry.now in
    let changes_put = c.in_ok-append_changes.ensures
    ∙ ap (λ l. c.extend_from_slice.new.self.items ++ join_with_byte 44 (map change_text l)) c.as_slice.ensures in
    let name_put = c.in_ok-extend_from_slice-3.ensures.items
    ∙ ap (λ (l : List ℕ). c.extend_from_slice-2.new.self.items ++ l) (c.as_bytes.ensures.value ∙ c.as_str.ensures) in
    let format_put = c.in_ok-append_number.ensures ∙ ap (λ (n : ℕ). c.extend_from_slice-4.new.self.items ++ decimal n)
    (c.format_of.ensures ∙ ap (λ l. format_number (is_any_sealed l)) c.as_slice-2.ensures) in
    let when_put = c.in_ok-append_number-2.ensures
    ∙ ap (λ (n : ℕ). c.extend_from_slice-5.new.self.items ++ decimal n) c.seconds.ensures.seconds in
    let a = first c.args.text.now.items (codes "{\"changes\":[") c.in_ok-extend_from_slice.ensures.items in
    let b = then (join_with_byte 44 (map change_text e.changes)) a changes_put in
    let d = then (codes "],\"command\":\"") b c.in_ok-extend_from_slice-2.ensures.items in
    let f = then (command_name e.command) d name_put in
    let g = then (codes "\",\"format\":") f c.in_ok-extend_from_slice-4.ensures.items in
    let h = then (decimal (format_number (is_any_sealed e.changes))) g format_put in
    let i = then (codes ",\"when\":") h c.in_ok-extend_from_slice-5.ensures.items in
    let j = then (decimal e.when) i when_put in
    last c.extend_from_slice-6.result (codes "}") j c.extend_from_slice-6.ensures.items
