use Rattle.std.proofs.Common.{◌≡◌, ◌++◌, ◌∙◌, sym, ap, codes, true}
use Rattle.std.specs.List.{list_all}
use Rattle.std.proofs.lemmas.List.Sums.{AllPass-from_list_all}
use Rattle.json.specs.Print.{quoted}
use Rattle.json.specs.Run.{is_plain}
use Rattle.reuse_json.proofs.Appending.{at_last, quoted_plain}
use Rattle.reuse_json.proofs.PlainTexts.{escape_plain}
use Rattle.reuse_json.proofs.json_writing.append_string.Goals as goal

pub returns : goal.returns
returns c =
    let content = c.args.content.now in
    let text = c.args.text.now.items in
    let first = c.extend_from_slice.new.self.items in
    let second = c.extend_from_slice-2.new.self.items in
    let same = c.as_bytes.ensures.value in
    let test : list_all is_plain content ≡ true =
    ap (list_all is_plain) (sym same) ∙ sym c.is_plain.ensures ∙ c.if-not-is_plain.false in
    let plain = escape_plain content (AllPass-from_list_all is_plain content test) in
    at_last c.extend_from_slice-3.result second c.extend_from_slice-3.new.self.items (codes "\"")
    (text ++ quoted content) c.extend_from_slice-3.ensures.items
    (quoted_plain text first second content plain c.in_ok-extend_from_slice.ensures.items
    (c.in_ok-extend_from_slice-2.ensures.items ∙ ap (λ l. first ++ l) c.as_bytes-2.ensures.value))
