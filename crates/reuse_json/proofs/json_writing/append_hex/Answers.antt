use Rattle.std.proofs.Common.{◌++◌, codes, arith}
use Rattle.hex.specs.Hex.{encode_lower}
use Rattle.reuse_json.specs.EntryText.{hex_text}
use Rattle.reuse_json.proofs.Appending.{at_last, quoted_plain}
use Rattle.reuse_json.proofs.PlainTexts.{escape_plain, plain_digits}
use Rattle.reuse_json.proofs.json_writing.append_hex.Goals as goal

pub returns : goal.returns
returns c =
    let bytes = c.args.bytes.now in
    let text = c.args.text.now.items in
    let first = c.extend_from_slice.new.self.items in
    let second = c.append_digits.new.text.items in
    let digits = encode_lower bytes in
    let plain = escape_plain digits (plain_digits bytes (λ i. omega (arith, c.type_inv.bytes i))) in
    at_last c.extend_from_slice-2.result second c.extend_from_slice-2.new.self.items (codes "\"")
    (text ++ hex_text bytes) c.extend_from_slice-2.ensures.items
    (quoted_plain text first second digits plain c.in_ok-extend_from_slice.ensures.items c.in_ok-append_digits.ensures)
