use Rattle.std.proofs.Common.{◌++◌, ◌∙◌, List, ℕ, codes, ap}
use Rattle.json.specs.Print.{quoted}
use Rattle.reuse_json.specs.EntryText.{digest_text, hex_text}
use Rattle.reuse_json.proofs.Appending.{first, then, last}
use Rattle.reuse_tree.proofs.journal.entry_writing.append_whole.Goals as goal

pub returns : goal.returns
returns c =
    let path_put = c.in_ok-append_string.ensures
    ∙ ap (λ (p : List ℕ). c.extend_from_slice-3.new.self.items ++ quoted p) c.text.ensures.text in
    let a = first c.args.text.now.items (codes "{") c.in_ok-extend_from_slice.ensures.items in
    let b = then (digest_text c.args.digest_key.now c.args.digest) a c.in_ok-append_digest.ensures in
    let d = then c.args.kind.now b c.in_ok-extend_from_slice-2.ensures.items in
    let e = then (hex_text c.args.bytes.now) d c.in_ok-append_hex.ensures in
    let f = then (codes ",\"path\":") e c.in_ok-extend_from_slice-3.ensures.items in
    let g = then (quoted c.args.path.now) f path_put in
    last c.extend_from_slice-4.result (codes "}") g c.extend_from_slice-4.ensures.items
