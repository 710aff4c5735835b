use Rattle.std.proofs.Common.{◌++◌, ◌∙◌, List, ℕ, Option, codes, decimal, ap}
use Rattle.std.specs.Option.{option_map}
use Rattle.json.specs.Print.{quoted}
use Rattle.reuse_change.specs.declared.digest.Seal.{Seal}
use Rattle.reuse_json.specs.EntryText.{digest_text, hex_text}
use Rattle.reuse_json.proofs.Appending.{first, then, last}
use Rattle.reuse_tree.proofs.journal.entry_writing.append_splice.Goals as goal

pub returns : goal.returns
returns c =
    let after = option_map (λ (s : Seal). s.after) c.args.seal.now in
    let before = option_map (λ (s : Seal). s.before) c.args.seal.now in
    let after_put = c.in_ok-append_digest.ensures ∙ ap
    (λ (d : Option (List ℕ)). c.extend_from_slice.new.self.items ++ digest_text (codes "after") d) c.after.ensures in
    let before_put = c.in_ok-append_digest-2.ensures ∙ ap (λ (d : Option (List ℕ)).
    c.extend_from_slice-3.new.self.items ++ digest_text (codes "before") d) c.before-2.ensures in
    let path_put = c.in_ok-append_string.ensures
    ∙ ap (λ (p : List ℕ). c.extend_from_slice-6.new.self.items ++ quoted p) c.text.ensures.text in
    let a = first c.args.text.now.items (codes "{") c.in_ok-extend_from_slice.ensures.items in
    let b = then (digest_text (codes "after") after) a after_put in
    let d = then (codes "\"at\":") b c.in_ok-extend_from_slice-2.ensures.items in
    let e = then (decimal c.args.at) d c.in_ok-append_number.ensures in
    let f = then (codes ",") e c.in_ok-extend_from_slice-3.ensures.items in
    let g = then (digest_text (codes "before") before) f before_put in
    let h = then (codes "\"kind\":\"splice\",\"new\":") g c.in_ok-extend_from_slice-4.ensures.items in
    let i = then (hex_text c.args.new.now) h c.in_ok-append_hex.ensures in
    let j = then (codes ",\"old\":") i c.in_ok-extend_from_slice-5.ensures.items in
    let k = then (hex_text c.args.old.now) j c.in_ok-append_hex-2.ensures in
    let l = then (codes ",\"path\":") k c.in_ok-extend_from_slice-6.ensures.items in
    let m = then (quoted c.args.path.now) l path_put in
    let n = then (codes ",\"rest\":") m c.in_ok-extend_from_slice-7.ensures.items in
    let o = then (decimal c.args.rest) n c.in_ok-append_number-2.ensures in
    last c.extend_from_slice-8.result (codes "}") o c.extend_from_slice-8.ensures.items
