use Rattle.std.proofs.Common.{◌≡◌, ◌+◌, ◌-◌, take, drop, sym, ap, append-nil, arith}
use Rattle.hex.specs.Hex.{encode_with}
use Rattle.reuse_json.proofs.Appending.{digits_more}
use Rattle.reuse_json.proofs.json_writing.append_digits.Goals as goal

pub loop-done-init : goal.loop-done-init
unfolding encode_with
loop-done-init c = sym (append-nil c.args.text.now.items)

pub loop-done-preserved : goal.loop-done-preserved
loop-done-preserved c =
    let bytes = c.args.bytes.now in
    let done = c.loop-done.done in
    let count = c.min-count.result in
    let size : done + count - done ≡ count = omega arith in
    digits_more c.args.text.now.items bytes c.loop-done.text.items c.extend_from_slice.new.self.items
    c.encode_to_slice.new.output (take (done + count - done) (drop done bytes)) done count
    c.loop-done.invariant c.in_ok-extend_from_slice.ensures.items c.in-Ok.ensures.written
    (ap (λ n. take n (drop done bytes)) size)
