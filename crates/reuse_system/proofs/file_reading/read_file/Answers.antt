use Rattle.std.proofs.Common.{◌<◌, length, take, IfSome, arith}
use Rattle.std.specs.Option.{option_map}
use Rattle.reuse_system.specs.Readings.{IsWholeOf}
use Rattle.reuse_system.proofs.ReaderLemmas.{reader_too_long}
use Rattle.reuse_system.proofs.file_reading.read_file.Goals as goal

pub returns-then-len-limit-clause-whole : goal.returns-then-len-limit-clause-whole
returns-then-len-limit-clause-whole g c =
    let remaining = g.R.Read.remaining in
    let most = c.saturating_add-most.result in
    let bytes = c.in_ok-bytes.bytes.items in
    let long : c.args.limit < length bytes =
    omega (arith, c.if-len-limit.true, c.len.ensures, c.in_ok-bytes.bytes.ok) in
    let whole : IfSome (option_map (take most) (remaining c.args.file)) (λ had. IsWholeOf c.args.len had bytes) =
    rw (c.take.ensures.limit, c.take.ensures.inner) at c.in_ok-bytes.ensures.whole in
    reader_too_long c.args.len c.args.limit most (remaining c.args.file) bytes long whole
