use Rattle.std.proofs.Common.{◌^◌, length, ap, arith}
use Rattle.reuse_header.proofs.HeaderLemmas.{body_fits}
use Rattle.reuse_header.proofs.harm.text_stands_first.Goals as goal

pub begins_with_text-requires : goal.begins_with_text-requires
begins_with_text-requires c =
    let h = body_fits c.args.style.now c.args.file.now (2 ^ 64) (omega arith) in
    omega (arith, h, ap length c.pass_prefix.ensures.rest)
