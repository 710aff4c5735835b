use Rattle.std.proofs.Common.{arith, ◌<◌, ◌≤◌, length, ap, ◌∙◌}
use Rattle.reuse_store.specs.declared.store.Reading.TheVariants.{Found}
use Rattle.reuse_store.proofs.Contents.{reading_absent, reading_found, reading_long}
use Rattle.reuse_store.proofs.file_map.FileMap.read.Goals as goal

pub returns-in-None : goal.returns-in-None
returns-in-None c = reading_absent _ _ _ c.in-None.ensures.value

pub returns-in_ok-try_clone-in-Some : goal.returns-in_ok-try_clone-in-Some
returns-in_ok-try_clone-in-Some c =
    let short : length c.in-Some.bytes.now ≤ c.args.limit = omega (arith, c.len.ensures, c.if-len-limit.true) in
    ap Found c.in_ok-try_clone-in-Some.ensures ∙ reading_found _ _ _ _ c.in-Some.ensures.value short

pub returns-else-len-limit : goal.returns-else-len-limit
returns-else-len-limit c =
    let long : c.args.limit < length c.in-Some.bytes.now = omega (arith, c.len.ensures, c.if-len-limit.false) in
    reading_long _ _ _ _ c.in-Some.ensures.value long
