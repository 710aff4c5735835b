use Rattle.std.proofs.Common.{arith}
use Rattle.std.proofs.lemmas.Grind.{common_steps}
use Rattle.reuse_style.specs.Names.{dot}
use Rattle.reuse_text.proofs.LastLemmas.{suffix_len-last, suffix_len-no_last, last_below}
use Rattle.reuse_style.proofs.table.ending.Goals as goal

pub returns-in-None : goal.returns-in-None
returns-in-None c =
    let e = suffix_len-no_last dot c.args.name.now c.in-None.ensures in
    rw e (grind (arith, common_steps))

pub returns-in-Some : goal.returns-in-Some
returns-in-Some c =
    let e = suffix_len-last dot c.args.name.now c.in-Some.dot c.in-Some.ensures in
    let h = last_below dot c.args.name.now c.in-Some.dot c.in-Some.ensures in
    rw e (grind (arith, common_steps))
