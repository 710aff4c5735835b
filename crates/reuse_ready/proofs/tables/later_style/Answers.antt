use Rattle.reuse_ready.proofs.ReadyLemmas.{later_first, later_second}
use Rattle.reuse_ready.proofs.tables.later_style.Goals as goal

pub returns-in-None : goal.returns-in-None
returns-in-None c = later_second c.args.name.now _ c.in-None.ensures c.other_style.ensures

pub returns-in-Some : goal.returns-in-Some
returns-in-Some c = later_first c.args.name.now c.in-Some.style.now c.in-Some.ensures
