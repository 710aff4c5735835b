use Rattle.reuse_ready.proofs.ReadyLemmas.{listed_first, listed_second}
use Rattle.reuse_ready.proofs.tables.listed_style.Goals as goal

pub returns-in-None : goal.returns-in-None
returns-in-None c = listed_second c.args.name.now _ c.in-None.ensures c.later_style.ensures

pub returns-in-Some : goal.returns-in-Some
returns-in-Some c = listed_first c.args.name.now c.in-Some.style.now c.in-Some.ensures
