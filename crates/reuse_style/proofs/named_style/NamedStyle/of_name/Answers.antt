use Rattle.std.proofs.Common.{None, Some}
use Rattle.reuse_style.proofs.SameLemmas.{named}
use Rattle.reuse_style.proofs.named_style.NamedStyle.of_name.Goals as goal

pub returns-in-None : goal.returns-in-None
returns-in-None c = named c.args.name.now None c.in-None.ensures

pub returns-in-Some : goal.returns-in-Some
returns-in-Some c = named c.args.name.now (Some c.in-Some.style) c.in-Some.ensures
