use Rattle.reuse_arguments.proofs.FoundLemmas.{number_ok, number_err}
use Rattle.reuse_arguments.proofs.words.found.number_of.Goals as goal

pub returns-in-Ok : goal.returns-in-Ok
returns-in-Ok c = number_ok c.args.text.now c.in-Ok.number c.in-Ok.ensures.value.0

pub returns-in-Err : goal.returns-in-Err
returns-in-Err c = number_err c.args.text.now c.in-Err.ensures.value.0
