use Rattle.reuse_edit.proofs.LicenceLemmas.{no_id}
use Rattle.reuse_edit.proofs.licence_id.as_id.Goals as goal

pub returns-in-Err : goal.returns-in-Err
returns-in-Err c = no_id c.args.bytes.now c.in-Err.ensures.cases.0
