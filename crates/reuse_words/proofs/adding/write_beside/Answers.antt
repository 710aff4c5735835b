use Rattle.reuse_header.specs.Neighbour.{neighbour_written}
use Rattle.reuse_words.proofs.AddedLemmas.{written_ok, written_err}
use Rattle.reuse_words.proofs.adding.write_beside.Goals as goal

pub returns-in-Ok : goal.returns-in-Ok
returns-in-Ok c =
    written_ok c.args.file.now (neighbour_written c.args.replace c.args.file.now c.args.info.now) c.in-Ok.splice
    c.in-Ok.ensures

pub returns-in-Err : goal.returns-in-Err
returns-in-Err c =
    written_err c.args.file.now (neighbour_written c.args.replace c.args.file.now c.args.info.now) c.in-Err.refusal
    c.in-Err.ensures
