use Rattle.reuse_header.proofs.AmendmentLemmas.{neighbour_read, neighbour_refused}
use Rattle.reuse_header.proofs.amend.amend_text.Goals as goal

pub returns-in-Ok : goal.returns-in-Ok
returns-in-Ok c = neighbour_read c.args.amendments.now c.args.file.now c.in_ok-info.info c.in-Ok.new
    c.write_new_neighbour.result c.in_ok-info.ensures c.in-Ok.ensures c.write_new_neighbour.ensures

pub returns : goal.returns
returns c = neighbour_refused c.args.amendments.now c.args.file.now c.in_ok-info.info c.in-Err.refusal
    c.in_ok-info.ensures c.in-Err.ensures
