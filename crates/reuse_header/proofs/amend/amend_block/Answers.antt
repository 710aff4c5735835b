use Rattle.reuse_header.specs.Found.{block_view}
use Rattle.reuse_header.proofs.AmendmentLemmas.{block_written, block_refused}
use Rattle.reuse_header.proofs.amend.amend_block.Goals as goal

pub returns-in-Ok : goal.returns-in-Ok
returns-in-Ok c =
    block_written c.args.style.now c.args.amendments.now c.args.file.now
    (block_view c.args.block) c.in_ok-info.info c.in-Ok.new c.write_new.result c.in_ok-info.ensures
    c.in-Ok.ensures c.write_new.ensures

pub returns : goal.returns
returns c =
    block_refused c.args.style.now c.args.amendments.now c.args.file.now
    (block_view c.args.block) c.in_ok-info.info c.in-Err.refusal c.in_ok-info.ensures c.in-Err.ensures
