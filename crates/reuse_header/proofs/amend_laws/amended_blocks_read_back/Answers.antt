use Rattle.reuse_header.proofs.AmendmentLawLemmas.{amended_read}
use Rattle.reuse_header.proofs.amend_laws.amended_blocks_read_back.Goals as goal

pub returns : goal.returns
returns c style a file edit span info form marks e is text sayable lines =
    amended_read c.lines_are_one.ensures.joined c.lines_are_one.ensures.well_formed c.lines_are_one.ensures.only
    c.sets_are_one.ensures.only style a file edit span info form marks e is text sayable lines
