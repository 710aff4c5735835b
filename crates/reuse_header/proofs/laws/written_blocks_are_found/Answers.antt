use Rattle.reuse_header.proofs.LawLemmas.{read_again}
use Rattle.reuse_header.proofs.laws.written_blocks_are_found.Goals as goal

pub returns : goal.returns
returns c style how additions file edit info form marks e written sayable lines =
    read_again c.lines_are_one.ensures.joined c.lines_are_one.ensures.well_formed c.lines_are_one.ensures.only
    c.sets_are_one.ensures.only style how additions file edit info form marks e written sayable lines
