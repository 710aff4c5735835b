use Rattle.reuse_arguments.proofs.FoundLemmas.{one_flag}
use Rattle.clap.specs.Matches.{found_of}
use Rattle.std.proofs.Common.{◌∙◌}
use Rattle.reuse_arguments.proofs.words.found.flag.Goals as goal

pub returns : goal.returns
returns c = c.unwrap_or.ensures ∙ one_flag _
    (found_of c.args.matches.now) c.args.name.now c.get_one.result c.get_one.ensures.none c.get_one.ensures.value
