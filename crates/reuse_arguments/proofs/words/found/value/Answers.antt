use Rattle.std.proofs.Common.{◌∙◌}
use Rattle.clap.specs.Matches.{found_of}
use Rattle.clap.proofs.WalkLemmas.{first_value-rows}
use Rattle.reuse_arguments.specs.Found.{value}
use Rattle.reuse_arguments.proofs.words.found.value.Goals as goal

pub returns : goal.returns
unfolding value
returns c = c.get_str.ensures ∙ first_value-rows (found_of c.args.matches.now) c.args.name.now
