use Rattle.std.specs.Str.{chars}
use Rattle.reuse_toml.proofs.GlobTests.{glob_test_is}
use Rattle.reuse_command.proofs.choice.matches_text.Goals as goal

pub returns : goal.returns
returns c = glob_test_is c.args.glob.now (chars c.args.text.now) c.glob_matches.result c.glob_matches.ensures
