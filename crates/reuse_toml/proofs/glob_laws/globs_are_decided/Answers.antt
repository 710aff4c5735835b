use Rattle.reuse_toml.proofs.GlobTests.{glob_decided}
use Rattle.reuse_toml.proofs.glob_laws.globs_are_decided.Goals as goal

pub returns : goal.returns
returns c = glob_decided
