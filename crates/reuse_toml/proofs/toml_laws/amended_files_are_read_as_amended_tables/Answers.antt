use Rattle.reuse_toml.proofs.TomlLawLemmas.{changed, differing, within, fitting, another, unchanged}
use Rattle.reuse_toml.proofs.toml_laws.amended_files_are_read_as_amended_tables.Goals as goal

pub returns : goal.returns
returns c = record {
  judged = changed;
  kept = differing;
  within = within;
  fits = fitting;
  another = another;
  unchanged = unchanged;
}
