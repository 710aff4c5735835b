use Rattle.reuse_toml.proofs.ReadGlobLemmas.{read_text}
use Rattle.reuse_toml.proofs.glob_laws.glob_text_is_read_back.Goals as goal

pub returns : goal.returns
returns c = read_text
