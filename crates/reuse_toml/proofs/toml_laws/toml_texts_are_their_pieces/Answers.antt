use Rattle.reuse_toml.proofs.KeptLemmas.{pieces-join}
use Rattle.reuse_toml.proofs.toml_laws.toml_texts_are_their_pieces.Goals as goal

pub returns : goal.returns
returns c = λ text. pieces-join text
