use Rattle.reuse_style.proofs.DocumentLemmas.{documents_stated}
use Rattle.reuse_style.proofs.laws.style_documents_are_stated.Goals as goal

pub returns : goal.returns
returns c = documents_stated
