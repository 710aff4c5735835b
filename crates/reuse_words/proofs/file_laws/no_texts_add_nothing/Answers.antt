use Rattle.reuse_words.proofs.FileLawLemmas.{no_texts, no_neighbour_texts}
use Rattle.reuse_words.proofs.file_laws.no_texts_add_nothing.Goals as goal

pub returns : goal.returns
returns c = record { files = no_texts; neighbours = no_neighbour_texts }
