use Rattle.reuse_dep5.proofs.ConvertedLemmas.{converted_text, converted_fits, converted_refusal}
use Rattle.reuse_dep5.proofs.laws.conversions_are_stated.Goals as goal

pub returns : goal.returns
returns c = record { text = converted_text; fits = converted_fits; refused = converted_refusal }
