use Rattle.std.proofs.Common.{sym, ap, subst}
use Rattle.reuse_dep5.specs.Answers.{IsAnswer}
use Rattle.reuse_dep5.specs.Dep5.{dep5_of}
use Rattle.reuse_dep5.specs.Conversion.{converted, converted_from}
use Rattle.reuse_dep5.proofs.ConversionLemmas.{items_of, toml_answer, text_fits, refusal_stays}
use Rattle.reuse_dep5.proofs.conversion.convert_dep5.Goals as goal

pub returns-in-Ok-clause-answer : goal.returns-in-Ok-clause-answer
unfolding converted
returns-in-Ok-clause-answer c =
    subst (IsAnswer items_of c.to_toml.result) (sym (ap converted_from c.in-Ok.ensures))
    (toml_answer c.in-Ok.dep5 c.to_toml.result c.to_toml.ensures.ok c.to_toml.ensures.refused)

pub returns-in-Err-clause-answer : goal.returns-in-Err-clause-answer
unfolding converted
returns-in-Err-clause-answer c = refusal_stays c.in-Err.refusal (dep5_of c.args.bytes.now) c.in-Err.ensures

pub returns-in-Ok-clause-fits : goal.returns-in-Ok-clause-fits
returns-in-Ok-clause-fits c = text_fits c.in-Ok.dep5 c.to_toml.result c.to_toml.ensures.ok
