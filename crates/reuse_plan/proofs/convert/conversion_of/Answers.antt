use Rattle.std.proofs.Common.{◌∙◌, sym, ap, Err}
use Rattle.std.specs.FinMap.{get}
use Rattle.reuse_text.specs.declared.TheConstants.{LONGEST_FILE}
use Rattle.reuse_plan.specs.Conversion.{dep5_path}
use Rattle.reuse_command.specs.declared.reply.Refusal.TheVariants as refusals
use Rattle.reuse_store.proofs.ReadingLemmas.{found_is}
use Rattle.reuse_plan.proofs.Converting.{none_read, long_read}
use Rattle.reuse_plan.proofs.convert.conversion_of.Goals as goal

pub returns-in-Absent-clause-edits : goal.returns-in-Absent-clause-edits
returns-in-Absent-clause-edits c tree are here is = none_read tree (sym c.in-Absent.is ∙ is)

pub returns-in-TooLong-clause-edits : goal.returns-in-TooLong-clause-edits
returns-in-TooLong-clause-edits c tree are here is =
    long_read tree (sym c.in-TooLong.is ∙ is) ∙ ap (λ p. Err (refusals.TooLong p)) (sym here)

pub returns-in-Found-clause-edits : goal.returns-in-Found-clause-edits
returns-in-Found-clause-edits c tree are here is =
    let found = found_is (get tree dep5_path) LONGEST_FILE c.in-Found.bytes (sym c.in-Found.is ∙ is) in
    c.replacement.ensures.edits tree are here found.0 found.1
