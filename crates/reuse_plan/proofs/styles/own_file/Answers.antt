use Rattle.std.proofs.Common.{◌∙◌, ℕ, List, Option, Some, Result, Ok, Err, cond, length, sym, ap}
use Rattle.std.proofs.lemmas.Bool.{le-ltb}
use Rattle.reuse_text.specs.declared.TheConstants.{LONGEST_FILE}
use Rattle.reuse_command.specs.declared.reply.Refusal.{Refusal}
use Rattle.reuse_command.specs.declared.reply.Refusal.TheVariants as refusals
use Rattle.reuse_store.proofs.ReadingLemmas.{absent_is, found_is}
use Rattle.reuse_plan.specs.TreeStyles.{own_file}
use Rattle.reuse_plan.proofs.styles.own_file.Goals as goal

pub returns-in-Absent-clause-file : goal.returns-in-Absent-clause-file
returns-in-Absent-clause-file c file is =
    ap (own_file c.args.path) (sym (absent_is file LONGEST_FILE (sym c.in-Absent.is ∙ is)))

pub returns-in-Found-clause-file : goal.returns-in-Found-clause-file
returns-in-Found-clause-file c file is =
    let found = found_is file LONGEST_FILE c.in-Found.bytes (sym c.in-Found.is ∙ is) in
    let long : Result (Option (List ℕ)) Refusal = Err (refusals.TooLong c.args.path) in
    sym (ap (own_file c.args.path) found.0 ∙ ap (λ b. cond b long (Ok (Some c.in-Found.bytes)))
    (le-ltb LONGEST_FILE (length c.in-Found.bytes) found.1))
