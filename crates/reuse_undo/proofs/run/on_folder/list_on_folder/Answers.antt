use Rattle.std.proofs.Common.{Bool, subst}
use Rattle.reuse_command.specs.declared.reply.Refusal.{Refusal}
use Rattle.reuse_command.specs.declared.reply.Response.{Response}
use Rattle.std.specs.Prelude.{Result}
use Rattle.reuse_print.specs.FoundNames.{IsFound, ReportsNames, names_text}
use Rattle.reuse_undo.specs.run.FoundNames.{names_answered, text_of_names}
use Rattle.reuse_undo.proofs.run.on_folder.list_on_folder.Goals as goal

pub returns : goal.returns
returns g c =
    let finds = c.find_on_folder-folder.ensures in
    let old = g.O.Sink.contents c.args.out.now in
    let new = g.O.Sink.contents c.report_names.new.out in
    let outcome = c.report_names.result in
    let reports : (answer : Result Response Refusal) → IsFound (names_answered answer) c.find_on_folder-folder.result.1
    → ReportsNames (text_of_names c.args.options) (names_answered answer) old new outcome = λ answer found.
    subst (λ (objects : Bool). ReportsNames (names_text objects c.args.options.names) (names_answered answer) old
    new outcome) c.is_json-as_objects.ensures (c.report_names.ensures.reports (names_answered answer) found) in
    record {
      exact = λ honest. let at = finds.exact honest in (at.0, at.1, reports at.0 at.2);
      survives = λ honest start from.
          let at = finds.survives honest start from in
          (at.0, at.1, at.2, reports at.1 at.3, at.4);
      reads_only = finds.reads_only;
      quiet = c.report_names.ensures.quiet;
      failed = c.report_names.ensures.failed;
      fault = let at = finds.fault in (at.0, reports at.0 at.1, at.2);
      failures = finds.failures;
      was_honest = finds.was_honest;
    }
