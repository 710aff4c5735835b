use Rattle.std.proofs.Common.{◌+◌, length, Result, IfErr, refl, sym, subst}
use Rattle.reuse_change.specs.Files.{Clashes}
use Rattle.reuse_change.specs.Tree.{undo_folder_of}
use Rattle.reuse_change.specs.declared.direction.Direction.TheVariants as direction
use Rattle.reuse_command.specs.Answer.{HasClash, IsNoClash}
use Rattle.reuse_session.specs.session.Calls.{files_of}
use Rattle.reuse_journal.specs.JournalFiles.{head_path, entry_path}
use Rattle.reuse_journal.specs.Losses.{Survives}
use Rattle.reuse_session.specs.session.Requests.{as_answer, IsAnswered}
use Rattle.reuse_session.specs.session.RevertCalls.{IsAfterRevert}
use Rattle.reuse_session.specs.session.Session.{store_of, memory_of, IsRun}
use Rattle.reuse_journal.specs.Remembered.{IsSameButTwo}
use Rattle.reuse_command.specs.declared.reply.Refusal.{Refusal}
use Rattle.reuse_command.specs.declared.reply.Response.{Response}
use Rattle.reuse_command.specs.declared.reply.Response.TheVariants as responses
use Rattle.reuse_command.specs.declared.request.Call.{Call}
use Rattle.reuse_command.specs.declared.request.Call.TheVariants as calls
use Rattle.reuse_command.specs.declared.request.Request.TheVariants as requests
use Rattle.reuse_session.proofs.lemmas.session.Answering.{broken_as_answer, call_as_answer, err_as_answer}
use Rattle.reuse_session.proofs.lemmas.session.Answering.{reported_as_answer, make_fails, run_is_step, revert_is_step}
use Rattle.reuse_session.proofs.lemmas.session.Answering.{revert_stands, revert_doubt, revert_clash, revert_folder}
use Rattle.reuse_session.proofs.lemmas.session.Answering.{revert_free}
use Rattle.reuse_session.proofs.lemmas.session.ReplayAnswers.{replay_answers}
use Rattle.reuse_session.proofs.lemmas.journal.StepAnswers.{run_no_clash}
use Rattle.reuse_session.proofs.session.Session.make.Goals as goal

pub returns-in-Run : goal.returns-in-Run
returns-in-Run g c =
    let store = g.S.Store in
    let run = c.run.ensures in
    let answer = c.run.result in
    let old = c.args.self.now in
    let new = c.run.new.self in
    subst (λ (call : Call). IsAnswered store (requests.Make call c.args.when) answer old new)
    (sym c.in-Run.is) (record {
      broken = run.broken;
      exact = run.exact;
      stands = run.leaves.stands;
      unchanged = λ honest. tt;
      doubt = run.leaves.doubt;
      fails = make_fails (calls.Run c.in-Run.command) c.args.when answer;
      survives = λ honest earlier held stands safe.
          subst (λ a. Survives store (IsRun c.in-Run.command c.args.when held) earlier held a (store_of new))
          (sym (run_is_step answer run.kinds)) (run.survives honest earlier held stands safe);
      reads_only = λ look. absurd look;
      kept = λ look. absurd look;
      clash = λ honest held stands.
          subst (λ n. IfErr answer (HasClash (Clashes (files_of store old) (entry_path (n + 1)))
          (Clashes (files_of store old) head_path))) stands.remembers.used (run.leaves.clash honest);
      unclashed = λ honest held stands free.
          run_no_clash (files_of store old) held stands.committed free answer (length (memory_of old).done)
          (memory_of old).used
          (λ full. subst (λ a. IfErr a IsNoClash) (sym (run.full.1 (stands.whole, full))) tt) (run.leaves.clash honest);
      free = run.leaves.free;
      folder = λ honest held stands.
          subst (λ n. IsSameButTwo (entry_path (n + 1)) head_path (undo_folder_of (files_of store old))
          (undo_folder_of (files_of store new))) stands.remembers.used (run.leaves.folder honest);
      call = run.call;
    })

pub returns-in-Undo : goal.returns-in-Undo
returns-in-Undo g c =
    let undo = c.undo.ensures in
    let answer = c.undo.result in
    let old = c.args.self.now in
    let new = c.undo.new.self in
    subst (λ (call : Call). IsAnswered g.S.Store (requests.Make call c.args.when) answer old new) (sym c.in-Undo.is)
    (replay_answers g.S.Store direction.Backward calls.Undo c.args.when answer old new
    (λ held left replays. replays) (λ held doubt. doubt) (λ earlier held safe. safe) (λ held clash. clash)
    (λ held same. same) undo.broken undo.exact undo.survives undo.call undo.leaves)

pub returns-in-Redo : goal.returns-in-Redo
returns-in-Redo g c =
    let redo = c.redo.ensures in
    let answer = c.redo.result in
    let old = c.args.self.now in
    let new = c.redo.new.self in
    subst (λ (call : Call). IsAnswered g.S.Store (requests.Make call c.args.when) answer old new) (sym c.in-Redo.is)
    (replay_answers g.S.Store direction.Forward calls.Redo c.args.when answer old new
    (λ held left replays. replays) (λ held doubt. doubt) (λ earlier held safe. safe) (λ held clash. clash)
    (λ held same. same) redo.broken redo.exact redo.survives redo.call redo.leaves)

pub returns-in-Revert : goal.returns-in-Revert
returns-in-Revert g c =
    let store = g.S.Store in
    let number = c.in-Revert.number in
    let skip_moved = c.in-Revert.skip_moved in
    let when = c.args.when in
    let revert = c.revert.ensures in
    let result = c.revert.result in
    let answer = as_answer responses.Reverted result in
    let old = c.args.self.now in
    let new = c.revert.new.self in
    subst (λ (call : Call). IsAnswered store (requests.Make call when) c.reverted_answer.result old new)
    (sym c.in-Revert.is)
    (subst (λ (a : Result Response Refusal). IsAnswered store
    (requests.Make (calls.Revert number skip_moved) when) a old new) (sym c.reverted_answer.ensures) (record {
      broken = broken_as_answer responses.Reverted result _ revert.broken;
      exact = λ honest held stands reported. let e = revert.exact honest held stands
          (reported_as_answer responses.Reverted result reported) in (e.0, e.1, (result, refl, e.2));
      stands = λ honest held stands. revert_stands store number skip_moved when old new result held honest stands
          revert.leaves revert.call.refused;
      unchanged = λ honest. tt;
      doubt = λ honest held stands.
          revert_doubt store number skip_moved when old new result held honest stands revert.absent.1 revert.leaves;
      fails = make_fails (calls.Revert number skip_moved) c.args.when answer;
      survives = λ honest earlier held stands safe.
          subst (λ a. Survives store (IsAfterRevert number skip_moved when held) earlier held a (store_of new))
          (sym (revert_is_step result)) (revert.survives honest earlier held stands safe);
      reads_only = λ look. absurd look;
      kept = λ look. absurd look;
      clash = λ honest held stands.
          subst (λ n. IfErr answer (HasClash (Clashes (files_of store old) (entry_path (n + 1)))
          (Clashes (files_of store old) head_path))) stands.remembers.used
          (revert_clash store number skip_moved when old new result honest revert.leaves);
      unclashed = λ honest held stands free.
          run_no_clash (files_of store old) held stands.committed free answer (length (memory_of old).done)
          (memory_of old).used
          (λ full. err_as_answer responses.Reverted result IsNoClash (revert.full honest full))
          (revert_clash store number skip_moved when old new result honest revert.leaves);
      free = λ honest free. revert_free store number skip_moved when old new result honest revert.leaves free;
      folder = λ honest held stands.
          subst (λ n. IsSameButTwo (entry_path (n + 1)) head_path (undo_folder_of (files_of store old))
          (undo_folder_of (files_of store new))) stands.remembers.used
          (revert_folder store number skip_moved when old new result honest revert.leaves);
      call = call_as_answer store responses.Reverted result old new revert.call;
    }))
