use Rattle.std.proofs.Common.{◌∙◌, inl, inr}
use Rattle.reuse_undo.proofs.lemmas.run.OneCallLemmas.{line_as, stays_on}
use Rattle.reuse_undo.proofs.run.locked.work_with.Goals as goal

pub returns-then-is_denied : goal.returns-then-is_denied
returns-then-is_denied g c =
    inl (
      c.is_denied.ensures.untrusted c.if-is_denied.true,
      (c.is_denied.ensures.reads, c.is_denied.ensures.noted),
      c.denied.ensures,
    )

pub returns : goal.returns
returns g c =
    inr (record {
      begun = c.step_to_note-pending.new.folder;
      left = c.answer_in-folder.result.0;
      asked = c.answer_in-folder.result.1;
      stays = stays_on _ (λ store. store.folder.unsynced) c.args.tools.0 c.is_denied.new.folder
          c.step_to_note-pending.new.folder (c.is_denied.ensures.reads, c.is_denied.ensures.noted)
          (c.step_to_note-pending.ensures.reads, c.step_to_note-pending.ensures.noted);
      answers = line_as _ _ _ _ _ _ _ _ _ _ _ _ _ c.of-way.ensures.names c.of-way.ensures.options
          c.request_of-request.ensures c.answer_in-folder.ensures;
      looks = c.found_after-folder.ensures;
    })
