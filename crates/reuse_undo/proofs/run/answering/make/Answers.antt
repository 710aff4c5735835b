use Rattle.std.proofs.Common.{◌∙◌, inl, inr, refl, sym}
use Rattle.reuse_store.proofs.AskedLemmas.{reads_none}
use Rattle.reuse_undo.proofs.lemmas.run.OneCallLemmas.{once_between, stays_on}
use Rattle.reuse_undo.proofs.run.answering.make.Goals as goal

pub returns-then-not-release_writes : goal.returns-then-not-release_writes
returns-then-not-release_writes g c =
    inl (
      c.answer_at_once-folder.result.1,
      refl,
      once_between _ _ _ _ _ _ _ _ _ _ _ (stays_on _ (λ store. store.folder.unsynced)
          c.args.folder c.watch_writes.new.self c.remember_files.new.self
          (c.watch_writes.ensures.reads, c.watch_writes.ensures.unsynced)
          (c.remember_files.ensures.reads, c.remember_files.ensures.unsynced))
          (c.release_writes.ensures.reads, c.release_writes.ensures.unsynced) c.answer_at_once-folder.ensures,
    )

pub returns-in-Some : goal.returns-in-Some
returns-in-Some g c =
    inr (record {
      tried = c.release_writes.new.self;
      looked = c.first_access_refusal-folder.result.0;
      outcome = c.answer_at_once-folder.result.1;
      tries =
          once_between _ _ _ _ _ _ _ _ _ _ _ (stays_on _ (λ store. store.folder.unsynced)
          c.args.folder c.watch_writes.new.self c.remember_files.new.self
          (c.watch_writes.ensures.reads, c.watch_writes.ensures.unsynced)
          (c.remember_files.ensures.reads, c.remember_files.ensures.unsynced))
          (c.release_writes.ensures.reads, c.release_writes.ensures.unsynced) c.answer_at_once-folder.ensures;
      failed = sym c.is_failure.ensures ∙ c.if-not-is_failure.false;
      looks = c.first_access_refusal-folder.ensures;
      ends = (reads_none _ c.first_access_refusal-folder.result.0, refl);
    })

pub returns : goal.returns
returns g c =
    inr (record {
      tried = c.release_writes.new.self;
      looked = c.first_access_refusal-folder.result.0;
      outcome = c.answer_at_once-folder.result.1;
      tries =
          once_between _ _ _ _ _ _ _ _ _ _ _ (stays_on _ (λ store. store.folder.unsynced)
          c.args.folder c.watch_writes.new.self c.remember_files.new.self
          (c.watch_writes.ensures.reads, c.watch_writes.ensures.unsynced)
          (c.remember_files.ensures.reads, c.remember_files.ensures.unsynced))
          (c.release_writes.ensures.reads, c.release_writes.ensures.unsynced) c.answer_at_once-folder.ensures;
      failed = sym c.is_failure.ensures ∙ c.if-not-is_failure.false;
      looks = c.first_access_refusal-folder.ensures;
      ends = c.answer_at_once-folder-in-None.ensures;
    })
