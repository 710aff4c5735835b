use Rattle.std.proofs.Common.{None}
use Rattle.reuse_change.specs.Tree.{undo_folder_of}
use Rattle.reuse_journal.proofs.JournalLemmas.{sound_head}
use Rattle.reuse_session.proofs.lemmas.session.ForgottenTrees.{besides_is_next, none_kept}
use Rattle.reuse_session.proofs.laws.forgotten_steps_are_gone.Goals as goal

pub returns : goal.returns
returns c = record {
  oldest = λ files numbers state next hold without.
      besides_is_next numbers hold.0 state next hold.2 without
      (sound_head (undo_folder_of files) hold.0.journal None hold.1.journal);
  all = none_kept;
}
