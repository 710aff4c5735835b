use Rattle.reuse_undo.proofs.lemmas.run.PathsFoundLemmas.{found_by_paths}
use Rattle.reuse_undo.proofs.laws.losses_spare_files_that_calls_have_changed.Goals as goal

pub returns : goal.returns
returns g c =
    let record_of = c.args.folder.now.calls in
    λ state next forgetting initial left within supposes may.
    let found = c.losses_stay_at_their_paths.ensures.paths record_of.start initial record_of.initial_crash_states
    record_of.calls left supposes may in (
      found.1,
      found.3,
      found_by_paths _ state next
          (λ one is. c.losses_leave_files_before_or_after.ensures c.args.folder.now state next forgetting within one is)
          record_of.start record_of.calls
          (λ path beside never. c.losses_stay_at_their_paths.ensures.unsynced record_of.start
          record_of.initial_crash_states record_of.calls path beside never)
          found.1 found.0 left found.2 found.4,
    )
