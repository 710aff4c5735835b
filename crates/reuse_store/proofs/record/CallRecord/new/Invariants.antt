use Rattle.std.proofs.Common.{[]}
use Rattle.reuse_store.proofs.record.CallRecord.new.Given as goal

abbrev pub ghost-new : goal.ghost-new
ghost-new g a =
    record {
      marker = record {};
      start = g.start.files;
      initial_crash_states = g.start.initial_crash_states;
      effects = g.start.effects;
      calls = [];
    }
