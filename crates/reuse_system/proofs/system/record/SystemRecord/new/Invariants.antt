use Rattle.std.proofs.Common.{[]}
use Rattle.reuse_system.proofs.system.record.SystemRecord.new.Given as goal

abbrev pub ghost-new : goal.ghost-new
ghost-new g a =
    record {
      marker = record {};
      folders = g.start.folders;
      files = g.start.files;
      effects = g.start.effects;
      calls = [];
    }
