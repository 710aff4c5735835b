use Rattle.std.proofs.Common.{inl, inr}
use Rattle.reuse_undo.proofs.run.locked.run_line.Goals as goal

pub returns-in-Ok : goal.returns-in-Ok
returns-in-Ok g c =
    inr (record {
      folder = c.in-Ok.tools.0;
      texts = c.in-Ok.tools.1;
      end = c.work_with-folder.result.0;
      opens = c.in-Ok.ensures.opens;
      holds = c.in-Ok.ensures.holds;
      works = c.work_with-folder.ensures;
    })

pub returns-in-Err : goal.returns-in-Err
returns-in-Err g c = inl (c.in-Err.fault, c.in-Err.ensures.fault, c.fault.ensures)
