-- No proof can know what the folder holds: some start has to be picked, and this one claims nothing.
use Rattle.std.specs.Prelude.{[]}
use Rattle.std.specs.FinMap.{empty}
use Rattle.reuse_undo.proofs.run_and_report.Given as goal

abbrev pub ghost-run_line : goal.ghost-run_line
ghost-run_line g a = record { files = empty; initial_crash_states = []; effects = [] }
