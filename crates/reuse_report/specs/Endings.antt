-- How a run ended, where nothing else is reported of it.
use Rattle.std.specs.Prelude.{ℕ, None, Result}
use Rattle.reuse_print.specs.declared.fault.Fault.{Fault}
use Rattle.reuse_report.specs.declared.access_refusal.AccessRefusal.{AccessRefusal}
use Rattle.reuse_report.specs.declared.run_result.RunResult.{RunResult}

-- no more than how it ended
abbrev pub result_of : Result (Result ℕ Fault) AccessRefusal → RunResult
result_of ending = record { ending = ending; rolled_back = None; diagnostics = None }
