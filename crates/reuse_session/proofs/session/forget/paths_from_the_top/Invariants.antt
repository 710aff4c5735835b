use Rattle.std.proofs.Common.{◌≡◌, ℕ, Bor, map}
use Rattle.reuse_journal.specs.JournalFiles.{entry_path}
use Rattle.reuse_session.proofs.session.forget.paths_from_the_top.Given as goal

abbrev pub invariant-loop-number : goal.invariant-loop-number
invariant-loop-number l = l.paths.items ≡ map entry_path (map (λ (number : Bor ℕ). number.now) l.yielded)
