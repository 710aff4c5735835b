-- The record counts calls alone here: no files at its start, no other crash states and no effects.
use Rattle.std.specs.Prelude.{[]}
use Rattle.std.specs.FinMap.{empty}
use Rattle.reuse_store.proofs.memory.MemoryStore.new.Given as goal

abbrev pub ghost-new : goal.ghost-new
ghost-new a = record { files = empty; initial_crash_states = []; effects = [] }
