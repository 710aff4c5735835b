-- What may be left behind a barrier.
use Rattle.std.proofs.Common.{[]}
use Rattle.reuse_change.specs.Files.{Files}
use Rattle.reuse_store.specs.Durable.{DurableAfterBarrier}
use Rattle.reuse_store.specs.declared.store.Store.{Ghosts}

-- a barrier stands between the two: what may be left is certain, as it is or as it might be left before
abbrev pub IsBehind : {S : Type 0} → Ghosts S → S → S → Type 0
IsBehind store old new = (left : Files) → store.crash_states new left
    → (kept : Files) × store.crash_states old kept × DurableAfterBarrier [] (store.files new) kept left
