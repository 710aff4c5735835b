use Rattle.std.proofs.Common.{◌≡◌, ℕ, List}
use Rattle.reuse_system.specs.declared.syncs.Syncs.TheVariants.{Kept}
use Rattle.reuse_disk.specs.Noted.{IsListed, IsNoted, StayNoted}
use Rattle.reuse_disk.specs.Synced.{AreAbove}
use Rattle.reuse_disk.proofs.syncs.Unsynced.note_changes.Given as goal

-- so far what was noted is listed, and so are the folders above the changes before this one
abbrev pub invariant-loop-change : goal.invariant-loop-change
invariant-loop-change l =
    record {
      failed : l.self.failed ≡ l.fn.self.failed;
      syncs : l.self.syncs ≡ l.fn.self.syncs;
      stays : StayNoted l.fn.self l.self;
      listed : l.fn.self.syncs ≡ Kept → (folder : List ℕ) → IsNoted l.fn.self folder → IsListed l.self folder;
      above : l.fn.self.syncs ≡ Kept → AreAbove (IsListed l.self) l.changes l.change-index;
    }
