-- What is tested of each change of an entry, before one of them is made.
use Rattle.reuse_change.specs.Files.{Files}
use Rattle.reuse_change.specs.declared.change.Change.{Change}
use Rattle.reuse_change.specs.Entry.{CanBeMade, CanBeRolledBack}
use Rattle.reuse_change.specs.declared.direction.Direction.{Direction}
use Rattle.reuse_journal.specs.declared.prepare.Check.{Check}
use Rattle.reuse_journal.specs.declared.prepare.Check.TheVariants.{Go, RollingBack}

-- on the tree, the change passes the check
abbrev pub Passes : Check → Direction → Files → Change → Type 0
Passes Go direction tree = CanBeMade direction tree
Passes RollingBack direction tree = CanBeRolledBack direction tree
