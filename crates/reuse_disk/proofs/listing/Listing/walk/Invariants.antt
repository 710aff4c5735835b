use Rattle.reuse_disk.specs.ReadsOnly.{EntersOnly}
use Rattle.reuse_disk.proofs.listing.Listing.walk.Given as goal

abbrev pub invariant-loop : goal.invariant-loop
invariant-loop g l = EntersOnly g.S.System l.fn.system l.system l.fn.open_folders l.open_folders
