use Rattle.std.proofs.Common.{sym, ap, ◌∙◌}
use Rattle.reuse_system.specs.Ignored.{is_ignored}
use Rattle.reuse_disk.proofs.Listed.{pushed}
use Rattle.reuse_disk.proofs.listing.Listing.take_file.Goals as goal

pub invariant_of-self : goal.invariant_of-self
invariant_of-self g c =
    let kept = ap is_ignored c.in_ok-path.ensures.ok ∙ sym c.is_ignored.ensures ∙ c.if-not-is_ignored.true in
    record { in_tree = pushed _ c.args.self.now.files.items _ _ c.args.self.now.in_tree kept c.push.ensures.items }
