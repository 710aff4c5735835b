use Rattle.std.proofs.Common.{◌++◌}
use Rattle.std.specs.Prelude.{codes}
use Rattle.std.proofs.KnownBytes.{Appends-trans}
use Rattle.reuse_diff.specs.DiffText.{both_text}
use Rattle.reuse_diff.proofs.print_title.Goals as goal

pub returns : goal.returns
returns g c = Appends-trans _ _ _ (codes "diff --git " ++ both_text c.args.path.now) (codes "\n")
    (Appends-trans _ _ _ (codes "diff --git ")
    (both_text c.args.path.now) c.in_ok-write.ensures.bytes c.in_ok-print_both.ensures) c.in_ok-writeln.ensures.bytes
