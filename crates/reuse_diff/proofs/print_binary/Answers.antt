use Rattle.std.specs.Prelude.{codes, ◌++◌}
use Rattle.std.specs.Option.{option_copied}
use Rattle.std.proofs.KnownBytes.{Appends-trans}
use Rattle.reuse_diff.specs.DiffText.{side_text, old_binary_text, new_binary_text}
use Rattle.reuse_diff.proofs.print_binary.Goals as goal

pub returns : goal.returns
returns g c =
    let path = c.args.input.path.now in
    let before = option_copied c.args.input.before in
    let after = option_copied c.args.input.after in
    Appends-trans _ _ _ (old_binary_text path before) (new_binary_text path after)
    (Appends-trans _ _ _ (codes "Binary files ") (side_text (codes "a/") path before) c.in_ok-write.ensures.bytes
    c.in_ok-print_side.ensures)
    (Appends-trans _ _ _ (codes " and " ++ side_text (codes "b/") path after) (codes " differ\n")
    (Appends-trans _ _ _ (codes " and ") (side_text (codes "b/") path after) c.in_ok-write-2.ensures.bytes
    c.in_ok-print_side-2.ensures)
    c.in_ok-writeln.ensures.bytes)
