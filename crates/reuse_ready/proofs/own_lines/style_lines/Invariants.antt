use Rattle.std.proofs.Common.{◌≡◌, ◌++◌, take, map, codes}
use Rattle.std.specs.List.{flat_map}
use Rattle.std.specs.Option.{option_copied}
use Rattle.reuse_ready.specs.Additions.{before_lines, name_line}
use Rattle.reuse_ready.proofs.own_lines.style_lines.Given as goal

abbrev pub invariant-loop-name : goal.invariant-loop-name
invariant-loop-name l = l.lines ≡ before_lines (codes "version = 1\n\n[styles]\n") (option_copied l.file) ++ flat_map name_line
    (map (λ name. name.now) (take l.name-index l.names))
