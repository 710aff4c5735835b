use Rattle.std.proofs.Common.{◌≡◌, length, map}
use Rattle.std.specs.List.{filter_map}
use Rattle.std.specs.Option.{option_copied}
use Rattle.reuse_style.specs.Names.{lookup}
use Rattle.reuse_ready.specs.Ready.{named}
use Rattle.reuse_ready.proofs.tables.style_in.Given as goal

abbrev pub invariant-loop-lines : goal.invariant-loop-lines
invariant-loop-lines l = lookup (filter_map named (map (λ line. (line.0.now, option_copied line.1)) l.lines)) l.name ≡ lookup
    (filter_map named (map (λ line. (line.0.now, option_copied line.1)) l.initial.lines)) l.name

abbrev pub decreases-loop-lines : goal.decreases-loop-lines
decreases-loop-lines l = length l.lines
