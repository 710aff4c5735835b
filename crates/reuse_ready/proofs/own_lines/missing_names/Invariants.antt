use Rattle.std.proofs.Common.{◌≡◌, take, map}
use Rattle.reuse_style.specs.Names.{lookup}
use Rattle.reuse_ready.specs.Additions.{missing_names}
use Rattle.reuse_ready.proofs.own_lines.missing_names.Given as goal

abbrev pub invariant-loop-name : goal.invariant-loop-name
invariant-loop-name l = map (λ name. name.now) l.missing.items ≡ missing_names (lookup l.own.entries) (take l.name-index l.names)
