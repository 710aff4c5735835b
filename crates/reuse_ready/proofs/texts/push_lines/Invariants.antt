use Rattle.std.proofs.Common.{◌≡◌, ◌++◌, take, map}
use Rattle.std.specs.Option.{option_copied}
use Rattle.std.specs.List.{flat_map}
use Rattle.reuse_ready.specs.Ready.{line_text}
use Rattle.reuse_ready.proofs.texts.push_lines.Given as goal

abbrev pub invariant-loop-line : goal.invariant-loop-line
invariant-loop-line l = l.text ≡ l.fn.text ++ flat_map line_text (map (λ line. (line.0.now, option_copied line.1)) (take l.line-index l.lines))
