use Rattle.std.proofs.Common.{◌≡◌, ◌++◌, take}
use Rattle.std.specs.List.{flat_map}
use Rattle.reuse_diff.specs.Hunks.{old_lines, new_lines, old_line, new_line, pieces_with}
use Rattle.reuse_diff.specs.TextLines.{texts_of}
use Rattle.reuse_diff.proofs.compare.push_all.Given as goal

abbrev pub invariant-loop-line : goal.invariant-loop-line
invariant-loop-line l = record {
  old : old_lines l.pieces.items ≡ old_lines l.initial.pieces.items ++ flat_map (old_line l.sign)
      (texts_of (take l.line-index l.lines));
  new : new_lines l.pieces.items ≡ new_lines l.initial.pieces.items ++ flat_map (new_line l.sign)
      (texts_of (take l.line-index l.lines));
  pieces : l.pieces.items ≡ l.initial.pieces.items ++ pieces_with l.sign (take l.line-index l.lines);
}
