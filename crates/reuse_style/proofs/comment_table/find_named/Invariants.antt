use Rattle.std.proofs.Common.{◌≡◌, length}
use Rattle.std.specs.Prelude.{find}
use Rattle.std.specs.Str.{bytes_eq}
use Rattle.reuse_style.specs.Styles.{style_name}
use Rattle.reuse_style.proofs.comment_table.find_named.Given as goal

abbrev pub invariant-loop-styles : goal.invariant-loop-styles
invariant-loop-styles l = find (λ style. bytes_eq (style_name style) l.name) l.styles ≡ find
    (λ style. bytes_eq (style_name style) l.name) l.initial.styles

abbrev pub decreases-loop-styles : goal.decreases-loop-styles
decreases-loop-styles l = length l.styles
