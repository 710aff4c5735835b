use Rattle.std.proofs.Common.{[]}
use Rattle.std.specs.Prelude.{unwrap_or}
use Rattle.std.specs.Option.{option_copied}
use Rattle.reuse_diff.specs.DiffText.{names_text}
use Rattle.reuse_diff.proofs.DiffTextLemmas.{range-lines}
use Rattle.reuse_diff.proofs.print_range_lines.Goals as goal

pub returns : goal.returns
returns g c =
    let before = option_copied c.args.input.before in
    let after = option_copied c.args.input.after in
    range-lines (names_text c.args.input.path.now before after) (unwrap_or before [])
    (unwrap_or after []) c.bytes_of.result.now c.bytes_of-2.result.now c.args.at
    c.in_ok-pieces.pieces.items c.as_slice.result.now _ _ _ _ c.bytes_of.ensures c.bytes_of-2.ensures
    c.as_slice.ensures.value c.in_ok-pieces.ensures.old c.in_ok-pieces.ensures.new c.in_ok-pieces.ensures.ends
    c.in_ok-print_names.ensures c.in_ok-writeln.ensures.bytes c.in_ok-print_pieces.ensures
