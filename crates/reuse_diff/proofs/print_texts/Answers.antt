-- The names and the hunk, or nothing where the texts are the same.
use Rattle.std.proofs.Common.{[]}
use Rattle.std.specs.Prelude.{unwrap_or}
use Rattle.std.specs.Option.{option_copied}
use Rattle.reuse_diff.specs.DiffText.{names_text}
use Rattle.reuse_diff.proofs.DiffTextLemmas.{found-hunk, found-none}
use Rattle.reuse_diff.proofs.print_texts.Goals as goal

pub returns-in_ok-print_named : goal.returns-in_ok-print_named
returns-in_ok-print_named g c =
    found-hunk (names_text c.args.input.path.now (option_copied c.args.input.before) (option_copied c.args.input.after))
    (unwrap_or (option_copied c.args.input.before) []) (unwrap_or (option_copied c.args.input.after) [])
    c.bytes_of.result.now c.bytes_of-2.result.now c.in_ok-hunk.field-0 c.in-Some.hunk _ _ c.bytes_of.ensures
    c.bytes_of-2.ensures c.in-Some.is c.in_ok-hunk.ensures.same c.in_ok-hunk.ensures.hunk c.in_ok-print_named.ensures

pub returns-in_default : goal.returns-in_default
returns-in_default g c =
    found-none (names_text c.args.input.path.now (option_copied c.args.input.before) (option_copied c.args.input.after))
    (unwrap_or (option_copied c.args.input.before) []) (unwrap_or (option_copied c.args.input.after) [])
    c.bytes_of.result.now c.bytes_of-2.result.now c.in_ok-hunk.field-0 _ c.bytes_of.ensures c.bytes_of-2.ensures
    c.in_default.is c.in_ok-hunk.ensures.same
