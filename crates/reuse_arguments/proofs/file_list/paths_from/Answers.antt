use Rattle.std.proofs.Common.{◌∙◌, ap, arith}
use Rattle.std.specs.Option.{option_map}
use Rattle.reuse_notice.specs.Sets.{set_of}
use Rattle.reuse_arguments.specs.FileLists.{listed_paths}
use Rattle.reuse_arguments.specs.declared.file_list.TheConstants.{LONGEST_LIST}
use Rattle.reuse_system.proofs.ReaderLemmas.{front_too_long, front_whole}
use Rattle.reuse_arguments.proofs.file_list.paths_from.Goals as goal

pub returns-then-len-gt-LONGEST_LIST : goal.returns-then-len-gt-LONGEST_LIST
returns-then-len-gt-LONGEST_LIST g c =
    let list = c.in_ok-list.list in
    front_too_long (λ l. set_of (listed_paths (option_map (λ text. text.now) c.args.folder) l)) LONGEST_LIST 268_435_457 (g.R.Read.remaining c.args.reader) list.items
    (omega (arith, c.if-len-gt-LONGEST_LIST.true, c.len.ensures, list.ok)) c.in_ok-list.ensures.front

pub returns : goal.returns
returns g c =
    let list = c.in_ok-list.list in
    front_whole (λ l. set_of (listed_paths (option_map (λ text. text.now) c.args.folder) l)) LONGEST_LIST 268_435_457
    (g.R.Read.remaining c.args.reader) list.items c.in_ok-paths_of_list.field-0 (omega arith)
    (omega (arith, c.if-len-gt-LONGEST_LIST.false, c.len.ensures, list.ok)) c.in_ok-list.ensures.front
    (c.in_ok-paths_of_list.ensures ∙ ap (λ l. set_of (listed_paths (option_map (λ text. text.now) c.args.folder) l)) c.deref.ensures.value)
