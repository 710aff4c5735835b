use Rattle.std.proofs.Common.{rules, ◌<◌, length, sym, ◌∙◌}
use Rattle.reuse_disk.proofs.NextNames.{next_of, some_length}
use Rattle.reuse_disk.proofs.open_folders.next_name.Goals as goal

pub returns : goal.returns
returns c =
    let path = c.args.path.now in
    let some : 0 < length path = some_length (length path) (sym c.is_empty.ensures ∙ c.if-is_empty.false) in
    next_of path c.unwrap_or.result.0.now c.unwrap_or.result.1.now c.split_once.result c.split_once.ensures.cases some
    (search rules) (search rules)
