use Rattle.std.proofs.Common.{rules}
use Rattle.reuse_system.proofs.SlashLemmas.{name_behind, split_behind}
use Rattle.reuse_system.proofs.place.folder_and_name.Goals as goal

pub returns-clause-name : goal.returns-clause-name
returns-clause-name c =
    let name = c.unwrap_or.result.1.now in
    name_behind c.args.path.now name c.rsplit_once.result c.rsplit_once.ensures.cases (search rules)

pub returns-clause-split : goal.returns-clause-split
returns-clause-split c =
    split_behind c.args.path.now c.unwrap_or.result.0.now c.unwrap_or.result.1.now c.rsplit_once.result
    c.rsplit_once.ensures.cases (search rules) (search rules)
