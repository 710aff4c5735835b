use Rattle.std.proofs.Common.{not, rules}
use Rattle.std.proofs.lemmas.Fn.{filter_same}
use Rattle.reuse_change.specs.Change.{path_of}
use Rattle.reuse_change.specs.Listing.{is_among}
use Rattle.reuse_journal.proofs.recovery.changes_besides.Goals as goal

pub returns : goal.returns
returns c ascend = filter_same _ (λ change. not (is_among c.args.paths.now (path_of change))) _
    (λ x b f' k. search (rules, ascend)) _ _ c.retain.ensures.filtered
