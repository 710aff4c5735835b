use Rattle.std.proofs.Common.{not, rules}
use Rattle.std.proofs.lemmas.Fn.{filter_same}
use Rattle.reuse_journal.specs.Numbered.{is_one_of}
use Rattle.reuse_journal.specs.declared.history.ListedEntry.{ListedEntry}
use Rattle.reuse_journal.proofs.history.entries_besides.Goals as goal

pub returns : goal.returns
returns c = filter_same _ (λ (entry : ListedEntry). not (is_one_of c.args.numbers.now entry.number)) _
    (λ x b f' k. search rules) _ _ c.retain.ensures.filtered
