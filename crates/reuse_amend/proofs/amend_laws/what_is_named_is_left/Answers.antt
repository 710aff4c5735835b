use Rattle.reuse_notice.specs.MergeSteps.{is_among}
use Rattle.reuse_amend.specs.Named.{is_old, is_new, is_old_licence}
use Rattle.reuse_amend.proofs.NamedLemmas.{left_or_removed, named_new}
use Rattle.reuse_amend.proofs.amend_laws.what_is_named_is_left.Goals as goal

pub returns : goal.returns
returns c = record {
  licences = λ a value e. left_or_removed (is_old_licence value) (is_new value) a.replaced_licences
      (is_among a.removed_licences value) e;
  contributors = λ a value e. left_or_removed (is_old value) (is_new value) a.replaced_contributors
      (is_among a.removed_contributors value) e;
  holders = λ a holder e. left_or_removed (is_old holder) (is_new holder) a.replaced_holders
      (is_among a.removed_holders holder) e;
  written = λ a value e none. named_new (is_old_licence value) (is_new value) a.replaced_licences
      (is_among a.removed_licences value) e none;
}
