use Rattle.reuse_style.proofs.RuleLemmas.{kind_without_rules, unread_without_rules, kind_of_own_name, kind_by_first}
use Rattle.reuse_style.proofs.RuleLemmas.{kind_if_unread}
use Rattle.reuse_style.proofs.laws.rules_stand_behind_own_names.Goals as goal

pub returns : goal.returns
returns c = record {
  none = kind_without_rules;
  none_unread = unread_without_rules;
  own = kind_of_own_name;
  first = kind_by_first;
  unread = kind_if_unread;
}
