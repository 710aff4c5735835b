use Rattle.reuse_style.proofs.CommentLemmas.{own_rules_are, own_rules_name}
use Rattle.reuse_style.proofs.laws.own_rules_name_styles.Goals as goal

pub returns-clause-rules : goal.returns-clause-rules
returns-clause-rules c = own_rules_are

pub returns-clause-styles : goal.returns-clause-styles
returns-clause-styles c = own_rules_name
