use Rattle.reuse_plan.proofs.PathPlanning.{refused_by_first, accepted_without}
use Rattle.reuse_plan.proofs.ChangedPaths.{changes_where_trees_differ}
use Rattle.reuse_session.proofs.laws.outcome_follows_path_outcomes.Goals as goal

pub returns : goal.returns
returns c = record { refused = refused_by_first; accepted = accepted_without; changed = changes_where_trees_differ }
