use Rattle.reuse_store.proofs.DifferingPaths.{changed_where_differing, changed_ascend}
use Rattle.reuse_session.proofs.laws.changed_paths_are_where_trees_differ.Goals as goal

pub returns : goal.returns
returns c = record { paths = changed_where_differing; ascend = changed_ascend }
