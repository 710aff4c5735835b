use Rattle.reuse_session.proofs.lemmas.session.StepPathOutcomes.{refused_where_stuck, accepted_where_made}
use Rattle.reuse_session.proofs.lemmas.session.StepPathOutcomes.{calls_as_previewed}
use Rattle.reuse_session.proofs.laws.steps_follow_path_outcomes.Goals as goal

pub returns : goal.returns
returns c = record { refused = refused_where_stuck; accepted = accepted_where_made; preview_of = calls_as_previewed }
