use Rattle.std.proofs.Common.{◌∙◌, Ok, Err, sym, ap}
use Rattle.std.proofs.lemmas.Bool.{false≢true}
use Rattle.std.proofs.lemmas.Result.{err_from_is_err_and}
use Rattle.reuse_store.proofs.AskedLemmas.{reads_none}
use Rattle.reuse_command.specs.Answer.{IsEarlyFailure}
use Rattle.reuse_command.proofs.Asking.{reported, short, failed, look_faults}
use Rattle.reuse_session.proofs.session.replay_path_outcomes.change_path_outcome.Goals as goal

pub returns-then-branch-clause-asks : goal.returns-then-branch-clause-asks
returns-then-branch-clause-asks g c = reported g.S.Store IsEarlyFailure _ _ (Ok _) tt tt c.can_be_made.ensures.reads

pub returns-else-branch-clause-asks : goal.returns-else-branch-clause-asks
returns-else-branch-clause-asks g c = reported g.S.Store IsEarlyFailure _ _ (Ok _) tt tt c.can_be_made.ensures.reads

pub returns-in_err-path-clause-asks : goal.returns-in_err-path-clause-asks
returns-in_err-path-clause-asks g c =
    let p = err_from_is_err_and c.from_residual.result c.from_residual.ensures.1 in
    short g.S.Store IsEarlyFailure _ _ _ (p.1 ∙ ap (λ r. Err r) p.2) tt (reads_none g.S.Store _)

pub returns-then-branch-clause-path_outcome : goal.returns-then-branch-clause-path_outcome
returns-then-branch-clause-path_outcome g c honest proper small of_tree = (
  c.in_ok-path.ensures ∙ c.path.ensures,
  (c.in_ok-can_be_made.ensures.ok honest proper small of_tree).0 c.if-branch.true,
)

pub returns-else-branch-clause-path_outcome : goal.returns-else-branch-clause-path_outcome
returns-else-branch-clause-path_outcome g c honest proper small of_tree = (
  c.in_ok-path.ensures ∙ c.path.ensures,
  λ made. false≢true (sym c.if-branch.false ∙ (c.in_ok-can_be_made.ensures.ok honest proper small of_tree).1 made),
)

pub returns-in_err-can_be_made-clause-asks : goal.returns-in_err-can_be_made-clause-asks
returns-in_err-can_be_made-clause-asks g c =
    let p =
    err_from_is_err_and c.from_residual-in_err-can_be_made.result c.from_residual-in_err-can_be_made.ensures.1 in
    failed g.S.Store IsEarlyFailure _ _ c.in_err-can_be_made.field-0.0 _ (p.1 ∙ ap (λ r. Err r) p.2)
    (look_faults c.in_err-can_be_made.field-0.0) c.in_err-can_be_made.ensures.fails c.can_be_made.ensures.reads
