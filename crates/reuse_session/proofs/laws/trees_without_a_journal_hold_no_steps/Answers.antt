use Rattle.reuse_session.proofs.lemmas.session.FreshTrees.{fresh_holds, fresh_is_free}
use Rattle.reuse_session.proofs.laws.trees_without_a_journal_hold_no_steps.Goals as goal

pub returns : goal.returns
returns c = record { holds = fresh_holds; unbroken = λ tree. record { past = tt; future = tt }; free = fresh_is_free }
