use Rattle.reuse_command.proofs.OnlyReading.{early_files}
use Rattle.reuse_journal.proofs.RecoveryLaws.{refuses_recovery, recovers_recovery}
use Rattle.reuse_journal.proofs.recovery.recover.Goals as goal

pub returns-clause-exact : goal.returns-clause-exact
returns-clause-exact g c honest reported =
    refuses_recovery c.args.skip_moved (g.S.Store.files c.args.store)
    (g.S.Store.files c.recover_journal-answer.new.store) c.recover_journal-answer.result reported
    c.recover_journal-answer.ensures.refusal
    (c.recover_journal-answer.ensures.recovered honest) (c.recover_journal-answer.ensures.bad honest)
    (c.recover_journal-answer.ensures.moved honest)

pub returns-clause-recovers : goal.returns-clause-recovers
returns-clause-recovers g c honest first second doubt =
    let reported = c.recover_journal-answer.ensures in
    recovers_recovery c.args.skip_moved (g.S.Store.files c.args.store) (g.S.Store.files
    c.recover_journal-answer.new.store) first second doubt c.recover_journal-answer.result reported.refusal
    (reported.recovered honest) (reported.bad honest) (reported.moved honest) (reported.interrupted honest) (early_files
    g.S.Store c.args.store c.recover_journal-answer.new.store c.recover_journal-answer.result reported.early honest)
