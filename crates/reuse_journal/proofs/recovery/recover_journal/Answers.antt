use Rattle.std.proofs.Common.{◌≡◌, inl, inr, ⊎_elim, false, None, Some, sym, subst}
use Rattle.reuse_journal.specs.Journal.{Journal}
use Rattle.reuse_command.proofs.OnlyReading.{is_refused, read_early}
use Rattle.reuse_journal.proofs.OpeningDoubt.{doubt_stays, reads_committed, refused_in_doubt}
use Rattle.reuse_journal.proofs.RecoveryDoubt.{awaits_still, recovers_in_doubt, refused_on_the_way}
use Rattle.reuse_change.specs.Tree.{undo_folder_of}
use Rattle.reuse_journal.specs.JournalFiles.{number_of}
use Rattle.reuse_journal.specs.Losses.{AllRecoverToTree, beyond}
use Rattle.reuse_journal.specs.Opening.{IsRead, IsStuckAt}
use Rattle.reuse_journal.specs.Remembered.{Remembers}
use Rattle.reuse_journal.specs.CommittedState.{IsCommittedState}
use Rattle.reuse_journal.proofs.OneOpening.{none_pending}
use Rattle.reuse_journal.specs.Recovery.{StopsRecovering}
use Rattle.reuse_journal.proofs.recovery.recover_journal.Given.{Over}
use Rattle.reuse_journal.proofs.recovery.recover_journal.Goals.{After-recover_step}
use Rattle.reuse_journal.proofs.recovery.recover_journal.Goals as goal

pub returns-in-None-clause-recovered : goal.returns-in-None-clause-recovered
returns-in-None-clause-recovered g c honest =
    let reads = c.read_journal.ensures.reads in
    let r = c.in_ok-pending.ensures.ok honest in
    let read : IsRead (g.S.Store.files c.args.store.now) None c.in_ok-pending.history r.0 =
    subst (λ p. IsRead (g.S.Store.files c.args.store.now) p c.in_ok-pending.history r.0) c.in-None.is r.1 in
    inl
    (r.0, record { above = (read.no_reuse, read.no_undo); keeps = read.keeps }, c.nothing.ensures, reads.files honest)

-- the journal was read, and the files stayed up to there
module _ (g : Over) (c : After-recover_step g) (honest : g.S.Store.honest c.recover_step.new.store) where
  same_files : g.S.Store.files c.read_journal.new.store ≡ g.S.Store.files c.args.store.now
  same_files = c.read_journal.ensures.reads.files (c.recover_step.ensures.later.was_honest honest)

  read_then : (journal : Journal)
      × IsRead (g.S.Store.files c.read_journal.new.store) (Some c.in-Some.pending) c.in_ok-pending.history journal
  read_then =
      let r = c.in_ok-pending.ensures.ok (c.recover_step.ensures.later.was_honest honest) in (
        r.0,
        subst (λ files. IsRead files (Some c.in-Some.pending) c.in_ok-pending.history r.0) (sym same_files)
            (subst (λ p. IsRead (g.S.Store.files c.args.store.now) p c.in_ok-pending.history r.0) c.in-Some.is r.1),
      )

pub returns-clause-moved : goal.returns-clause-moved
returns-clause-moved g c honest path e =
    let at = (goal.at.returns-clause-moved g c).After-recover_step in
    let read = read_then g at honest in
    subst (λ files. (c.args.skip_moved ≡ false) × IsStuckAt files path) (same_files g at honest)
    (c.recover_step.ensures.moved honest read.0 read.1 path e)

pub returns-clause-interrupted : goal.returns-clause-interrupted
returns-clause-interrupted g c honest cause e =
    let at = (goal.at.returns-clause-interrupted g c).After-recover_step in
    let read = read_then g at honest in
    subst (λ files. StopsRecovering files (g.S.Store.files c.recover_step.new.store)) (same_files g at honest)
    (c.recover_step.ensures.interrupted honest read.0 read.1 cause e)

-- what may be left of files that await recovery, or that are in doubt
pub returns-in_err-pending-clause-durable : goal.returns-in_err-pending-clause-durable
returns-in_err-pending-clause-durable g c honest direction step held awaits =
    refused_on_the_way direction step held g.S.Store c.args.store.now c.read_journal.new.store c.from_residual.result
    c.in_err-pending.field-0.0 (is_refused c.from_residual.result c.from_residual.ensures.1)
    (read_early c.in_err-pending.field-0.0 c.in_err-pending.ensures.refusal) c.read_journal.ensures.reads honest awaits

pub returns-in_err-pending-clause-survives : goal.returns-in_err-pending-clause-survives
returns-in_err-pending-clause-survives g c honest earlier held next doubt =
    refused_in_doubt g.S.Store earlier held next c.args.store.now c.read_journal.new.store c.read_journal.ensures.reads
    honest c.from_residual.result c.in_err-pending.field-0.0 _
    (is_refused c.from_residual.result c.from_residual.ensures.1) doubt

pub returns-in-None-clause-durable : goal.returns-in-None-clause-durable
returns-in-None-clause-durable g c honest direction step held awaits =
    let r = c.in_ok-pending.ensures.ok honest in
    let read : IsRead (g.S.Store.files c.args.store.now) None c.in_ok-pending.history r.0 = subst
    (λ p. IsRead (g.S.Store.files c.args.store.now) p c.in_ok-pending.history r.0) c.in-None.is r.1 in
    absurd (none_pending (undo_folder_of (g.S.Store.files c.args.store.now)) r.0 held.journal
    (record { entry = number_of step; direction = direction }) read.keeps awaits.files.pending.keeps)

pub returns-in-None-clause-survives : goal.returns-in-None-clause-survives
returns-in-None-clause-survives g c honest earlier held next doubt =
    let store = g.S.Store in
    let new = c.read_journal.new.store in
    let r = c.in_ok-pending.ensures.ok honest in
    let memory = c.in_ok-pending.history in
    let read : IsRead (store.files c.args.store.now) None memory r.0 = subst
    (λ p. IsRead (store.files c.args.store.now) p memory r.0) c.in-None.is r.1 in
    ⊎_elim
    (λ (first : IsCommittedState (store.files new) held × Remembers memory held.journal
    × AllRecoverToTree store earlier held new). inl (first.0, first.2))
    (λ (second : IsCommittedState (store.files new) next × Remembers memory next.journal
    × AllRecoverToTree store (beyond earlier held) next new). inr
    (second.0, second.2))
    (reads_committed store earlier held next c.args.store.now new c.read_journal.ensures.reads honest memory r.0 read
    doubt)

-- the files await recovery still, once the journal was read
pub returns-clause-durable : goal.returns-clause-durable
returns-clause-durable g c honest direction step held awaits =
    let at = (goal.at.returns-clause-durable g c).After-recover_step in
    let read = read_then g at honest in
    c.recover_step.ensures.durable honest read.0 read.1 direction step held
    (awaits_still direction step held g.S.Store c.args.store.now c.read_journal.new.store c.read_journal.ensures.reads
    (c.recover_step.ensures.later.was_honest honest) awaits)

pub returns-clause-survives : goal.returns-clause-survives
returns-clause-survives g c honest earlier held next doubt =
    let at = (goal.at.returns-clause-survives g c).After-recover_step in
    let read = read_then g at honest in
    recovers_in_doubt g.S.Store earlier held next c.read_journal.new.store c.recover_step.new.store honest
    c.in-Some.pending c.in_ok-pending.history read.0 read.1
    c.recover_step.result c.recover_step.ensures.early
    (λ direction step. c.recover_step.ensures.durable honest read.0 read.1 direction step held)
    (doubt_stays g.S.Store earlier held next c.args.store.now c.read_journal.new.store c.read_journal.ensures.reads
    (c.recover_step.ensures.later.was_honest honest) doubt)
