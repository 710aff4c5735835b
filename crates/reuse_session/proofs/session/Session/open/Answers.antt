use Rattle.std.proofs.Common.{inl, inr, ⊎_elim, Err, refl, ap}
use Rattle.reuse_journal.specs.Losses.{AllRecoverToTree, beyond}
use Rattle.reuse_journal.specs.Remembered.{Remembers}
use Rattle.reuse_journal.specs.CommittedState.{IsCommittedState}
use Rattle.reuse_journal.proofs.FilesBetweenStates.{opened_committed}
use Rattle.reuse_journal.proofs.OneOpening.{can_open, opens_session, opens_refused}
use Rattle.reuse_session.proofs.session.Session.open.Goals as goal

pub returns-in-Ok-clause-opened : goal.returns-in-Ok-clause-opened
returns-in-Ok-clause-opened g c honest =
    let opened = c.in-Ok.ensures.opened honest in (
      opened.0,
      record {
        whole = refl;
        committed = opened_committed (g.S.Store.files c.args.store) opened.0
            (g.S.Store.files c.open_journal.new.store) opened.2;
        remembers = opened.1;
      },
      opened.2,
    )

pub returns-in-Ok-clause-exact : goal.returns-in-Ok-clause-exact
returns-in-Ok-clause-exact g c honest reported =
    let opened = c.in-Ok.ensures.opened honest in
    opens_session (g.S.Store.files c.args.store) _ opened.0
    (can_open (g.S.Store.files c.args.store) opened.0 (g.S.Store.files c.open_journal.new.store) opened.2)

pub returns-in-Err-clause-moved : goal.returns-in-Err-clause-moved
returns-in-Err-clause-moved g c honest path e = c.in-Err.ensures.moved honest path (ap (λ refusal. Err refusal) e)

pub returns-in-Err-clause-interrupted : goal.returns-in-Err-clause-interrupted
returns-in-Err-clause-interrupted g c honest cause e =
    c.in-Err.ensures.interrupted honest cause (ap (λ refusal. Err refusal) e)

pub returns-in-Err-clause-late : goal.returns-in-Err-clause-late
returns-in-Err-clause-late g c cause e other = c.in-Err.ensures.late cause (ap (λ refusal. Err refusal) e) other

pub returns-in-Err-clause-exact : goal.returns-in-Err-clause-exact
returns-in-Err-clause-exact g c honest reported =
    opens_refused (g.S.Store.files c.args.store) c.in-Err.refusal c.in-Err.ensures.refusal reported
    (λ path e. c.in-Err.ensures.bad honest path (ap (λ refusal. Err refusal) e))
    (λ path e. c.in-Err.ensures.moved honest path (ap (λ refusal. Err refusal) e))

pub returns-in-Ok-clause-recovers : goal.returns-in-Ok-clause-recovers
returns-in-Ok-clause-recovers g c first second doubt honest =
    let files = g.S.Store.files c.open_journal.new.store in
    ⊎_elim
    (λ (h : IsCommittedState files first × Remembers c.in-Ok.history first.journal). inl
    (record { whole = refl; committed = h.0; remembers = h.1 }))
    (λ (h : IsCommittedState files second × Remembers c.in-Ok.history second.journal). inr
    (record { whole = refl; committed = h.0; remembers = h.1 }))
    (c.in-Ok.ensures.recovers honest first second doubt)

pub returns-in-Err-clause-recovers : goal.returns-in-Err-clause-recovers
returns-in-Err-clause-recovers g c first second doubt honest = c.in-Err.ensures.recovers honest first second doubt

pub returns-in-Ok-clause-survives : goal.returns-in-Ok-clause-survives
returns-in-Ok-clause-survives g c earlier held next doubt honest =
    let store = g.S.Store in
    let new = c.open_journal.new.store in
    ⊎_elim
    (λ (h : IsCommittedState (store.files new) held × Remembers c.in-Ok.history held.journal
    × AllRecoverToTree store earlier held new). inl (record { whole = refl; committed = h.0; remembers = h.1 }, h.2))
    (λ (h : IsCommittedState (store.files new) next × Remembers c.in-Ok.history next.journal × AllRecoverToTree store
    (beyond earlier held) next new). inr (record { whole = refl; committed = h.0; remembers = h.1 }, h.2))
    (c.in-Ok.ensures.survives honest earlier held next doubt)

pub returns-in-Err-clause-survives : goal.returns-in-Err-clause-survives
returns-in-Err-clause-survives g c earlier held next doubt honest =
    c.in-Err.ensures.survives honest earlier held next doubt
