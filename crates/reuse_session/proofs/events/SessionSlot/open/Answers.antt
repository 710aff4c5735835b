use Rattle.std.proofs.Common.{inl, refl}
use Rattle.reuse_journal.specs.JournalFiles.{head_path}
use Rattle.reuse_session.proofs.lemmas.session.Driving.{opens, stays_closed}
use Rattle.reuse_session.proofs.lemmas.session.SafeDriving.{opens_safely, closed_safely}
use Rattle.reuse_journal.proofs.JournalLemmas.{free_stays}
use Rattle.reuse_session.proofs.events.SessionSlot.«open».Goals as goal

pub returns-in-Ok-clause-reopens : goal.returns-in-Ok-clause-reopens
returns-in-Ok-clause-reopens g c honest old left =
    opens g.S.Store.files (g.S.Store.files c.args.store) c.in-Ok.session old left
    (λ first second doubt. c.in-Ok.ensures.recovers first second doubt honest)

pub returns-in-Ok-clause-survives : goal.returns-in-Ok-clause-survives
returns-in-Ok-clause-survives g c honest old found =
    opens_safely g.S.Store c.args.store c.in-Ok.session old found
    (λ earlier held next doubt. c.in-Ok.ensures.survives earlier held next doubt honest)

pub returns-in-Ok-clause-free : goal.returns-in-Ok-clause-free
returns-in-Ok-clause-free g c honest free = free_stays _ _ head_path (inl refl) (c.in-Ok.ensures.folder honest) free

pub returns-in-Err-clause-reopens : goal.returns-in-Err-clause-reopens
returns-in-Err-clause-reopens g c honest old left =
    stays_closed g.S.Store.files (g.S.Store.files c.args.store) c.in-Err.store c.in-Err.refusal old left
    (λ first second doubt. c.in-Err.ensures.recovers first second doubt honest)

pub returns-in-Err-clause-survives : goal.returns-in-Err-clause-survives
returns-in-Err-clause-survives g c honest old found =
    closed_safely g.S.Store c.args.store c.in-Err.store c.in-Err.refusal old found
    (λ first second doubt. c.in-Err.ensures.recovers first second doubt honest)
    (λ earlier held next doubt. c.in-Err.ensures.survives earlier held next doubt honest)

pub returns-in-Err-clause-free : goal.returns-in-Err-clause-free
returns-in-Err-clause-free g c honest free = free_stays _ _ head_path (inl refl) (c.in-Err.ensures.folder honest) free
