-- What a loss of power may leave after a call of a session.
use Rattle.std.specs.Prelude.{Result}
use Rattle.reuse_store.specs.declared.store.Store.{Ghosts}
use Rattle.reuse_journal.specs.Journal.{State}
use Rattle.reuse_command.specs.declared.reply.Response.{Response}
use Rattle.reuse_command.specs.declared.reply.Refusal.{Refusal}
use Rattle.reuse_session.specs.session.Session.{store_of, SimulatesState}
use Rattle.reuse_session.specs.declared.session.Session.{Session}
use Rattle.reuse_journal.specs.Losses.{AllRecoverToTree, Survives, Earlier}

-- so it is after a call, from whatever committed state all that might be left before was safe on
abbrev pub SurvivesCall : {S : Type 0} → Ghosts S → (IsNext : State → State → Type 0) → Result Response Refusal
    → Session S → Session S → Type 0
SurvivesCall store IsNext result old new =
    store.honest (store_of new) → (earlier : Earlier) (held : State) → SimulatesState store.files old held
    → AllRecoverToTree store earlier held (store_of old)
    → Survives store (IsNext held) earlier held result (store_of new)
