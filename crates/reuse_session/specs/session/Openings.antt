-- What opening a session answers, and the store that it gives back.
use Rattle.std.specs.Prelude.{Result, Ok, Err}
use Rattle.reuse_session.specs.session.Session.{store_of}
use Rattle.reuse_command.specs.declared.reply.Refusal.{Refusal}
use Rattle.reuse_session.specs.declared.session.Session.{Session}

-- the answer of an opening, and the store that it gives back
abbrev pub opening_answer : {S : Type 0} → Result (Session S) (Refusal × S) → Result (Session S) Refusal
opening_answer (Ok session) = Ok session
opening_answer (Err refused) = Err refused.0

abbrev pub opening_store : {S : Type 0} → Result (Session S) (Refusal × S) → S
opening_store (Ok session) = store_of session
opening_store (Err refused) = refused.1
