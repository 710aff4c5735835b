-- What a call of a session leaves, whatever it answers.
use Rattle.std.specs.Prelude.{◌≡◌, ◌<◌, ◌≤◌, ◌+◌, ◌*◌, ℕ, true, List, length, Result, Ok, IfErr, OnOk}
use Rattle.reuse_store.specs.Asked.{OnlyReads, IsLater}
use Rattle.reuse_change.specs.Files.{Files, Clashes, tree_of}
use Rattle.reuse_store.specs.declared.store.Store.{Ghosts}
use Rattle.reuse_command.specs.Answer.{IsEarly, IsStop, HasCause, HasClash}
use Rattle.reuse_json.specs.EntryText.{entry_text}
use Rattle.reuse_journal.specs.Journal.{State, ahead, next_count}
use Rattle.reuse_journal.specs.JournalFiles.{head_path, entry_path, IsFree}
use Rattle.reuse_plan.specs.Outcome.{edits_of, edit_count, recorded_size}
use Rattle.reuse_session.specs.session.Session.{store_of, is_broken, memory_of, IsKept, IsRecordOf, SimulatesState}
use Rattle.reuse_session.specs.session.Session.{StopsAfterReplay, StopsAfterRun}
use Rattle.reuse_journal.specs.Remembered.{listed_count, head_room, IsSameBut, IsSameButTwo, HasHeadText, HasEntryText}
use Rattle.reuse_change.specs.Tree.{undo_folder_of}
use Rattle.reuse_command.specs.declared.command.Command.{Command}
use Rattle.reuse_change.specs.declared.direction.Direction.{Direction}
use Rattle.reuse_json.specs.declared.entry.Entry.{Entry}
use Rattle.reuse_command.specs.declared.reply.Response.{Response}
use Rattle.reuse_command.specs.declared.reply.Response.TheVariants.{Changed}
use Rattle.reuse_command.specs.declared.reply.Refusal.{Refusal}
use Rattle.reuse_session.specs.declared.session.Session.{Session}

-- the files of a session
abbrev pub files_of : {S : Type 0} → Ghosts S → Session S → Files
files_of store session = store.files (store_of session)

-- the folder of its journal
abbrev pub folder_of : {S : Type 0} → Ghosts S → Session S → Files
folder_of store session = undo_folder_of (files_of store session)

-- the file of the next entry
abbrev pub next_path : {S : Type 0} → Session S → List ℕ
next_path session = entry_path ((memory_of session).used + 1)

-- what any call leaves
pub record IsCall {A S : Type 0} (store : Ghosts S) (result : Result A Refusal) (old new : Session S) : Type 0 where
  -- refused before a step is pending it leaves what is remembered, and where it stops later the session is broken
  pub refused : IfErr result (λ refusal. IsEarly refusal → IsKept old new)
  pub interrupted : IfErr result (λ refusal. IsStop refusal → is_broken new ≡ true)
  -- a fault has its cause
  pub fault : IfErr result (HasCause (store.failures (store_of old) < store.failures (store_of new)))
  pub later : IsLater store (store_of old) (store_of new)

-- What an undo or a redo leaves. It puts nothing in the journal but heads.
pub record LeavesReplay {S : Type 0} (store : Ghosts S) (direction : Direction) (result : Result Response Refusal)
    (old new : Session S) : Type 0 where
  -- a refusal before the step is pending has only read
  pub early : IfErr result (λ refusal. IsEarly refusal → OnlyReads store (store_of old) (store_of new))
  -- where it stops later something was put, and the files are in doubt between the committed state before the call and
  -- that after it
  pub doubt : store.honest (store_of new) → (held : State) → SimulatesState store.files old held
      → IfErr result (λ refusal. IsStop refusal → StopsAfterReplay direction held (files_of store new))
  pub late : IfErr result (λ refusal. IsStop refusal → store.written (store_of old) < store.written (store_of new))
  -- of the journal's files none but the head holds something else, which is its very text after a step
  pub folder : store.honest (store_of new) → IsSameBut head_path (folder_of store old) (folder_of store new)
  pub texts : store.honest (store_of new) → OnOk result (HasHeadText (memory_of new) (files_of store new))
  -- they take at most two heads
  pub written : store.honest (store_of new) → (held : State) → SimulatesState store.files old held
      → store.written (store_of new) ≤ store.written (store_of old) + 2 * head_room (listed_count (memory_of old))
  -- and at most one put or removal is asked for beside them for each change of the step
  pub mutations : store.honest (store_of new) → (held : State) → SimulatesState store.files old held
      → store.mutations (store_of new) ≤ store.mutations (store_of old) + next_count (ahead direction held.journal) + 2
  -- a clash is reported only where the head's path clashes, and as a stop, since nothing is put before the head; and
  -- nothing stops since a file has moved; where no path of a file of the journal is a folder, none becomes one
  pub clash : store.honest (store_of new) → IfErr result (HasClash ⊥ (Clashes (files_of store old) head_path))
  pub free : store.honest (store_of new) → IsFree (folder_of store old) → IsFree (folder_of store new)

-- What a run leaves. It puts nothing in the journal but the next entry and heads.
pub record LeavesRun {S : Type 0} (store : Ghosts S) (command : Command) (when : ℕ) (result : Result Response Refusal)
    (old new : Session S) : Type 0 where
  -- a refusal before the step is pending changes nothing but the file of the next entry, which no head lists
  pub unchanged : store.honest (store_of new)
      → IfErr result (λ refusal. IsEarly refusal → IsSameBut (next_path old) (files_of store old) (files_of store new))
  pub stands : store.honest (store_of new) → (held : State) → SimulatesState store.files old held
      → IfErr result (λ refusal. IsEarly refusal → SimulatesState store.files new held)
  pub early : store.honest (store_of new) → (held : State) → SimulatesState store.files old held
      → IfErr result (λ refusal. IsEarly refusal
      → store.written (store_of new) ≤ store.written (store_of old) + recorded_size (edits_of command held.tree))
  -- where it stops later more than the entry's text was put, and the files are in doubt between the committed state
  -- before the run and that after it
  pub doubt : store.honest (store_of new) → (held : State) → SimulatesState store.files old held
      → IfErr result (λ refusal. IsStop refusal → StopsAfterRun command when held (files_of store new))
  pub late : store.honest (store_of new) → IfErr result (λ refusal. IsStop refusal
      → (entry : Entry) × IsRecordOf command when (tree_of (files_of store old)) entry
      × (store.written (store_of old) + length (entry_text entry) < store.written (store_of new)))
  -- of the journal's files none but the next entry's and the head's holds something else; after a step they are the
  -- very texts of the entry, which records what the command changed and takes no more than that counts for, and of the
  -- head
  pub folder : store.honest (store_of new)
      → IsSameButTwo (next_path old) head_path (folder_of store old) (folder_of store new)
  pub texts : store.honest (store_of new) → (paths left : List (List ℕ)) → result ≡ Ok (Changed paths left)
      → HasHeadText (memory_of new) (files_of store new)
      × ((entry : Entry) × IsRecordOf command when (tree_of (files_of store old)) entry
      × HasEntryText ((memory_of old).used + 1) entry (files_of store new)
      × (length (entry_text entry) ≤ recorded_size (edits_of command (tree_of (files_of store old)))))
  -- they take at most the entry, which holds what the command removes and writes, and two heads: one of the entries
  -- that are listed before, and one of those done and the new one
  pub written : store.honest (store_of new) → (held : State) → SimulatesState store.files old held
      → store.written (store_of new) ≤ store.written (store_of old) + recorded_size (edits_of command held.tree)
      + head_room (listed_count (memory_of old)) + head_room (length (memory_of old).done + 1)
  -- and at most one put or removal is asked for beside these three for each file that the command changes; before the
  -- step is pending at most the entry's
  pub mutations : store.honest (store_of new) → store.mutations (store_of new) ≤ store.mutations
      (store_of old) + edit_count (edits_of command (tree_of (files_of store old))) + 3
  pub begins : IfErr result (λ refusal. IsEarly refusal
      → store.mutations (store_of new) ≤ store.mutations (store_of old) + 1)
  -- a clash is reported only where the path that is put clashes: the next entry's before the step is pending, and the
  -- head's from then on; and nothing stops since a file has moved; where no path of a file of the journal is a folder,
  -- none becomes one
  pub clash : store.honest (store_of new)
      → IfErr result (HasClash (Clashes (files_of store old) (next_path old)) (Clashes (files_of store old) head_path))
  pub free : store.honest (store_of new) → IsFree (folder_of store old) → IsFree (folder_of store new)
