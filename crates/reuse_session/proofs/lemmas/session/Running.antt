-- What a run answers, from its plan and its step.
use Rattle.std.proofs.Common.{◌≡◌, ◌+◌, List, length, Result, sym, ap, ◌∙◌}
use Rattle.std.proofs.lemmas.List.Sorted.{length_permutation, sum_by-IsPermutation}
use Rattle.reuse_change.specs.Files.{Files}
use Rattle.reuse_change.specs.declared.change.Change.{Change}
use Rattle.reuse_change.specs.Entry.{change_size, entry_size}
use Rattle.reuse_journal.specs.Journal.{State}
use Rattle.reuse_journal.specs.Labels.{is_full}
use Rattle.reuse_edit.specs.Edit.{Edit}
use Rattle.reuse_plan.specs.Outcome.{edit_count, recorded_size}
use Rattle.reuse_plan.specs.Plan.{Records}
use Rattle.reuse_session.specs.session.Session.{SimulatesState, memory_of}
use Rattle.reuse_command.specs.declared.reply.Refusal.{Refusal}
use Rattle.reuse_session.specs.declared.session.Session.{Session}
use Rattle.reuse_journal.proofs.MemoryLemmas.{count_done}
use Rattle.reuse_plan.proofs.Planning.{same_count, same_sizes}

-- what a session remembers reports whether the journal is full
pub full_alike : {S : Type 0} (files : S → Files) (session : Session S) (held : State)
    → SimulatesState files session held
    → is_full (length held.journal.done) held.journal.used ≡ is_full (length (memory_of session).done)
    (memory_of session).used
full_alike files session held stands =
    ap (λ n. is_full n held.journal.used) (sym (count_done (memory_of session) held.journal stands.remembers))
    ∙ ap (is_full (length (memory_of session).done)) (sym stands.remembers.used)

-- ---- the size of what is recorded

pub size_recorded : (tree : Files) (given : Result (List Edit) Refusal) (changes : List Change)
    → Records tree given changes → entry_size changes ≡ recorded_size given
size_recorded tree given changes records =
    ap (λ n. 256 + n)
    (sum_by-IsPermutation change_size records.0 changes records.1 ∙ same_sizes tree records.0 records.2.0 records.2.2)
    ∙ ap recorded_size (sym records.2.1)

pub count_recorded : (tree : Files) (given : Result (List Edit) Refusal) (changes : List Change)
    → Records tree given changes → length changes ≡ edit_count given
count_recorded tree given changes records =
    length_permutation records.0 changes records.1 ∙ same_count tree records.0 records.2.0 records.2.2
    ∙ ap edit_count (sym records.2.1)
