-- Calls that change no file and no folder, one after the other.
use Rattle.std.proofs.Common.{◌≡◌, ◌∙◌, refl, subst, sym}
use Rattle.reuse_system.specs.declared.system.System.{Ghosts}
use Rattle.reuse_disk.specs.OpenFolders.{AreOpened}
use Rattle.reuse_disk.specs.ReadsOnly.{EntersOnly, NotesOnly, ReadsOnly}
use Rattle.reuse_disk.specs.declared.open_folders.OpenFolders.{OpenFolders}
use Rattle.reuse_disk.specs.declared.syncs.Unsynced.{Unsynced}

pub reads_none : {S : Type 0} (system : Ghosts S) (a : S) → ReadsOnly system a a
reads_none system a = record { kept = refl; changes = refl; still = refl; earlier = λ honest. honest }

pub reads_then : {S : Type 0} (system : Ghosts S) (a b c : S) → ReadsOnly system a b → ReadsOnly system b c
    → ReadsOnly system a c
reads_then system a b c one two =
    record {
      kept = two.kept ∙ one.kept;
      changes = two.changes ∙ one.changes;
      still = two.still ∙ one.still;
      earlier = λ honest. one.earlier (two.earlier honest);
    }

pub enters_none : {S : Type 0} (system : Ghosts S) (a : S) (open_folders : OpenFolders)
    → EntersOnly system a a open_folders open_folders
enters_none system a open_folders = record { reads = reads_none system a; opened = λ are. are }

pub enters_then : {S : Type 0} (system : Ghosts S) (a b c : S) (first second third : OpenFolders)
    → EntersOnly system a b first second → EntersOnly system b c second third → EntersOnly system a c first third
enters_then system a b c first second third one two = record {
  reads = reads_then system a b c one.reads two.reads;
  opened = λ are. two.opened (one.opened are);
}

-- folders were entered, and then nothing but reading
pub enters_looked : {S : Type 0} (system : Ghosts S) (a b c : S) (before after : OpenFolders)
    → EntersOnly system a b before after → ReadsOnly system b c → EntersOnly system a c before after
enters_looked system a b c before after one two =
    record {
      reads = reads_then system a b c one.reads two;
      opened = λ are honest.
          subst (λ folders. AreOpened folders after) (sym two.still) (one.opened are (two.earlier honest));
    }

pub notes_entered : {S : Type 0} (system : Ghosts S) (a b : S) (before after : OpenFolders) (unsynced : Unsynced)
    → EntersOnly system a b before after → system.synced b ≡ system.synced a
    → NotesOnly system a b before after unsynced unsynced
notes_entered system a b before after unsynced one no_sync =
    record {
      still = one.reads.still;
      earlier = one.reads.earlier;
      opened = one.opened;
      syncs = refl;
      noted = λ folder noted. noted;
      no_sync = no_sync;
    }

pub notes_then : {S : Type 0} (system : Ghosts S) (a b c : S) (first second third : OpenFolders)
    (one two three : Unsynced) → NotesOnly system a b first second one two
    → NotesOnly system b c second third two three → NotesOnly system a c first third one three
notes_then system a b c first second third one two three was now =
    record {
      still = now.still ∙ was.still;
      earlier = λ honest. was.earlier (now.earlier honest);
      opened = λ are. now.opened (was.opened are);
      syncs = now.syncs ∙ was.syncs;
      noted = λ folder noted. now.noted folder (was.noted folder noted);
      no_sync = now.no_sync ∙ was.no_sync;
    }
