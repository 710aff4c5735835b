-- That puts and removals have started is noted over several calls.
use Rattle.std.proofs.Common.{◌<◌, Bool, true, false, arith, sym, ◌∙◌, refl}
use Rattle.std.proofs.lemmas.Bool.{false≢true}
use Rattle.reuse_store.specs.declared.store.Store.{Ghosts}
use Rattle.reuse_store.specs.Asked.{IsLater}
use Rattle.reuse_store.proofs.AskedLemmas.{reads_none, reads_more}
use Rattle.reuse_store.specs.Apply.{NotesMutations}

module _ {S : Type 0} (store : Ghosts S) where
  pub notes_none : (noted : Bool) (old : S) → NotesMutations store noted noted old old
  notes_none noted old = record {
    still = λ e. (e, reads_none store old);
    begun = λ e f. absurd (false≢true (sym e ∙ f));
  }

  pub notes_more : (first mid last : Bool) (old between new : S) → NotesMutations store first mid old between
      → IsLater store old between
      → NotesMutations store mid last between new → IsLater store between new → NotesMutations store first last old new
  notes_more first false last old between new before gone after goes = record {
    still = λ e. let here = after.still e in let there = before.still here.0 in
        (there.0, reads_more store old between new there.1 here.1);
    begun = λ none some. let lt = after.begun refl some in omega (arith, lt, gone.mutations);
  }
  notes_more first true last old between new before gone after goes = record {
    still = λ e. let here = after.still e in absurd (false≢true (sym here.0));
    begun = λ none some. let lt = before.begun none refl in omega (arith, lt, goes.mutations);
  }

  -- the last of the calls moves something
  pub notes_last : (first mid : Bool) (old between new : S) → IsLater store old between
      → store.mutations between < store.mutations new → NotesMutations store first true old new
  notes_last first mid old between new gone lt = record {
    still = λ e. absurd (false≢true (sym e));
    begun = λ none some. omega (arith, lt, gone.mutations);
  }
