-- What the seals of a step report of its files.
use Rattle.std.proofs.Common.{◌≡◌, ℕ, true, List, get_or, Option, sym, subst}
use Rattle.std.specs.Prelude.{◌↔◌}
use Rattle.std.specs.Option.{option_map}
use Rattle.std.specs.List.{All}
use Rattle.std.specs.FinMap.{get}
use Rattle.std.proofs.lemmas.List.Sorted.{All-permutation}
use Rattle.sha2.specs.Sha256.{sha256}
use Rattle.reuse_change.specs.Files.{Files}
use Rattle.reuse_change.specs.Change.{path_of, is_sealed}
use Rattle.reuse_change.specs.declared.change.Change.{Change}
use Rattle.reuse_change.proofs.Sealed.{same_after, same_before}
use Rattle.reuse_change.specs.Entry.{IsReady, CanBeMade, AreAllSealed}
use Rattle.reuse_journal.specs.Journal.{State}
use Rattle.reuse_journal.specs.Seals.{tree_for, IsAsLeft, IsUntouched, IsDistinguished}
use Rattle.reuse_store.specs.Apply.{IsReadyByRange}
use Rattle.reuse_session.specs.session.Session.{IsRun}
use Rattle.reuse_command.specs.declared.command.Command.{Command}
use Rattle.reuse_change.specs.declared.direction.Direction.{Direction}
use Rattle.reuse_change.specs.declared.direction.Direction.TheVariants.{Forward, Backward}
use Rattle.reuse_plan.proofs.Planning.{sealed_each}

-- a file that is ready is so by range and length
pub ready_by_range : (direction : Direction) (change : Change) (file : Option (List ℕ)) → IsReady direction change file
    → IsReadyByRange direction change file
ready_by_range Forward change file ready = (ready.0, ready.1.range)
ready_by_range Backward change file ready = (ready.0, ready.1.range)

-- two files from which a sealed change can be gone through have one digest
same_digest : (direction : Direction) (change : Change) (file other : Option (List ℕ)) → is_sealed change ≡ true
    → IsReady direction change file → IsReady direction change other → option_map sha256 file ≡ option_map sha256 other
same_digest Forward change file other sealed ready too = same_before change other too.0 file too.1 sealed ready
same_digest Backward change file other sealed ready too = same_after change too.0 other file too.1 sealed ready

module _ (command : Command) (when : ℕ) (first second : State) (run : IsRun command when first second) where
  abbrev changes : List Change
  changes = run.step.changes

  sealed : AreAllSealed true changes
  sealed =
      let listed = run.recorded in
      All-permutation (λ c. is_sealed c ≡ true) listed.0 run.step.changes listed.1
      (sealed_each first.tree listed.0 listed.2.0 listed.2.2)

  ready_on : (direction : Direction)
      → All (λ c. IsReady direction c (get (tree_for direction first second) (path_of c))) changes
  ready_on Forward i d lt = (get second.tree (path_of (get_or run.step.changes i d)), run.is_step.leads.each i d lt)
  ready_on Backward i d lt = (get first.tree (path_of (get_or run.step.changes i d)), run.is_step.leads.each i d lt)

  pub reported : (direction : Direction) (now : Files) → All (CanBeMade direction now) changes
      → All (IsAsLeft direction (tree_for direction first second) now) changes
  reported direction now can i d lt =
      let change = get_or run.step.changes i d in
      record {
        range = ready_by_range direction change (get now (path_of change)) (can i d lt).ready;
        digest = same_digest direction change (get now (path_of change)) (get (tree_for direction first second)
            (path_of change)) (sealed i d lt) (can i d lt).ready (ready_on direction i d lt);
      }

  pub exact : (direction : Direction) (now : Files)
      → All (IsDistinguished (tree_for direction first second) now) changes
      → All (CanBeMade direction now) changes
      ↔ All (IsUntouched direction (tree_for direction first second) now) changes
  exact direction now apart = (
    λ can i d lt. record { same = apart i d lt (reported direction now can i d lt).digest; free = (can i d lt).free },
    λ left i d lt. record {
      ready =
          subst (IsReady direction (get_or run.step.changes i d)) (sym (left i d lt).same) (ready_on direction i d lt);
      free = (left i d lt).free;
    },
  )
