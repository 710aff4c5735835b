-- What a loss of power may leave of a folder, path by path.
use Rattle.std.proofs.Common.{◌≡◌, ◌⊎◌, inl, inr, ⊎_elim, ℕ, Bool, true, false, cond, not, List, [], Option, None, refl}
use Rattle.std.proofs.Common.{sym, ap, subst, ◌∙◌}
use Rattle.std.specs.FinMap.{get}
use Rattle.reuse_change.specs.Files.{Files, tree_of}
use Rattle.reuse_change.specs.Path.{journal_folder, lies_under}
use Rattle.reuse_store.specs.Calls.{Call}
use Rattle.reuse_store.proofs.TreeLemmas.{tree_file}
use Rattle.reuse_folder.specs.Honesty.{IsCrashState}
use Rattle.reuse_folder.specs.PathLosses.{IsLeftByPaths, IsNeverSynced, IsOtherOrKept}
use Rattle.reuse_session.specs.session.Machine.{Snapshots}
use Rattle.reuse_session.specs.session.PathLosses.{IsFileOf, IsTreeOf}
use Rattle.reuse_undo.specs.run.PathsFound.{IsFoundByPaths}

-- no file of the tree lies in the journal's folder, and every other file does as it is
within : (files : Files) (path : List ℕ) → lies_under path journal_folder ≡ true → get (tree_of files) path ≡ None
within files path inside = tree_file files path ∙ ap (λ b. cond (not b) (get files path) None) inside

outside : (files : Files) (path : List ℕ) → lies_under path journal_folder ≡ false
    → get (tree_of files) path ≡ get files path
outside files path beside = tree_file files path ∙ ap (λ b. cond (not b) (get files path) None) beside

module _ (MayBe : Files → Type 0) (state : Snapshots) (next : Option Snapshots)
    (trees : (left : Files) → MayBe left → IsTreeOf state next (tree_of left)) (start : Files) (calls : List Call)
    (unsynced : (path : List ℕ) → lies_under path journal_folder ≡ false → IsNeverSynced path calls
    → (other : Files) × MayBe other × (get other path ≡ get start path)) where
  at_path : (kept other left : Files) → MayBe other → IsOtherOrKept calls kept other left → (path : List ℕ) (b : Bool)
      → lies_under path journal_folder ≡ b
      → IsFileOf state next path (get (tree_of left) path)
      ⊎ ((get (tree_of left) path ≡ get (tree_of kept) path) × IsFileOf state next path (get (tree_of start) path))
  at_path kept other left may is path true inside =
      inl (subst (IsFileOf state next path) (within other path inside ∙ sym (within left path inside))
      (trees other may path))
  at_path kept other left may is path false beside = ⊎_elim
      (λ (same : get left path ≡ get other path). inl (subst (IsFileOf state next path)
      (outside other path beside ∙ sym same ∙ sym (outside left path beside)) (trees other may path)))
      (λ was. let first = unsynced path beside was.1 in
      inr (
        outside left path beside ∙ was.0 ∙ sym (outside kept path beside),
        subst (IsFileOf state next path) (outside first.0 path beside ∙ first.2 ∙ sym (outside start path beside))
            (trees first.0 first.1 path),
      ))
      (is.each path)

  pub found_by_paths : (kept other left : Files) → MayBe other → IsOtherOrKept calls kept other left
      → IsFoundByPaths MayBe state next start kept left
  found_by_paths kept other left may is = record {
    other = other;
    may = may;
    journal = is.journal;
    each = λ path. at_path kept other left may is path (lies_under path journal_folder) refl;
  }
