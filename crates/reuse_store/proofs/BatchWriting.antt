-- The writes of a batch, one after the other.
use Rattle.std.proofs.Common.{◌≡◌, ℕ, ◌+◌, ◌<◌, Bool, true, false, cond, List, [], ◌∷◌, ◌++◌, length, take, get_or}
use Rattle.std.proofs.Common.{Option, Some, None, refl, sym, ap, subst, ◌∙◌}
use Rattle.std.specs.List.{All, AllZip}
use Rattle.std.proofs.lemmas.List.{take_more}
use Rattle.std.proofs.lemmas.Slice.Zip.{all_zipped_more}
use Rattle.reuse_store.specs.Batch.{IsReadReady, MakesRead}
use Rattle.reuse_change.specs.Entry.{IsReady}
use Rattle.reuse_store.specs.declared.file_write.FileWrite.{FileWrite}
use Rattle.reuse_store.specs.declared.apply_changes.ReadChange.{ReadChange}
use Rattle.reuse_change.specs.declared.direction.Direction.{Direction}

module _ (direction : Direction) (batch : List ReadChange) (i : ℕ) (lt : i < length batch) (read : ReadChange)
    (is : read ≡ get_or batch i read) where
  -- one more write
  pub pushed : (write : FileWrite) (writes more : List FileWrite) (pushes : Bool)
      → more ≡ cond pushes (writes ++ write ∷ []) writes → pushes ≡ true → MakesRead direction read write
      → AllZip (MakesRead direction) (take i batch) writes
      → AllZip (MakesRead direction) (take (i + 1) batch) more
  pushed write writes more true made e makes so_far =
      subst (λ ws. AllZip (MakesRead direction) (take (i + 1) batch) ws) (sym made)
      (subst (λ rs. AllZip (MakesRead direction) rs (writes ++ write ∷ []))
      (sym (take_more batch i read lt ∙ ap (λ r. take i batch ++ r ∷ []) (sym is)))
      (all_zipped_more (MakesRead direction) (take i batch) writes read write so_far makes))
  pushed write writes more false made e makes so_far = absurd (cc)

  -- a change that isn't ready
  pub not_ready : (IsReadReady direction read → ⊥) → All (IsReadReady direction) batch → ⊥
  not_ready stuck all = stuck (subst (IsReadReady direction) (sym is) (all i read lt))
