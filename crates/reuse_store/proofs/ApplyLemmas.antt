-- What a put, a removal and a splice make of a file.
use Rattle.std.proofs.Common.{◌≡◌, ◌⊎◌, inl, inr, ⊎_elim, ℕ, ◌+◌, true, cond, List, length, Option, Some, None, IsSome}
use Rattle.std.proofs.Common.{is_some, refl, ap, sym, subst, ◌∙◌, arith}
use Rattle.std.specs.FinMap.{get, remove}
use Rattle.std.proofs.lemmas.Bool.{false≢true}
use Rattle.reuse_change.specs.Files.{Files, AreFiles, Clashes}
use Rattle.reuse_change.specs.Change.{path_of}
use Rattle.reuse_change.specs.declared.change.Change.{Change}
use Rattle.reuse_change.specs.declared.change.Change.TheVariants.{Make, Drop, Splice}
use Rattle.reuse_store.specs.Store.{counted, Puts, PutFails, RemoveFails}
use Rattle.reuse_store.specs.declared.fault.StoreFault.{StoreFault}
use Rattle.reuse_store.specs.declared.fault.StoreFault.TheVariants.{Device, Clash, Memory}
use Rattle.reuse_change.proofs.FileMaps.{get-put_same, get-put_other, get-removed_same, get-removed_other}
use Rattle.reuse_change.specs.Entry.{makes, AppliesBy, LeadsByOneChange}
use Rattle.reuse_change.specs.Tree.{is_of_tree, Sets}
use Rattle.reuse_change.specs.declared.direction.Direction.{Direction}
use Rattle.reuse_change.specs.declared.direction.Direction.TheVariants.{Forward, Backward}
use Rattle.reuse_store.proofs.OfTree.{outside}

pub put_sets : (m n : Files) (p bytes : List ℕ) → Puts p bytes m n → Sets p (Some bytes) m n
put_sets m n p bytes h = record {
  here = ap (λ files. get files p) h.files ∙ get-put_same m p bytes;
  elsewhere = λ q other. ap (λ files. get files q) h.files ∙ get-put_other m p bytes q other;
}

pub removal_sets : (m n : Files) (p : List ℕ) → n ≡ remove m p → Sets p None m n
removal_sets m n p e = record {
  here = ap (λ files. get files p) e ∙ get-removed_same m p;
  elsewhere = λ q other. ap (λ files. get files q) e ∙ get-removed_other m p q other;
}

-- a put or a removal that fails has done nothing, or all
pub put_doubt : (fault : StoreFault) (m n : Files) (p bytes : List ℕ) → PutFails fault p bytes m n
    → (n ≡ m) ⊎ Sets p (Some bytes) m n
put_doubt Clash m n p bytes h = inl h.1
put_doubt Device m n p bytes h = ⊎_elim (λ same. inl same) (λ puts. inr (put_sets m n p bytes puts)) h
put_doubt Memory m n p bytes h = ⊎_elim (λ same. inl same) (λ puts. inr (put_sets m n p bytes puts)) h

pub removal_doubt : (fault : StoreFault) (m n : Files) (p : List ℕ) → RemoveFails fault p m n
    → (n ≡ m) ⊎ Sets p None m n
removal_doubt Clash m n p h = absurd h
removal_doubt Device m n p h = ⊎_elim (λ same. inl same) (λ e. inr (removal_sets m n p e)) h
removal_doubt Memory m n p h = ⊎_elim (λ same. inl same) (λ e. inr (removal_sets m n p e)) h

-- a put at a path of the tree doesn't count as written
pub counts_none : (path bytes : List ℕ) (old new : ℕ) → is_of_tree path ≡ true
    → new ≡ old + counted path bytes → new ≡ old
counts_none path bytes old new of_tree e =
    e ∙ ap (λ n. old + n) (ap (λ b. cond b (length bytes) 0) (outside path of_tree)) ∙ no_more old
  where
    no_more : (n : ℕ) → n + 0 ≡ n
    no_more n = omega arith

-- where the path of a change holds what the change makes of it, the change is made
pub step_by : (direction : Direction) (change : Change) (m n : Files) (held : Option (List ℕ))
    → AppliesBy direction change (get m (path_of change)) held → Sets (path_of change) held m n
    → LeadsByOneChange direction change m n
step_by direction change m n held applies sets = record {
  here = subst (AppliesBy direction change (get m (path_of change))) (sym sets.here) applies;
  elsewhere = sets.elsewhere;
}

pub none_is_some : {A : Type 0} (o : Option A) → o ≡ None → IsSome o → ⊥
none_is_some o none some = false≢true (sym (ap is_some none) ∙ some)

-- only a change that makes a file clashes
module _ (m : Files) (are : AreFiles m) where
  there : (path bytes : List ℕ) → get m path ≡ Some bytes → Clashes m path → ⊥
  there path bytes e clash = are.apart path (ap is_some e) clash

  pub makes_where_clash : (direction : Direction) (change : Change) (held : Option (List ℕ))
      → AppliesBy direction change (get m (path_of change)) held → IsSome held → Clashes m (path_of change)
      → makes direction change ≡ true
  makes_where_clash Forward (Make path new digest) held applies some clash = refl
  makes_where_clash Forward (Drop path old digest) held applies some clash =
      absurd (none_is_some held applies.range.1 some)
  makes_where_clash Forward (Splice path at old new rest seal) held applies some clash =
      absurd (there path _ applies.range.2.whole clash)
  makes_where_clash Backward (Make path new digest) held applies some clash =
      absurd (none_is_some held applies.range.0 some)
  makes_where_clash Backward (Drop path old digest) held applies some clash = refl
  makes_where_clash Backward (Splice path at old new rest seal) held applies some clash =
      absurd (there path _ applies.range.3.whole clash)
