-- For private clauses: what one write leaves, a put or a removal at its path.
use Rattle.std.specs.Prelude.{◌≡◌, ◌⊎◌, ◌+◌, ◌<◌, true, List, ℕ, Option, Result, Err, OnOk, OnErr, IsErrOf, IsSome}
use Rattle.reuse_change.specs.Files.{Clashes}
use Rattle.reuse_change.specs.Tree.{is_of_tree, Sets}
use Rattle.reuse_store.specs.Asked.{IsLater, MaySet}
use Rattle.reuse_store.specs.declared.fault.StoreFault.{StoreFault}
use Rattle.reuse_store.specs.declared.fault.StoreFault.TheVariants.{Device, Clash}
use Rattle.reuse_store.specs.declared.store.Store.{Ghosts}

-- the path holds this then; where the write fails, this or what it held
pub record WriteLeaves {S : Type 0} (store : Ghosts S) (path : List ℕ) (held : Option (List ℕ)) (old new : S)
    (answer : Result (Unit {0}) StoreFault) : Type 0 where
  pub later : IsLater store old new
  pub mutations : store.mutations new ≡ store.mutations old + 1
  pub written : is_of_tree path ≡ true → store.written new ≡ store.written old
  pub ok : store.honest new → OnOk answer (Sets path held (store.files old) (store.files new))
  pub err : store.honest new
      → OnErr answer ((store.files new ≡ store.files old) ⊎ Sets path held (store.files old) (store.files new))
  pub clash : store.honest new → answer ≡ Err Clash → Clashes (store.files old) path × IsSome held
  pub device : IsErrOf answer Device → store.failures old < store.failures new
  pub left : MaySet store path (λ file. file ≡ held) old new
