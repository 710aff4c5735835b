-- The words by which calls that only read a store say what they found of its tree.
use Rattle.std.specs.Prelude.{Result, IfErr}
use Rattle.reuse_store.specs.declared.store.Store.{Ghosts}
use Rattle.reuse_command.specs.declared.reply.Refusal.{Refusal}
pub use Rattle.std.specs.FinMap.{get, keys}
pub use Rattle.reuse_store.specs.Asked.{OnlyReads}
pub use Rattle.reuse_change.specs.Files.{Files, tree_of}
pub use Rattle.reuse_store.specs.Store.{reading_of}
pub use Rattle.reuse_command.specs.Answer.{IsOfPlan, RefusedAsRead}

-- the store is read alone, and a refusal is one of these and reports a fault as a reading does
pub record ReadsAlone {S A : Type 0} (store : Ghosts S) (MayBe : Refusal
    → Type 0) (old new : S) (answer : Result A Refusal) : Type 0 where
  pub reads : OnlyReads store old new
  pub fails : RefusedAsRead store old new answer
  pub kinds : IfErr answer MayBe
