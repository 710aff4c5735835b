-- What a store reports of the folder's answer.
use Rattle.std.specs.Prelude.{◌≡◌, Result, Ok, Err, IfErr, is_ok}
use Rattle.reuse_store.specs.declared.fault.StoreFault.{StoreFault}
use Rattle.reuse_system.specs.FolderFault.{fault_of_store}
use Rattle.reuse_system.specs.declared.fault.FolderFault.{FolderFault}

-- that it was done, or the fault that is the folder's one for a store
pub record IsReported (answer : Result (Unit {0}) FolderFault) (reported : Result (Unit {0}) StoreFault) : Type 0 where
  pub done : is_ok reported ≡ is_ok answer
  pub ok : answer ≡ Ok tt → reported ≡ Ok tt
  pub fails : IfErr answer (λ fault. reported ≡ Err (fault_of_store fault))
