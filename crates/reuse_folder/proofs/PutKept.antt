-- A put that is answered as the files ask keeps a folder honest.
use Rattle.std.proofs.Common.{◌≡◌, ℕ, Bool, IsTrue, List, ◌∷◌, Result, Ok, Err}
use Rattle.std.specs.Result.{MatchResult}
use Rattle.reuse_store.specs.Calls.{Call}
use Rattle.reuse_store.specs.Calls.Call.{PutCall}
use Rattle.reuse_change.specs.Files.{Files, Clashes}
use Rattle.reuse_change.specs.Path.{is_path}
use Rattle.reuse_store.specs.declared.fault.StoreFault.{StoreFault}
use Rattle.reuse_store.specs.declared.fault.StoreFault.TheVariants.{Device, Clash, Memory}
use Rattle.reuse_folder.specs.Honesty.{files_of, IsHonest}

pub put_kept : (start : Files) (calls : List Call) (path bytes : List ℕ) (answer : Result (Unit {0}) StoreFault)
    (took : Bool) → IsHonest start calls → IsTrue (is_path path)
    → MatchResult answer
    (λ _. ¬ (Clashes (files_of start calls) path) → IsHonest start (PutCall path bytes answer took ∷ calls))
    (λ fault. fault ≡ Clash → Clashes (files_of start calls) path
    → IsHonest start (PutCall path bytes answer took ∷ calls))
put_kept start calls path bytes (Ok done) took honest good = λ free. (record { is_good = good; is_free = free }, honest)
put_kept start calls path bytes (Err Clash) took honest good = λ same clash. (clash, honest)
put_kept start calls path bytes (Err Device) took honest good = λ same clash. absurd (cc)
put_kept start calls path bytes (Err Memory) took honest good = λ same clash. absurd (cc)
