-- What an honest folder holds are files: a put where there is room and a removal keep them so.
use Rattle.std.proofs.Common.{◌≡◌, IsTrue, Bool, true, false, if◌then◌else◌, List, ℕ, Result, Ok, Err, refl}
use Rattle.std.specs.FinMap.{insert, remove}
use Rattle.reuse_change.specs.Files.{Files, AreFiles}
use Rattle.reuse_change.specs.Path.{is_path}
use Rattle.reuse_store.specs.Store.{Puts}
use Rattle.reuse_store.specs.declared.fault.StoreFault.{StoreFault}
use Rattle.reuse_store.specs.declared.fault.StoreFault.TheVariants.{Device, Clash, Memory}
use Rattle.reuse_folder.specs.Honesty.{HasRoom, MayAnswerPut, has_effect}

-- a put keeps files good
abbrev pub PutKeeps : Type 0
PutKeeps = (path bytes : List ℕ) (before after : Files) → AreFiles before → IsTrue (is_path path)
    → Puts path bytes before after → AreFiles after

-- a removal keeps files good
abbrev pub RemovalKeeps : Type 0
RemovalKeeps = (files : Files) (path : List ℕ) → AreFiles files → AreFiles (remove files path)

put_has_kept : PutKeeps → (files : Files) (path bytes : List ℕ) → AreFiles files → HasRoom files path
    → AreFiles (insert files path bytes)
put_has_kept keeps files path bytes good room =
    keeps path bytes files (insert files path bytes) good room.is_good (record { free = room.is_free; files = refl })

perhaps_put : PutKeeps → (files : Files) (path bytes : List ℕ) (took : Bool) → AreFiles files
    → (took ≡ true → HasRoom files path) → AreFiles (if took then insert files path bytes else files)
perhaps_put keeps files path bytes true good room = put_has_kept keeps files path bytes good (room refl)
perhaps_put keeps files path bytes false good room = good

pub after_put : PutKeeps → (files : Files) (path bytes : List ℕ) (answer : Result (Unit {0}) StoreFault) (took : Bool)
    → AreFiles files → MayAnswerPut files path answer took
    → AreFiles (if has_effect answer took then insert files path bytes else files)
after_put keeps files path bytes (Ok done) took good room = put_has_kept keeps files path bytes good room
after_put keeps files path bytes (Err Clash) took good clashes = good
after_put keeps files path bytes (Err Device) took good room = perhaps_put keeps files path bytes took good room
after_put keeps files path bytes (Err Memory) took good room = perhaps_put keeps files path bytes took good room

pub after_removal : RemovalKeeps → (files : Files) (path : List ℕ) (has : Bool) → AreFiles files
    → AreFiles (if has then remove files path else files)
after_removal keeps files path true good = keeps files path good
after_removal keeps files path false good = good
