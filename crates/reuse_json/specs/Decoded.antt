-- What a decoder answers.
use Rattle.std.specs.Prelude.{◌≡◌, Option, Some, None, Result, Ok, Err, ⊤}
use Rattle.reuse_json.specs.declared.fault.DecodeFault.{DecodeFault}
use Rattle.reuse_json.specs.declared.fault.DecodeFault.TheVariants.{NotGood, Memory}

-- The answer is the value, unless memory ran out.
abbrev pub IsAnswer : {A : Type 0} → Result A DecodeFault → A → Type 0
IsAnswer (Ok found) value = found ≡ value
IsAnswer (Err NotGood) value = ⊥
IsAnswer (Err Memory) value = ⊤

abbrev pub Fails : {A : Type 0} → DecodeFault → Option A → Type 0
Fails NotGood read = read ≡ None
Fails Memory read = ⊤

-- The answer is what reading gives, unless memory ran out.
abbrev pub Gives : {A : Type 0} → Result A DecodeFault → Option A → Type 0
Gives (Ok found) read = read ≡ Some found
Gives (Err e) read = Fails e read

-- The answer, seen by view, is what reading gives, unless memory ran out.
abbrev pub GivesBy : {X Y : Type 0} → (X → Y) → Result X DecodeFault → Option Y → Type 0
GivesBy view (Ok found) read = read ≡ Some (view found)
GivesBy view (Err e) read = Fails e read
