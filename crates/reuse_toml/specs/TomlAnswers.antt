-- What a call that amends a `REUSE.toml` answers, where it may also find no memory.
use Rattle.std.specs.Prelude.{◌≡◌, Result, Ok, Err}
use Rattle.reuse_toml.specs.declared.toml_values.AmendTomlRefusal.{AmendTomlRefusal}
use Rattle.reuse_toml.specs.declared.toml_values.AmendTomlRefusal.TheVariants.{BadExpression, CannotBeAmended, TooLong}
use Rattle.reuse_toml.specs.declared.toml_values.AmendTomlRefusal.TheVariants.{Memory}

-- the answer that is expected, or an allocation failure, which may take its place
abbrev pub IsTomlAnswer : {X : Type 0} → Result X AmendTomlRefusal → Result X AmendTomlRefusal → Type 0
IsTomlAnswer expected (Ok x) = expected ≡ Ok x
IsTomlAnswer expected (Err BadExpression) = expected ≡ Err BadExpression
IsTomlAnswer expected (Err CannotBeAmended) = expected ≡ Err CannotBeAmended
IsTomlAnswer expected (Err TooLong) = expected ≡ Err TooLong
IsTomlAnswer expected (Err (Memory e)) = Unit {0}
