-- What a result or an option is, from a test or an equation.
use Rattle.std.proofs.Common.{◌≡◌, Bool, true, false, cond, Option, Some, None, is_some, Result, Ok, Err, refl, sym}
use Rattle.std.proofs.lemmas.Bool.{false≢true}
use Rattle.reuse_command.specs.declared.reply.Refusal.{Refusal}

pub same_Ok : {A E : Type 0} (x y : A) → ◌≡◌ {A = Result A E} (Ok x) (Ok y) → x ≡ y
same_Ok x y e = cc

-- a test before the rest refused nothing
pub err_or : {A : Type 0} (b : Bool) (r : Refusal) (rest : Result A Refusal) (x : A) → cond b (Err r) rest ≡ Ok x
    → (b ≡ false) × (rest ≡ Ok x)
err_or true r rest x e = absurd (cc)
err_or false r rest x e = (refl, e)

-- a refusal either way
pub both_err : {A : Type 0} (b : Bool) (r s : Refusal) (x : A) → cond b (Err r) (Err s) ≡ Ok x → ⊥
both_err true r s x e = absurd (cc)
both_err false r s x e = absurd (cc)

pub none_from_test : {A : Type 0} (o : Option A) → is_some o ≡ false → o ≡ None
none_from_test None e = refl
none_from_test (Some x) e = absurd (false≢true (sym e))

pub none_unless_some : {A : Type 0} (o : Option A) → ((x : A) → o ≡ Some x → ⊥) → o ≡ None
none_unless_some None never = refl
none_unless_some (Some x) never = absurd (never x refl)
