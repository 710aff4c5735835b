-- An edit, none or a refusal, by a test or an equation.
use Rattle.std.proofs.Common.{◌≡◌, Bool, true, false, cond, Option, Some, None, Result, Ok, refl}
use Rattle.reuse_edit.specs.Edit.{Edit}
use Rattle.reuse_command.specs.declared.reply.Refusal.{Refusal}

-- what isn't refused
abbrev pub done : Option Edit → Result (Option Edit) Refusal
done given = Ok given

abbrev pub no_edit : Result (Option Edit) Refusal
no_edit = Ok None

abbrev pub some_edit : Edit → Result (Option Edit) Refusal
some_edit edit = Ok (Some edit)

pub same_edit : (one other : Edit) → some_edit one ≡ some_edit other → one ≡ other
same_edit one other e = cc

pub unskipped : (b : Bool) (r : Result (Option Edit) Refusal) (edit : Edit) → cond b no_edit r ≡ some_edit edit
    → (b ≡ false) × (r ≡ some_edit edit)
unskipped true r edit e = absurd (cc)
unskipped false r edit e = (refl, e)
