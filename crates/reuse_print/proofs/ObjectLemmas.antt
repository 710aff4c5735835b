-- Values without floats, and what is printed of a value.
use Rattle.std.proofs.Common.{◌≡◌, false, ℕ, List, [], ◌∷◌, map, Option, Result, OnOk, refl, subst}
use Rattle.std.proofs.lemmas.Result.{on_ok_weaker}
use Rattle.std.specs.Io.KnownBytes.{Appends}
use Rattle.jiff.specs.Types.{Date}
use Rattle.serde_json.specs.Data.{Data}
use Rattle.serde_json.specs.View.{items_of}
use Rattle.serde_json.specs.Written.{has_float, items_have_float}
use Rattle.reuse_change.specs.declared.change.Change.{Change}
use Rattle.reuse_command.specs.declared.reply.Row.{Row}
use Rattle.reuse_command.specs.declared.reply.Shown.{Shown}
use Rattle.reuse_print.specs.Objects.{object_line, row_value, change_value, shown_value}
use Rattle.reuse_shown.specs.JoinedTexts.{AppendsSome}

pub row_no_float : (row : Row) (date : Date) → has_float (row_value row date) ≡ false
row_no_float row date = refl

changes_no_float : (changes : List Change) → items_have_float (items_of (map change_value changes)) ≡ false
changes_no_float [] = refl
changes_no_float (change ∷ changes) = changes_no_float changes

pub shown_no_float : (shown : Shown) (date : Date) → has_float (shown_value shown date) ≡ false
shown_no_float shown date = rw (changes_no_float shown.changes) refl

-- a value that is what was stated is printed as a text of that
pub printed_as : {T E : Type 0} (IsText : List ℕ → Type 0) (old new : Option (List ℕ)) (value stated : Data)
    (result : Result T E) → value ≡ stated → IsText (object_line stated)
    → OnOk result (Appends old new (object_line value)) → OnOk result (AppendsSome old new IsText)
printed_as IsText old new value stated result is text =
    on_ok_weaker result (λ (wrote : Appends old new (object_line value)).
    (object_line stated, (text, subst (λ v. Appends old new (object_line v)) is wrote)))
