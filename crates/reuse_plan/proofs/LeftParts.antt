-- A call that takes something out of a header and isn't refused: the text that its values make, and what is left of that.
use Rattle.std.proofs.Common.{◌≡◌, ℕ, List, Option, Result, Ok, Err, IsOk, refl, ap, ◌∙◌}
use Rattle.std.proofs.lemmas.Bool.{false≢true}
use Rattle.reuse_amend.specs.declared.amendments.Amendments.{Amendments}
use Rattle.reuse_style.specs.declared.style.Style.{Style}
use Rattle.reuse_header.specs.declared.annotation.HeaderRefusal.{HeaderRefusal}
use Rattle.reuse_header.specs.declared.amendment.AmendHeaderRefusal.{AmendHeaderRefusal}
use Rattle.reuse_header.specs.Amendment.{amended_file, amendment_of, neighbour_amendment_of}
use Rattle.reuse_command.specs.declared.command.HeaderRemoval.{HeaderRemoval}
use Rattle.reuse_command.specs.declared.reply.Refusal.{Refusal}
use Rattle.reuse_edit.specs.Amend.{removal_edit, some_text}
use Rattle.reuse_edit.specs.Edit.{Edit, edit_between, edit_to}
use Rattle.reuse_edit.specs.Removed.{amended_or_refused, in_turn, left_beside, left_inside, neighbour_left}
use Rattle.reuse_edit.specs.Removed.{neighbour_removal_of, or_refused, removal_of, text_left}
use Rattle.reuse_edit.proofs.EditLemmas.{edited_to}

-- both steps of a call that isn't refused
pub parts_of : {A : Type 0} (path : List ℕ) (first : Result (List ℕ) AmendHeaderRefusal)
    (next : List ℕ → Result A HeaderRefusal) (left : A)
    → in_turn (λ made. or_refused path (next made)) (amended_or_refused path first) ≡ Ok left
    → (amended : List ℕ) × (first ≡ Ok amended) × (next amended ≡ Ok left)
parts_of {A = A} path (Err refusal) next left e = absurd (cc)
parts_of {A = A} path (Ok amended) next left e = (amended, refl, of_next (next amended) e)
  where
    of_next : (given : Result A HeaderRefusal) → or_refused path given ≡ Ok left → given ≡ Ok left
    of_next (Err refusal) h = absurd (cc)
    of_next (Ok made) h = let same : made ≡ left = cc in ap (λ x. Ok x) same

-- what the rules accept in both steps isn't refused
pub turn_done : {A : Type 0} (path : List ℕ) (first : Result (List ℕ) AmendHeaderRefusal)
    (next : List ℕ → Result A HeaderRefusal) (amended : List ℕ) → first ≡ Ok amended → IsOk (next amended)
    → (left : A) × (in_turn (λ made. or_refused path (next made)) (amended_or_refused path first) ≡ Ok left)
turn_done {A = A} path first next amended is ok = of_next (next amended) refl ok
  where
    of_next : (given : Result A HeaderRefusal) → next amended ≡ given → IsOk given
        → (left : A) × (in_turn (λ made. or_refused path (next made)) (amended_or_refused path first) ≡ Ok left)
    of_next (Err refusal) e f = absurd (false≢true f)
    of_next (Ok left) e f = (
      left,
      ap (λ x. in_turn (λ made. or_refused path (next made)) (amended_or_refused path x)) is ∙ ap (or_refused path) e,
    )

pub record InsideParts (values : Amendments) (removal : HeaderRemoval) (style : Style) (path bytes : List ℕ)
    (given : Option Edit) : Type 0 where
  pub amended : List ℕ
  pub made : List ℕ
  pub by_values : amended_file bytes (amendment_of style values bytes) ≡ Ok amended
  pub by_removal : text_left amended (removal_of removal style amended) ≡ Ok made
  pub gives : edited_to (edit_between path bytes made) ≡ Ok given

pub inside_parts : (values : Amendments) (removal : HeaderRemoval) (style : Style) (path bytes : List ℕ)
    (given : Option Edit) → removal_edit path bytes (some_text (left_inside values removal style path bytes)) ≡ Ok given
    → InsideParts values removal style path bytes given
inside_parts values removal style path bytes given h = of_left (left_inside values removal style path bytes) refl h
  where
    of_left : (left : Result (List ℕ) Refusal) → left_inside values removal style path bytes ≡ left
        → removal_edit path bytes (some_text left) ≡ Ok given → InsideParts values removal style path bytes given
    of_left (Err refusal) is e = absurd (cc)
    of_left (Ok made) is e =
        let parts = parts_of path (amended_file bytes (amendment_of style values bytes))
        (λ text. text_left text (removal_of removal style text)) made is in
        record { amended = parts.0; made = made; by_values = parts.1; by_removal = parts.2; gives = e }

pub record BesideParts (values : Amendments) (removal : HeaderRemoval) (at bytes : List ℕ)
    (given : Option Edit) : Type 0 where
  pub amended : List ℕ
  pub left : Option (List ℕ)
  pub by_values : amended_file bytes (neighbour_amendment_of values bytes) ≡ Ok amended
  pub by_removal : neighbour_left amended (neighbour_removal_of removal amended) ≡ Ok left
  pub gives : edited_to (edit_to at bytes left) ≡ Ok given

pub beside_parts : (values : Amendments) (removal : HeaderRemoval) (path at bytes : List ℕ) (given : Option Edit)
    → removal_edit at bytes (left_beside values removal path bytes) ≡ Ok given
    → BesideParts values removal at bytes given
beside_parts values removal path at bytes given h = of_left (left_beside values removal path bytes) refl h
  where
    of_left : (left : Result (Option (List ℕ)) Refusal) → left_beside values removal path bytes ≡ left
        → removal_edit at bytes left ≡ Ok given → BesideParts values removal at bytes given
    of_left (Err refusal) is e = absurd (cc)
    of_left (Ok left) is e =
        let parts = parts_of path (amended_file bytes (neighbour_amendment_of values bytes))
        (λ text. neighbour_left text (neighbour_removal_of removal text)) left is in
        record { amended = parts.0; left = left; by_values = parts.1; by_removal = parts.2; gives = e }
