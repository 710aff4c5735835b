-- Where an edit is made, and what it leaves there.
use Rattle.std.proofs.Common.{◌≡◌, ◌≢◌, ℕ, Bool, true, false, cond, List, Option, Some, None, Result, Ok, refl, sym}
use Rattle.std.proofs.Common.{subst, ◌∙◌, take, drop, Err, ap, bytes_eq}
use Rattle.reuse_command.specs.Reading.{get, Files}
use Rattle.reuse_edit.specs.Annotate.{edit_by}
use Rattle.reuse_edit.specs.declared.target.Target.{Target}
use Rattle.reuse_command.specs.declared.reply.Refusal.{Refusal}
use Rattle.reuse_edit.proofs.Results.{same_Ok}
use Rattle.std.proofs.lemmas.Slice.Eq.{bytes_eq-Decides}
use Rattle.reuse_header.specs.Annotation as header
use Rattle.reuse_edit.specs.Annotations.{Expected}
use Rattle.reuse_edit.specs.Edit.{Edit, file_then}
use Rattle.reuse_edit.proofs.EditResults.{done}

-- ---- why the licensing information of a file goes to the place that is chosen

abbrev pub aimed : Target → Result Target Refusal
aimed target = Ok target

-- these bytes are made of those at a place: nothing is done where they are the same
abbrev pub IsEditTo : List ℕ → List ℕ → List ℕ → Option Edit → Type 0
IsEditTo at bytes made None = made ≡ bytes
IsEditTo at bytes made (Some edit) = (edit.path ≡ at) × (edit.file ≡ Some made) × (bytes_eq made bytes ≡ false)

pub makes_by : (path at bytes : List ℕ) (expected : Expected) (given : Option Edit)
    → edit_by path at bytes expected ≡ Ok given
    → (edit : header.Edit) × (expected ≡ Ok edit) × IsEditTo at bytes (header.edited bytes edit) given
makes_by path at bytes (Err refusal) given h = absurd (cc)
makes_by path at bytes (Ok edit) given h = (edit, refl, of_test (bytes_eq (header.edited bytes edit) bytes) refl h)
  where
    it : Edit
    it = record {
      path = at;
      removed = take edit.old_len (drop edit.start bytes);
      written = header.new_bytes edit;
      file = Some (header.edited bytes edit);
    }

    of_test : (b : Bool) → bytes_eq (header.edited bytes edit) bytes ≡ b
        → cond b (done None) (done (Some it)) ≡ done given → IsEditTo at bytes (header.edited bytes edit) given
    of_test true e k = subst (IsEditTo at bytes (header.edited bytes edit)) (same_Ok None given k)
        ((bytes_eq-Decides (header.edited bytes edit) bytes).0 e)
    of_test false e k = subst (IsEditTo at bytes (header.edited bytes edit)) (same_Ok (Some it) given k) (refl, refl, e)

module _ (tree : Files) (at bytes made : List ℕ) where
  pub then_here : (given : Option Edit) → IsEditTo at bytes made given → get tree at ≡ Some bytes
      → file_then tree given at ≡ Some made
  then_here None makes here = here ∙ ap (λ xs. Some xs) (sym makes)
  then_here (Some edit) makes here =
      ap (λ b. cond b edit.file (get tree at)) ((bytes_eq-Decides at edit.path).1 (sym makes.0)) ∙ makes.1

  pub then_other : (given : Option Edit) (path : List ℕ) → IsEditTo at bytes made given → path ≢ at
      → file_then tree given path ≡ get tree path
  then_other None path makes other = refl
  then_other (Some edit) path makes other =
      ap (λ b. cond b edit.file (get tree path)) (of_test (bytes_eq path edit.path) refl)
    where
      of_test : (b : Bool) → bytes_eq path edit.path ≡ b → b ≡ false
      of_test true e = absurd (other ((bytes_eq-Decides path edit.path).0 e ∙ makes.0))
      of_test false e = refl
