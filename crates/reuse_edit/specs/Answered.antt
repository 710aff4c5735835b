-- When changes or a refusal answer what edits are defined.
use Rattle.std.specs.Prelude.{◌≡◌, true, List, [], ◌∷◌, Option, Some, None, Result, Ok, Err}
use Rattle.std.specs.FinMap.{get}
use Rattle.std.specs.declared.vec.Vec.{Vec}
use Rattle.reuse_change.specs.Files.{Files}
use Rattle.reuse_change.specs.Change.{path_of, is_sealed, IsProper, Applies}
use Rattle.reuse_change.specs.declared.change.Change.{Change}
use Rattle.reuse_edit.specs.Edit.{Edit}
use Rattle.reuse_change.specs.Entry.{removed_by, written_by, IsSmall}
use Rattle.reuse_command.specs.declared.reply.Refusal.{Refusal}
use Rattle.reuse_command.specs.declared.failure.Failure.TheVariants.{Memory, Fault}
use Rattle.reuse_command.specs.declared.reply.Refusal.TheVariants.{Failed}

-- a refusal is that of the outcome, or the store or memory failed
abbrev pub IsRefusalOf : {A : Type 0} → Result A Refusal → Refusal → Type 0
IsRefusalOf outcome (Failed Memory) = Unit {0}
IsRefusalOf outcome (Failed (Fault fault)) = Unit {0}
IsRefusalOf outcome refusal = outcome ≡ Err refusal

-- a value, or a refusal that is the first or reports a fault
abbrev pub AnswersOf : {A : Type 0} → Result A Refusal → Result A Refusal → Type 0
AnswersOf given (Ok value) = given ≡ Ok value
AnswersOf given (Err refusal) = IsRefusalOf given refusal

-- ---- one path

-- the change is sealed, and does on the tree what the edit says
pub record CarriesOutEdit (tree : Files) (change : Change) (edit : Edit) : Type 0 where
  pub path : path_of change ≡ edit.path
  pub removed : removed_by change ≡ edit.removed
  pub written : written_by change ≡ edit.written
  pub proper : IsProper change
  pub small : IsSmall change
  pub applies : Applies change (get tree edit.path) edit.file
  pub sealed : is_sealed change ≡ true

-- a change where there is an edit
abbrev pub MakesEdit : Files → Result (Option Edit) Refusal → Option Change → Type 0
MakesEdit tree given None = given ≡ Ok None
MakesEdit tree given (Some change) = (edit : Edit) × (given ≡ Ok (Some edit)) × CarriesOutEdit tree change edit

-- the change of an edit, or its refusal
abbrev pub AnswersEdit : Files → Result (Option Edit) Refusal → Result (Option Change) Refusal → Type 0
AnswersEdit tree given (Ok change) = MakesEdit tree given change
AnswersEdit tree given (Err refusal) = IsRefusalOf given refusal

-- ---- several paths

-- each change does what its edit says
abbrev pub MakesEach : Files → List Change → List Edit → Type 0
MakesEach tree [] [] = Unit {0}
MakesEach tree (change ∷ changes) (edit ∷ edits) = CarriesOutEdit tree change edit × MakesEach tree changes edits
MakesEach tree [] (edit ∷ edits) = ⊥
MakesEach tree (change ∷ changes) [] = ⊥

-- the changes of edits
abbrev pub MakesEdits : Files → Result (List Edit) Refusal → List Change → Type 0
MakesEdits tree given changes = (edits : List Edit) × (given ≡ Ok edits) × MakesEach tree changes edits

-- the changes of edits, or their refusal
abbrev pub AnswersEdits : {A : Type 0} → Files → Result (List Edit) Refusal → Result (Vec Change A) Refusal → Type 0
AnswersEdits tree given (Ok changes) = MakesEdits tree given changes.items
AnswersEdits tree given (Err refusal) = IsRefusalOf given refusal
