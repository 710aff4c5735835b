-- What a run records is sealed, and so of a format that knows its command.
use Rattle.std.proofs.Common.{◌≡◌, ◌<◌, true, ◌||◌, List, [], ◌∷◌, length, ap, arith, Result}
use Rattle.std.proofs.lemmas.List.Sorted.{All-permutation}
use Rattle.reuse_change.specs.Files.{Files}
use Rattle.reuse_change.specs.Change.{is_sealed}
use Rattle.reuse_change.specs.declared.change.Change.{Change}
use Rattle.reuse_edit.specs.Edit.{Edit}
use Rattle.reuse_change.specs.Entry.{AreAllSealed, IsEntry}
use Rattle.reuse_json.specs.EntryText.{is_any_sealed}
use Rattle.reuse_json.specs.Format.{knows}
use Rattle.reuse_plan.specs.Plan.{Records}
use Rattle.reuse_change.specs.declared.command_name.CommandName.{CommandName}
use Rattle.reuse_command.specs.declared.reply.Refusal.{Refusal}
use Rattle.reuse_plan.proofs.Planning.{sealed_each}

any_sealed : (changes : List Change) → 0 < length changes → AreAllSealed true changes → is_any_sealed changes ≡ true
any_sealed [] some are = absurd (omega arith)
any_sealed (c ∷ cs) some are = ap (λ b. b || is_any_sealed cs) (are 0 c (omega arith))

pub recorded_known : (tree : Files) (given : Result (List Edit) Refusal) (changes : List Change) (command : CommandName)
    → IsEntry changes → Records tree given changes → knows (is_any_sealed changes) command ≡ true
recorded_known tree given changes command entry listed =
    let sealed = All-permutation (λ c. is_sealed c ≡ true) listed.0 changes listed.1
    (sealed_each tree listed.0 listed.2.0 listed.2.2) in
    ap (λ b. knows b command) (any_sealed changes entry.some sealed)
