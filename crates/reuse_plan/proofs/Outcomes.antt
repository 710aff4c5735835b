-- The tree that a command gives, and the edits that make it.
use Rattle.std.proofs.Common.{◌≡◌, ◌+◌, ◌≤◌, false, cond, ◌||◌, nat_lt, List, length, Option, Some, None, Result, Ok}
use Rattle.std.proofs.Common.{Err, refl, sym, ap, ap₂, subst, ◌∙◌, sum_by}
use Rattle.std.proofs.lemmas.Bool.{le-ltb, ltb-false, or_parts}
use Rattle.reuse_change.specs.Files.{Files}
use Rattle.reuse_plan.specs.Downloads.{unless_refused}
use Rattle.reuse_edit.specs.Edit.{Edit}
use Rattle.reuse_plan.specs.Outcome.{edit_count, edit_size, edited, is_too_many, recorded_size, tree_after}
use Rattle.reuse_command.specs.declared.reply.Refusal.{Refusal}
use Rattle.reuse_command.specs.declared.reply.Refusal.TheVariants.{TooMany}
use Rattle.reuse_edit.proofs.Results.{err_or, same_Ok}

abbrev pub ok_edits : List Edit → Result (List Edit) Refusal
ok_edits edits = Ok edits

abbrev made_tree : Files → Result Files Refusal
made_tree tree = Ok tree

-- a tree is that of edits which aren't too many
pub edits_of_tree : (tree after : Files) (given : Result (List Edit) Refusal) → tree_after tree given ≡ Ok after
    → (edits : List Edit) × (given ≡ Ok edits) × (edited tree edits ≡ after) × (is_too_many edits ≡ false)
edits_of_tree tree after (Err refusal) h = absurd (cc)
edits_of_tree tree after (Ok edits) h =
    let made = err_or (is_too_many edits) TooMany (made_tree (edited tree edits)) after h in
    (edits, refl, same_Ok (edited tree edits) after made.1, made.0)

pub edits_unless : (refusal : Option Refusal) (edits given : List Edit) → unless_refused refusal edits ≡ Ok given
    → (refusal ≡ None) × (edits ≡ given)
edits_unless (Some refusal) edits given h = absurd (cc)
edits_unless None edits given h = (refl, same_Ok edits given h)

-- ---- what one entry holds

abbrev pub Holds : Result (List Edit) Refusal → Type 0
Holds given = (edit_count given ≤ 100_000) × (recorded_size given ≤ 268_435_456)

-- the edits of a tree that comes out are some that one entry holds
pub held : (tree after : Files) (given : Result (List Edit) Refusal) → tree_after tree given ≡ Ok after → Holds given
held tree after given h =
    let of_tree = edits_of_tree tree after given h in
    let few =
    or_parts (nat_lt 100_000 (length of_tree.0)) (nat_lt 268_435_456 (256 + sum_by edit_size of_tree.0)) of_tree.3 in
    subst Holds (sym of_tree.1)
    (ltb-false 100_000 (length of_tree.0) few.0, ltb-false 268_435_456 (256 + sum_by edit_size of_tree.0) few.1)

pub few_held : (edits : List Edit) → Holds (ok_edits edits) → is_too_many edits ≡ false
few_held edits holds = ap₂ (λ a b. a || b) (le-ltb 100_000 (length edits) holds.0)
    (le-ltb 268_435_456 (256 + sum_by edit_size edits) holds.1)

-- and where there are some that one entry holds, a tree comes out
pub tree_comes : (tree : Files) (given : Result (List Edit) Refusal) (edits : List Edit) → given ≡ Ok edits
    → Holds given → (after : Files) × (tree_after tree given ≡ Ok after)
tree_comes tree given edits is holds = (
  edited tree edits,
  ap (tree_after tree) is
      ∙ ap (λ b. cond b (Err TooMany) (made_tree (edited tree edits))) (few_held edits (subst Holds is holds)),
)
