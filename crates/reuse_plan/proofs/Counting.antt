-- What a call counts while it plans.
use Rattle.std.proofs.Common.{◌≡◌, ◌∙◌, suc, Bool, true, false, cond, List, [], ◌∷◌, ◌++◌, map, filter_map, Option}
use Rattle.std.proofs.Common.{None, Some, Result, Ok, Err, OnOk, refl, sym, ap, ap₂, subst, ℕ, ◌+◌, ◌<◌, length, take}
use Rattle.std.proofs.Common.{get_or, option_to_list}
use Rattle.std.specs.List.{cons_option}
use Rattle.std.proofs.lemmas.List.{take_more}
use Rattle.std.proofs.lemmas.List.Elements.{filter_map-append}
use Rattle.reuse_header.specs.declared.harm.Harm.{Harm}
use Rattle.reuse_change.specs.Files.{Files}
use Rattle.reuse_change.specs.declared.change.Change.{Change}
use Rattle.reuse_plan.specs.Counted.{skipped_count, skipped_planned, harmed, harmed_at, harmed_by, harmed_planned}
use Rattle.reuse_plan.specs.PathOutcomes.{path_outcome_of, path_outcomes_of, limit_path_outcomes, left_at, left_by}
use Rattle.reuse_plan.specs.PathOutcomes.{left_paths}
use Rattle.reuse_edit.specs.Edit.{Edit}
use Rattle.reuse_plan.specs.Outcome.{edits_of, path_edits_of, is_too_many}
use Rattle.reuse_edit.specs.PathEdits.{PathEdit}
use Rattle.reuse_edit.specs.PathPlans.{ArePlansOf, IsPlanOf}
use Rattle.reuse_plan.specs.Planned.{left_planned, left_planned_by, path_outcome_planned}
use Rattle.reuse_command.specs.Command.{is_amend}
use Rattle.reuse_command.specs.declared.command.Command.{Command}
use Rattle.reuse_command.specs.declared.command.Command.TheVariants.{Amend}
use Rattle.std.proofs.lemmas.Bool.{false≢true}
use Rattle.reuse_command.specs.declared.path_outcome.PathOutcome.{PathOutcome}
use Rattle.reuse_command.specs.declared.path_outcome.PathOutcome.TheVariants as path_outcome
use Rattle.reuse_edit.specs.Answered.{MakesEdit}
use Rattle.reuse_edit.specs.declared.path_plan.PathPlan.{PathPlan}
use Rattle.reuse_edit.specs.declared.path_plan.PathPlan.TheVariants as plan
use Rattle.reuse_edit.specs.declared.path_plan.Policy.{Policy}
use Rattle.reuse_command.specs.declared.reply.Refusal.{Refusal}
use Rattle.reuse_command.specs.declared.reply.Refusal.TheVariants as refusals
use Rattle.reuse_edit.proofs.EditResults.{no_edit}
use Rattle.reuse_plan.proofs.PathPlanning.{of_one, path_outcomes_are}

-- ---- files that are skipped

skips_planned : (plans : List PathPlan) → skipped_planned plans ≡ skipped_count (map path_outcome_planned plans)
skips_planned [] = refl
skips_planned (plan.Change change harm ∷ plans) = skips_planned plans
skips_planned (plan.Unchanged path ∷ plans) = skips_planned plans
skips_planned (plan.Left path None ∷ plans) = skips_planned plans
skips_planned (plan.Left path (Some change) ∷ plans) = skips_planned plans
skips_planned (plan.Skipped path ∷ plans) = ap suc (skips_planned plans)
skips_planned (plan.Refused refusal ∷ plans) = skips_planned plans

-- no file is skipped since the edits are too many
none_at_limit : (given : Result (List Edit) Refusal) → skipped_count (limit_path_outcomes given) ≡ 0
none_at_limit (Err refusal) = refl
none_at_limit (Ok edits) = by_size (is_too_many edits)
  where
    by_size : (b : Bool) → skipped_count (cond b (path_outcome.Refused refusals.TooMany ∷ []) []) ≡ 0
    by_size true = refl
    by_size false = refl

none_behind : (path_outcomes others : List PathOutcome) → skipped_count others ≡ 0
    → skipped_count (path_outcomes ++ others) ≡ skipped_count path_outcomes
none_behind [] others none = none
none_behind (path_outcome.Changes path harm ∷ path_outcomes) others none = none_behind path_outcomes others none
none_behind (path_outcome.Unchanged path ∷ path_outcomes) others none = none_behind path_outcomes others none
none_behind (path_outcome.Skipped path ∷ path_outcomes) others none = ap suc (none_behind path_outcomes others none)
none_behind (path_outcome.Refused refusal ∷ path_outcomes) others none = none_behind path_outcomes others none
none_behind (path_outcome.Left path ∷ path_outcomes) others none = none_behind path_outcomes others none

-- no file is skipped where it is left
left_alone : (paths : List (List ℕ)) → skipped_count (map path_outcome.Left paths) ≡ 0
left_alone [] = refl
left_alone (path ∷ paths) = left_alone paths

-- the plans of a command skip as many files as its path outcomes say
pub skips_are : (policy : Policy) (command : Command) (tree : Files) (plans : List PathPlan) → ArePlansOf policy tree
    (path_edits_of command tree) plans → skipped_planned plans ≡ skipped_count (path_outcomes_of command tree)
unfolding path_outcomes_of
skips_are policy command tree plans are =
    let all = path_edits_of command tree in
    let limit = limit_path_outcomes (edits_of command tree) in
    let left = left_paths command tree in
    skips_planned plans ∙ ap skipped_count (path_outcomes_are policy tree all plans are)
    ∙ sym (none_behind (map path_outcome_of all ++ limit) (map path_outcome.Left left) (left_alone left)
    ∙ none_behind (map path_outcome_of all) limit (none_at_limit (edits_of command tree)))

-- ---- files into which a header goes that could break something

-- nothing breaks where nothing changes, nor where that is refused
unchanged_whole : (harm : Option Harm) → None ≡ harmed_by harm no_edit
unchanged_whole None = refl
unchanged_whole (Some harm) = refl

refused_whole : (harm : Option Harm) (refusal : Refusal) → None ≡ harmed_by harm (Err refusal)
refused_whole None refusal = refl
refused_whole (Some harm) refusal = refl

module _ (policy : Policy) (tree : Files) where
  harm_is : (here : PathEdit) (one : PathPlan) → IsPlanOf policy tree here one → harmed_planned one ≡ harmed_at here
  harm_is here (plan.Change change None) is = ap (λ h. harmed_by h here.edit) is.3
  harm_is here (plan.Change change (Some harm)) is =
      ap (λ p. Some (harmed p harm)) is.2.path ∙ ap₂ harmed_by is.3 (sym is.1)
  harm_is here (plan.Unchanged path) is = unchanged_whole here.harm ∙ ap (harmed_by here.harm) (sym is.1)
  harm_is here (plan.Left path change) is = ap (λ h. harmed_by h here.edit) (sym is.4)
  harm_is here (plan.Skipped path) is = unchanged_whole here.harm ∙ ap (harmed_by here.harm) (sym is.1)
  harm_is here (plan.Refused refusal) is = refused_whole here.harm refusal ∙ ap (harmed_by here.harm) (sym is.0)

  -- the plans of paths say of the same files what could break there
  pub harms_are : (all : List PathEdit) (plans : List PathPlan) → ArePlansOf policy tree all plans
      → filter_map harmed_planned plans ≡ filter_map harmed_at all
  harms_are [] [] are = refl
  harms_are (here ∷ all) (one ∷ plans) are = ap₂ cons_option (harm_is here one are.0) (harms_are all plans are.1)
  harms_are all plans are = absurd are

-- ---- paths that amend leaves

module _ (policy : Policy) (tree : Files) where
  -- what stays, or changes as an edit says, isn't refused
  not_refused : (path : List ℕ) (left : Bool) (given : Result (Option Edit) Refusal) (change : Option Change)
      → MakesEdit tree given change → left_by path left given ≡ cond left (Some path) None
  not_refused path left given None made = ap (left_by path left) made
  not_refused path left given (Some change) made = ap (left_by path left) made.1

  left_is : (here : PathEdit) (one : PathPlan) → IsPlanOf policy tree here one → left_planned one ≡ left_at here
  left_is here (plan.Change change harm) is = sym (ap₂ (left_by here.path) is.4 is.1)
  left_is here (plan.Unchanged path) is = sym (ap₂ (left_by here.path) is.3 is.1)
  left_is here (plan.Skipped path) is = sym (ap₂ (left_by here.path) is.3 is.1)
  left_is here (plan.Refused refusal) is = sym (ap (left_by here.path here.left) is.0)
  left_is here (plan.Left path change) is = sym (not_refused here.path here.left here.edit change is.1
      ∙ ap (λ b. cond b (Some here.path) None) is.3 ∙ ap (λ p. Some p) (sym is.0))

  -- the plans of paths leave the same of them
  paths_are : (all : List PathEdit) (plans : List PathPlan) → ArePlansOf policy tree all plans
      → filter_map left_planned plans ≡ filter_map left_at all
  paths_are [] [] are = refl
  paths_are (here ∷ all) (one ∷ plans) are = ap₂ cons_option (left_is here one are.0) (paths_are all plans are.1)
  paths_are all plans are = absurd are

-- the plans of a command leave what it leaves
pub left_are : (policy : Policy) (command : Command) (tree : Files) (plans : List PathPlan)
    → ArePlansOf policy tree (path_edits_of command tree) plans
    → left_planned_by command plans ≡ left_paths command tree
unfolding left_paths
left_are policy (Amend places amendment scope) tree plans are =
    paths_are policy tree (path_edits_of (Amend places amendment scope) tree) plans are
left_are policy command tree plans are = refl

pub none_left : (command : Command) (plans : List PathPlan) → is_amend command ≡ false
    → left_planned_by command plans ≡ []
none_left (Amend places amendment scope) plans none = absurd (false≢true (sym none))
none_left command plans none = refl

-- ---- one plan more

-- so it is of what is found in each of the plans
pub found_more : {A : Type 0} (find : PathPlan → Option A) (plans : List PathPlan) (i : ℕ) (d : PathPlan)
    (old new : List A) → i < length plans → old ≡ filter_map find (take i plans)
    → new ≡ old ++ option_to_list (find (get_or plans i d)) → new ≡ filter_map find (take (i + 1) plans)
found_more find plans i d old new low so is =
    let at = get_or plans i d in
    is ∙ ap (λ fs. fs ++ option_to_list (find at)) so
    ∙ ap (λ fs. filter_map find (take i plans) ++ fs) (sym (of_one (find at)))
    ∙ sym (filter_map-append find (take i plans) (at ∷ []))
    ∙ ap (filter_map find) (sym (take_more plans i d low))

-- ---- sessions

-- what is so of each answer is so of one that is no refusal
pub on_ok : {A B : Type 0} (result : Result A B) (Claim : Type 0) → Claim → OnOk result Claim
on_ok (Ok value) Claim is = is
on_ok (Err refusal) Claim is = tt

-- what is so of an answer that is no refusal
pub of_ok : {A B : Type 0} (result : Result A B) (value : A) (Claim : Type 0) → result ≡ Ok value
    → OnOk result Claim → Claim
of_ok result value Claim is so = subst (λ r. OnOk r Claim) is so
