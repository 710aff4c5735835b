-- Plans of paths: what a walk has planned so far, and what a run and a preview make of its plans.
use Rattle.std.proofs.Common.{◌≡◌, ◌↔◌, ℕ, Bool, true, false, cond, List, [], ◌∷◌, ◌++◌, map, Option, Some, None}
use Rattle.std.proofs.Common.{Result, Ok, Err, refl, sym, ap, ◌∙◌, ◌||◌, ap₂, subst, append_assoc, length, arith}
use Rattle.std.specs.Option.{option_or, option_to_list}
use Rattle.reuse_change.specs.Files.{Files}
use Rattle.reuse_header.specs.declared.harm.Harm.{Harm}
use Rattle.reuse_plan.specs.PathOutcomes.{path_outcome_by, path_outcome_of, limit_path_outcomes, path_outcomes_of}
use Rattle.reuse_plan.specs.PathOutcomes.{first_refusal, left_paths}
use Rattle.reuse_edit.specs.Edit.{Edit}
use Rattle.reuse_plan.specs.Outcome.{edited, is_too_many, path_edits_of, edits_of, tree_after, outcome_of}
use Rattle.reuse_edit.specs.PathEdits.{PathEdit, or_first, edits_in}
use Rattle.reuse_command.specs.declared.command.Command.{Command}
use Rattle.reuse_command.specs.declared.path_outcome.PathOutcome.{PathOutcome}
use Rattle.reuse_command.specs.declared.path_outcome.PathOutcome.TheVariants as path_outcome
use Rattle.reuse_command.specs.declared.reply.Refusal.{Refusal}
use Rattle.reuse_command.specs.declared.reply.Refusal.TheVariants as refusals
use Rattle.std.specs.List.{cons_option, list_any}
use Rattle.std.proofs.lemmas.Bool.{false≢true}
use Rattle.std.proofs.lemmas.List.{append-nil}
use Rattle.std.proofs.lemmas.List.Elements.{filter_map-append}
use Rattle.reuse_change.specs.declared.change.Change.{Change}
use Rattle.reuse_edit.specs.PathPlans.{IsPlanOf, ArePlansOf, EndsWalk}
use Rattle.reuse_plan.specs.Planned.{change_planned, changes_planned, path_outcome_planned, is_refusal, limit_planned}
use Rattle.reuse_plan.specs.Planned.{are_too_many}
use Rattle.reuse_edit.specs.Answered.{MakesEdits, IsRefusalOf}
use Rattle.reuse_edit.specs.declared.path_plan.PathPlan.{PathPlan}
use Rattle.reuse_edit.specs.declared.path_plan.PathPlan.TheVariants as plan
use Rattle.reuse_edit.specs.declared.path_plan.Policy.{Policy}
use Rattle.reuse_edit.specs.declared.path_plan.Policy.TheVariants.{Stop, Collect}
use Rattle.reuse_command.specs.declared.failure.Failure.TheVariants as failures
use Rattle.reuse_plan.proofs.Planning.{same_many}
use Rattle.reuse_command.specs.declared.reply.Refusal.TheVariants.{TooMany}

-- ---- a command is refused as the first of its paths' path outcomes is

-- the refusal of a result, if it is one
abbrev refusal_in : {A : Type 0} → Result A Refusal → Option Refusal
refusal_in (Ok x) = None
refusal_in (Err refusal) = Some refusal

first_append : (xs ys : List PathOutcome) → first_refusal (xs ++ ys) ≡ option_or (first_refusal xs) (first_refusal ys)
first_append [] ys = refl
first_append (path_outcome.Refused refusal ∷ xs) ys = refl
first_append (path_outcome.Changes path harm ∷ xs) ys = first_append xs ys
first_append (path_outcome.Unchanged path ∷ xs) ys = first_append xs ys
first_append (path_outcome.Skipped path ∷ xs) ys = first_append xs ys
first_append (path_outcome.Left path ∷ xs) ys = first_append xs ys

-- no path that is left is refused
none_left : (paths : List (List ℕ)) → first_refusal (map path_outcome.Left paths) ≡ None
none_left [] = refl
none_left (path ∷ paths) = none_left paths

or_none : (refusal : Option Refusal) → option_or refusal None ≡ refusal
or_none None = refl
or_none (Some refusal) = refl

first_in_front : (path_outcomes : List PathOutcome) (paths : List (List ℕ))
    → first_refusal (path_outcomes ++ map path_outcome.Left paths) ≡ first_refusal path_outcomes
first_in_front path_outcomes paths = first_append path_outcomes (map path_outcome.Left paths)
    ∙ ap (option_or (first_refusal path_outcomes)) (none_left paths) ∙ or_none (first_refusal path_outcomes)

first_one : (path : List ℕ) (skipped : Bool) (harm : Option Harm) (edit : Result (Option Edit) Refusal)
    (path_outcomes : List PathOutcome) (rest : Result (List Edit) Refusal)
    → first_refusal path_outcomes ≡ refusal_in rest
    → first_refusal (path_outcome_by path skipped harm edit ∷ path_outcomes) ≡ refusal_in (or_first edit rest)
first_one path skipped harm (Err refusal) path_outcomes rest h = refl
first_one path skipped harm (Ok (Some e)) path_outcomes (Err refusal) h = h
first_one path skipped harm (Ok (Some e)) path_outcomes (Ok edits) h = h
first_one path true harm (Ok None) path_outcomes (Err refusal) h = h
first_one path true harm (Ok None) path_outcomes (Ok edits) h = h
first_one path false harm (Ok None) path_outcomes (Err refusal) h = h
first_one path false harm (Ok None) path_outcomes (Ok edits) h = h

first_of_paths : (all : List PathEdit) → first_refusal (map path_outcome_of all) ≡ refusal_in (edits_in all)
first_of_paths [] = refl
first_of_paths (here ∷ all) =
    first_one here.path here.skipped here.harm here.edit (map path_outcome_of all) (edits_in all) (first_of_paths all)

first_of_limit : (tree : Files) (given : Result (List Edit) Refusal)
    → option_or (refusal_in given) (first_refusal (limit_path_outcomes given)) ≡ refusal_in (tree_after tree given)
first_of_limit tree (Err refusal) = refl
first_of_limit tree (Ok edits) = by_size (is_too_many edits)
  where
    by_size : (b : Bool) → first_refusal (cond b (path_outcome.Refused refusals.TooMany ∷ []) []) ≡ refusal_in
        (cond b (Err refusals.TooMany) (Ok (edited tree edits)))
    by_size true = refl
    by_size false = refl

first_of_all : (command : Command) (tree : Files)
    → first_refusal (path_outcomes_of command tree) ≡ refusal_in (outcome_of command tree)
unfolding path_outcomes_of outcome_of
first_of_all command tree =
    let limit = limit_path_outcomes (edits_of command tree) in
    let left = left_paths command tree in
    let reported = map path_outcome_of (path_edits_of command tree) in
    first_in_front (reported ++ limit) left ∙ first_append reported limit
    ∙ ap (λ o. option_or o (first_refusal limit)) (first_of_paths (path_edits_of command tree))
    ∙ first_of_limit tree (edits_of command tree)

is_err : (given : Result Files Refusal) (refusal : Refusal) → refusal_in given ≡ Some refusal → given ≡ Err refusal
is_err (Ok after) refusal e = absurd (cc)
is_err (Err other) refusal e = cc

is_tree : (given : Result Files Refusal) → refusal_in given ≡ None → (after : Files) × (given ≡ Ok after)
is_tree (Ok after) e = (after, refl)
is_tree (Err other) e = absurd (cc)

pub refused_by_first : (command : Command) (tree : Files) (refusal : Refusal)
    → (outcome_of command tree ≡ Err refusal) ↔ (first_refusal (path_outcomes_of command tree) ≡ Some refusal)
refused_by_first command tree refusal = (
  λ e. first_of_all command tree ∙ ap refusal_in e,
  λ e. is_err (outcome_of command tree) refusal (sym (first_of_all command tree) ∙ e),
)

pub accepted_without : (command : Command) (tree : Files)
    → (first_refusal (path_outcomes_of command tree) ≡ None) ↔ ((after : Files) × (outcome_of command tree ≡ Ok after))
accepted_without command tree = (
  λ e. is_tree (outcome_of command tree) (sym (first_of_all command tree) ∙ e),
  λ got. first_of_all command tree ∙ ap refusal_in got.1,
)

-- ---- plans of paths: what a walk has planned so far, and what is made of its plans

-- ---- one path

-- ---- one path after the other

pub one_more : (policy : Policy) (tree : Files) (done : List PathEdit) (plans : List PathPlan) (here : PathEdit)
    (one : PathPlan) → ArePlansOf policy tree done plans → IsPlanOf policy tree here one
    → ArePlansOf policy tree (done ++ here ∷ []) (plans ++ one ∷ [])
one_more policy tree [] [] here one are is = (is, tt)
one_more policy tree (first ∷ done) (p ∷ plans) here one are is =
    (are.0, one_more policy tree done plans here one are.1 is)
one_more policy tree done plans here one are is = absurd are

-- the plans so far are of the paths that are done; these are left
pub record WalkedSoFar (policy : Policy) (tree : Files) (all left : List PathEdit)
    (plans : List PathPlan) : Type 0 where
  pub done : List PathEdit
  pub are : ArePlansOf policy tree done plans
  pub same : done ++ left ≡ all

-- a path at which the walk stops has its first refusal
stops_at : (tree : Files) (done : List PathEdit) (plans : List PathPlan) (here : PathEdit) (rest : List PathEdit)
    (refusal : Refusal) → ArePlansOf Stop tree done plans → here.edit ≡ Err refusal
    → edits_in (done ++ here ∷ rest) ≡ Err refusal
stops_at tree [] [] here rest refusal are e = ap (λ r. or_first r (edits_in rest)) e
stops_at tree (first ∷ done) (plan.Refused other ∷ plans) here rest refusal are e = absurd (cc are.0.2)
stops_at tree (first ∷ done) (plan.Left path None ∷ plans) here rest refusal are e =
    ap₂ or_first are.0.1 (stops_at tree done plans here rest refusal are.1 e)
stops_at tree (first ∷ done) (plan.Left path (Some change) ∷ plans) here rest refusal are e =
    ap₂ or_first are.0.1.1 (stops_at tree done plans here rest refusal are.1 e)
stops_at tree (first ∷ done) (one ∷ plans) here rest refusal are e =
    ap₂ or_first are.0.1 (stops_at tree done plans here rest refusal are.1 e)
stops_at tree done plans here rest refusal are e = absurd are

ends_at : (policy : Policy) (tree : Files) (done : List PathEdit) (plans : List PathPlan) (here : PathEdit)
    (rest : List PathEdit) (refusal : Refusal) → ArePlansOf policy tree done plans
    → EndsWalk policy refusal → IsRefusalOf here.edit refusal → IsRefusalOf (edits_in (done ++ here ∷ rest)) refusal
ends_at policy tree done plans here rest (refusals.Failed failures.Memory) are ends is = tt
ends_at policy tree done plans here rest (refusals.Failed (failures.Fault fault)) are ends is = tt
ends_at Stop tree done plans here rest refusal are ends is = stops_at tree done plans here rest refusal are is
ends_at Collect tree done plans here rest refusal are ends is = absurd ends

module _ (policy : Policy) (tree : Files) (all : List PathEdit) where
  pub after_plan : (here : PathEdit) (left : List PathEdit) (plans : List PathPlan) (one : PathPlan)
      → WalkedSoFar policy tree all (here ∷ left) plans → IsPlanOf policy tree here one
      → WalkedSoFar policy tree all left (plans ++ one ∷ [])
  after_plan here left plans one so is = record {
    done = so.done ++ here ∷ [];
    are = one_more policy tree so.done plans here one so.are is;
    same = append_assoc so.done (here ∷ []) left ∙ so.same;
  }

  pub at_refusal : (here : PathEdit) (left : List PathEdit) (plans : List PathPlan) (refusal : Refusal)
      → WalkedSoFar policy tree all (here ∷ left) plans → EndsWalk policy refusal → IsRefusalOf here.edit refusal
      → IsRefusalOf (edits_in all) refusal
  at_refusal here left plans refusal so ends is = subst (λ es. IsRefusalOf (edits_in es) refusal) so.same
      (ends_at policy tree so.done plans here left refusal so.are ends is)

  pub at_end : (plans : List PathPlan) → WalkedSoFar policy tree all [] plans → ArePlansOf policy tree all plans
  at_end plans so = subst (λ es. ArePlansOf policy tree es plans) (sym (append-nil so.done) ∙ so.same) so.are

-- ---- what is made of plans

pub none_refused : (tree : Files) (all : List PathEdit) (plans : List PathPlan) → ArePlansOf Stop tree all plans
    → list_any is_refusal plans ≡ false
none_refused tree [] [] are = refl
none_refused tree (here ∷ all) (plan.Refused refusal ∷ plans) are = absurd (cc are.0.2)
none_refused tree (here ∷ all) (one ∷ plans) are = none_refused tree all plans are.1
none_refused tree all plans are = absurd are

module _ (policy : Policy) (tree : Files) where
  -- where nothing is refused, the changes are those of the edits
  pub changes_made : (all : List PathEdit) (plans : List PathPlan) → ArePlansOf policy tree all plans
      → list_any is_refusal plans ≡ false → MakesEdits tree (edits_in all) (changes_planned plans)
  changes_made [] [] are none = ([], refl, tt)
  changes_made (here ∷ all) (plan.Change change harm ∷ plans) are none =
      let rest = changes_made all plans are.1 none in
      (are.0.0 ∷ rest.0, ap₂ or_first are.0.1 rest.1, (are.0.2, rest.2))
  changes_made (here ∷ all) (plan.Left path (Some change) ∷ plans) are none =
      let rest = changes_made all plans are.1 none in
      (are.0.1.0 ∷ rest.0, ap₂ or_first are.0.1.1 rest.1, (are.0.1.2, rest.2))
  changes_made (here ∷ all) (plan.Left path None ∷ plans) are none = let rest = changes_made all plans are.1 none in
      (rest.0, ap₂ or_first are.0.1 rest.1, rest.2)
  changes_made (here ∷ all) (plan.Refused refusal ∷ plans) are none = absurd (false≢true (sym none))
  changes_made (here ∷ all) (one ∷ plans) are none = let rest = changes_made all plans are.1 none in
      (rest.0, ap₂ or_first are.0.1 rest.1, rest.2)
  changes_made all plans are none = absurd are

  -- where one is refused, so are the edits
  pub edits_refused : (all : List PathEdit) (plans : List PathPlan) → ArePlansOf policy tree all plans
      → list_any is_refusal plans ≡ true → (refusal : Refusal) × (edits_in all ≡ Err refusal)
  edits_refused [] [] are some = absurd (false≢true some)
  edits_refused (here ∷ all) (plan.Refused refusal ∷ plans) are some =
      (refusal, ap (λ r. or_first r (edits_in all)) are.0.0)
  edits_refused (here ∷ all) (plan.Left path None ∷ plans) are some = let rest = edits_refused all plans are.1 some in
      (rest.0, ap₂ or_first are.0.1 rest.1)
  edits_refused (here ∷ all) (plan.Left path (Some change) ∷ plans) are some =
      let rest = edits_refused all plans are.1 some in
      (rest.0, ap₂ or_first are.0.1.1 rest.1)
  edits_refused (here ∷ all) (one ∷ plans) are some = let rest = edits_refused all plans are.1 some in
      (rest.0, ap₂ or_first are.0.1 rest.1)
  edits_refused all plans are some = absurd are

  path_outcome_is : (here : PathEdit) (one : PathPlan) → IsPlanOf policy tree here one
      → path_outcome_planned one ≡ path_outcome_of here
  path_outcome_is here (plan.Change change harm) is =
      ap₂ path_outcome.Changes is.2.path is.3 ∙ sym (ap (path_outcome_by here.path here.skipped here.harm) is.1)
  path_outcome_is here (plan.Unchanged path) is =
      ap path_outcome.Unchanged is.0 ∙ sym (ap₂ (λ s. path_outcome_by here.path s here.harm) is.2 is.1)
  path_outcome_is here (plan.Left path None) is =
      ap path_outcome.Unchanged is.0 ∙ sym (ap₂ (λ s. path_outcome_by here.path s here.harm) is.2 is.1)
  path_outcome_is here (plan.Left path (Some change)) is =
      ap₂ path_outcome.Changes is.1.2.path (sym is.4)
      ∙ sym (ap (path_outcome_by here.path here.skipped here.harm) is.1.1)
  path_outcome_is here (plan.Skipped path) is =
      ap path_outcome.Skipped is.0 ∙ sym (ap₂ (λ s. path_outcome_by here.path s here.harm) is.2 is.1)
  path_outcome_is here (plan.Refused refusal) is = sym (ap (path_outcome_by here.path here.skipped here.harm) is.0)

  pub path_outcomes_are : (all : List PathEdit) (plans : List PathPlan) → ArePlansOf policy tree all plans
      → map path_outcome_planned plans ≡ map path_outcome_of all
  path_outcomes_are [] [] are = refl
  path_outcomes_are (here ∷ all) (one ∷ plans) are =
      ap₂ (λ f fs. f ∷ fs) (path_outcome_is here one are.0) (path_outcomes_are all plans are.1)
  path_outcomes_are all plans are = absurd are

  pub limit_is : (all : List PathEdit) (plans : List PathPlan) → ArePlansOf policy tree all plans
      → limit_planned (list_any is_refusal plans) (changes_planned plans) ≡ limit_path_outcomes (edits_in all)
  limit_is all plans are = by_refusal (list_any is_refusal plans) refl
    where
      by_refusal : (b : Bool) → list_any is_refusal plans ≡ b
          → limit_planned b (changes_planned plans) ≡ limit_path_outcomes (edits_in all)
      by_refusal true e = sym (ap limit_path_outcomes (edits_refused all plans are e).1)
      by_refusal false e =
          let made = changes_made all plans are e in
          ap (λ b. cond b (path_outcome.Refused refusals.TooMany ∷ []) [])
          (same_many tree (changes_planned plans) made.0 made.2) ∙ sym (ap limit_path_outcomes made.1)

-- ---- one plan more

pub of_one : {A : Type 0} (o : Option A) → cons_option o [] ≡ option_to_list o
of_one None = refl
of_one (Some x) = refl

pub path_outcomes_more : (plans : List PathPlan) (one : PathPlan)
    → map path_outcome_planned (plans ++ one ∷ []) ≡ map path_outcome_planned plans ++ path_outcome_planned one ∷ []
path_outcomes_more [] one = refl
path_outcomes_more (p ∷ plans) one = ap (λ fs. path_outcome_planned p ∷ fs) (path_outcomes_more plans one)

pub changes_more : (plans : List PathPlan) (one : PathPlan)
    → changes_planned (plans ++ one ∷ []) ≡ changes_planned plans ++ option_to_list (change_planned one)
changes_more plans one = filter_map-append change_planned plans (one ∷ [])
    ∙ ap (λ cs. changes_planned plans ++ cs) (of_one (change_planned one))

pub refused_more : (plans : List PathPlan) (one : PathPlan)
    → list_any is_refusal (plans ++ one ∷ []) ≡ (list_any is_refusal plans || is_refusal one)
refused_more [] one = by_test (is_refusal one)
  where
    by_test : (b : Bool) → (b || false) ≡ (false || b)
    by_test true = refl
    by_test false = refl
refused_more (p ∷ plans) one = ap (λ b. is_refusal p || b) (refused_more plans one)
    ∙ sym (or_assoc (is_refusal p) (list_any is_refusal plans) (is_refusal one))
  where
    or_assoc : (a b c : Bool) → ((a || b) || c) ≡ (a || (b || c))
    or_assoc true b c = refl
    or_assoc false b c = refl

-- no plans are of no paths
pub none_of : (policy : Policy) (tree : Files) (all : List PathEdit) (plans : List PathPlan)
    → ArePlansOf policy tree all plans → plans ≡ [] → all ≡ []
none_of policy tree [] plans are none = refl
none_of policy tree (here ∷ all) [] are none = absurd are
none_of policy tree (here ∷ all) (p ∷ plans) are none = absurd (cc none)

pub no_plans : (plans : List PathPlan) → length plans ≡ 0 → plans ≡ []
no_plans [] e = refl
no_plans (p ∷ plans) e = absurd (omega (arith, e))

-- ---- what a preview plans where it refuses nothing is what a run plans

-- edits, and a refusal, as what is given
abbrev some : List Edit → Result (List Edit) Refusal
some edits = Ok edits

abbrev refused : Refusal → Result (List Edit) Refusal
refused refusal = Err refusal

-- what leaves a tree has edits, and not too many
has_edits : (tree : Files) (given : Result (List Edit) Refusal) (after : Files) → tree_after tree given ≡ Ok after
    → (edits : List Edit) × (given ≡ Ok edits) × (is_too_many edits ≡ false)
has_edits tree (Err refusal) after is = absurd (cc)
has_edits tree (Ok edits) after is = by_size (is_too_many edits) refl is
  where
    by_size : (b : Bool) → is_too_many edits ≡ b → cond b (Err TooMany) (Ok (edited tree edits)) ≡ Ok after
        → (es : List Edit) × (some edits ≡ Ok es) × (is_too_many es ≡ false)
    by_size true size is = absurd (cc)
    by_size false size is = (edits, refl, size)

same_edits : (given : Result (List Edit) Refusal) (one other : List Edit) → given ≡ Ok one
    → given ≡ Ok other → one ≡ other
same_edits given one other is was = cc

not_refused : (given : Result (List Edit) Refusal) (edits : List Edit) (refusal : Refusal) → given ≡ Ok edits
    → given ≡ Err refusal → ⊥
not_refused given edits refusal is was = cc

-- where no path outcome is a refusal
module _ (command : Command) (tree : Files) (plans : List PathPlan) (are : ArePlansOf Collect tree
    (path_edits_of command tree) plans) (accepted : first_refusal (path_outcomes_of command tree) ≡ None) where
  given : (edits : List Edit) × (edits_of command tree ≡ Ok edits) × (is_too_many edits ≡ false)
  unfolding outcome_of
  given = let left = (accepted_without command tree).0 accepted in has_edits tree (edits_of command tree) left.0 left.1

  none_is_refused : (b : Bool) → list_any is_refusal plans ≡ b → list_any is_refusal plans ≡ false
  none_is_refused true is =
      let refused = edits_refused Collect tree (path_edits_of command tree) plans are is in
      absurd (not_refused (edits_of command tree) given.0 refused.0 given.1 refused.1)
  none_is_refused false is = is

  -- the changes are those of the command's edits
  pub accepted_made : MakesEdits tree (edits_of command tree) (changes_planned plans)
  accepted_made = changes_made Collect tree (path_edits_of command tree) plans are
      (none_is_refused (list_any is_refusal plans) refl)

  -- and not too many
  pub accepted_few : are_too_many (changes_planned plans) ≡ false
  accepted_few =
      same_many tree (changes_planned plans) accepted_made.0 accepted_made.2
      ∙ ap is_too_many (same_edits (edits_of command tree) accepted_made.0 given.0 accepted_made.1 given.1) ∙ given.2
