-- Where no step is missing, the reference model goes back and on between the copies that it keeps.
use Rattle.std.proofs.Common.{◌≡◌, ⊎_elim, ℕ, Bool, true, false, cond, List, [], ◌∷◌, ◌++◌, length, map, Result, Ok}
use Rattle.std.proofs.Common.{Err, refl, sym, ap, subst, ◌∙◌}
use Rattle.std.specs.List.{All}
use Rattle.reuse_change.specs.Entry.{CanBeMade, LeadsBy}
use Rattle.reuse_change.specs.Files.{Files}
use Rattle.reuse_change.specs.Tree.{changed_paths}
use Rattle.reuse_change.specs.declared.change.Change.{Change}
use Rattle.reuse_change.specs.declared.command_name.CommandName.{CommandName}
use Rattle.reuse_change.specs.declared.direction.Direction.TheVariants.{Forward, Backward}
use Rattle.reuse_command.specs.Command.{name_of}
use Rattle.reuse_command.specs.declared.command.Command.{Command}
use Rattle.reuse_command.specs.declared.path_outcome.PathOutcome.{PathOutcome}
use Rattle.reuse_plan.specs.PathOutcomes.{changes_plainly}
use Rattle.reuse_command.specs.declared.reply.Refusal.{Refusal}
use Rattle.reuse_command.specs.declared.reply.Refusal.TheVariants.{JournalFull, NoSuchStep}
use Rattle.reuse_command.specs.declared.reply.Response.{Response}
use Rattle.reuse_command.specs.declared.reply.Response.TheVariants.{Undone, Redone}
use Rattle.reuse_command.specs.declared.request.Call.{Call}
use Rattle.reuse_command.specs.declared.request.Call.TheVariants as calls
use Rattle.reuse_command.specs.declared.request.Request.{Request}
use Rattle.reuse_command.specs.declared.request.Request.TheVariants as requests
use Rattle.reuse_command.specs.declared.request.Steps.{Steps}
use Rattle.reuse_journal.specs.Labels.{is_full}
use Rattle.reuse_plan.specs.Outcome.{outcome_of}
use Rattle.reuse_plan.specs.PathOutcomes.{left_paths}
use Rattle.reuse_session.specs.session.Forgetting.{ForgetsTo, numbers_asked, snapshots_besides}
use Rattle.reuse_session.specs.session.Machine.{Connects, IsUnbroken, Kept, LeadOn, LedUpTo, Snapshots, ran, ran_by}
use Rattle.reuse_session.specs.session.Machine.{redo_path_outcomes, redone, taken, undo_path_outcomes, undone}
use Rattle.reuse_session.specs.session.Model.{AreOf, Gives, GoesThrough, IsUnkept, MakesTo, PreviewsReplayTo, ReplaysTo}
use Rattle.reuse_session.specs.session.Model.{TakesFromTheEnds, as_reverted, command_back, replayed}
use Rattle.reuse_session.specs.session.Showing.{LedBy}
use Rattle.reuse_change.proofs.Differ.{changed_by_entry}
use Rattle.reuse_change.proofs.Walk.{can_lead, leads_back, leads_once, none_stuck}
use Rattle.reuse_session.proofs.lemmas.session.Previewing.{all_change}

-- ---- one step

module _ (state : Snapshots) (kept : Kept) (others : List Kept) (changes : List Change)
    (connects : Connects changes kept.before kept.after) where
  -- a step that led to the tree leads back to the tree before it
  leads_there : kept.after ≡ state.tree → LeadsBy Backward changes state.tree kept.before
  leads_there same = subst (λ t. LeadsBy Backward changes t kept.before) same
      (leads_back changes kept.before kept.after connects.leads)

  can_go_back : kept.after ≡ state.tree → All (CanBeMade Backward state.tree) changes
  can_go_back same =
      can_lead Backward changes state.tree kept.before connects.good connects.are_files.0 (leads_there same)

  back : (answer : Result Response Refusal) (next : Snapshots) → kept.after ≡ state.tree
      → GoesThrough Backward changes kept others state answer next → AreOf (undone state (kept ∷ others)) answer next
  back (Ok reply) next same goes = (
    ap (λ r. Ok r) (goes.0 ∙ ap (λ t. Undone (changed_paths kept.before t)) same),
    goes.3 ∙ ap (replayed Backward kept others state)
        (leads_once Backward changes state.tree next.tree kept.before goes.2 (leads_there same)),
  )
  back (Err refusal) next same goes =
      absurd (none_stuck Backward state.tree changes goes.0.0 (can_go_back same) goes.0.2)

  -- one that led on from it leads on to the tree after it
  leads_on : kept.before ≡ state.tree → LeadsBy Forward changes state.tree kept.after
  leads_on same = subst (λ t. LeadsBy Forward changes t kept.after) same connects.leads

  can_go_on : kept.before ≡ state.tree → All (CanBeMade Forward state.tree) changes
  can_go_on same = can_lead Forward changes state.tree kept.after connects.good connects.are_files.1 (leads_on same)

  on : (answer : Result Response Refusal) (next : Snapshots) → kept.before ≡ state.tree
      → GoesThrough Forward changes kept others state answer next → AreOf (redone state (kept ∷ others)) answer next
  on (Ok reply) next same goes = (
    ap (λ r. Ok r) (goes.0 ∙ ap (λ t. Redone (changed_paths t kept.after)) same),
    goes.3 ∙ ap (replayed Forward kept others state)
        (leads_once Forward changes state.tree next.tree kept.after goes.2 (leads_on same)),
  )
  on (Err refusal) next same goes = absurd (none_stuck Forward state.tree changes goes.0.0 (can_go_on same) goes.0.2)

-- the steps of a front part lead so, too
led_front : (tree : Files) (front behind : List Kept) → LedUpTo tree (front ++ behind) → LedUpTo tree front
led_front tree [] behind led = tt
led_front tree (kept ∷ front) behind led = (led.0, led_front kept.before front behind led.1)

lead_front : (tree : Files) (front behind : List Kept) → LeadOn tree (front ++ behind) → LeadOn tree front
lead_front tree [] behind lead = tt
lead_front tree (kept ∷ front) behind lead = (lead.0, lead_front kept.after front behind lead.1)

module _ (state : Snapshots) (unbroken : IsUnbroken state) where
  pub back_to_copy : (answer : Result Response Refusal) (next : Snapshots)
      → ReplaysTo Backward state.past state answer next → AreOf (undone state state.past) answer next
  back_to_copy answer next replays = at state.past unbroken.past replays
    where
      at : (past : List Kept) → LedUpTo state.tree past → ReplaysTo Backward past state answer next
          → AreOf (undone state past) answer next
      at [] led replays = replays
      at (kept ∷ past) led replays = back state kept past replays.0 replays.1 answer next led.0 replays.2

  pub on_to_copy : (answer : Result Response Refusal) (next : Snapshots)
      → ReplaysTo Forward state.future state answer next → AreOf (redone state state.future) answer next
  on_to_copy answer next replays = at state.future unbroken.future replays
    where
      at : (future : List Kept) → LeadOn state.tree future → ReplaysTo Forward future state answer next
          → AreOf (redone state future) answer next
      at [] led replays = replays
      at (kept ∷ future) led replays = on state kept future replays.0 replays.1 answer next led.0 replays.2

  pub undo_previewed : (answer : Result (List PathOutcome) Refusal)
      → PreviewsReplayTo Backward state.past state.tree answer → answer ≡ undo_path_outcomes state.tree state.past
  undo_previewed answer previews = at answer state.past unbroken.past previews
    where
      at : (answer : Result (List PathOutcome) Refusal) (past : List Kept) → LedUpTo state.tree past
          → PreviewsReplayTo Backward past state.tree answer → answer ≡ undo_path_outcomes state.tree past
      at answer [] led previews = previews
      at (Ok path_outcomes) (kept ∷ past) led (changes, connects, are) =
          ap (λ fs. Ok fs)
          (all_change Backward state.tree changes path_outcomes (can_go_back state kept past changes connects led.0) are
          ∙ ap (map changes_plainly) (sym (changed_by_entry changes kept.before kept.after connects.good connects.leads)
          ∙ ap (changed_paths kept.before) led.0))
      at (Err refusal) (kept ∷ past) led previews = absurd previews

  pub redo_previewed : (answer : Result (List PathOutcome) Refusal)
      → PreviewsReplayTo Forward state.future state.tree answer → answer ≡ redo_path_outcomes state.tree state.future
  redo_previewed answer previews = at answer state.future unbroken.future previews
    where
      at : (answer : Result (List PathOutcome) Refusal) (future : List Kept) → LeadOn state.tree future
          → PreviewsReplayTo Forward future state.tree answer → answer ≡ redo_path_outcomes state.tree future
      at answer [] led previews = previews
      at (Ok path_outcomes) (kept ∷ future) led (changes, connects, are) =
          ap (λ fs. Ok fs)
          (all_change Forward state.tree changes path_outcomes (can_go_on state kept future changes connects led.0) are
          ∙ ap (map changes_plainly) (sym (changed_by_entry changes kept.before kept.after connects.good connects.leads)
          ∙ ap (λ t. changed_paths t kept.after) led.0))
      at (Err refusal) (kept ∷ future) led previews = absurd previews

  -- ---- and no step is missing then

  taken_unbroken : (when : ℕ) (command : CommandName) (left : List (List ℕ)) (after : Files) (paths : List (List ℕ))
      → IsUnbroken (taken state when command left after paths).1
  taken_unbroken when command left after [] = unbroken
  taken_unbroken when command left after (path ∷ paths) = record { past = (refl, unbroken.past); future = tt }

  ran_unbroken : (when : ℕ) (command : CommandName) (left : List (List ℕ)) (outcome : Result Files Refusal)
      → IsUnbroken (ran state when command left outcome).1
  ran_unbroken when command left (Err refusal) = unbroken
  ran_unbroken when command left (Ok after) =
      taken_unbroken when command left after (changed_paths state.tree after)

  run_unbroken : (command : Command) (when : ℕ) → IsUnbroken (ran_by state command when).1
  run_unbroken command when = at (is_full (length state.past) state.used)
    where
      at : (b : Bool) → IsUnbroken
          (cond b (Err JournalFull, state)
          (ran state when (name_of command) (left_paths command state.tree) (outcome_of command state.tree))).1
      at true = unbroken
      at false =
          ran_unbroken when (name_of command) (left_paths command state.tree) (outcome_of command state.tree)

  undo_unbroken : IsUnbroken (undone state state.past).1
  undo_unbroken = at state.past unbroken.past
    where
      at : (past : List Kept) → LedUpTo state.tree past → IsUnbroken (undone state past).1
      at [] led = unbroken
      at (kept ∷ past) led = record { past = led.1; future = (refl, unbroken.future) }

  redo_unbroken : IsUnbroken (redone state state.future).1
  redo_unbroken = at state.future unbroken.future
    where
      at : (future : List Kept) → LeadOn state.tree future → IsUnbroken (redone state future).1
      at [] led = unbroken
      at (kept ∷ future) led = record { past = (refl, unbroken.past); future = led.1 }

  same_unbroken : (next : Snapshots) → next ≡ state → IsUnbroken next
  same_unbroken next same = subst IsUnbroken (sym same) unbroken

  made_unbroken : (call : Call) (when : ℕ) (answer : Result Response Refusal) (next : Snapshots)
      → MakesTo state call when answer next → IsUnbroken next
  made_unbroken (calls.Run command) when answer next makes = subst IsUnbroken (sym makes.1) (run_unbroken command when)
  made_unbroken calls.Undo when answer next makes =
      subst IsUnbroken (sym (back_to_copy answer next makes).1) undo_unbroken
  made_unbroken calls.Redo when answer next makes =
      subst IsUnbroken (sym (on_to_copy answer next makes).1) redo_unbroken
  made_unbroken (calls.Revert number skip_moved) when answer next makes =
      ⊎_elim (λ (none : (answer ≡ Err (NoSuchStep number)) × IsUnkept number state.past × (next ≡ state)).
      same_unbroken next none.2)
      (λ (back : (changes : List Change) × LedBy number state.past changes
      × (let ran = ran_by state (command_back state number skip_moved changes) when in
      AreOf (as_reverted changes ran.0, ran.1) answer next)).
      subst IsUnbroken (sym back.2.1) (run_unbroken (command_back state number skip_moved back.0) when)) makes

  front_unbroken : (next : Snapshots) (oldest last : List Kept) → state.past ≡ next.past ++ oldest
      → state.future ≡ next.future ++ last → next.tree ≡ state.tree → IsUnbroken next
  front_unbroken next oldest last past future tree = record {
    past = subst (λ t. LedUpTo t next.past) (sym tree)
        (led_front state.tree next.past oldest (subst (LedUpTo state.tree) past unbroken.past));
    future = subst (λ t. LeadOn t next.future) (sym tree)
        (lead_front state.tree next.future last (subst (LeadOn state.tree) future unbroken.future));
  }

  forgotten_unbroken : (steps : Steps) (answer : Result (List ℕ) Refusal) (next : Snapshots) → TakesFromTheEnds
      (requests.Forget steps) state → ForgetsTo (numbers_asked steps state) state answer next → IsUnbroken next
  forgotten_unbroken steps (Ok forgotten) next ends forgets =
      subst IsUnbroken (sym forgets.2)
      (front_unbroken (snapshots_besides (numbers_asked steps state) state) ends.0 ends.1 ends.2 ends.3 refl)
  forgotten_unbroken steps (Err (NoSuchStep number)) next ends forgets = same_unbroken next forgets.1
  forgotten_unbroken steps (Err refusal) next ends forgets = absurd forgets

  pub stays_unbroken : (request : Request) (answer : Result Response Refusal) (next : Snapshots)
      → TakesFromTheEnds request state → Gives state request answer next → IsUnbroken next
  stays_unbroken (requests.Make call when) answer next ends gives = made_unbroken call when answer next gives
  stays_unbroken (requests.Forget steps) answer next ends gives = forgotten_unbroken steps gives.0 next ends gives.2
  stays_unbroken (requests.Preview call) answer next ends gives = same_unbroken next gives.3
  stays_unbroken (requests.Recover skip_moved) answer next ends gives = same_unbroken next gives.1
  stays_unbroken requests.Log answer next ends gives = same_unbroken next gives.1
  stays_unbroken (requests.Show number) answer next ends gives = same_unbroken next gives.3
