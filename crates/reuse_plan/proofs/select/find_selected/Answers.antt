use Rattle.std.proofs.Common.{◌≡◌, ◌∙◌, true, cond, Ok, map, sym, ap, ap₂, subst, flat_map, All}
use Rattle.reuse_notice.specs.Sets.{set_of}
use Rattle.reuse_notice.proofs.SetLemmas.{sorted-set_of}
use Rattle.reuse_change.specs.Files.{tree_of}
use Rattle.reuse_change.specs.Listing.{ArePaths, listed_paths}
use Rattle.reuse_store.proofs.TreeLemmas.{tree_are_files}
use Rattle.reuse_command.specs.Choice.{is_passed_over}
use Rattle.reuse_plan.specs.FileTask.{chooses, paths_of, scope_of, works_on}
use Rattle.reuse_plan.specs.Shown.{folders_for, ShowsEach, ShowsPlace}
use Rattle.reuse_command.specs.Command.{paths_among}
use Rattle.reuse_plan.specs.Unused.{leaves_none_out, unmet_count, AreUnusedWhere}
use Rattle.reuse_plan.specs.Selected.{expanded}
use Rattle.reuse_plan.specs.declared.select.Listing.TheVariants.{Listed}
use Rattle.reuse_command.specs.declared.command.Scope.{Scope}
use Rattle.reuse_edit.proofs.AbsentFiles.{reported_as}
use Rattle.reuse_store.proofs.AskedLemmas.{reads_more}
use Rattle.reuse_command.specs.Answer.{IsEarlyFailure}
use Rattle.reuse_command.proofs.Asking.{reported, short, failed, later, look_faults}
use Rattle.reuse_plan.proofs.Choosing.{listed, listed_ascend, shows_each_place, shows_selected}
use Rattle.reuse_plan.proofs.select.find_selected.Given.{Over}
use Rattle.reuse_plan.proofs.select.find_selected.Goals.{In_ok-expanded}
use Rattle.reuse_plan.proofs.select.find_selected.Goals as goal

module _ (g : Over) (c : In_ok-expanded g) (honest : g.S.Store.honest c.expanded.new.store) where
  before : g.S.Store.honest c.list_selected.new.store
  before = c.expanded.ensures.reads.was_honest honest

  recursive : (scope_of c.args.asked.now).recursive ≡ true
  recursive = ap (λ (s : Scope). s.recursive) (sym c.scope-scope.ensures) ∙ c.if-not-scope.false

  listed_is : c.in_ok-listed.listed.items ≡ listed (works_on c.args.asked.now) (scope_of c.args.asked.now)
      c.args.places.now (tree_of (g.S.Store.files c.args.store.now))
  listed_is =
      c.in_ok-listed.ensures.listed before
      ∙ ap₂ (λ scope given. listed_paths (tree_of (g.S.Store.files c.args.store.now))
      (folders_for c.args.places.now given) (is_passed_over scope given)) c.scope-scope.ensures
      (c.deref.ensures.value ∙ c.sorted-given.ensures ∙ ap set_of c.in_ok-paths_among.ensures)

  found : c.in_ok-expanded.field-0.items ≡ flat_map
      (expanded (chooses c.args.asked.now) (tree_of (g.S.Store.files c.args.store.now))) c.args.places.now
  found =
      let asked = c.args.asked.now in
      let places = c.args.places.now in
      let tree = tree_of (g.S.Store.files c.args.store.now) in
      let all = listed (works_on asked) (scope_of asked) places tree in
      let same = c.list_selected.ensures.asks.reads.files before in
      let is : c.deref-2.result.now ≡ all = c.deref-2.ensures.value ∙ listed_is in
      let sorted : ArePaths c.deref-2.result.now =
      subst ArePaths (sym is) (listed_ascend (works_on asked) (scope_of asked) places tree) in
      let each : All (ShowsPlace (chooses asked) c.deref-2.result.now tree) places =
      subst (λ ps. All (ShowsPlace (chooses asked) ps tree) places) (sym is)
      (shows_each_place (works_on asked) (scope_of asked) places tree) in
      subst (λ f. c.in_ok-expanded.field-0.items ≡ flat_map (expanded (chooses c.args.asked.now) (tree_of f))
      c.args.places.now) same
      (c.in_ok-expanded.ensures.found honest sorted
      (subst (λ f. All (ShowsPlace (chooses asked) c.deref-2.result.now (tree_of f)) places) (sym same) each))

  -- where folders are gone through, these are selected
  selected : set_of (flat_map (expanded (chooses c.args.asked.now) (tree_of (g.S.Store.files c.args.store.now)))
      c.args.places.now) ≡ paths_of c.args.asked.now c.args.places.now (tree_of (g.S.Store.files c.args.store.now))
  selected =
      ap (λ b. set_of (cond b
      (flat_map (expanded (chooses c.args.asked.now) (tree_of (g.S.Store.files c.args.store.now))) c.args.places.now)
      (paths_among c.args.places.now))) (sym recursive)

pub returns-clause-paths : goal.returns-clause-paths
returns-clause-paths g c honest =
    let at = (goal.at.returns-clause-paths g c).In_ok-expanded in
    c.sorted-paths.ensures ∙ ap set_of (found g at honest) ∙ selected g at honest

pub returns-clause-shown : goal.returns-clause-shown
returns-clause-shown g c honest =
    let at = (goal.at.returns-clause-shown g c).In_ok-expanded in
    let files = g.S.Store.files c.args.store.now in
    let tree = tree_of files in
    let asked = c.args.asked.now in
    let places = c.args.places.now in
    let start = c.list_selected.ensures.asks.reads.was_honest (before g at honest) in
    subst (λ ps. ShowsEach (Listed ps) tree c.sorted-paths.result.items) (sym (c.new.ensures ∙ listed_is g at honest))
    (subst (ShowsEach (Listed (listed (works_on asked) (scope_of asked) places tree)) tree)
    (sym (c.sorted-paths.ensures ∙ ap set_of (found g at honest)))
    (shows_selected (works_on asked) (scope_of asked) places tree
    (tree_are_files files (g.met.S.Store.are_files c.args.store.now start))))

pub returns-clause-asks : goal.returns-clause-asks
returns-clause-asks g c = reported g.S.Store IsEarlyFailure _ _ (Ok _) tt tt
    (reads_more g.S.Store _ _ _ c.list_selected.ensures.asks.reads c.expanded.ensures.reads)

pub returns-in_err-expanded-clause-asks : goal.returns-in_err-expanded-clause-asks
returns-in_err-expanded-clause-asks g c =
    later g.S.Store IsEarlyFailure _ _ _ _ c.list_selected.ensures.asks.reads
    (failed g.S.Store IsEarlyFailure _ _ c.in_err-expanded.field-0.0 _
    (reported_as c.from_residual-in_err-expanded.result _ c.from_residual-in_err-expanded.ensures.1)
    (look_faults c.in_err-expanded.field-0.0) c.in_err-expanded.ensures.fails c.in_err-expanded.ensures.reads)

pub of-requires : goal.of-requires
of-requires g c = subst ArePaths (sym (c.deref-3.ensures.value ∙ c.sorted-paths.ensures))
    (sorted-set_of c.in_ok-expanded.field-0.items)

pub returns-clause-unused : goal.returns-clause-unused
returns-clause-unused g c honest =
    let at = (goal.at.returns-clause-unused g c).In_ok-expanded in
    let works = works_on c.args.asked.now in
    let scope = scope_of c.args.asked.now in
    let places = c.args.places.now in
    let tree = tree_of (g.S.Store.files c.args.store.now) in
    let chosen =
    c.deref-3.ensures.value ∙ c.sorted-paths.ensures ∙ ap set_of (found g at honest) ∙ selected g at honest in
    let beneath = c.deref-4.ensures.value ∙ listed_is g at honest in
    subst (λ b. AreUnusedWhere b works scope places tree c.in_ok-unused.field-0) (sym (recursive g at honest)) (record {
      names = c.in_ok-unused.ensures.names ∙ ap (λ ps. unmet_count scope ps scope.listed) chosen;
      globs = c.in_ok-unused.ensures.globs
          ∙ ap₂ (λ ps fs. map (leaves_none_out works scope ps fs) scope.excluded) chosen beneath;
    })

pub returns-in_err-unused-clause-asks : goal.returns-in_err-unused-clause-asks
returns-in_err-unused-clause-asks g c = short g.S.Store IsEarlyFailure _ _ _
    (reported_as c.from_residual-in_err-unused.result _ c.from_residual-in_err-unused.ensures.1) tt
    (reads_more g.S.Store _ _ _ c.list_selected.ensures.asks.reads c.expanded.ensures.reads)
