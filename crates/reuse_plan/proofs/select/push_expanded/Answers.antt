use Rattle.std.proofs.Common.{◌≡◌, ◌∙◌, ◌++◌, not, true, false, Bool, refl, sym, ap, subst}
use Rattle.std.proofs.lemmas.Bool.{false≢true}
use Rattle.reuse_change.specs.Files.{tree_of}
use Rattle.reuse_change.specs.Listing.{is_folder}
use Rattle.reuse_plan.specs.Shown.{ShowsPlace}
use Rattle.reuse_plan.specs.FileTask.{chooses}
use Rattle.reuse_plan.specs.Selected.{expanded}
use Rattle.reuse_command.specs.declared.command.Place.{Place}
use Rattle.reuse_plan.proofs.PlaceLemmas.{some_beneath, stands_alone, stands_for}
use Rattle.reuse_plan.proofs.select.push_expanded.Goals as goal

is_not : (a b r : Bool) → r ≡ not a → r ≡ not b → a ≡ b
is_not true true r e f = refl
is_not true false r e f = absurd (false≢true (sym e ∙ f))
is_not false true r e f = absurd (false≢true (sym f ∙ e))
is_not false false r e f = refl

pub returns-then-branch-clause-adds : goal.returns-then-branch-clause-adds
returns-then-branch-clause-adds g c honest sorted are =
    let chosen = chooses c.args.asked.now in
    let tree = tree_of (g.S.Store.files c.args.store.now) in
    let old = c.args.found.now.items in
    let path = c.in-Path.path in
    let shows = subst (ShowsPlace chosen c.args.paths.now tree) c.in-Path.is are in
    let beneath = c.in_ok-beneath.ensures sorted in
    let alone : is_folder tree path ≡ false =
    is_not (is_folder tree path) false c.in_ok-stands_alone.field-0 (c.in_ok-stands_alone.ensures.alone honest
    (some_beneath chosen tree path c.args.paths.now c.in_ok-beneath.beneath.now shows beneath)) c.if-branch.true in
    c.in_ok-push_copy.ensures
    ∙ ap (λ ps. old ++ ps)
    (sym (stands_alone chosen tree path c.args.paths.now c.in_ok-beneath.beneath.now shows beneath alone))
    ∙ ap (λ (place : Place). c.args.found.now.items ++ expanded (chooses c.args.asked.now)
    (tree_of (g.S.Store.files c.args.store.now)) place) (sym c.in-Path.is)

pub returns-clause-adds : goal.returns-clause-adds
returns-clause-adds g c honest sorted are =
    let chosen = chooses c.args.asked.now in
    let tree = tree_of (g.S.Store.files c.args.store.now) in
    let old = c.args.found.now.items in
    let path = c.in-Path.path in
    let shows = subst (ShowsPlace chosen c.args.paths.now tree) c.in-Path.is are in
    let beneath = c.in_ok-beneath.ensures sorted in
    let folder : is_folder tree path ≡ true =
    is_not (is_folder tree path) true c.in_ok-stands_alone.field-0 (c.in_ok-stands_alone.ensures.alone honest
    (some_beneath chosen tree path c.args.paths.now c.in_ok-beneath.beneath.now shows beneath)) c.if-branch.false in
    c.in_ok-push_chosen-2.ensures
    ∙ ap (λ ps. old ++ ps)
    (sym (stands_for chosen tree path c.args.paths.now c.in_ok-beneath.beneath.now shows beneath folder))
    ∙ ap (λ (place : Place). c.args.found.now.items ++ expanded (chooses c.args.asked.now)
    (tree_of (g.S.Store.files c.args.store.now)) place) (sym c.in-Path.is)
