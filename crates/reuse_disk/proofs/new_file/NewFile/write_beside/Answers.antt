use Rattle.std.proofs.Common.{rules, ◌≡◌, ◌∙◌, false, true, is_ok, Ok, Err, ap, inr, subst}
use Rattle.reuse_change.specs.Parts.{joined}
use Rattle.reuse_system.specs.TempFiles.{beside_name, name_in, place_of, IsNewPlace}
use Rattle.reuse_system.specs.FileStates.{Place, place_in}
use Rattle.reuse_system.specs.NameChanges.{IsGuarded}
use Rattle.reuse_system.specs.SystemLaws.{IsAlikeBut}
use Rattle.reuse_disk.specs.Due.{due_of}
use Rattle.reuse_disk.specs.Written.{is_kept, is_named, IsPlaced}
use Rattle.reuse_disk.proofs.DueLemmas.{asked_mode}
use Rattle.reuse_disk.proofs.EditLemmas.{guarded_only, guarded_then, guarded_weaker, only_weaker}
use Rattle.reuse_disk.proofs.WrittenLemmas.{placed_from, placed_worse}
use Rattle.reuse_disk.proofs.new_file.NewFile.write_beside.Given.{Over}
use Rattle.reuse_disk.proofs.new_file.NewFile.write_beside.Goals.{After-make, After-put_or_discard-named}
use Rattle.reuse_disk.proofs.new_file.NewFile.write_beside.Goals as goal

-- where the new file is made
made_at : (g : Over) (c : After-make g) → name_in c.args.target.folder.now c.as_str.result.now
    ≡ place_in c.args.target.folder.now.identity (beside_name c.args.self.now.folder.identity)
made_at g c = ap (place_in c.args.target.folder.now.identity)
    (c.as_str.ensures.value ∙ c.in_ok-name.ensures ∙ ap beside_name c.identity.ensures)

guarded_made : (g : Over) (c : After-make g)
    → IsGuarded (IsNewPlace c.args.self.now.folder.identity c.args.target.folder.now.identity)
    (name_in c.args.target.folder.now c.args.target.name.now) (due_of c.args.content)
    (g.S.System.changes c.args.system.now) (g.S.System.changes c.make.new.system)
    (g.S.System.holds c.args.system.now) (g.S.System.holds c.make.new.system)
guarded_made g c =
    let IsNew = IsNewPlace c.args.self.now.folder.identity c.args.target.folder.now.identity in
    let target = name_in c.args.target.folder.now c.args.target.name.now in
    let place = name_in c.args.target.folder.now c.as_str.result.now in
    let is : (other : Place) → other ≡ place → IsNew other = λ other e. inr (e ∙ made_at g c) in
    guarded_only IsNew target (due_of c.args.content) _ _ _ _
    (only_weaker (λ other. other ≡ place) IsNew is _ _ c.make.ensures.changes)
    (λ no. c.make.ensures.others target (λ e. no (is target e)))

guarded_put : (g : Over) (c : After-put_or_discard-named g)
    → name_in c.args.target.folder.now c.as_str.result.now
    ≡ place_in c.args.target.folder.now.identity (beside_name c.args.self.now.folder.identity)
    → IsGuarded (IsNewPlace c.args.self.now.folder.identity c.args.target.folder.now.identity)
    (name_in c.args.target.folder.now c.args.target.name.now) (due_of c.args.content)
    (g.S.System.changes c.args.system.now) (g.S.System.changes c.make.new.system)
    (g.S.System.holds c.args.system.now) (g.S.System.holds c.make.new.system)
    → IsGuarded (IsNewPlace c.args.self.now.folder.identity c.args.target.folder.now.identity)
    (name_in c.args.target.folder.now c.args.target.name.now) (due_of c.args.content)
    (g.S.System.changes c.args.system.now) (g.S.System.changes c.put_or_discard-named.new.system)
    (g.S.System.holds c.args.system.now) (g.S.System.holds c.put_or_discard-named.new.system)
guarded_put g c at made =
    let s = g.S.System in
    let IsNew = IsNewPlace c.args.self.now.folder.identity c.args.target.folder.now.identity in
    let target = name_in c.args.target.folder.now c.args.target.name.now in
    let b = c.make.new.system in
    let from = place_of c.in_ok-temp_file.temp_file in
    guarded_then IsNew target (due_of c.args.content) _ (s.changes b) _ _ (s.holds b) _ made
    (guarded_weaker (λ other. other ≡ from) IsNew target (due_of c.args.content)
    (λ other e. inr (e ∙ c.in_ok-temp_file.ensures.made.0 ∙ at)) _ _ _ _
    (c.put_or_discard-named.ensures.guarded c.in_ok-temp_file.ensures.made.1
    (asked_mode c.in_ok-temp_file.temp_file.status c.mode.result c.args.content.found c.in_ok-temp_file.ensures.status
    c.mode.ensures)))

placed_put : (g : Over) (c : After-put_or_discard-named g) → name_in c.args.target.folder.now c.as_str.result.now
    ≡ place_in c.args.target.folder.now.identity (beside_name c.args.self.now.folder.identity)
    → IsPlaced (g.S.System.honest c.put_or_discard-named.new.system)
    (place_in c.args.target.folder.now.identity (beside_name c.args.self.now.folder.identity))
    (name_in c.args.target.folder.now c.args.target.name.now) (joined c.args.content.parts)
    (is_kept c.args.unsynced.now.syncs) (g.S.System.holds c.args.system.now)
    (g.S.System.holds c.put_or_discard-named.new.system) (is_named c.put_or_discard-named.result)
    (is_ok c.put_or_discard-named.result)
placed_put g c is =
    let s = g.S.System in
    let at = place_in c.args.target.folder.now.identity (beside_name c.args.self.now.folder.identity) in
    let a = s.holds c.args.system.now in
    let b = s.holds c.make.new.system in
    let alike : IsAlikeBut at a b = subst (λ place. IsAlikeBut place a b) is c.make.ensures.others in
    placed_from (s.honest c.put_or_discard-named.new.system) (place_of c.in_ok-temp_file.temp_file) at _ _ _ a b _ _ _
    (c.in_ok-temp_file.ensures.made.0 ∙ is) alike
    (c.put_or_discard-named.ensures.placed c.in_ok-temp_file.ensures.made.1)

pub returns-in_err-temp_file-clause-guarded : goal.returns-in_err-temp_file-clause-guarded
returns-in_err-temp_file-clause-guarded g c =
    guarded_made g (goal.at.returns-in_err-temp_file-clause-guarded g c).After-make

pub returns-in_err-named-clause-guarded : goal.returns-in_err-named-clause-guarded
returns-in_err-named-clause-guarded g c =
    let at = goal.at.returns-in_err-named-clause-guarded g c in
    guarded_put g at.After-put_or_discard-named (made_at g at.After-make) (guarded_made g at.After-make)

pub returns-then-branch-clause-guarded : goal.returns-then-branch-clause-guarded
returns-then-branch-clause-guarded g c =
    let at = goal.at.returns-then-branch-clause-guarded g c in
    guarded_put g at.After-put_or_discard-named (made_at g at.After-make) (guarded_made g at.After-make)

pub returns-clause-guarded : goal.returns-clause-guarded
returns-clause-guarded g c =
    let at = goal.at.returns-clause-guarded g c in
    guarded_put g at.After-put_or_discard-named (made_at g at.After-make) (guarded_made g at.After-make)

pub returns-in_err-named-clause-placed : goal.returns-in_err-named-clause-placed
returns-in_err-named-clause-placed g c =
    let at = goal.at.returns-in_err-named-clause-placed g c in
    let placed = placed_put g at.After-put_or_discard-named (made_at g at.After-make) in
    let failed : is_ok c.from_residual-in_err-named.result ≡ false = search rules in
    let was : c.put_or_discard-named.result ≡ Err c.in_err-named.field-0.0 = c.in_err-named.was in
    rw failed (rw was at placed)

pub returns-then-branch-clause-placed : goal.returns-then-branch-clause-placed
returns-then-branch-clause-placed g c =
    let at = goal.at.returns-then-branch-clause-placed g c in
    let placed = placed_put g at.After-put_or_discard-named (made_at g at.After-make) in
    let was : c.put_or_discard-named.result ≡ Ok c.in_ok-named.field-0 = c.in_ok-named.was in
    rw c.if-branch.true at (rw was at placed)

pub returns-clause-placed : goal.returns-clause-placed
returns-clause-placed g c =
    let at = goal.at.returns-clause-placed g c in
    let placed = placed_put g at.After-put_or_discard-named (made_at g at.After-make) in
    let was : c.put_or_discard-named.result ≡ Ok c.in_ok-named.field-0 = c.in_ok-named.was in
    placed_worse (g.S.System.honest c.put_or_discard-named.new.system) _ _ _ _ _ _ false true
    (rw c.if-branch.false at (rw was at placed))
