use Rattle.std.proofs.Common.{◌≡◌, ◌⊎◌, inl, true, OnOk, OnErr, refl, ap, sym, subst, ◌∙◌}
use Rattle.std.specs.FinMap.{get}
use Rattle.std.specs.Option.{option_copied}
use Rattle.reuse_change.specs.Change.{path_of}
use Rattle.reuse_change.specs.Files.{Clashes}
use Rattle.reuse_change.specs.declared.direction.Direction.{Direction}
use Rattle.reuse_store.specs.Asked.{MaySet}
use Rattle.reuse_change.specs.Entry.{makes, IsReady, LeadsByOneChange, AppliesBy, opposite}
use Rattle.reuse_store.proofs.Durable.{set_weaker}
use Rattle.reuse_text.specs.declared.TheConstants.{LONGEST_FILE}
use Rattle.reuse_store.specs.Apply.{IsChangeRolledBack}
use Rattle.reuse_store.proofs.ReadingLemmas.{read_first, too_long}
use Rattle.reuse_store.proofs.apply_change.roll_back_change.Given.{Over}
use Rattle.reuse_store.proofs.apply_change.roll_back_change.Goals.{After-roll_back_change_from}
use Rattle.reuse_store.proofs.apply_change.roll_back_change.Goals as goal

-- what the path of the change held
held : (g : Over) (c : After-roll_back_change_from g) → g.S.Store.honest c.read.new.self
    → get (g.S.Store.files c.args.store.now) (path_of c.args.change.now) ≡ option_copied c.in-Some.file
held g c reading = ap (get (g.S.Store.files c.args.store.now)) (sym c.path.ensures)
    ∙ sym (c.in-Some.ensures _ LONGEST_FILE (c.in_ok-reading.ensures.reading reading))

-- a way in which what was there isn't ready
never : (g : Over) (c : After-roll_back_change_from g) → g.S.Store.honest c.roll_back_change_from.new.store
    → (direction : Direction) → (IsReady direction c.args.change.now (option_copied c.in-Some.file) → ⊥)
    → IsReady direction c.args.change.now (get (g.S.Store.files c.args.store.now) (path_of c.args.change.now)) → ⊥
never g c honest direction stuck ready = stuck (subst (IsReady direction c.args.change.now)
    (held g c (c.roll_back_change_from.ensures.later.was_honest honest)) ready)

pub returns-in-Some-clause-ok : goal.returns-in-Some-clause-ok
returns-in-Some-clause-ok g c honest proper small =
    let reading = c.roll_back_change_from.ensures.later.was_honest honest in
    read_first (path_of c.args.change.now) (λ f. OnOk c.roll_back_change_from.result
    (IsChangeRolledBack c.args.direction c.args.change.now f (g.S.Store.files c.roll_back_change_from.new.store)))
    (c.read.ensures.reads.files reading)
    (held g (goal.at.returns-in-Some-clause-ok g c).After-roll_back_change_from reading)
    (c.roll_back_change_from.ensures.ok honest)

pub returns-in-Some-clause-err : goal.returns-in-Some-clause-err
returns-in-Some-clause-err g c honest proper small =
    let reading = c.roll_back_change_from.ensures.later.was_honest honest in
    let new = g.S.Store.files c.roll_back_change_from.new.store in
    read_first (path_of c.args.change.now) (λ f. OnErr c.roll_back_change_from.result
    ((new ≡ f) ⊎ LeadsByOneChange (opposite c.args.direction) c.args.change.now f new))
    (c.read.ensures.reads.files reading)
    (held g (goal.at.returns-in-Some-clause-err g c).After-roll_back_change_from reading)
    (c.roll_back_change_from.ensures.err honest)

pub returns-in-Some-clause-moved : goal.returns-in-Some-clause-moved
returns-in-Some-clause-moved g c honest proper small e =
    let at = (goal.at.returns-in-Some-clause-moved g c).After-roll_back_change_from in
    let stuck = c.roll_back_change_from.ensures.moved proper e in
    (never g at honest (opposite c.args.direction) stuck.0, never g at honest c.args.direction stuck.1)

pub returns-in-Some-clause-clash : goal.returns-in-Some-clause-clash
returns-in-Some-clause-clash g c honest proper small e =
    let at = (goal.at.returns-in-Some-clause-clash g c).After-roll_back_change_from in
    let reading = c.roll_back_change_from.ensures.later.was_honest honest in
    let clash = read_first (path_of c.args.change.now)
    (λ f. ¬ (IsReady c.args.direction c.args.change.now (option_copied c.in-Some.file))
    × (makes (opposite c.args.direction) c.args.change.now ≡ true) × Clashes f (path_of c.args.change.now))
    (c.read.ensures.reads.files reading) (held g at reading)
    (λ here. c.roll_back_change_from.ensures.clash honest proper here e) in
    (never g at honest c.args.direction clash.0, clash.1, clash.2)

pub returns-clause-moved : goal.returns-clause-moved
returns-clause-moved g c honest proper small e =
    let file = c.in-None.ensures _ LONGEST_FILE (c.in_ok-reading.ensures.reading honest) in
    let there = ap (get (g.S.Store.files c.args.store.now)) (sym c.path.ensures) ∙ file.1 in
    let never =
    λ (direction : Direction)
    (ready : IsReady direction c.args.change.now (get (g.S.Store.files c.args.store.now) (path_of c.args.change.now))).
    too_long direction c.args.change.now file.0 small file.2
    (subst (IsReady direction c.args.change.now) there ready) in
    (never (opposite c.args.direction), never c.args.direction)

pub returns-in-Some-clause-left : goal.returns-in-Some-clause-left
returns-in-Some-clause-left g c honest proper small left is =
    let reading = c.roll_back_change_from.ensures.later.was_honest honest in
    let path = path_of c.args.change.now in
    let set = read_first path (λ f. MaySet g.S.Store path (AppliesBy (opposite c.args.direction) c.args.change.now
    (get f path)) c.read.new.self c.roll_back_change_from.new.store)
    (c.read.ensures.reads.files reading) (held g (goal.at.returns-in-Some-clause-left g c).After-roll_back_change_from
    reading) c.roll_back_change_from.ensures.left in
    set_weaker path path left refl (λ kept m. c.read.ensures.reads.may kept m) (λ file t. t) (set left is)

pub returns-clause-left : goal.returns-clause-left
returns-clause-left g c honest proper small left is = inl (c.read.ensures.reads.may left is)
