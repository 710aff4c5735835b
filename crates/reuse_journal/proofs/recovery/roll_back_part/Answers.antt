use Rattle.std.proofs.Common.{◌≡◌, ◌<◌, inl, inr, ⊎_elim, List, [], ◌∷◌, length, arith, refl, ap}
use Rattle.std.proofs.lemmas.Bool.Decides.{nat_tests}
use Rattle.std.proofs.lemmas.Result.{on_ok_weaker}
use Rattle.reuse_change.specs.Entry.{CanBeRolledBack, IsEntry}
use Rattle.reuse_change.specs.Files.{tree_of}
use Rattle.reuse_change.specs.declared.change.Change.{Change}
use Rattle.reuse_change.proofs.Walk.{none_without}
use Rattle.reuse_journal.specs.Recovery.{ArePart}
use Rattle.reuse_journal.proofs.ClearedHeads.{cleared, cleared_alone, cleared_or_not, cleared_with_doubt}
use Rattle.reuse_journal.proofs.ClearedHeads.{starts_certain}
use Rattle.reuse_journal.proofs.recovery.roll_back_part.Goals as goal

none_there : (changes : List Change) → length changes ≡ 0 → changes ≡ []
none_there [] e = refl
none_there (change ∷ changes) e = absurd (omega (arith, e))

pub returns-then-is_empty-clause-done : goal.returns-then-is_empty-clause-done
returns-then-is_empty-clause-done g c honest part =
    let none : length c.args.changes.now ≡ 0 = grind (arith, nat_tests, c.is_empty.ensures, c.if-is_empty.true) in
    on_ok_weaker c.clear_head.result
    (cleared c.args.direction c.args.head.now.text.now (g.S.Store.files c.args.store.now)
    (g.S.Store.files c.clear_head.new.store) c.args.changes.now (none_there c.args.changes.now none))
    (c.clear_head.ensures.done honest)

pub returns-then-is_empty-clause-back : goal.returns-then-is_empty-clause-back
returns-then-is_empty-clause-back g c honest part cause e =
    let none : length c.args.changes.now ≡ 0 = grind (arith, nat_tests, c.is_empty.ensures, c.if-is_empty.true) in
    cleared_or_not c.args.direction c.args.head.now.text.now (g.S.Store.files c.args.store.now)
    (g.S.Store.files c.clear_head.new.store) c.args.changes.now (none_there c.args.changes.now none)
    (c.clear_head.ensures.stopped honest cause e)

pub returns-then-is_empty-clause-folder : goal.returns-then-is_empty-clause-folder
returns-then-is_empty-clause-folder g c honest part =
    cleared_alone g.S.Store c.args.head.now.text.now c.args.store.now c.clear_head.new.store c.clear_head.result honest
    (c.clear_head.ensures.done honest) (c.clear_head.ensures.stopped honest) c.clear_head.ensures.early

pub returns-else-is_empty-clause-never_moved : goal.returns-else-is_empty-clause-never_moved
returns-else-is_empty-clause-never_moved g c honest part can path e =
    let some : 0 < length c.args.changes.now = grind (arith, nat_tests, c.is_empty.ensures, c.if-is_empty.false) in
    ⊎_elim
    (λ (none : c.args.changes.now ≡ []). absurd (omega (arith, some, ap length none)))
    (λ (good : IsEntry c.args.changes.now). none_without (CanBeRolledBack c.args.direction (tree_of
    (g.S.Store.files c.args.store.now))) c.args.changes.now path can (c.roll_back.ensures.moved honest good path e))
    part

-- what may be left where the head alone is put
pub returns-then-is_empty-clause-durable : goal.returns-then-is_empty-clause-durable
returns-then-is_empty-clause-durable g c honest part start partly sure =
    let none : length c.args.changes.now ≡ 0 = grind (arith, nat_tests, c.is_empty.ensures, c.if-is_empty.true) in
    c.clear_head.ensures.durable honest
    (starts_certain g.S.Store c.args.direction c.args.head.now.text.now c.args.changes.now
    (none_there c.args.changes.now none) start c.args.store.now c.clear_head.new.store partly sure)

pub returns-then-is_empty-clause-left : goal.returns-then-is_empty-clause-left
returns-then-is_empty-clause-left g c honest part start partly sure cause e =
    let none = none_there c.args.changes.now (grind (arith, nat_tests, c.is_empty.ensures, c.if-is_empty.true)) in
    let have =
    starts_certain g.S.Store c.args.direction c.args.head.now.text.now c.args.changes.now none start c.args.store.now
    c.clear_head.new.store partly sure in
    cleared_with_doubt g.S.Store c.args.direction c.args.head.now.text.now c.args.changes.now none start
    c.args.store.now
    c.clear_head.new.store partly (c.clear_head.ensures.left honest have cause e)

-- where some changes can be rolled back, they are changes of an entry
some_entry : (changes : List Change) → 0 < length changes → ArePart changes → IsEntry changes
some_entry changes some (inl none) = absurd (omega (arith, some, ap length none))
some_entry changes some (inr good) = good

pub returns-else-is_empty-clause-durable : goal.returns-else-is_empty-clause-durable
returns-else-is_empty-clause-durable g c honest part start partly sure =
    let some : 0 < length c.args.changes.now = grind (arith, nat_tests, c.is_empty.ensures, c.if-is_empty.false) in
    c.roll_back.ensures.durable honest (some_entry c.args.changes.now some part) start partly sure

pub returns-else-is_empty-clause-left : goal.returns-else-is_empty-clause-left
returns-else-is_empty-clause-left g c honest part start partly sure cause e =
    let some : 0 < length c.args.changes.now = grind (arith, nat_tests, c.is_empty.ensures, c.if-is_empty.false) in
    c.roll_back.ensures.left honest (some_entry c.args.changes.now some part) start partly sure cause e
