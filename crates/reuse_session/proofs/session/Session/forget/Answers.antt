use Rattle.std.proofs.Common.{◌≡◌, ◌∙◌, [], None, true, length, eqb-true, refl, sym}
use Rattle.std.proofs.lemmas.List.{nil_from_length}
use Rattle.reuse_journal.specs.Numbered.{first_unlisted, memory_besides}
use Rattle.reuse_session.specs.session.Session.{memory_of}
use Rattle.reuse_session.proofs.lemmas.session.Forgetting.{forgets_listed, forgets_nothing, leaves_nothing}
use Rattle.reuse_session.proofs.lemmas.session.Forgetting.{memory_nothing, only_order, order_nothing, stands_next}
use Rattle.reuse_session.proofs.lemmas.session.Forgetting.{stands_still, stands_without, stands_without_none}
use Rattle.reuse_session.proofs.lemmas.session.ForgottenSteps.{first_is}
use Rattle.reuse_edit.proofs.Results.{none_unless_some}
use Rattle.reuse_session.proofs.session.Session.forget.Given.{Over}
use Rattle.reuse_session.proofs.session.Session.forget.Goals.{After-is_empty}
use Rattle.reuse_session.proofs.session.Session.forget.Goals as goal

no_number : (g : Over) (c : After-is_empty g) → c.is_empty.result ≡ true → c.args.numbers.now ≡ []
no_number g c e =
    nil_from_length c.args.numbers.now (eqb-true (length c.args.numbers.now) 0 (sym c.is_empty.ensures ∙ e))

pub returns-in-Some-clause-exact : goal.returns-in-Some-clause-exact
returns-in-Some-clause-exact g c honest held stands reported = (
  held,
  stands,
  (
    sym (first_is (memory_of c.args.self.now) held.journal stands.remembers c.args.numbers.now)
        ∙ sym c.first_unlisted.ensures ∙ c.in-Some.is,
    refl,
  ),
)

pub returns-then-is_empty-clause-exact : goal.returns-then-is_empty-clause-exact
returns-then-is_empty-clause-exact g c honest held stands reported = (
  held,
  stands,
  forgets_nothing c.args.numbers.now _
      (no_number g (goal.at.returns-then-is_empty-clause-exact g c).After-is_empty c.if-is_empty.true)
      (c.new-then-is_empty.ensures ∙ c.new.ensures.items) held,
)

pub returns-then-is_empty-clause-machine : goal.returns-then-is_empty-clause-machine
returns-then-is_empty-clause-machine g c honest state at =
    stands_without_none g.S.Store.files c.args.self.now c.args.numbers.now state
    (no_number g (goal.at.returns-then-is_empty-clause-machine g c).After-is_empty c.if-is_empty.true) at

pub returns-then-is_empty-clause-oldest : goal.returns-then-is_empty-clause-oldest
returns-then-is_empty-clause-oldest g c honest state next at without =
    stands_still g.S.Store.files c.args.self.now c.args.numbers.now state next
    (no_number g (goal.at.returns-then-is_empty-clause-oldest g c).After-is_empty c.if-is_empty.true) at without

pub returns-then-is_empty-clause-forgotten : goal.returns-then-is_empty-clause-forgotten
returns-then-is_empty-clause-forgotten g c =
    let none = no_number g (goal.at.returns-then-is_empty-clause-forgotten g c).After-is_empty c.if-is_empty.true in (
      order_nothing c.args.numbers.now _ none (c.new-then-is_empty.ensures ∙ c.new.ensures.items),
      memory_nothing c.args.numbers.now none (memory_of c.args.self.now),
    )

pub returns-then-is_empty-clause-leaves : goal.returns-then-is_empty-clause-leaves
returns-then-is_empty-clause-leaves g c = leaves_nothing g.S.Store c.args.self.now c.args.numbers.now _
    (no_number g (goal.at.returns-then-is_empty-clause-leaves g c).After-is_empty c.if-is_empty.true)

pub returns-clause-exact : goal.returns-clause-exact
returns-clause-exact g c honest held stands reported =
    let none : first_unlisted (memory_of c.args.self.now) c.args.numbers.now ≡ None =
    sym c.first_unlisted.ensures ∙ none_unless_some c.first_unlisted.result c.in_default.not-Some in
    forgets_listed g.S.Store.files _ c.args.numbers.now held c.forget_listed.result c.forget_listed.ensures.kinds
    reported (c.forget_listed.ensures.stands honest held stands)
    (sym (first_is (memory_of c.args.self.now) held.journal stands.remembers c.args.numbers.now) ∙ none)
    (only_order (memory_of c.forget_listed.new.self ≡ memory_besides c.args.numbers.now (memory_of c.args.self.now))
    c.args.numbers.now c.forget_listed.result c.forget_listed.ensures.forgotten)

pub returns-clause-machine : goal.returns-clause-machine
returns-clause-machine g c honest state at =
    stands_without g.S.Store.files c.args.self.now c.forget_listed.new.self c.args.numbers.now state
    c.forget_listed.result at (c.forget_listed.ensures.stands honest at.held at.stands)

pub returns-clause-oldest : goal.returns-clause-oldest
returns-clause-oldest g c honest state next at without =
    stands_next g.S.Store.files c.args.self.now _ c.args.numbers.now state next c.forget_listed.result at without
    (c.forget_listed.ensures.stands honest at.held at.stands)
