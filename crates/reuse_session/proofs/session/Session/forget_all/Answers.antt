use Rattle.std.proofs.Common.{◌≡◌, ◌∙◌, sym, ap, subst}
use Rattle.std.specs.Prelude.{IfOk}
use Rattle.std.proofs.lemmas.Option.{none-some}
use Rattle.reuse_command.specs.Answer.{DidNotFail}
use Rattle.reuse_session.specs.session.Forgetting.{AreInOrder, Forgets}
use Rattle.reuse_journal.specs.Numbered.{all_numbers, first_unlisted, memory_besides}
use Rattle.reuse_journal.specs.Journal.{State}
use Rattle.reuse_session.specs.session.Session.{store_of, memory_of, SimulatesState}
use Rattle.reuse_session.proofs.lemmas.session.Forgetting.{forgotten_all, stands_alone}
use Rattle.reuse_session.proofs.lemmas.session.ForgottenSteps.{all_listed, numbers_of_all}
use Rattle.reuse_session.proofs.session.Session.forget_all.Given.{Over}
use Rattle.reuse_session.proofs.session.Session.forget_all.Goals.{After-forget}
use Rattle.reuse_session.proofs.session.Session.forget_all.Goals as goal

-- the numbers that are forgotten
all_of : (g : Over) (c : After-forget g) → c.deref.result.now ≡ all_numbers (memory_of c.args.self.now)
all_of g c = c.deref.ensures.value ∙ c.in_ok-numbers.ensures

pub returns-clause-absent : goal.returns-clause-absent
returns-clause-absent g c number e =
    let all = all_of g (goal.at.returns-clause-absent g c).After-forget in
    let missing = ((c.forget.ensures.absent number).0 e).1 in
    none-some number
    (sym (ap (first_unlisted (memory_of c.args.self.now)) all ∙ all_listed (memory_of c.args.self.now)) ∙ missing)

exact_then : (g : Over) (c : After-forget g) → g.S.Store.honest (store_of c.forget.new.self) → (held : State)
    → SimulatesState g.S.Store.files c.args.self.now held → DidNotFail c.forget.result
    → (left : State) × SimulatesState g.S.Store.files c.forget.new.self left
    × Forgets (all_numbers (memory_of c.args.self.now)) held c.forget.result left
exact_then g c honest held stands reported =
    let got = c.forget.ensures.exact honest held stands reported in
    (got.0, got.1, subst (λ numbers. Forgets numbers held c.forget.result got.0) (all_of g c) got.2)

pub returns-clause-exact : goal.returns-clause-exact
returns-clause-exact g c honest held stands reported =
    let got = exact_then g (goal.at.returns-clause-exact g c).After-forget honest held stands reported in (
      got.0,
      got.1,
      subst (λ numbers. Forgets numbers held c.forget.result got.0)
          (numbers_of_all (memory_of c.args.self.now) held.journal stands.remembers) got.2,
    )

pub returns-clause-machine : goal.returns-clause-machine
returns-clause-machine g c honest state at =
    stands_alone g.S.Store.files c.args.self.now c.forget.new.self state at c.forget.result
    (exact_then g (goal.at.returns-clause-machine g c).After-forget honest at.held at.stands)

pub returns-clause-forgotten : goal.returns-clause-forgotten
returns-clause-forgotten g c =
    forgotten_all (memory_of c.args.self.now) (memory_of c.forget.new.self) c.forget.result
    (subst (λ numbers. IfOk c.forget.result (λ forgotten. AreInOrder numbers forgotten
    × (memory_of c.forget.new.self ≡ memory_besides numbers (memory_of c.args.self.now))))
    (all_of g (goal.at.returns-clause-forgotten g c).After-forget) c.forget.ensures.forgotten)
