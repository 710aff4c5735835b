use Rattle.std.proofs.Common.{ℕ, ◌≤◌, List, Err, None, length, sym, ap, subst, ◌∙◌}
use Rattle.reuse_tree.specs.Head.{IsGoodHead}
use Rattle.reuse_session.specs.session.Forgetting.{AreInOrder}
use Rattle.reuse_journal.specs.Numbered.{memory_besides, state_besides}
use Rattle.reuse_journal.specs.History.{Memory, head_listing}
use Rattle.reuse_session.specs.session.Session.{store_of, memory_of}
use Rattle.reuse_journal.specs.Remembered.{listed_count, head_room, Remembers}
use Rattle.reuse_session.proofs.lemmas.session.Forgetting.{IsToForget, survives_some, done_committed, left_committed}
use Rattle.reuse_session.proofs.lemmas.session.Forgetting.{stopped_doubt, leaves_done, leaves_stop}
use Rattle.reuse_journal.proofs.SafeFiles.{sure_tree}
use Rattle.reuse_session.proofs.lemmas.session.ForgottenSteps.{remembers_besides}
use Rattle.reuse_session.proofs.session.Session.forget_listed.Given.{Over}
use Rattle.reuse_session.proofs.session.Session.forget_listed.Goals.{After-put_and_remove}
use Rattle.reuse_session.proofs.session.Session.forget_listed.Goals as goal

-- what is put and removed
to_forget : (g : Over) (c : After-put_and_remove g) → IsToForget (memory_of c.args.self.now) c.args.numbers.now
    c.in_ok-numbers.field-0.numbers.items c.deref.result.now c.deref-2.result.now
to_forget g c =
    let memory = memory_besides c.args.numbers.now (memory_of c.args.self.now) in
    record {
      some = c.requires.some;
      listed = c.requires.listed;
      order = c.in_ok-numbers.ensures.ordered;
      few = c.in_ok-numbers.ensures.few;
      are_paths = c.deref-2.ensures.value ∙ c.in_ok-numbers.ensures.paths;
      is_text = c.deref.ensures.value ∙ c.in_ok-numbers.ensures.text;
      good = λ sound. subst
          (λ text. IsGoodHead text (head_listing (memory_besides c.args.numbers.now (memory_of c.args.self.now)) None))
          (sym c.deref.ensures.value) (c.in_ok-numbers.ensures.good sound);
      bound = λ sound. subst (λ (text : List ℕ). length text ≤ head_room
          (listed_count (memory_besides c.args.numbers.now (memory_of c.args.self.now)))) (sym c.deref.ensures.value)
          (c.in_ok-numbers.ensures.bound sound);
    }

pub returns-in-Ok-clause-stands : goal.returns-in-Ok-clause-stands
returns-in-Ok-clause-stands g c honest held stands =
    let is = to_forget g (goal.at.returns-in-Ok-clause-stands g c).After-put_and_remove in
    record {
      whole = stands.whole;
      committed = done_committed g.S.Store c.args.self.now _ _ _ _ is held stands
          (g.S.Store.files c.put_and_remove.new.store) (c.in-Ok.ensures.done honest);
      remembers = subst (λ (m : Memory). Remembers m (state_besides c.args.numbers.now held).journal)
          (sym c.in_ok-numbers.ensures.left)
          (remembers_besides c.args.numbers.now (memory_of c.args.self.now) held.journal stands.remembers);
    }

pub returns-in-Ok-clause-survives : goal.returns-in-Ok-clause-survives
returns-in-Ok-clause-survives g c honest earlier held stands safe =
    let is = to_forget g (goal.at.returns-in-Ok-clause-survives g c).After-put_and_remove in
    let store = g.S.Store in
    survives_some store c.args.numbers.now c.new-in-Ok.result earlier held c.put_and_remove.new.store
    (subst (AreInOrder c.args.numbers.now) (sym c.new-in-Ok.ensures) c.in_ok-numbers.ensures.ordered) c.requires.some
    (λ left may. left_committed store c.args.self.now _ _ _ _ is held stands left (c.in-Ok.ensures.durable honest
    (sure_tree store (store_of c.args.self.now) earlier held stands.committed safe) left may))

pub returns-in-Ok-clause-leaves : goal.returns-in-Ok-clause-leaves
returns-in-Ok-clause-leaves g c =
    let is = to_forget g (goal.at.returns-in-Ok-clause-leaves g c).After-put_and_remove in
    leaves_done g.S.Store c.args.self.now _ _ _ _ is
    (record {
      store = c.put_and_remove.new.store;
      history = c.in_ok-numbers.field-0.left;
      broken = c.args.self.now.broken;
      counts = c.args.self.now.counts;
    })
    (λ honest. c.in-Ok.ensures.done honest) c.in_ok-numbers.ensures.left c.put_and_remove.ensures.written
    c.put_and_remove.ensures.mutations c.new-in-Ok.result

pub returns-in-Err-clause-survives : goal.returns-in-Err-clause-survives
returns-in-Err-clause-survives g c honest earlier held stands safe =
    let is = to_forget g (goal.at.returns-in-Err-clause-survives g c).After-put_and_remove in
    let store = g.S.Store in
    stopped_doubt store c.args.self.now _ _ _ _ is held stands c.put_and_remove.new.store earlier safe
    (c.in-Err.ensures.doubt honest (sure_tree store (store_of c.args.self.now) earlier held stands.committed safe))

pub returns-in-Err-clause-leaves : goal.returns-in-Err-clause-leaves
returns-in-Err-clause-leaves g c =
    let is = to_forget g (goal.at.returns-in-Err-clause-leaves g c).After-put_and_remove in
    leaves_stop g.S.Store c.args.self.now _ _ _ _ is _ c.in-Err.cause
    (λ honest. c.in-Err.ensures.stopped honest) c.put_and_remove.ensures.asked c.put_and_remove.ensures.written
    c.put_and_remove.ensures.mutations
    (λ e. c.put_and_remove.ensures.moved (c.in-Err.is ∙ ap (λ x. Err x) e))
    (λ honest e. c.put_and_remove.ensures.clash honest (c.in-Err.is ∙ ap (λ x. Err x) e))
