use Rattle.std.proofs.Common.{List, ℕ, sym, subst}
use Rattle.std.specs.List.{Contains}
use Rattle.reuse_session.proofs.session.forget.in_order.Goals as goal

pub returns-clause-order : goal.returns-clause-order
returns-clause-order c = record {
  ascending = c.sort_once.ensures.ascending;
  all = λ number h. c.sort_once.ensures.all number
      (subst (λ (ns : List ℕ). Contains ns number) (sym c.in_ok-ordered.ensures.items) h);
  only = λ number h. subst (λ (ns : List ℕ). Contains ns number) c.in_ok-ordered.ensures.items
      (c.sort_once.ensures.only number h);
}
