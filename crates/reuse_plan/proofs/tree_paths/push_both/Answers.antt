use Rattle.std.proofs.Common.{◌≡◌, ◌∙◌, ◌++◌, ◌∷◌, [], true, false, length, nat_lt, IfSome, IfNone, ap, subst}
use Rattle.std.proofs.Common.{append_assoc}
use Rattle.reuse_edit.specs.Annotate.{neighbour_of}
use Rattle.reuse_edit.proofs.Results.{none_unless_some}
use Rattle.reuse_plan.proofs.ShownLemmas.{pair_of, no_pair}
use Rattle.reuse_plan.proofs.tree_paths.push_both.Goals as goal
use Rattle.reuse_plan.proofs.tree_paths.push_both.Goals.{in-Some+in_ok-push-2, in_default}

pub returns-clause-both : goal.returns-clause-both
returns-clause-both c =
    let path = c.args.path.now in
    let old = c.args.both.now.items in
    let first : c.push.new.self.items ≡ old ++ path ∷ [] =
    c.in_ok-push.ensures.items ∙ ap (λ p. c.args.both.now.items ++ p ∷ []) c.in_ok-try_clone.ensures in
    elim c.match-branch-4.branch [
      | in-Some+in_ok-push-2 w ↦
          (let is = subst (λ o. IfSome o (λ n. n ≡ neighbour_of path)) w.in-Some.is c.in_ok-neighbour.ensures.path in
          let fits = subst (λ o. IfSome o (λ n. nat_lt 4096 (length (neighbour_of path)) ≡ false)) w.in-Some.is
          c.in_ok-neighbour.ensures.short in
          ap (λ both. both.items) w.both-is ∙ w.in_ok-push-2.ensures.items
          ∙ ap (λ ps. ps ++ w.in-Some.neighbour ∷ []) first
          ∙ append_assoc old (path ∷ []) (w.in-Some.neighbour ∷ [])
          ∙ ap (λ ns. c.args.both.now.items ++ c.args.path.now ∷ ns) (pair_of path w.in-Some.neighbour is fits))
      | in_default w ↦
          (let none = none_unless_some c.in_ok-neighbour.field-0 w.in_default.not-Some in
          let long =
          subst (λ o. IfNone o (nat_lt 4096 (length (neighbour_of path)) ≡ true)) none c.in_ok-neighbour.ensures.long in
          ap (λ both. both.items) w.both-is ∙ first
          ∙ ap (λ ns. c.args.both.now.items ++ c.args.path.now ∷ ns) (no_pair path long))
    ]
