use Rattle.std.proofs.Common.{◌≡◌, ◌∙◌, ◌≤◌, ℕ, Bool, true, false, not, cond, List, length, Result, Ok, Err, sym, ap}
use Rattle.std.proofs.Common.{subst}
use Rattle.std.proofs.lemmas.Bool.{le-ltb}
use Rattle.reuse_text.specs.declared.TheConstants.{LONGEST_FILE}
use Rattle.reuse_header.specs.Neighbour.{is_text}
use Rattle.reuse_header.proofs.NeighbourLemmas.{text-test}
use Rattle.reuse_edit.specs.Annotate.{target_by_style, target_by_bytes}
use Rattle.reuse_edit.specs.AnnotationPlan.{own_of}
use Rattle.reuse_edit.specs.Answered.{AnswersOf}
use Rattle.reuse_style.specs.Kinds.{OwnKinds}
use Rattle.reuse_command.specs.declared.command.Scope.{Scope}
use Rattle.reuse_edit.specs.declared.target.Target.{Target}
use Rattle.reuse_edit.specs.declared.target.Target.TheVariants.{InNeighbour}
use Rattle.reuse_command.specs.declared.reply.Refusal.{Refusal}
use Rattle.reuse_command.specs.declared.reply.Refusal.TheVariants.{TooLong}
use Rattle.reuse_edit.proofs.target_choice.target_by_bytes.Goals as goal

abbrev target : Target → Result Target Refusal
target t = Ok t

by_bytes : (scope : Scope) (own : OwnKinds) (path bytes : List ℕ) (b : Bool) → length bytes ≤ LONGEST_FILE
    → is_text bytes ≡ b
    → target_by_bytes scope own path bytes ≡ cond (not b) (target InNeighbour)
    (target_by_style scope own path bytes scope.style)
by_bytes scope own path bytes b h e =
    ap (λ t. cond t (Err (TooLong path)) (cond (not (is_text bytes)) (target InNeighbour)
    (target_by_style scope own path bytes scope.style))) (le-ltb LONGEST_FILE (length bytes) h)
    ∙ ap (λ t. cond (not t) (target InNeighbour) (target_by_style scope own path bytes scope.style)) e

pub returns-then-not-is_text-clause-target : goal.returns-then-not-is_text-clause-target
returns-then-not-is_text-clause-target c =
    by_bytes c.args.asked.now.scope.now (own_of c.args.asked.now) c.args.path.now c.args.bytes.now false c.requires
    (sym (text-test c.args.bytes.now c.is_text.result c.is_text.ensures) ∙ c.if-not-is_text.true)

pub returns-clause-target : goal.returns-clause-target
returns-clause-target c =
    subst (λ given. AnswersOf given c.target_by_style.result)
    (sym (by_bytes c.args.asked.now.scope.now (own_of c.args.asked.now) c.args.path.now c.args.bytes.now true c.requires
    (sym (text-test c.args.bytes.now c.is_text.result c.is_text.ensures) ∙ c.if-not-is_text.false)))
    c.target_by_style.ensures.target
