use Rattle.std.proofs.Common.{◌≡◌, ◌∙◌, Result, ap, sym}
use Rattle.reuse_session.specs.session.Machine.{IsUnbroken, Snapshots}
use Rattle.reuse_session.specs.session.Model.{Gives, IsByTrees}
use Rattle.reuse_session.specs.session.Requests.{as_answer}
use Rattle.reuse_command.specs.declared.reply.Refusal.{Refusal}
use Rattle.reuse_command.specs.declared.reply.Response.{Response}
use Rattle.reuse_command.specs.declared.reply.Response.TheVariants as responses
use Rattle.reuse_command.specs.declared.request.Call.TheVariants as calls
use Rattle.reuse_command.specs.declared.request.Request.{Request}
use Rattle.reuse_command.specs.declared.request.Request.TheVariants as requests
use Rattle.reuse_session.proofs.lemmas.session.Unbroken.{back_to_copy, on_to_copy, undo_previewed, redo_previewed}
use Rattle.reuse_session.proofs.lemmas.session.Unbroken.{stays_unbroken}
use Rattle.reuse_session.proofs.laws.model_gives_one_answer.Goals as goal

one : (state : Snapshots) (request : Request) (first second : Result Response Refusal) (next other : Snapshots)
    → IsUnbroken state → IsByTrees request → Gives state request first next → Gives state request second other
    → (first ≡ second) × (next ≡ other)
one state (requests.Make (calls.Run command) when) first second next other whole is a b = (a.0 ∙ sym b.0, a.1 ∙ sym b.1)
one state (requests.Make calls.Undo when) first second next other whole is a b =
    let x = back_to_copy state whole first next a in
    let y = back_to_copy state whole second other b in
    (x.0 ∙ sym y.0, x.1 ∙ sym y.1)
one state (requests.Make calls.Redo when) first second next other whole is a b =
    let x = on_to_copy state whole first next a in
    let y = on_to_copy state whole second other b in
    (x.0 ∙ sym y.0, x.1 ∙ sym y.1)
one state (requests.Make (calls.Revert number skip_moved) when) first second next other whole is a b = absurd is
one state (requests.Preview (calls.Run command)) first second next other whole is a b =
    (a.1 ∙ ap (as_answer responses.Preview) (a.2 ∙ sym b.2) ∙ sym b.1, a.3 ∙ sym b.3)
one state (requests.Preview calls.Undo) first second next other whole is a b = (
  a.1 ∙ ap (as_answer responses.Preview)
      (undo_previewed state whole a.0 a.2 ∙ sym (undo_previewed state whole b.0 b.2)) ∙ sym b.1,
  a.3 ∙ sym b.3,
)
one state (requests.Preview calls.Redo) first second next other whole is a b = (
  a.1 ∙ ap (as_answer responses.Preview)
      (redo_previewed state whole a.0 a.2 ∙ sym (redo_previewed state whole b.0 b.2)) ∙ sym b.1,
  a.3 ∙ sym b.3,
)
one state (requests.Preview (calls.Revert number skip_moved)) first second next other whole is a b = absurd is
one state (requests.Forget steps) first second next other whole is a b = absurd is
one state (requests.Recover skip_moved) first second next other whole is a b = (a.0 ∙ sym b.0, a.1 ∙ sym b.1)
one state requests.Log first second next other whole is a b = (a.0 ∙ sym b.0, a.1 ∙ sym b.1)
one state (requests.Show number) first second next other whole is a b = absurd is

pub returns : goal.returns
returns c = record {
  one = one;
  undone = λ state next when answer whole gives. back_to_copy state whole answer next gives;
  redone = λ state next when answer whole gives. on_to_copy state whole answer next gives;
  unbroken = λ state next request answer whole ends gives. stays_unbroken state whole request answer next ends gives;
}
