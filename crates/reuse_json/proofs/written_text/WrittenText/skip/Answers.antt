use Rattle.std.proofs.Common.{◌≡◌, ℕ, List, Some, ◌++◌, ◌∙◌, sym, subst}
use Rattle.std.proofs.lemmas.Bool.Decides.{Decides-eqb}
use Rattle.std.proofs.lemmas.Slice.Eq.{strip_prefix_is}
use Rattle.reuse_json.proofs.written_text.WrittenText.skip.Goals as goal

pub returns-in-Some-clause-taken : goal.returns-in-Some-clause-taken
returns-in-Some-clause-taken c = λ _.
    let front = strip_prefix_is Decides-eqb c.self.inside.rest.now c.as_bytes.result.now
    (Some c.in-Some.rest) c.in-Some.ensures.cases in
    subst (λ (l : List ℕ). c.args.self.now ≡ l ++ c.in-Some.rest.now) c.as_bytes.ensures.value
    (sym c.self.view_is ∙ front)
