use Rattle.std.proofs.Common.{ℕ, List, Bor}
use Rattle.std.proofs.lemmas.Result.{err_from_is_err_and}
use Rattle.reuse_style.proofs.StyleFileLemmas.{at_start, next_at, refusal_here, end_at}
use Rattle.reuse_style.proofs.style_file.names_of_texts.Goals as goal

pub loop-name-init : goal.loop-name-init
loop-name-init c = at_start _ _ _ c.new-names.ensures.empty c.new-names.ensures.ordered

pub returns-in_err-add_name-clause-refused : goal.returns-in_err-add_name-clause-refused
returns-in_err-add_name-clause-refused c =
    let p = err_from_is_err_and c.from_residual.result c.from_residual.ensures.1 in
    rw (p.1, p.2) (refusal_here c.args.comments.now (λ (t : Bor (List ℕ) × Bor (List ℕ)). (t.0.now, t.1.now)) _ c.args.texts.now
    c.loop-name.name-index _ _ c.loop-name-test.true c.loop-name.invariant c.in_err-add_name.ensures.refused)

pub loop-name-preserved : goal.loop-name-preserved
loop-name-preserved c =
    next_at c.args.comments.now (λ (t : Bor (List ℕ) × Bor (List ℕ)). (t.0.now, t.1.now)) _ _ c.args.texts.now c.loop-name.name-index _
    c.loop-name-test.true c.loop-name.invariant c.in_ok-add_name.ensures.ok

pub returns-clause-ok : goal.returns-clause-ok
returns-clause-ok c = end_at c.args.comments.now (λ (t : Bor (List ℕ) × Bor (List ℕ)). (t.0.now, t.1.now)) _ c.args.texts.now
    c.loop-name.name-index c.loop-name-test.false c.loop-name.invariant
