use Rattle.std.proofs.Common.{◌∷◌, [], ◌++◌, ◌≡◌, take, take_all, ◌∙◌, ap, subst, sym, arith}
use Rattle.std.proofs.lemmas.List.{take_more}
use Rattle.reuse_folder.specs.Seen.{IsSeenBefore}
use Rattle.reuse_folder.proofs.folder.seen.expected_at.Goals as goal

pub loop-read-preserved : goal.loop-read-preserved
loop-read-preserved c =
    let reads = c.args.reads.now in
    let i = c.loop-read.read-index in
    let e = take_more reads i c.read-item.result c.loop-read-test.true
    ∙ ap (λ read. take i reads ++ (read ∷ [])) (sym c.read-item.is) in
    subst (λ l. IsSeenBefore l c.args.path.now c.expected_after-expected.result) (sym e)
    (c.expected_after-expected.ensures (take i reads) c.loop-read.invariant)

pub returns : goal.returns
returns c =
    let reads = c.args.reads.now in
    let i = c.loop-read.read-index in
    let whole : take i reads ≡ reads = take_all i reads (omega arith) in
    subst (λ l. IsSeenBefore l c.args.path.now c.loop-read.expected) whole c.loop-read.invariant
