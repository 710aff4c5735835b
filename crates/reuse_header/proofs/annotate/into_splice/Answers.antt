use Rattle.std.proofs.Common.{ap, Option, Ok}
use Rattle.reuse_header.specs.declared.annotation.Splice.{Splice}
use Rattle.reuse_header.proofs.SpliceLemmas.{splice_at-none, splice_at-some}
use Rattle.reuse_header.proofs.annotate.into_splice.Goals as goal

pub returns-then-eq : goal.returns-then-eq
returns-then-eq c =
    ap (λ (s : Option Splice). Ok s) (splice_at-none c.args.file.now _ _ _ c.if-eq.true c.eq.ensures c.as_slice.ensures)

pub returns : goal.returns
returns c = ap (λ (s : Option Splice). Ok s)
    (splice_at-some c.args.file.now _ _ _ c.if-eq.false c.eq.ensures c.as_slice.ensures c.in_ok-from_slice.ensures)
