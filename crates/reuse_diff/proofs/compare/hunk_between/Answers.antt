-- The pieces of two files are a hunk, with those that are kept around it.
use Rattle.std.proofs.lemmas.Option.{IfSome_then}
use Rattle.reuse_diff.proofs.PieceLemmas.{is_hunk, same_files}
use Rattle.reuse_diff.proofs.compare.hunk_between.Goals as goal

pub returns-clause-same : goal.returns-clause-same
returns-clause-same c = (
  (λ none. same_files c.args.before.now c.args.after.now c.in_ok-pieces.pieces.items c.in_ok-pieces.ensures.old
      c.in_ok-pieces.ensures.new
      (rw c.deref.ensures.value at (c.in_ok-hunk_of.ensures.none.0 none))),
  λ same. (let is = c.is_same.ensures.1 same in cc),
)

pub returns-clause-hunk : goal.returns-clause-hunk
returns-clause-hunk c =
    IfSome_then c.in_ok-hunk_of.field-0 (rw c.deref.ensures.value at c.in_ok-hunk_of.ensures.some)
    (is_hunk c.args.before.now c.args.after.now c.in_ok-pieces.pieces.items c.in_ok-pieces.ensures.old
    c.in_ok-pieces.ensures.new c.in_ok-pieces.ensures.ends)
