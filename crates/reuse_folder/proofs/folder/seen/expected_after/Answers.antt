use Rattle.std.proofs.Common.{◌∙◌, sym, true≢false}
use Rattle.std.proofs.lemmas.Slice.Eq.{bytes_eq-Decides}
use Rattle.reuse_folder.proofs.SeenLemmas.{seen_last, seen_more}
use Rattle.reuse_folder.proofs.folder.seen.expected_after.Goals as goal

pub returns-then-eq : goal.returns-then-eq
returns-then-eq c reads before =
    rw c.of.ensures (seen_last reads c.args.read.now c.args.path.now
    ((bytes_eq-Decides c.args.read.now.path c.args.path.now).0 (sym c.eq.ensures ∙ c.if-eq.true)))

pub returns-else-eq : goal.returns-else-eq
returns-else-eq c reads before =
    seen_more reads c.args.read.now c.args.path.now c.args.expected before
    (λ e. true≢false (sym (c.eq.ensures ∙ (bytes_eq-Decides c.args.read.now.path c.args.path.now).1 e) ∙ c.if-eq.false))
