use Rattle.std.proofs.Common.{◌≡◌, ◌<◌, length, get_or, ◌∙◌, ap, subst, sym}
use Rattle.std.proofs.lemmas.Slice.Eq.{bytes_eq-Decides}
use Rattle.reuse_folder.specs.Seen.{expected_of, IsSeenBefore}
use Rattle.reuse_folder.specs.declared.folder.seen.ReadPath.{ReadPath}
use Rattle.reuse_folder.proofs.SeenLemmas.{seen_at}
use Rattle.reuse_folder.proofs.folder.batch.Seen.next_at.Goals as goal

pub returns-in-Some-clause-expected : goal.returns-in-Some-clause-expected
returns-in-Some-clause-expected c =
    let reads = c.args.self.now.reads.items in
    let at = c.args.self.now.at in
    let path = c.args.path.now in
    let read : ReadPath = c.in-Some.read.now in
    let short : at < length reads = rw c.deref.ensures.value at c.in-Some.ensures.lookup.3.0 in
    let is : read ≡ get_or reads at read = rw c.deref.ensures.value at c.in-Some.ensures.lookup.1 in
    let same = (bytes_eq-Decides read.path path).0 (sym c.eq.ensures ∙ c.if-eq.true) in
    rw c.of.ensures (subst (λ (one : ReadPath). IsSeenBefore reads path (expected_of one.seen)) (sym is)
    (seen_at reads at read path short (ap (λ (one : ReadPath). one.path) (sym is) ∙ same)))
