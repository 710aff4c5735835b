use Rattle.std.proofs.Common.{rules, ◌≡◌, ◌++◌, ◌∷◌, [], subst, sym}
use Rattle.reuse_folder.specs.Seen.{expected_of, IsSeenBefore}
use Rattle.reuse_folder.specs.declared.folder.seen.ReadPath.{ReadPath}
use Rattle.reuse_folder.proofs.SeenLemmas.{seen_last}
use Rattle.reuse_folder.proofs.folder.RootFolder.note_read.Goals as goal

pub returns-in-Ok-clause-seen : goal.returns-in-Ok-clause-seen
returns-in-Ok-clause-seen g c =
    let read : ReadPath = record { path = c.in_ok-path.path; seen = c.args.seen } in
    let same : c.in_ok-path.path ≡ c.args.path.now = search rules in
    let items : c.push.new.self.items ≡ (c.forget_older_reads.new.self.reads.items ++ (read ∷ [])) =
    c.in-Ok.ensures.items in
    subst (λ l. IsSeenBefore l c.args.path.now (expected_of c.args.seen)) (sym items)
    (seen_last c.forget_older_reads.new.self.reads.items read c.args.path.now same)

pub returns-in-Ok-clause-noted : goal.returns-in-Ok-clause-noted
returns-in-Ok-clause-noted g c =
    let read : ReadPath = record { path = c.in_ok-path.path; seen = c.args.seen } in
    let same : c.in_ok-path.path ≡ c.args.path.now = search rules in
    let items : c.push.new.self.items ≡ (c.forget_older_reads.new.self.reads.items ++ (read ∷ [])) =
    c.in-Ok.ensures.items in (
      c.args.seen,
      subst (λ l. IsSeenBefore l c.args.path.now (expected_of c.args.seen)) (sym items)
          (seen_last c.forget_older_reads.new.self.reads.items read c.args.path.now same),
    )

pub returns-in-Ok-clause-once_more : goal.returns-in-Ok-clause-once_more
returns-in-Ok-clause-once_more g c =
    let read : ReadPath = record { path = c.in_ok-path.path; seen = c.args.seen } in
    let same : c.in_ok-path.path ≡ c.args.path.now = search rules in
    let items : c.push.new.self.items ≡ (c.forget_older_reads.new.self.reads.items ++ (read ∷ [])) =
    c.in-Ok.ensures.items in (
      (
        c.args.seen,
        subst (λ l. IsSeenBefore l c.args.path.now (expected_of c.args.seen)) (sym items)
            (seen_last c.forget_older_reads.new.self.reads.items read c.args.path.now same),
      ),
      (λ few. (c.args.seen, rw (c.forget_older_reads.ensures.few few, same) at items)),
    )
