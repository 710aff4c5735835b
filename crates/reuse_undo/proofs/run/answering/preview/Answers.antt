use Rattle.std.proofs.Common.{inl, inr, subst, sym, arith}
use Rattle.reuse_store.specs.Asked.{OnlyReads}
use Rattle.reuse_journal.specs.Opening.{OpensOn}
use Rattle.reuse_session.specs.session.Session.{store_of}
use Rattle.reuse_store.proofs.AskedLemmas.{reads_more}
use Rattle.reuse_undo.proofs.run.answering.preview.Goals as goal

pub returns-in-Ok : goal.returns-in-Ok
returns-in-Ok g c =
    let store = g.S.Store in
    let opened = c.in-Ok.opened in
    let last = c.into_store.result in
    let reads : OnlyReads store (store_of opened) last =
    subst (λ s. OnlyReads store (store_of opened) s) (sym c.into_store.ensures)
    c.preview_in-path_outcomes.ensures.reads_with_cause.reads in
    record {
      opens = λ honest.
          let found = c.in-Ok.ensures.opened (reads.was_honest honest) in
          inl (found.0, subst (λ f. OpensOn (store.files c.args.store) found.0 f) (sym (reads.files honest)) found.2);
      reads_only = λ honest held committed.
          reads_more store c.args.store (store_of opened) last
          (c.in-Ok.ensures.quiet (reads.was_honest honest) held committed) reads;
      failures = omega (arith, c.in-Ok.ensures.later.failures, reads.failures);
      was_honest = λ honest. c.in-Ok.ensures.later.was_honest (reads.was_honest honest);
    }

pub returns-in-Err : goal.returns-in-Err
returns-in-Err g c =
    let refused = c.in-Err.ensures in
    record {
      opens = λ honest. inr (
        c.in-Err.refusal,
        record {
          is_of_opening = refused.refusal;
          bad = refused.bad honest;
          moved = refused.moved honest;
          no_clash = refused.clash honest;
          unchanged = λ early. (refused.early early).files honest;
          stopped = refused.interrupted honest;
          recovers = λ first second doubt. refused.recovers first second doubt honest;
          folder = refused.folder honest;
        },
      );
      reads_only = λ honest held committed. refused.quiet honest held committed;
      failures = refused.later.failures;
      was_honest = refused.later.was_honest;
    }
