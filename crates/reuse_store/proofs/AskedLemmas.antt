-- What was asked of a store in two calls, from each.
use Rattle.std.proofs.Common.{refl, ◌∙◌, arith}
use Rattle.reuse_store.specs.declared.store.Store.{Ghosts}
use Rattle.reuse_store.specs.Asked.{OnlyReads, IsLater}

module _ {S : Type 0} (store : Ghosts S) where
  -- nothing was asked
  pub reads_none : (old : S) → OnlyReads store old old
  reads_none old = record {
    was_honest = λ honest. honest;
    files = λ honest. refl;
    may = λ left is. is;
    failures = omega arith;
    written = refl;
    mutations = refl;
  }

  pub reads_more : (old mid new : S) → OnlyReads store old mid → OnlyReads store mid new → OnlyReads store old new
  reads_more old mid new before last = record {
    was_honest = λ honest. before.was_honest (last.was_honest honest);
    files = λ honest. last.files honest ∙ before.files (last.was_honest honest);
    may = λ left is. before.may left (last.may left is);
    failures = omega (arith, before.failures, last.failures);
    written = last.written ∙ before.written;
    mutations = last.mutations ∙ before.mutations;
  }

  pub later_none : (old : S) → IsLater store old old
  later_none old = record {
    was_honest = λ honest. honest;
    failures = omega arith;
    written = omega arith;
    mutations = omega arith;
  }

  -- what only reads is later too
  pub later_reads : (old new : S) → OnlyReads store old new → IsLater store old new
  later_reads old new reads = record {
    was_honest = reads.was_honest;
    failures = reads.failures;
    written = omega (arith, reads.written);
    mutations = omega (arith, reads.mutations);
  }

  pub later_more : (old mid new : S) → IsLater store old mid → IsLater store mid new → IsLater store old new
  later_more old mid new before last = record {
    was_honest = λ honest. before.was_honest (last.was_honest honest);
    failures = omega (arith, before.failures, last.failures);
    written = omega (arith, before.written, last.written);
    mutations = omega (arith, before.mutations, last.mutations);
  }
