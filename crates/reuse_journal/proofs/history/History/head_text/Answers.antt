use Rattle.std.proofs.Common.{◌≡◌, ◌+◌, IfOk, map, refl, ap, ◌∙◌, subst}
use Rattle.reuse_tree.specs.Head.{IsGoodHead, IsSoundHead}
use Rattle.reuse_journal.specs.History.{Memory, head_listing}
use Rattle.reuse_journal.specs.declared.history.ListedEntry.{ListedEntry}
use Rattle.reuse_tree.specs.declared.journal.head.Head.{Head}
use Rattle.reuse_journal.proofs.MemoryLemmas.{head_of_parts}
use Rattle.reuse_journal.proofs.history.History.head_text.Goals as goal

pub returns-clause-good : goal.returns-clause-good
returns-clause-good c =
    let head : Head = record {
      done = c.in_ok-numbers_of.field-0;
      undone = c.in_ok-numbers_of-2.field-0;
      next = c.self.inside.used + 1;
      pending = c.args.pending;
    } in
    let same : head ≡ head_listing c.args.self.now c.args.pending =
    head_of_parts head (head_listing c.args.self.now c.args.pending)
    (c.in_ok-numbers_of.ensures ∙ ap (map (λ (entry : ListedEntry). entry.number))
    (c.as_slice.ensures.value ∙ ap (λ (memory : Memory). memory.done) c.self.view_is))
    (c.in_ok-numbers_of-2.ensures ∙ ap (map (λ (entry : ListedEntry). entry.number))
    (c.as_slice-2.ensures.value ∙ ap (λ (memory : Memory). memory.undone) c.self.view_is))
    (ap (λ (memory : Memory). memory.used + 1) c.self.view_is) refl in
    subst
    (λ h. IsSoundHead h → IfOk c.encode_head.result (λ text. IsGoodHead text.items h)) same c.encode_head.ensures.good
