use Rattle.std.proofs.Common.{◌≡◌, ◌++◌, ◌∙◌, ◌≤◌, ap, sym, subst, List, ℕ, length}
use Rattle.reuse_change.specs.Entry.{entry_size, IsEntry}
use Rattle.reuse_json.specs.EntryText.{entry_text, IsEntryInMemory, IsGoodEntry}
use Rattle.reuse_tree.proofs.EntryLaws.{entry_good, entry_length}
use Rattle.reuse_tree.proofs.journal.entry_writing.encode_entry.Goals as goal

pub returns : goal.returns
returns c =
    let e = c.args.entry.now in
    let written : c.append_entry.new.text.items ≡ entry_text e =
    c.in_ok-append_entry.ensures ∙ ap (λ (l : List ℕ). l ++ entry_text e) c.in_ok-text.ensures.items in
    let held : IsEntry e.changes → IsEntryInMemory e = λ good. record {
      changes = good;
      in_memory = c.is_in_memory.ensures.changes;
      when = c.is_in_memory.ensures.when;
    } in record {
      text = written;
      good = λ good known. subst (λ (l : List ℕ). IsGoodEntry l e) (sym written)
          (entry_good e (record { held = held good; known = known }));
      bound =
          λ good. subst (λ (l : List ℕ). length l ≤ entry_size e.changes) (sym written) (entry_length e (held good));
    }
