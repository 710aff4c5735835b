use Rattle.std.proofs.Common.{rules, ◌≡◌, ◌+◌, true, inl, inr, ℕ, List, Option, arith, Some, ap, refl, sym, subst}
use Rattle.std.proofs.Common.{length, ◌∙◌}
use Rattle.std.specs.FinMap.{get}
use Rattle.reuse_store.specs.Asked.{MaySet}
use Rattle.reuse_change.specs.Entry.{IsEntry}
use Rattle.reuse_json.specs.EntryText.{is_any_sealed}
use Rattle.reuse_json.specs.Format.{knows}
use Rattle.reuse_change.specs.Files.{Files, tree_of}
use Rattle.reuse_store.specs.Durable.{WithOrWithout}
use Rattle.reuse_change.specs.Tree.{Sets}
use Rattle.reuse_store.proofs.Durable.{may_set_by_put, set_weaker, certain_tree}
use Rattle.reuse_journal.specs.JournalFiles.{entry_path, EntrySays}
use Rattle.reuse_journal.specs.Remembered.{IsSameBut, HasEntryText}
use Rattle.reuse_journal.proofs.Barriers.{IsBehind}
use Rattle.reuse_journal.proofs.JournalLemmas.{sets_in_folder}
use Rattle.reuse_journal.proofs.JournalReading.{put_says, put_beside, failed_beside, counted_most, counted_entry}
use Rattle.reuse_store.proofs.ApplyLemmas.{put_sets}
use Rattle.reuse_journal.proofs.files.put_entry.Given.{Over}
use Rattle.reuse_journal.proofs.files.put_entry.Goals.{After-put, After-sync}
use Rattle.reuse_journal.proofs.files.put_entry.Goals as goal

-- what the put left is what is there behind the barrier
behind : (g : Over) (c : After-sync g) (Holds : Files → Type 0) → g.S.Store.honest c.sync.new.self
    → (g.S.Store.honest c.put.new.self → Holds (g.S.Store.files c.put.new.self))
    → Holds (g.S.Store.files c.sync.new.self)
behind g c Holds honest was =
    subst Holds (sym (c.sync.ensures.reads.files honest)) (was (c.sync.ensures.reads.was_honest honest))

pub returns-clause-ok : goal.returns-clause-ok
returns-clause-ok g c honest entry known =
    let files = g.S.Store.files in
    behind g (goal.at.returns-clause-ok g c).After-sync
    (λ f. EntrySays (get f (entry_path c.args.number)) c.args.entry.now) honest (λ put.
    put_says (files c.args.store.now) (files c.put.new.self) c.in_ok-path.path c.as_slice.result.now
    c.in_ok-text.text.items c.args.number c.args.entry.now
    c.in_ok-path.ensures c.as_slice.ensures.value (c.in_ok-put.ensures.puts.ok put)
    (c.in_ok-text.ensures.good entry known))

pub returns-clause-text : goal.returns-clause-text
returns-clause-text g c honest =
    let old = g.S.Store.files c.args.store.now in
    let new = g.S.Store.files c.put.new.self in
    behind g (goal.at.returns-clause-text g c).After-sync (HasEntryText c.args.number c.args.entry.now) honest (λ put.
    ap (get new) (sym c.in_ok-path.ensures)
    ∙ (put_sets old new c.in_ok-path.path c.as_slice.result.now (c.in_ok-put.ensures.puts.ok put)).here
    ∙ ap (λ b. Some b) (c.as_slice.ensures.value ∙ c.in_ok-text.ensures.text))

pub returns-clause-counted : goal.returns-clause-counted
returns-clause-counted g c =
    c.sync.ensures.reads.written ∙ c.put.ensures.puts.written ∙ ap (λ n. g.S.Store.written c.args.store.now + n)
    (counted_entry c.in_ok-path.path c.as_slice.result.now c.args.number c.in_ok-path.ensures
    ∙ ap length (c.as_slice.ensures.value ∙ c.in_ok-text.ensures.text))

-- no other path holds something else behind the put
beside : (g : Over) (c : After-sync g) → g.S.Store.honest c.sync.new.self
    → IsSameBut (entry_path c.args.number) (g.S.Store.files c.args.store.now) (g.S.Store.files c.sync.new.self)
beside g c honest =
    let files = g.S.Store.files in
    behind g c (IsSameBut (entry_path c.args.number) (files c.args.store.now)) honest (λ put.
    put_beside (files c.args.store.now) (files c.put.new.self) c.in_ok-path.path c.as_slice.result.now c.args.number
    c.in_ok-path.ensures (c.in_ok-put.ensures.puts.ok put))

pub returns-clause-others : goal.returns-clause-others
returns-clause-others g c = beside g (goal.at.returns-clause-others g c).After-sync

pub returns-in_err-sync-clause-others : goal.returns-in_err-sync-clause-others
returns-in_err-sync-clause-others g c = beside g (goal.at.returns-in_err-sync-clause-others g c).After-sync

-- what may be left once it was put
left_then : (g : Over) (c : After-put g) → MaySet g.S.Store (entry_path c.args.number)
    (λ file. file ≡ Some c.as_slice.result.now) c.args.store.now c.put.new.self
left_then g c left is =
    set_weaker (entry_path c.args.number) c.in_ok-path.path left c.in_ok-path.ensures (λ kept m. m) (λ file e. e)
    (may_set_by_put g.S.Store c.args.store.now c.put.new.self _ c.in_ok-path.path c.as_slice.result.now
    c.put.ensures.puts left is)

says_then : (g : Over) (c : After-put g) → IsEntry c.args.entry.now.changes
    → knows (is_any_sealed c.args.entry.now.changes) c.args.entry.now.command ≡ true
    → MaySet g.S.Store (entry_path c.args.number)
    (λ file. EntrySays file c.args.entry.now) c.args.store.now c.put.new.self
says_then g c entry known left is =
    set_weaker (entry_path c.args.number) (entry_path c.args.number) left refl (λ kept m. m)
    (λ file e. subst (λ f. EntrySays f c.args.entry.now) (sym (e ∙ ap (λ b. Some b) c.as_slice.ensures.value))
    (c.in_ok-text.ensures.good entry known)) (left_then g c left is)

pub returns-in_err-put-clause-left : goal.returns-in_err-put-clause-left
returns-in_err-put-clause-left g c = says_then g (goal.at.returns-in_err-put-clause-left g c).After-put

pub returns-in_err-sync-clause-left : goal.returns-in_err-sync-clause-left
returns-in_err-sync-clause-left g c entry known left is = says_then g
    (goal.at.returns-in_err-sync-clause-left g c).After-put entry known left (c.sync.ensures.reads.may left is)

pub returns-clause-left : goal.returns-clause-left
returns-clause-left g c entry known left is =
    says_then g (goal.at.returns-clause-left g c).After-put entry known left (c.sync.ensures.reads.may left is)

-- an entry leaves the tree
entry_keeps_tree : (number : ℕ) (file : Option (List ℕ)) (kept left : Files) → Sets (entry_path number) file kept left
    → tree_of left ≡ tree_of kept
entry_keeps_tree number file kept left sets = (sets_in_folder kept left (entry_path number) file refl sets).1

tree_kept : {MightBe : Files → Type 0} (number : ℕ) (start : Files) (text : List ℕ) (left : Files)
    → ((kept : Files) → MightBe kept → tree_of kept ≡ start)
    → WithOrWithout MightBe (entry_path number) (λ file. file ≡ Some text) left → tree_of left ≡ start
tree_kept number start text left sure (inl was) = sure left was
tree_kept number start text left sure (inr made) =
    entry_keeps_tree number made.2 made.0 left made.4 ∙ sure made.0 made.1

pub returns-clause-durable : goal.returns-clause-durable
returns-clause-durable g c honest sure left is =
    let barrier : IsBehind g.S.Store c.put.new.self c.sync.new.self = search rules in
    let got = barrier left is in
    let files = g.S.Store.files in
    let start = tree_of (files c.args.store.now) in
    let now = behind g (goal.at.returns-clause-durable g c).After-sync (λ f. tree_of f ≡ start) honest (λ put.
    entry_keeps_tree c.args.number (Some c.as_slice.result.now) (files c.args.store.now) (files c.put.new.self)
    (subst (λ p. Sets p (Some c.as_slice.result.now) (files c.args.store.now) (files c.put.new.self))
    c.in_ok-path.ensures (put_sets (files c.args.store.now)
    (files c.put.new.self) c.in_ok-path.path c.as_slice.result.now (c.in_ok-put.ensures.puts.ok put)))) in
    certain_tree (files c.sync.new.self) got.0 left
    (tree_kept c.args.number start c.as_slice.result.now got.0 sure
    (left_then g (goal.at.returns-clause-durable g c).After-put got.0 got.1) ∙ sym now) got.2

pub returns-in_err-put-clause-others : goal.returns-in_err-put-clause-others
returns-in_err-put-clause-others g c honest =
    let files = g.S.Store.files in
    failed_beside c.in_err-put.field-0.0 (files c.args.store.now) (files c.put.new.self) c.in_ok-path.path
    c.as_slice.result.now c.args.number c.in_ok-path.ensures (c.in_err-put.ensures.puts.err honest)

pub returns-clause-written : goal.returns-clause-written
returns-clause-written g c entry =
    omega (
      arith,
      counted_most c.in_ok-path.path c.as_slice.result.now,
      c.put.ensures.puts.written,
      ap length c.as_slice.ensures.value,
      c.in_ok-text.ensures.bound entry,
    )

pub returns-in_err-put-clause-written : goal.returns-in_err-put-clause-written
returns-in_err-put-clause-written g c entry =
    omega (
      arith,
      counted_most c.in_ok-path.path c.as_slice.result.now,
      c.put.ensures.puts.written,
      ap length c.as_slice.ensures.value,
      c.in_ok-text.ensures.bound entry,
    )
