-- The walk over the changes of an entry by batches of writes: after so many changes, and where a write fails.
use Rattle.std.proofs.Common.{◌≡◌, ◌≢◌, ◌⊎◌, inl, inr, ⊎_elim, ℕ, zero, suc, ◌+◌, ◌-◌, ◌<◌, ◌≤◌, Bool, true, false}
use Rattle.std.proofs.Common.{List, [], ◌∷◌, ◌++◌, length, map, take, drop, get_or, Option, Result, Ok, Err, OnOk}
use Rattle.std.proofs.Common.{OnErr, refl, sym, ap, subst, ◌∙◌, arith}
use Rattle.std.specs.Prelude.{◌==◌}
use Rattle.std.specs.FinMap.{get}
use Rattle.std.specs.List.{All, AllZip}
use Rattle.std.proofs.Math.Seq.{take-length}
use Rattle.std.proofs.lemmas.Bool.{false≢true}
use Rattle.std.proofs.lemmas.Bool.Decides.{nat_tests}
use Rattle.std.proofs.lemmas.List.{length-drop, length-map, length-take, take-append-drop, take-take, drop-drop}
use Rattle.std.proofs.lemmas.List.Elements.{All-cons, All-head, All-tail}
use Rattle.reuse_store.specs.Batch.{IsFrontOf, IsReadIn, IsReadReady, MakesRead}
use Rattle.reuse_store.specs.declared.apply_changes.ReadChange.{ReadChange}
use Rattle.reuse_store.specs.Asked.{IsLater, OnlyReads, IsSynced, IsWrite, AreWrites, Leaves}
use Rattle.reuse_change.specs.Change.{path_of, IsProper}
use Rattle.reuse_change.specs.Entry.{touches, CanBeMade, CanGo, IsEntry, IsReady, IsSmall, LeadsBy, LeadsByOneChange}
use Rattle.reuse_change.specs.Entry.{AppliesBy}
use Rattle.reuse_change.specs.Files.{Files, AreFiles, tree_of}
use Rattle.reuse_store.specs.Durable.{IsMidway}
use Rattle.reuse_change.specs.Tree.{is_of_tree, Sets, undo_folder_of}
use Rattle.reuse_store.specs.Apply.{cause_of, held_in}
use Rattle.reuse_store.specs.declared.cause.Cause.TheVariants as causes
use Rattle.reuse_change.specs.declared.change.Change.{Change}
use Rattle.reuse_store.specs.declared.fault.StoreFault.{StoreFault}
use Rattle.reuse_store.specs.declared.fault.StoreFault.TheVariants.{Device, Clash, Memory}
use Rattle.reuse_store.specs.declared.file_write.FileWrite.{FileWrite}
use Rattle.reuse_store.specs.declared.store.Store.{Ghosts}
use Rattle.reuse_change.specs.declared.direction.Direction.{Direction}
use Rattle.reuse_store.proofs.AskedLemmas.{later_more, later_reads}
use Rattle.reuse_store.proofs.AtChange.{StaysBeside, at_change, folder_at_stop, leads_at_stop, of_entry, stays_none}
use Rattle.reuse_store.proofs.AtChange.{stays_on}
use Rattle.reuse_store.proofs.Durable.{midway_none, midway_set}
use Rattle.reuse_store.proofs.OfTree.{clash_in_tree, folder_stays, step_of_tree, tree_at}
use Rattle.reuse_store.proofs.ApplyLemmas.{makes_where_clash, step_by}
use Rattle.reuse_change.proofs.Walk.{free_now, front_touches, leads_more, leads_none, not_touched, still}
use Rattle.reuse_store.specs.WriteLeaves.{WriteLeaves}
use Rattle.reuse_store.proofs.WriteLeaves.{write_leaves}

-- a list of which so many items are gone
pub at_drop : {A : Type 0} (xs : List A) (i : ℕ) (x : A) (rest : List A) → drop i xs ≡ x ∷ rest
    → (i < length xs) × (x ≡ get_or xs i x) × (drop (i + 1) xs ≡ rest)
at_drop [] zero x rest is = absurd (cc)
at_drop [] (suc i) x rest is = absurd (cc)
at_drop (y ∷ ys) zero x rest is = let same : y ≡ x = cc in let others : ys ≡ rest = cc in
    (omega arith, sym same, others)
at_drop (y ∷ ys) (suc i) x rest is = let h = at_drop ys i x rest is in let lt = h.0 in
    (omega (arith, lt), h.1, subst (λ n. drop n (y ∷ ys) ≡ rest) (one_further i) h.2)
  where
    one_further : (n : ℕ) → suc (n + 1) ≡ suc n + 1
    one_further n = omega arith

module _ {S : Type 0} (store : Ghosts S) (direction : Direction) (changes : List Change) (start : S) where
  -- so many of the changes are made
  pub record Reached (count : ℕ) (now : S) : Type 0 where
    pub walk : StaysBeside store start now changes count
    pub left : store.honest now → IsEntry changes → IsSynced store start → Leaves store now
        (IsMidway direction changes (tree_of (store.files start)) (undo_folder_of (store.files start)))
    pub made : store.honest now → IsEntry changes
        → LeadsBy direction (take count changes) (tree_of (store.files start)) (tree_of (store.files now))

  -- a write has failed for this
  pub record Stopped (fault : StoreFault) (now : S) : Type 0 where
    pub midway : store.honest now → IsEntry changes
        → (count : ℕ) × LeadsBy direction (take count changes) (tree_of (store.files start)) (tree_of (store.files now))
    pub left : store.honest now → IsEntry changes → IsSynced store start → Leaves store now
        (IsMidway direction changes (tree_of (store.files start)) (undo_folder_of (store.files start)))
    pub free : store.honest now → IsEntry changes
        → All (CanBeMade direction (tree_of (store.files start))) changes → fault ≢ Clash
    pub folder : store.honest now → IsEntry changes
        → undo_folder_of (store.files now) ≡ undo_folder_of (store.files start)
    pub device : fault ≡ Device → store.failures start < store.failures now
    pub written : IsEntry changes → store.written now ≡ store.written start
    pub mutations : store.mutations now ≤ store.mutations start + length changes
    pub later : IsLater store start now

  -- the write makes the change of what its path held at the start
  pub record MakesChange (is_honest : Type 0) (change : Change) (write : FileWrite) : Type 0 where
    pub path : write.path.now ≡ path_of change
    pub applies : is_honest → IsEntry changes
        → AppliesBy direction change (get (tree_of (store.files start)) (path_of change)) (held_in write.file)

  pub reached_none : Reached 0 start
  reached_none = record {
    walk = stays_none store start changes;
    left = λ honest good synced left is. midway_none direction changes (store.files start) left (synced left is);
    made = λ honest good. leads_none direction changes _;
  }

  pub reached_reads : (count : ℕ) (now next : S) → Reached count now → OnlyReads store now next → Reached count next
  reached_reads count now next reached reads = record {
    walk = record {
      mutations = omega (arith, reads.mutations, reached.walk.mutations);
      written = λ good. reads.written ∙ reached.walk.written good;
      later = later_more store start now next reached.walk.later (later_reads store now next reads);
      folder =
          λ honest good. ap undo_folder_of (reads.files honest) ∙ reached.walk.folder (reads.was_honest honest) good;
    };
    left = λ honest good synced left is. reached.left (reads.was_honest honest) good synced left (reads.may left is);
    made = λ honest good. subst (λ files. LeadsBy direction (take count changes) (tree_of (store.files start))
        (tree_of files)) (sym (reads.files honest)) (reached.made (reads.was_honest honest) good);
  }

  module _ (are_files : (s : S) → store.honest s → AreFiles (store.files s)) (i : ℕ) (change : Change)
      (lt : i < length changes) (is : change ≡ get_or changes i change) (now next : S)
      (answer : Result (Unit {0}) StoreFault)
      (file : Option (List ℕ)) (reached : Reached i now)
      (leaves : WriteLeaves store (path_of change) file now next answer)
      (applies : store.honest now → IsEntry changes
      → AppliesBy direction change (get (tree_of (store.files start)) (path_of change)) file) where
    before : store.honest next → store.honest now
    before = leaves.later.was_honest

    -- the path holds what it held at the start
    stands : store.honest now → (good : IsEntry changes)
        → get (store.files now) (path_of change) ≡ get (tree_of (store.files start)) (path_of change)
    stands honest good =
        sym (tree_at (store.files now) (path_of change) (of_entry changes i lt change is good).of_tree)
        ∙ still direction changes good i lt change is (tree_of (store.files start)) (tree_of (store.files now))
        (reached.made honest good)

    applies_now : store.honest now → IsEntry changes
        → AppliesBy direction change (get (store.files now) (path_of change)) file
    applies_now honest good =
        subst (λ f. AppliesBy direction change f file) (sym (stands honest good)) (applies honest good)

    -- what a loss of power may leave then
    left_then : store.honest next → IsEntry changes → IsSynced store start → Leaves store next
        (IsMidway direction changes (tree_of (store.files start)) (undo_folder_of (store.files start)))
    left_then honest good synced left may =
        ⊎_elim (λ was. reached.left (before honest) good synced left was)
        (λ (set : (kept : Files) × store.crash_states now kept × (held : Option (List ℕ)) × (held ≡ file)
        × Sets (path_of change) held kept left).
        midway_set direction changes good i lt change is (tree_of (store.files start))
        (undo_folder_of (store.files start)) set.0 left set.2
        (reached.left (before honest) good synced set.0 set.1)
        (inr (subst (λ f. AppliesBy direction change (get (tree_of (store.files start)) (path_of change)) f) (sym set.3)
        (applies (before honest) good))) set.4)
        (leaves.left left may)

    step : store.honest next → IsEntry changes → Sets (path_of change) file (store.files now) (store.files next)
        → LeadsByOneChange direction change (store.files now) (store.files next)
    step honest good sets =
        step_by direction change (store.files now) (store.files next) file (applies_now (before honest) good) sets

    pub one_more : (store.honest next → Sets (path_of change) file (store.files now) (store.files next))
        → Reached (i + 1) next
    one_more sets = record {
      walk = stays_on reached.walk leaves.later (omega (arith, leaves.mutations))
          (λ good. leaves.written (of_entry changes i lt change is good).of_tree)
          (λ honest good. folder_stays direction change (store.files now) (store.files next)
          (of_entry changes i lt change is good).of_tree (step honest good (sets honest)));
      left = left_then;
      made = λ honest good. leads_more direction changes good i lt change is _ _ (reached.made (before honest) good) _
          (step_of_tree direction change (store.files now) (store.files next)
          (of_entry changes i lt change is good).of_tree (step honest good (sets honest)));
    }

    pub stops : (fault : StoreFault) → answer ≡ Err fault → Stopped fault next
    stops fault failed = record {
      midway = λ honest good. leads_at_stop direction changes good i lt change is (tree_of (store.files start))
          (store.files now) (store.files next) (reached.made (before honest) good) (either honest good);
      left = left_then;
      free = λ honest good all same.
          let clash = leaves.clash honest (failed ∙ ap Err same) in
          free_now direction changes good i lt change is _ _ (reached.made (before honest) good)
          (at_change changes i lt change is (CanBeMade direction (tree_of (store.files start))) all)
          (makes_where_clash (store.files now) (are_files now (before honest)) direction change file
          (applies_now (before honest) good) clash.1 clash.0)
          (clash_in_tree (store.files now) (path_of change) (of_entry changes i lt change is good).of_tree clash.0);
      folder = λ honest good. folder_at_stop direction change (store.files now) (store.files next)
          (of_entry changes i lt change is good).of_tree (either honest good)
          ∙ reached.walk.folder (before honest) good;
      device = λ same. let more = leaves.device (failed ∙ ap Err same) in
          omega (arith, more, reached.walk.later.failures);
      written = λ good. leaves.written (of_entry changes i lt change is good).of_tree ∙ reached.walk.written good;
      mutations = omega (arith, leaves.mutations, reached.walk.mutations, lt);
      later = later_more store start now next reached.walk.later leaves.later;
    }
      where
        either : store.honest next → IsEntry changes → (store.files next ≡ store.files now)
            ⊎ LeadsByOneChange direction change (store.files now) (store.files next)
        either honest good = ⊎_elim (λ same. inl same) (λ sets. inr (step honest good sets))
            (subst (λ r. OnErr r ((store.files next ≡ store.files now)
            ⊎ Sets (path_of change) file (store.files now) (store.files next))) failed (leaves.err honest))

  -- a batch of writes that make the changes from here on
  pub batch_on : (are_files : (s : S) → store.honest s → AreFiles (store.files s)) (batch : List Change)
      (writes : List FileWrite) (i : ℕ) (others : List Change) (now next : S) (answer : Result (Unit {0}) StoreFault)
      → drop i changes ≡ batch ++ others → AllZip (MakesChange (store.honest now)) batch writes → Reached i now
      → AreWrites store writes now next answer
      → OnOk answer (Reached (i + length batch) next) × ((fault : StoreFault) → answer ≡ Err fault → Stopped fault next)
  batch_on are_files [] [] i others now next answer is makes reached done = (
    subst (λ r. OnOk r (Reached (i + 0) next)) (sym done.1)
        (subst (λ k. Reached k next) (none_more i) (subst (Reached i) (sym done.0) reached)),
    λ fault failed. absurd (cc),
  )
    where
      none_more : (n : ℕ) → n ≡ n + 0
      none_more n = omega arith
  batch_on are_files [] (write ∷ writes) i others now next answer is makes reached done = absurd makes
  batch_on are_files (change ∷ batch) [] i others now next answer is makes reached done = absurd makes
  batch_on are_files (change ∷ batch) (write ∷ writes) i others now next answer is makes reached (inl failed) =
      let here = at_drop changes i change (batch ++ others) is in
      let leaves = write_leaves store (path_of change) now next answer write.file
      (subst (λ p. IsWrite store p write.file now next answer) makes.0.path failed.0) in (
        subst (λ r. OnOk r (Reached (i + length (change ∷ batch)) next)) (sym failed.2) tt,
        stops are_files i change here.0 here.1 now next answer (held_in write.file) reached leaves makes.0.applies,
      )
  batch_on are_files (change ∷ batch) (write ∷ writes) i others now next answer is makes reached (inr made) =
      let here = at_drop changes i change (batch ++ others) is in
      let mid = made.0 in
      let leaves = write_leaves store (path_of change) now mid (Ok tt) write.file
      (subst (λ p. IsWrite store p write.file now mid (Ok tt)) makes.0.path made.1) in
      let reached_mid = one_more are_files i change here.0 here.1 now mid (Ok tt)
      (held_in write.file) reached leaves makes.0.applies leaves.ok in
      let rest = batch_on are_files batch writes (i + 1) others mid next answer here.2
      (weaker batch writes makes.1 leaves.later.was_honest) reached_mid made.2 in
      (subst (λ k. OnOk answer (Reached k next)) (one_further i (length batch)) rest.0, rest.1)
    where
      one_further : (n m : ℕ) → n + 1 + m ≡ n + suc m
      one_further n m = omega arith

      weaker : {A B : Type 0} (cs : List Change) (ws : List FileWrite) → AllZip (MakesChange A) cs ws → (B → A)
          → AllZip (MakesChange B) cs ws
      weaker [] [] all only = tt
      weaker [] (w ∷ ws) all only = all
      weaker (c ∷ cs) [] all only = all
      weaker (c ∷ cs) (w ∷ ws) all only =
          (record { path = all.0.path; applies = λ b. all.0.applies (only b) }, weaker cs ws all.1 only)

-- a store's fault as a cause
pub never_moved : (fault : StoreFault) → cause_of fault ≡ causes.Moved → ⊥
never_moved Device e = absurd (cc)
never_moved Clash e = absurd (cc)
never_moved Memory e = absurd (cc)

pub of_clash : (fault : StoreFault) → cause_of fault ≡ causes.Clash → fault ≡ Clash
of_clash Device e = absurd (cc)
of_clash Clash e = refl
of_clash Memory e = absurd (cc)

pub of_device : (fault : StoreFault) → cause_of fault ≡ causes.Device → fault ≡ Device
of_device Device e = refl
of_device Clash e = absurd (cc)
of_device Memory e = absurd (cc)

-- ---- what was read in a batch

abbrev pub change_in : ReadChange → Change
change_in read = read.change.now

-- a change that isn't made yet
pub record IsExpected (changes : List Change) (count : ℕ) (read : ReadChange) : Type 0 where
  pub index : ℕ
  pub lt : index < length changes
  pub late : count ≤ index
  pub is : change_in read ≡ get_or changes index (change_in read)

pub are_expected : (changes : List Change) (count i : ℕ) (batch : List ReadChange) (others : List Change)
    → drop i changes ≡ map change_in batch ++ others → count ≤ i → All (IsExpected changes count) batch
are_expected changes count i [] others is late = λ j d lt. absurd (omega (arith, lt))
are_expected changes count i (read ∷ batch) others is late =
    let here = at_drop changes i (change_in read) (map change_in batch ++ others) is in
    All-cons (IsExpected changes count) read batch (record { index = i; lt = here.0; late = late; is = here.1 })
    (are_expected changes count (i + 1) batch others here.2 (omega (arith, late)))

-- a batch and what is behind it
pub left_is : (changes rest : List Change) (count : ℕ) (batch : List ReadChange) → rest ≡ drop count changes
    → IsFrontOf rest batch → drop count changes ≡ map change_in batch ++ drop (length batch) rest
left_is changes rest count batch is front =
    sym is ∙ sym (take-append-drop (length batch) rest) ∙ ap (λ cs. cs ++ drop (length batch) rest) (sym front)

pub batch_expected : (changes rest : List Change) (count : ℕ) (batch : List ReadChange) → rest ≡ drop count changes
    → IsFrontOf rest batch → All (IsExpected changes count) batch
batch_expected changes rest count batch is front = are_expected changes count count batch (drop (length batch) rest)
    (left_is changes rest count batch is front) (omega arith)

-- what the changes behind a batch are
pub behind : (changes rest : List Change) (count n : ℕ) → rest ≡ drop count changes
    → take (length rest - n) (drop n rest) ≡ drop (count + n) changes
behind changes rest count n is = ap (λ k. take k (drop n rest)) (sym (length-drop n rest)) ∙ take-length (drop n rest)
    ∙ ap (drop n) is ∙ drop-drop n count changes

module _ {S : Type 0} (store : Ghosts S) (direction : Direction) (changes : List Change) (start : S) (count : ℕ)
    (loop : S) (reached : Reached store direction changes start count loop)
    (can : store.honest start → CanGo direction (tree_of (store.files start)) changes) where
  -- its path holds what it held at the start
  unmade : store.honest loop → (good : IsEntry changes) → (read : ReadChange) → IsExpected changes count read
      → get (store.files loop) (path_of (change_in read)) ≡ get (tree_of (store.files start)) (path_of (change_in read))
  unmade honest good read expected =
      let change = change_in read in
      let path = path_of change in
      sym
      (tree_at (store.files loop) path (of_entry changes expected.index expected.lt change expected.is good).of_tree)
      ∙ (reached.made honest good).others path (untouched (touches (take count changes) path) refl)
    where
      untouched : (b : Bool) → touches (take count changes) (path_of (change_in read)) ≡ b
          → touches (take count changes) (path_of (change_in read)) ≡ false
      untouched false e = e
      untouched true e =
          let path = path_of (change_in read) in
          let earlier : touches (take count (take expected.index changes)) path ≡ true =
          subst (λ cs. touches cs path ≡ true) (sym (take-take count expected.index changes expected.late)) e in
          absurd (false≢true
          (sym (ap (λ c. touches (take expected.index changes) (path_of c)) expected.is ∙ not_touched changes
          good expected.index (change_in read) expected.lt)
          ∙ front_touches (take expected.index changes) count path earlier))

  pub ready_there : store.honest loop → IsEntry changes → (read : ReadChange) → IsExpected changes count read
      → IsReady direction (change_in read) (get (store.files loop) (path_of (change_in read)))
  ready_there honest good read expected =
      let can_be = at_change changes expected.index expected.lt (change_in read) expected.is
      (CanBeMade direction (tree_of (store.files start))) (can (reached.walk.later.was_honest honest)).each in
      subst (IsReady direction (change_in read)) (sym (unmade honest good read expected)) can_be.ready

  -- the writes of a batch make its changes
  pub makes_changes : {A : Type 0} (batch : List ReadChange) (writes : List FileWrite) → (A → store.honest loop)
      → All (IsExpected changes count) batch → AllZip (MakesRead direction) batch writes
      → (A → All (IsReadIn (store.files loop)) batch)
      → AllZip (MakesChange store direction changes start A) (map change_in batch) writes
  makes_changes [] [] was expected makes readings = tt
  makes_changes [] (write ∷ writes) was expected makes readings = makes
  makes_changes (read ∷ batch) [] was expected makes readings = makes
  makes_changes (read ∷ batch) (write ∷ writes) was expected makes readings = (
    record {
      path = makes.0.path;
      applies = λ honest good.
          let this = All-head (IsExpected changes count) read batch expected in
          subst (λ f. AppliesBy direction (change_in read) f (held_in write.file)) (unmade (was honest) good read this)
          (makes.0.applies (get (store.files loop) (path_of (change_in read))) (All-head
          (IsReadIn (store.files loop)) read batch (readings honest)) (ready_there (was honest) good read this));
    },
    makes_changes batch writes was (All-tail (IsExpected changes count) read batch expected) makes.1
        (λ honest. All-tail (IsReadIn (store.files loop)) read batch (readings honest)),
  )

  -- of each file that was read the change can be made
  pub are_ready : store.honest loop → IsEntry changes → (batch : List ReadChange) → All (IsExpected changes count) batch
      → All (IsReadIn (store.files loop)) batch → All (IsReadReady direction) batch
  are_ready honest good batch expected readings i read lt = (
    get (store.files loop) (path_of (change_in (get_or batch i read))),
    readings i read lt,
    ready_there honest good (get_or batch i read) (expected i read lt),
  )

  pub are_proper : IsEntry changes → (batch : List ReadChange) → All (IsExpected changes count) batch
      → All (λ read. IsProper read.change.now) batch
  are_proper good batch expected i read lt = let d = expected i read lt in
      (of_entry changes d.index d.lt (change_in (get_or batch i read)) d.is good).proper

  pub are_small : IsEntry changes → (batch : List ReadChange) → All (IsExpected changes count) batch
      → All (λ read. IsSmall read.change.now) batch
  are_small good batch expected i read lt = let d = expected i read lt in
      (of_entry changes d.index d.lt (change_in (get_or batch i read)) d.is good).small

-- a walk that has come to the end
pub none_behind : (changes : List Change) (count : ℕ) → drop count changes ≡ [] → count ≤ length changes
    → count ≡ length changes
none_behind changes count none le = let e : length (drop count changes) ≡ 0 = ap length none in
    omega (arith, e, length-drop count changes, le)

-- a batch is no longer than what is left
pub within : (changes rest : List Change) (count : ℕ) (batch : List ReadChange) → rest ≡ drop count changes
    → count ≤ length changes → IsFrontOf rest batch → count + length batch ≤ length changes
within changes rest count batch is le front =
    let n = length batch in
    let taken : n ≡ length (take n rest) = sym (length-map batch (λ read. read.change.now)) ∙ ap length front in
    let left : length rest ≡ length (drop count changes) = ap length is in
    omega (arith, taken, length-take n rest, left, length-drop count changes, le)

pub empty_is : (changes : List Change) → (length changes == 0) ≡ true → changes ≡ []
empty_is [] e = refl
empty_is (change ∷ changes) e = absurd (never (length changes) e)
  where
    never : (n : ℕ) → (suc n == 0) ≡ true → ⊥
    never n e = grind (arith, nat_tests)
