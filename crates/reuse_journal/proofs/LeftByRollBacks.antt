-- What a loss of power may leave while a step is rolled back.
use Rattle.std.proofs.Common.{◌≡◌, ◌⊎◌, inl, inr, ⊎_elim, ℕ, ◌<◌, Bool, cond, not, List, [], length, get_or, take}
use Rattle.std.proofs.Common.{Option, Some, None, sym, ap, subst, ◌∙◌, refl}
use Rattle.std.specs.FinMap.{get}
use Rattle.reuse_store.specs.Asked.{OnlyReads}
use Rattle.reuse_change.specs.Change.{path_of, IsProper}
use Rattle.reuse_change.specs.Entry.{IsEntry, IsReady, AppliesBy, SomeMade, ArePartlyMade, opposite}
use Rattle.reuse_change.specs.Files.{Files, tree_of}
use Rattle.reuse_store.specs.Durable.{DurableAfterBarrier, IsMidway, WithOrWithout}
use Rattle.reuse_change.specs.Path.{lies_under, journal_folder}
use Rattle.reuse_change.specs.Tree.{Sets, undo_folder_of}
use Rattle.reuse_store.specs.Apply.{NotesMutations}
use Rattle.reuse_change.specs.declared.change.Change.{Change}
use Rattle.reuse_store.specs.declared.store.Store.{Ghosts}
use Rattle.reuse_change.specs.declared.direction.Direction.{Direction}
use Rattle.reuse_store.proofs.AskedLemmas.{reads_more}
use Rattle.reuse_store.proofs.AtChange.{at_change, of_entry}
use Rattle.reuse_store.proofs.Durable.{certain_all, midway_set}
use Rattle.reuse_store.proofs.MadeLemmas.{ready_once, returned, stood, applied}
use Rattle.reuse_store.proofs.OfTree.{tree_at}
use Rattle.reuse_store.proofs.TreeLemmas.{tree_file}
use Rattle.reuse_change.proofs.Walk.{applies_once_by}
use Rattle.reuse_journal.specs.JournalFiles.{head_path}

-- a change that may have been made, and is taken back, leads to the file that was there at the start
back_at : (direction : Direction) (change : Change) (file old start : Option (List ℕ)) → IsProper change
    → AppliesBy direction change file old → IsReady direction change start
    → (old ≡ start) ⊎ AppliesBy direction change start old → file ≡ start
back_at direction change file old start proper applies ready (inl same) =
    absurd (ready_once direction change old proper (subst (IsReady direction change) (sym same) ready)
    (file, applied direction change file old applies))
back_at direction change file old start proper applies ready (inr made) =
    applies_once_by (opposite direction) change old file start (applied direction change file old applies)
    (applied direction change start old made)

-- on the way back to a tree one more change is taken back, or isn't
pub midway_back : (direction : Direction) (changes : List Change) (good : IsEntry changes) (i : ℕ)
    (lt : i < length changes) (change : Change) (is : change ≡ get_or changes i change)
    (start folder old now kept left : Files) (file : Option (List ℕ))
    → ArePartlyMade direction changes start (tree_of old)
    → ArePartlyMade direction (take i changes) (tree_of now) (tree_of old)
    → IsMidway direction changes start folder kept
    → AppliesBy (opposite direction) change (get now (path_of change)) file → Sets (path_of change) file kept left
    → IsMidway direction changes start folder left
midway_back direction changes good i lt change is start folder old now kept left file partly back midway applies sets =
    let of = of_entry changes i lt change is good in
    let path = path_of change in
    let held : get now path ≡ get (tree_of old) path =
    sym (stood direction changes good i lt change is (tree_of old) (tree_of now) back ∙ tree_at now path of.of_tree) in
    let made = at_change changes i lt change is (λ c. (get (tree_of old) (path_of c) ≡ get start (path_of c))
    ⊎ AppliesBy direction c (get start (path_of c)) (get (tree_of old) (path_of c))) partly.made.each in
    let ready = at_change changes i lt change is (λ c. IsReady direction c (get start (path_of c))) partly.ready in
    midway_set direction changes good i lt change is start folder kept left file midway
    (inl (back_at direction change file (get (tree_of old) path) (get start path) of.proper (subst
    (AppliesBy direction change file) held (returned direction change (get now path) file applies)) ready made)) sets

-- where all are taken back, a barrier over their paths makes all certain
pub certain_back : (direction : Direction) (changes : List Change) (start folder now kept left : Files)
    → tree_of now ≡ start → IsMidway direction changes start folder kept
    → DurableAfterBarrier changes now kept left → left ≡ now
certain_back direction changes start folder now kept left tree midway certain =
    certain_all changes now kept left certain
    (λ path none. midway.tree.others path none ∙ sym (ap (λ t. get t path) tree))

-- a barrier over the journal leaves each path of the tree as it is or as it might be
pub certain_midway : (direction : Direction) (changes : List Change) (start files kept left : Files)
    → SomeMade direction changes start (tree_of files) → SomeMade direction changes start (tree_of kept)
    → DurableAfterBarrier [] files kept left
    → IsMidway direction changes start (undo_folder_of files) left
certain_midway direction changes start files kept left now before certain = record {
  tree = record {
    each = λ k d lt.
        let c = get_or changes k d in
        let Made = λ (file : Option (List ℕ)). (file ≡ get start (path_of c))
        ⊎ AppliesBy direction c (get start (path_of c)) file in
        ⊎_elim (λ is. subst Made (sym is) (now.each k d lt)) (λ was. subst Made (sym was) (before.each k d lt))
        (here (path_of c));
    others = λ path none. ⊎_elim (λ is. is ∙ now.others path none) (λ was. was ∙ before.others path none) (here path);
  };
  folder = certain.folder;
}
  where
    in_tree : (one other : Files) (path : List ℕ) → get one path ≡ get other path
        → get (tree_of one) path ≡ get (tree_of other) path
    in_tree one other path e =
        tree_file one path ∙ ap (λ f. cond (not (lies_under path journal_folder)) f None) e ∙ sym (tree_file other path)

    here : (path : List ℕ)
        → (get (tree_of left) path ≡ get (tree_of files) path) ⊎ (get (tree_of left) path ≡ get (tree_of kept) path)
    here path = ⊎_elim (λ is. inl (in_tree left files path is)) (λ was. inr (in_tree left kept path was))
        (certain.others path refl)

-- a head was put on files that were certain, or not
pub head_or_not : {MightBe : Files → Type 0} (done left : Files) (text : List ℕ)
    → ((kept : Files) → MightBe kept → kept ≡ done) → WithOrWithout MightBe head_path (λ file. file ≡ Some text) left
    → (left ≡ done) ⊎ Sets head_path (Some text) done left
head_or_not done left text sure (inl was) = inl (sure left was)
head_or_not done left text sure (inr made) =
    inr (subst (λ file. Sets head_path file done left) made.3
    (subst (λ kept. Sets head_path made.2 kept left) (sure made.0 made.1) made.4))

-- a barrier behind the calls notes no more
pub notes_reads : {S : Type 0} (store : Ghosts S) (first last : Bool) (old between new : S)
    → NotesMutations store first last old between → OnlyReads store between new
    → NotesMutations store first last old new
notes_reads store first last old between new notes reads = record {
  still = λ e. let here = notes.still e in (here.0, reads_more store old between new here.1 reads);
  begun = λ none some. subst (λ n. store.mutations old < n) (sym reads.mutations) (notes.begun none some);
}
