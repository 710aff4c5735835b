-- What a loss of power may leave of a store.
use Rattle.std.proofs.Common.{◌≡◌, ◌≢◌, ◌⊎◌, inl, inr, ⊎_elim, ℕ, ◌<◌, ◌≤◌, Bool, true, false, cond, not, List, []}
use Rattle.std.proofs.Common.{length, get_or, take, Option, Some, None, Result, Ok, Err, OnOk, IfErr, refl, sym, ap}
use Rattle.std.proofs.Common.{subst, ◌∙◌, arith}
use Rattle.std.specs.FinMap.{get, insert, remove}
use Rattle.std.proofs.lemmas.Bool.{cases_lt}
use Rattle.std.proofs.lemmas.List.{get_or_default, get_or-take, length-take}
use Rattle.reuse_store.specs.Asked.{IsPut, IsRemoval, MaySet}
use Rattle.reuse_change.specs.Change.{path_of}
use Rattle.reuse_change.specs.Entry.{touches, IsEntry, LeadsBy, SomeMade, AppliesBy}
use Rattle.reuse_change.specs.Files.{Files, tree_of}
use Rattle.reuse_change.specs.Path.{lies_under, journal_folder}
use Rattle.reuse_store.specs.Durable.{DurableAfterBarrier, IsMidway, WithOrWithout}
use Rattle.reuse_store.specs.Store.{Puts, PutFails}
use Rattle.reuse_change.specs.Tree.{Sets, is_of_tree, undo_folder_of}
use Rattle.reuse_change.specs.declared.change.Change.{Change}
use Rattle.reuse_store.specs.declared.fault.StoreFault.{StoreFault}
use Rattle.reuse_store.specs.declared.fault.StoreFault.TheVariants.{Device, Clash, Memory}
use Rattle.reuse_store.specs.declared.store.Store.{Ghosts}
use Rattle.reuse_change.specs.declared.direction.Direction.{Direction}
use Rattle.reuse_change.proofs.FileMaps.{same_files, same_or_other, get-put_same, get-put_other, get-removed_same}
use Rattle.reuse_change.proofs.FileMaps.{get-removed_other}
use Rattle.reuse_store.proofs.MadeLemmas.{made_none}
use Rattle.reuse_store.proofs.OfTree.{tree_at, get-folder, outside}
use Rattle.reuse_store.proofs.TreeLemmas.{tree_file}
use Rattle.reuse_change.proofs.Walk.{not_touched, of_no_change, touched}

-- files in memory after a put
pub left_by_put : (answer : Result (Unit {0}) StoreFault) (old new left : Files) (path bytes : List ℕ)
    → OnOk answer (Puts path bytes old new) → IfErr answer (λ fault. PutFails fault path bytes old new) → left ≡ new
    → (left ≡ old) ⊎ ((kept : Files) × (kept ≡ old) × (left ≡ insert kept path bytes))
left_by_put (Ok done) old new left path bytes ok err is = inr (old, refl, is ∙ ok.files)
left_by_put (Err Clash) old new left path bytes ok err is = inl (is ∙ err.1)
left_by_put (Err Device) old new left path bytes ok err is =
    ⊎_elim (λ same. inl (is ∙ same)) (λ puts. inr (old, refl, is ∙ puts.files)) err
left_by_put (Err Memory) old new left path bytes ok err is =
    ⊎_elim (λ same. inl (is ∙ same)) (λ puts. inr (old, refl, is ∙ puts.files)) err

pub certain_alone : (changes : List Change) (files left : Files) → left ≡ files
    → DurableAfterBarrier changes files left left
certain_alone changes files left is = record {
  folder = ap undo_folder_of is;
  here = λ path touched. ap (λ f. get f path) is;
  others = λ path none. inr refl;
}

-- ---- after a put or a removal

pub insert_sets : (kept left : Files) (path bytes : List ℕ) → left ≡ insert kept path bytes
    → Sets path (Some bytes) kept left
insert_sets kept left path bytes is = record {
  here = ap (λ files. get files path) is ∙ get-put_same kept path bytes;
  elsewhere = λ other apart. ap (λ files. get files other) is ∙ get-put_other kept path bytes other apart;
}

pub remove_sets : (kept left : Files) (path : List ℕ) → left ≡ remove kept path → Sets path None kept left
remove_sets kept left path is = record {
  here = ap (λ files. get files path) is ∙ get-removed_same kept path;
  elsewhere = λ other apart. ap (λ files. get files other) is ∙ get-removed_other kept path other apart;
}

module _ {S : Type 0} (store : Ghosts S) (old new : S) (answer : Result (Unit {0}) StoreFault) where
  pub may_set_by_put : (path bytes : List ℕ) → IsPut store path bytes old new answer
      → MaySet store path (λ file. file ≡ Some bytes) old new
  may_set_by_put path bytes puts left is =
      ⊎_elim (λ was. inl was)
      (λ (made : (kept : Files) × store.crash_states old kept × (left ≡ insert kept path bytes)). inr
      (made.0, made.1, Some bytes, refl, insert_sets made.0 left path bytes made.2))
      (puts.may left is)

  pub may_set_by_removal : (path : List ℕ) → IsRemoval store path old new answer
      → MaySet store path (λ file. file ≡ None) old new
  may_set_by_removal path removes left is =
      ⊎_elim (λ was. inl was)
      (λ (made : (kept : Files) × store.crash_states old kept × (left ≡ remove kept path)). inr
      (made.0, made.1, None, refl, remove_sets made.0 left path made.2))
      (removes.may left is)

-- another word for the file, and another path
pub set_weaker : {MightBe Before : Files → Type 0} {IsOne IsOther : Option (List ℕ) → Type 0} (path given : List ℕ)
    (left : Files) → given ≡ path → ((kept : Files) → MightBe kept → Before kept)
    → ((file : Option (List ℕ)) → IsOne file → IsOther file)
    → WithOrWithout MightBe given IsOne left → WithOrWithout Before path IsOther left
set_weaker path given left is before weaker (inl was) = inl (before left was)
set_weaker path given left is before weaker (inr made) =
    inr (made.0, before made.0 made.1, made.2, weaker made.2 made.3, subst (λ p. Sets p made.2 made.0 left) is made.4)

-- ---- some of the changes of an entry

same_or_other_number : (k i : ℕ) → (k ≡ i) ⊎ (k ≢ i)
same_or_other_number k i = ⊎_elim
    (λ (low : k < i). inr (λ same. absurd (below same low)))
    (λ (high : i ≤ k). ⊎_elim (λ (above : i < k). inr (λ same. absurd (below (sym same) above)))
    (λ (last : k ≤ i). inl (omega arith)) (cases_lt i k))
    (cases_lt k i)
  where
    below : {a b : ℕ} → a ≡ b → a < b → ⊥
    below {a} {b} same lt = omega arith

-- two changes of an entry are of two paths
apart_places : (changes : List Change) → IsEntry changes → (k i : ℕ) (d e : Change) → k < length changes
    → i < length changes → k ≢ i → path_of (get_or changes k d) ≢ path_of (get_or changes i e)
apart_places changes good k i d e k_lt i_lt other = ⊎_elim
    (λ (low : k < i). λ same. of_no_change (take i changes) (path_of (get_or changes i e)) (not_touched changes good i e
    i_lt) k d (omega (arith, length-take i changes)) (ap path_of (get_or-take i changes k d low) ∙ same))
    (λ (high : i ≤ k). let lt : i < k = omega arith in
    λ same. of_no_change (take k changes) (path_of (get_or changes k d)) (not_touched changes good k d k_lt) i e
    (omega (arith, length-take k changes)) (ap path_of (get_or-take k changes i e lt) ∙ sym same))
    (cases_lt k i)

pub midway_none : (direction : Direction) (changes : List Change) (files left : Files) → left ≡ files
    → IsMidway direction changes (tree_of files) (undo_folder_of files) left
midway_none direction changes files left is = subst (IsMidway direction changes (tree_of files) (undo_folder_of files))
    (sym is) (record { tree = made_none direction changes (tree_of files); folder = refl })

-- a path of the tree that is set leaves the files of the journal, and in the tree it is set too
pub folder_beside_set : (path : List ℕ) (file : Option (List ℕ)) (kept left : Files) → is_of_tree path ≡ true
    → Sets path file kept left → undo_folder_of left ≡ undo_folder_of kept
folder_beside_set path file kept left of_tree sets = same_files _ _ (λ other.
    get-folder left other ∙ ⊎_elim
    (λ (here : other ≡ path). let none : lies_under other journal_folder ≡ false = ap
    (λ p. lies_under p journal_folder) here ∙ outside path of_tree in
    ap (λ b. cond b (get left other) None) none ∙ sym (ap (λ b. cond b (get kept other) None) none))
    (λ (apart : other ≢ path). ap (λ f. cond (lies_under other journal_folder) f None) (sets.elsewhere other apart))
    (same_or_other other path)
    ∙ sym (get-folder kept other))

pub tree_of_set : (path : List ℕ) (file : Option (List ℕ)) (kept left : Files) → is_of_tree path ≡ true
    → Sets path file kept left → Sets path file (tree_of kept) (tree_of left)
tree_of_set path file kept left of_tree sets = record {
  here = tree_at left path of_tree ∙ sets.here;
  elsewhere = λ other apart. tree_file left other ∙ ap (λ f. cond (not (lies_under other journal_folder)) f None)
      (sets.elsewhere other apart) ∙ sym (tree_file kept other);
}

-- one more of the changes is made, or it isn't any more
pub midway_set : (direction : Direction) (changes : List Change) (good : IsEntry changes) (i : ℕ)
    (lt : i < length changes) (change : Change) (is : change ≡ get_or changes i change) (start folder kept left : Files)
    (file : Option (List ℕ))
    → IsMidway direction changes start folder kept
    → (file ≡ get start (path_of change)) ⊎ AppliesBy direction change (get start (path_of change)) file
    → Sets (path_of change) file kept left → IsMidway direction changes start folder left
midway_set direction changes good i lt change is start folder kept left file midway made sets =
    let of_tree : is_of_tree (path_of change) ≡ true =
    subst (λ c. is_of_tree (path_of c) ≡ true) (sym is) (good.of_tree i change lt) in
    let in_tree = tree_of_set (path_of change) file kept left of_tree sets in
    let Made = λ (c : Change). (get (tree_of left) (path_of c) ≡ get start (path_of c))
    ⊎ AppliesBy direction c (get start (path_of c)) (get (tree_of left) (path_of c)) in record {
      tree = record {
        each = λ k d k_lt. ⊎_elim
            (λ (same : k ≡ i).
            let here : Made change =
            subst (λ f. (f ≡ get start (path_of change)) ⊎ AppliesBy direction change (get start (path_of change)) f)
            (sym in_tree.here) made in
            subst Made (is ∙ get_or_default changes i change d lt ∙ ap (λ n. get_or changes n d) (sym same)) here)
            (λ (other : k ≢ i).
            let c = get_or changes k d in
            let apart : path_of c ≢ path_of change =
            λ e. apart_places changes good k i d change k_lt lt other (e ∙ ap path_of is) in
            subst (λ f. (f ≡ get start (path_of c)) ⊎ AppliesBy direction c (get start (path_of c)) f)
            (sym (in_tree.elsewhere (path_of c) apart)) (midway.tree.each k d k_lt))
            (same_or_other_number k i);
        others = λ path none. in_tree.elsewhere path
            (λ e. of_no_change changes path none i change lt (sym (e ∙ ap path_of is))) ∙ midway.tree.others path none;
      };
      folder = folder_beside_set (path_of change) file kept left of_tree sets ∙ midway.folder;
    }

-- ---- behind a barrier

-- a path in the journal's folder holds what it does there, and one outside what it does in the tree
in_folder : (files : Files) (path : List ℕ) → lies_under path journal_folder ≡ true
    → get (undo_folder_of files) path ≡ get files path
in_folder files path e = get-folder files path ∙ ap (λ b. cond b (get files path) None) e

in_tree : (files : Files) (path : List ℕ) → lies_under path journal_folder ≡ false
    → get (tree_of files) path ≡ get files path
in_tree files path e = tree_file files path ∙ ap (λ b. cond (not b) (get files path) None) e

-- what is left is certain at each path if it is at each of the tree that no change touches
pub certain_all : (changes : List Change) (files kept left : Files) → DurableAfterBarrier changes files kept left
    → ((path : List ℕ) → touches changes path ≡ false → get (tree_of kept) path ≡ get (tree_of files) path)
    → left ≡ files
certain_all changes files kept left certain same =
    same_files left files (λ path. at_path path (lies_under path journal_folder) refl)
  where
    at_test : (path : List ℕ) → lies_under path journal_folder ≡ false → (b : Bool) → touches changes path ≡ b
        → get left path ≡ get files path
    at_test path out true e = certain.here path e
    at_test path out false e = ⊎_elim (λ is. is)
        (λ was. was ∙ sym (in_tree kept path out) ∙ same path e ∙ in_tree files path out) (certain.others path e)

    at_path : (path : List ℕ) (b : Bool) → lies_under path journal_folder ≡ b → get left path ≡ get files path
    at_path path true e =
        sym (in_folder left path e) ∙ ap (λ folder. get folder path) certain.folder ∙ in_folder files path e
    at_path path false e = at_test path e (touches changes path) refl

-- all changes are made, and nothing but some of them might be
pub certain_made : (direction : Direction) (changes : List Change) (start now kept left : Files)
    → LeadsBy direction changes (tree_of start) (tree_of now) → IsMidway direction changes (tree_of start)
    (undo_folder_of start) kept → DurableAfterBarrier changes now kept left → left ≡ now
certain_made direction changes start now kept left leads midway certain =
    certain_all changes now kept left certain (λ path none. midway.tree.others path none ∙ sym (leads.others path none))

-- where the tree is certain, a barrier over the journal makes all certain
pub certain_tree : (files kept left : Files) → tree_of kept ≡ tree_of files
    → DurableAfterBarrier [] files kept left → left ≡ files
certain_tree files kept left same certain =
    certain_all [] files kept left certain (λ path none. ap (λ t. get t path) same)
