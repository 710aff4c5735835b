-- The change at which a walk over the changes of an entry stands.
use Rattle.std.proofs.Common.{◌≡◌, ℕ, ◌+◌, ◌<◌, ◌≤◌, ◌⊎◌, inl, inr, true, List, ◌∷◌, length, take, drop, get_or, arith}
use Rattle.std.proofs.Common.{refl, sym, ap, subst, ◌∙◌}
use Rattle.std.specs.List.{All, list_any}
use Rattle.std.specs.FinMap.{keys}
use Rattle.std.proofs.Math.Seq.{take-length}
use Rattle.std.proofs.lemmas.List.{drop_more}
use Rattle.std.proofs.lemmas.List.Elements.{All-more}
use Rattle.std.proofs.lemmas.List.Folds.{list_any_at}
use Rattle.reuse_change.specs.Files.{Files, tree_of}
use Rattle.reuse_store.specs.Asked.{IsLater, OnlyReads}
use Rattle.reuse_change.specs.Change.{path_of, IsProper}
use Rattle.reuse_store.specs.declared.store.Store.{Ghosts}
use Rattle.reuse_store.proofs.AskedLemmas.{later_none, later_more, reads_more}
use Rattle.reuse_change.specs.declared.change.Change.{Change}
use Rattle.reuse_change.specs.Entry.{makes, IsEntry, IsFirstWithout, IsSmall, LeadsBy, LeadsByOneChange}
use Rattle.reuse_change.specs.Tree.{is_of_tree, undo_folder_of}
use Rattle.reuse_change.specs.declared.direction.Direction.{Direction}
use Rattle.reuse_store.proofs.OfTree.{folder_stays, step_of_tree}
use Rattle.reuse_store.proofs.Testing.{parted}
use Rattle.reuse_change.proofs.Walk.{leads_more}

-- the item at which a walk stands is the first of those that are left
pub left_here : {A : Type 0} (xs : List A) (i : ℕ) (lt : i < length xs) (x : A) (is : x ≡ get_or xs i x)
    → drop i xs ≡ x ∷ drop (i + 1) xs
left_here xs i lt x is = drop_more xs i x lt ∙ ap (λ y. y ∷ drop (i + 1) xs) (sym is)

-- a walk over the changes of an entry, so many of them by now, asks for one put or removal for each, counts no bytes
-- and leaves the
-- folder of the journal
pub record StaysBeside {S : Type 0} (store : Ghosts S) (old now : S) (changes : List Change) (count : ℕ) : Type 0 where
  pub mutations : store.mutations now ≤ store.mutations old + count
  pub written : IsEntry changes → store.written now ≡ store.written old
  pub later : IsLater store old now
  pub folder : store.honest now → IsEntry changes → undo_folder_of (store.files now) ≡ undo_folder_of (store.files old)

pub stays_none : {S : Type 0} (store : Ghosts S) (old : S) (changes : List Change) → StaysBeside store old old changes 0
stays_none store old changes = record {
  mutations = omega arith;
  written = λ good. refl;
  later = later_none store old;
  folder = λ honest good. refl;
}

pub stays_on : {S : Type 0} {store : Ghosts S} {old now next : S} {changes : List Change} {count : ℕ}
    → StaysBeside store old now changes count → IsLater store now next → store.mutations next ≤ store.mutations now + 1
    → (IsEntry changes → store.written next ≡ store.written now)
    → (store.honest next → IsEntry changes → undo_folder_of (store.files next) ≡ undo_folder_of (store.files now))
    → StaysBeside store old next changes (count + 1)
stays_on {S} {store} {old} {now} {next} beside later mutations written folder = record {
  mutations = omega (arith, mutations, beside.mutations);
  written = λ good. written good ∙ beside.written good;
  later = later_more store old now next beside.later later;
  folder = λ honest good. folder honest good ∙ beside.folder (later.was_honest honest) good;
}

-- what an entry says of each of its changes
pub record IsOfEntry (change : Change) : Type 0 where
  pub proper : IsProper change
  pub small : IsSmall change
  pub of_tree : is_of_tree (path_of change) ≡ true

module _ (changes : List Change) (i : ℕ) (lt : i < length changes) (change : Change)
    (is : change ≡ get_or changes i change) where
  -- what holds of all changes holds of this one
  pub at_change : (Holds : Change → Type 0) → All Holds changes → Holds change
  at_change Holds all = subst Holds (sym is) (all i change lt)

  pub of_entry : IsEntry changes → IsOfEntry change
  of_entry good = record {
    proper = at_change IsProper good.proper;
    small = at_change IsSmall good.small;
    of_tree = at_change (λ c. is_of_tree (path_of c) ≡ true) good.of_tree;
  }

  -- a test of it holds of the files with which the walk began
  pub tested_from : (Holds : Files → Type 0) (old now : Files) → IsEntry changes → now ≡ old
      → (IsProper change → IsSmall change → is_of_tree (path_of change) ≡ true → Holds now) → Holds old
  tested_from Holds old now good same test =
      let of = of_entry good in
      subst Holds same (test of.proper of.small of.of_tree)

  pub tested : {S : Type 0} {store : Ghosts S} {old now : S} (Holds : Files → Type 0) → IsEntry changes
      → OnlyReads store old now → store.honest now
      → (IsProper change → IsSmall change → is_of_tree (path_of change) ≡ true → Holds (store.files now))
      → Holds (store.files old)
  tested {S} {store} {old} {now} Holds good reads honest passed =
      tested_from Holds (store.files old) (store.files now) good (reads.files honest) passed

  -- one more passes, or it is the first that doesn't
  pub passes : (Holds : Change → Type 0) → All Holds (take i changes) → Holds change → All Holds (take (i + 1) changes)
  passes Holds passed here = All-more Holds changes i change lt passed (subst Holds is here)

  pub first_without : (Holds : Change → Type 0) (path : List ℕ) → All Holds (take i changes) → (Holds change → ⊥)
      → path ≡ path_of change → IsFirstWithout Holds changes path
  first_without Holds path passed stuck here = record {
    before = take i changes;
    change = change;
    behind = drop (i + 1) changes;
    list = parted changes i change lt is;
    here = here;
    passed = passed;
    stuck = stuck;
  }

-- a walk that has come to the end has gone over all changes
pub walked : (changes : List Change) (n : ℕ) → n ≡ length changes → take n changes ≡ changes
walked changes n last = ap (λ k. take k changes) last ∙ take-length changes

-- ---- a walk that stops at the change, before it is made or after it

pub folder_at_stop : (direction : Direction) (change : Change) (now after : Files) → is_of_tree (path_of change) ≡ true
    → (after ≡ now) ⊎ LeadsByOneChange direction change now after → undo_folder_of after ≡ undo_folder_of now
folder_at_stop direction change now after of_tree (inl same) = ap undo_folder_of same
folder_at_stop direction change now after of_tree (inr step) = folder_stays direction change now after of_tree step

pub leads_at_stop : (direction : Direction) (changes : List Change) (good : IsEntry changes) (i : ℕ)
    (lt : i < length changes) (change : Change) (is : change ≡ get_or changes i change) (start now after : Files)
    → LeadsBy direction (take i changes) start (tree_of now)
    → (after ≡ now) ⊎ LeadsByOneChange direction change now after
    → (count : ℕ) × LeadsBy direction (take count changes) start (tree_of after)
leads_at_stop direction changes good i lt change is start now after made (inl same) =
    (i, subst (λ files. LeadsBy direction (take i changes) start (tree_of files)) (sym same) made)
leads_at_stop direction changes good i lt change is start now after made (inr step) = (
  i + 1,
  leads_more direction changes good i lt change is start (tree_of now) made (tree_of after)
      (step_of_tree direction change now after (of_entry changes i lt change is good).of_tree step),
)
