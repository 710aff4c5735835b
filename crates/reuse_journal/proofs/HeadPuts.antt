-- Puts of the journal's head beside the changes of a tree.
use Rattle.std.proofs.Common.{◌≡◌, ℕ, Bool, true, false, cond, not, List, Option, Some, None, is_some, refl, sym, ap}
use Rattle.std.proofs.Common.{subst, ◌∙◌}
use Rattle.std.specs.FinMap.{get}
use Rattle.reuse_change.specs.Path.{lies_under, journal_folder}
use Rattle.reuse_change.specs.Files.{Files, Clashes, AreFiles, tree_of}
use Rattle.reuse_change.specs.declared.change.Change.{Change}
use Rattle.reuse_change.specs.Entry.{touches, IsEntry}
use Rattle.reuse_journal.specs.JournalFiles.{head_path}
use Rattle.reuse_change.specs.Tree.{is_of_tree, undo_folder_of, Sets}
use Rattle.reuse_change.proofs.Differ.{touching}
use Rattle.reuse_store.proofs.TreeLemmas.{tree_file}
use Rattle.reuse_store.proofs.OfTree.{get-folder, apart_from_journal}
use Rattle.reuse_journal.proofs.JournalLemmas.{head_in_folder, sets_in_folder}
use Rattle.std.proofs.Math.Bool.{or_comm}

-- the head is put: the folder has it, and the tree stays
pub head_sets : (files after : Files) (file : Option (List ℕ)) → Sets head_path file files after
    → Sets head_path file (undo_folder_of files) (undo_folder_of after)
head_sets files after file sets = (sets_in_folder files after head_path file head_in_folder sets).0

pub head_keeps_tree : (files after : Files) (file : Option (List ℕ)) → Sets head_path file files after
    → tree_of after ≡ tree_of files
head_keeps_tree files after file sets = (sets_in_folder files after head_path file head_in_folder sets).1

-- what is set twice at a path is what was set last
pub sets_again : (path : List ℕ) (first second : Option (List ℕ)) (a b c d : Files) → Sets path first a b → c ≡ b
    → Sets path second c d → Sets path second a d
sets_again path first second a b c d sets same more = record {
  here = more.here;
  elsewhere =
      λ other differs. more.elsewhere other differs ∙ ap (λ files. get files other) same ∙ sets.elsewhere other differs;
}

in_folder : (files : Files) (path : List ℕ) → lies_under path journal_folder ≡ true
    → get (undo_folder_of files) path ≡ get files path
in_folder files path under = get-folder files path ∙ ap (λ b. cond b (get files path) None) under

in_tree : (files : Files) (path : List ℕ) → lies_under path journal_folder ≡ false
    → get (tree_of files) path ≡ get files path
in_tree files path outside = tree_file files path ∙ ap (λ b. cond (not b) (get files path) None) outside

-- a head that is there doesn't clash
pub head_is_free : (files : Files) (text : List ℕ) → AreFiles files → get (undo_folder_of files) head_path ≡ Some text
    → Clashes files head_path → ⊥
head_is_free files text are there clash =
    are.apart head_path (ap is_some (sym (in_folder files head_path head_in_folder) ∙ there)) clash

-- where the changes of an entry alone are made, the head clashes with nothing new
module _ (changes : List Change) (good : IsEntry changes) (old now : Files)
    (others : (path : List ℕ) → touches changes path ≡ false → get (tree_of now) path ≡ get (tree_of old) path)
    (folder : undo_folder_of now ≡ undo_folder_of old) where
  touched_of_tree : (path : List ℕ) → touches changes path ≡ true → is_of_tree path ≡ true
  touched_of_tree path e =
      let found = touching changes path e in
      subst (λ p. is_of_tree p ≡ true) (sym found.3) (good.of_tree found.0 found.1 found.2)

  pub head_clashed : Clashes now head_path → Clashes old head_path
  head_clashed clash = record {
    other = clash.other;
    is_file = ap is_some (sym (of_folder (lies_under clash.other journal_folder) refl)) ∙ clash.is_file;
    nested = clash.nested;
  }
    where
      of_change : (b : Bool) → touches changes clash.other ≡ b
          → get (tree_of now) clash.other ≡ get (tree_of old) clash.other
      of_change true e = absurd (apart_from_journal clash.other head_path (touched_of_tree clash.other e) head_in_folder
          (or_comm (lies_under head_path clash.other) (lies_under clash.other head_path) ∙ clash.nested))
      of_change false e = others clash.other e

      of_folder : (b : Bool) → lies_under clash.other journal_folder ≡ b → get now clash.other ≡ get old clash.other
      of_folder true e =
          sym (in_folder now clash.other e) ∙ ap (λ files. get files clash.other) folder ∙ in_folder old clash.other e
      of_folder false e =
          sym (in_tree now clash.other e) ∙ of_change (touches changes clash.other) refl ∙ in_tree old clash.other e
