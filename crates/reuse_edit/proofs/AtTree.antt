-- What stands at a path of the tree, and of all files with those of the journal.
use Rattle.std.proofs.Common.{◌≡◌, ℕ, Bool, true, false, List, refl, sym, ◌∙◌}
use Rattle.std.proofs.lemmas.Bool.{false≢true}
use Rattle.reuse_change.specs.Clash.{is_clash}
use Rattle.reuse_change.specs.Files.{Files, tree_of}
use Rattle.reuse_change.specs.Tree.{is_of_tree}
use Rattle.reuse_store.proofs.OfTree.{clash_in_tree, clash_in_files}
use Rattle.reuse_store.proofs.Testing.{clashes_keys}

-- a path that a file of the tree can have clashes with the tree exactly if it does with all files
pub clash_of_tree : (files : Files) (path : List ℕ) → is_of_tree path ≡ true
    → is_clash files path ≡ is_clash (tree_of files) path
clash_of_tree files path of_tree = of_tests (is_clash files path) refl (is_clash (tree_of files) path) refl
  where
    of_tests : (a : Bool) → is_clash files path ≡ a → (b : Bool) → is_clash (tree_of files) path ≡ b → a ≡ b
    of_tests true is true other = refl
    of_tests true is false other = absurd (false≢true (sym other
        ∙ (clashes_keys (tree_of files) path).1 (clash_in_tree files path of_tree ((clashes_keys files path).0 is))))
    of_tests false is true other = absurd (false≢true (sym is
        ∙ (clashes_keys files path).1 (clash_in_files files path ((clashes_keys (tree_of files) path).0 other))))
    of_tests false is false other = refl
