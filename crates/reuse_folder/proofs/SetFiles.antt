-- Files with one path made to hold a file, or none.
use Rattle.std.proofs.Common.{◌≡◌, ◌≢◌, ◌⊎◌, inl, inr, ⊎_elim, ℕ, Bool, false, true, cond, List, Option, Some, None, refl, sym, ap, ◌∙◌}
use Rattle.std.specs.FinMap.{get, insert, remove}
use Rattle.reuse_change.specs.Files.{Files}
use Rattle.reuse_change.specs.Path.{lies_under, journal_folder}
use Rattle.reuse_change.specs.Tree.{undo_folder_of}
use Rattle.reuse_change.proofs.FileMaps.{same_files, same_or_other, get-put_same, get-put_other}
use Rattle.reuse_change.proofs.FileMaps.{get-removed_same, get-removed_other}
use Rattle.reuse_store.proofs.OfTree.{get-folder}

abbrev pub set : Files → List ℕ → Option (List ℕ) → Files
set files path (Some bytes) = insert files path bytes
set files path None = remove files path

pub get-set_same : (files : Files) (path : List ℕ) (file : Option (List ℕ)) → get (set files path file) path ≡ file
get-set_same files path (Some bytes) = get-put_same files path bytes
get-set_same files path None = get-removed_same files path

pub get-set_other : (files : Files) (path : List ℕ) (file : Option (List ℕ)) (other : List ℕ) → other ≢ path
    → get (set files path file) other ≡ get files other
get-set_other files path (Some bytes) other apart = get-put_other files path bytes other apart
get-set_other files path None other apart = get-removed_other files path other apart

-- two files of maps are equal that agree at the path and, where both are set there, elsewhere
by_paths : (m n : Files) (path : List ℕ) → get m path ≡ get n path
    → ((other : List ℕ) → other ≢ path → get m other ≡ get n other) → m ≡ n
by_paths m n path here elsewhere = same_files m n (λ other. ⊎_elim
    (λ (same : other ≡ path). ap (get m) same ∙ here ∙ ap (get n) (sym same)) (elsewhere other)
    (same_or_other other path))

-- setting what is there changes nothing
pub set_held : (files : Files) (path : List ℕ) (file : Option (List ℕ)) → get files path ≡ file
    → set files path file ≡ files
set_held files path file is = by_paths _ _ path (get-set_same files path file ∙ sym is)
    (get-set_other files path file)

-- of two settings of one path the last counts
pub set_again : (files : Files) (path : List ℕ) (first second : Option (List ℕ))
    → set (set files path first) path second ≡ set files path second
set_again files path first second = by_paths _ _ path
    (get-set_same (set files path first) path second ∙ sym (get-set_same files path second))
    (λ other apart. get-set_other (set files path first) path second other apart
    ∙ get-set_other files path first other apart ∙ sym (get-set_other files path second other apart))

-- settings of two paths come in any order
pub set_apart : (files : Files) (path other : List ℕ) (first second : Option (List ℕ)) → other ≢ path
    → set (set files path first) other second ≡ set (set files other second) path first
set_apart files path other first second apart = by_paths _ _ other
    (get-set_same (set files path first) other second
    ∙ sym (get-set_other (set files other second) path first other apart ∙ get-set_same files other second))
    (λ third not_other. get-set_other (set files path first) other second third not_other
    ∙ ⊎_elim (λ (same : third ≡ path). ap (get (set files path first)) same ∙ get-set_same files path first
    ∙ sym (get-set_same (set files other second) path first)
    ∙ ap (get (set (set files other second) path first)) (sym same))
    (λ (not_path : third ≢ path). get-set_other files path first third not_path
    ∙ sym (get-set_other files other second third not_other)
    ∙ sym (get-set_other (set files other second) path first third not_path))
    (same_or_other third path))

-- outside of the journal's folder a setting leaves that folder
pub folder_of_set : (files : Files) (path : List ℕ) (file : Option (List ℕ)) → lies_under path journal_folder ≡ false
    → undo_folder_of (set files path file) ≡ undo_folder_of files
folder_of_set files path file outside = by_paths _ _ path
    (at_path (set files path file) ∙ sym (at_path files))
    (λ other apart. get-folder (set files path file) other
    ∙ ap (λ f. cond (lies_under other journal_folder) f None) (get-set_other files path file other apart)
    ∙ sym (get-folder files other))
  where
    at_path : (some : Files) → get (undo_folder_of some) path ≡ None
    at_path some = get-folder some path ∙ ap (λ b. cond b (get some path) None) outside

-- a setting of files with one journal leaves them with one
pub folders_of_set : (first second : Files) (path : List ℕ) (file : Option (List ℕ))
    → undo_folder_of first ≡ undo_folder_of second
    → undo_folder_of (set first path file) ≡ undo_folder_of (set second path file)
folders_of_set first second path file same = same_files _ _ (λ other.
    get-folder (set first path file) other ∙ at_other other (same_or_other other path)
    ∙ sym (get-folder (set second path file) other))
  where
    at_other : (other : List ℕ) → (other ≡ path) ⊎ (other ≢ path)
        → cond (lies_under other journal_folder) (get (set first path file) other) None
        ≡ cond (lies_under other journal_folder) (get (set second path file) other) None
    at_other other (inl is) = ap (λ f. cond (lies_under other journal_folder) f None)
        (ap (get (set first path file)) is ∙ get-set_same first path file ∙ sym (get-set_same second path file)
        ∙ ap (get (set second path file)) (sym is))
    at_other other (inr apart) =
        ap (λ f. cond (lies_under other journal_folder) f None) (get-set_other first path file other apart)
        ∙ sym (get-folder first other) ∙ ap (λ f. get f other) same ∙ get-folder second other
        ∙ ap (λ f. cond (lies_under other journal_folder) f None) (sym (get-set_other second path file other apart))

-- files with one journal hold the same at a path in its folder
pub one_journal : (first second : Files) (path : List ℕ) → lies_under path journal_folder ≡ true
    → undo_folder_of first ≡ undo_folder_of second → get first path ≡ get second path
one_journal first second path inside same =
    ap (λ b. cond b (get first path) None) (sym inside) ∙ sym (get-folder first path) ∙ ap (λ f. get f path) same
    ∙ get-folder second path ∙ ap (λ b. cond b (get second path) None) inside

-- files with one tree hold the same at a path outside of it
pub either_side : (path : List ℕ) → (lies_under path journal_folder ≡ true) ⊎ (lies_under path journal_folder ≡ false)
either_side path = of_test (lies_under path journal_folder) refl
  where
    of_test : (b : Bool) → lies_under path journal_folder ≡ b
        → (lies_under path journal_folder ≡ true) ⊎ (lies_under path journal_folder ≡ false)
    of_test true e = inl e
    of_test false e = inr e
