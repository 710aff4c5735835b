-- The path of a neighbour: it is of the tree, and isn't the path of its file.
use Rattle.std.proofs.Common.{◌≡◌, ℕ, Bool, true, false, not, ◌||◌, ◌&&◌, List, [], ◌∷◌, ◌++◌, codes, length, refl}
use Rattle.std.proofs.Common.{sym, ap, ◌∙◌, bytes_eq, ◌==◌, ap₂, arith, length-append, ◌≢◌}
use Rattle.std.proofs.lemmas.Bool.{false≢true, false_from_ne_true, or_right}
use Rattle.std.proofs.lemmas.Slice.Eq.{bytes_eq-Decides}
use Rattle.reuse_change.specs.Path.{lies_under, journal_folder}
use Rattle.reuse_change.specs.Tree.{is_of_tree}
use Rattle.reuse_command.specs.Covered.{is_in, is_outside}
use Rattle.reuse_change.proofs.ListingLemmas.{under_from_test}
use Rattle.std.specs.List.{list_any}
use Rattle.reuse_edit.specs.Annotate.{neighbour_of}
use Rattle.reuse_edit.proofs.TableLemmas.{IsWorkable, workable_within}

-- ---- paths that are in no folder whose files are not covered are of the tree

pub starts_reuse : (path : List ℕ) → is_outside path ≡ false → is_in (codes ".reuse") path ≡ false
starts_reuse path h =
    of_tests (is_in (codes "LICENSES") path) (is_in (codes ".reuse") path) (is_in (codes ".git") path) h
  where
    of_tests : (a b c : Bool) → (a || b || c) ≡ false → b ≡ false
    of_tests a false c h = refl
    of_tests true true c h = absurd (false≢true (sym h))
    of_tests false true c h = absurd (false≢true (sym h))

pub and_all : (a b c : Bool) → a ≡ false → b ≡ false → c ≡ false → (not a && not b && not c) ≡ true
and_all a b c e f g = rw (e, f, g)

-- ---- names of neighbours

abbrev pub ending : List ℕ
ending = codes ".license"

abbrev pub is_slash : ℕ → Bool
is_slash byte = byte == 47

heads : (x y : ℕ) (xs ys : List ℕ) → x ∷ xs ≡ y ∷ ys → x ≡ y
heads x y xs ys e = cc

tails : (x y : ℕ) (xs ys : List ℕ) → x ∷ xs ≡ y ∷ ys → xs ≡ ys
tails x y xs ys e = cc

pub has_slash : (xs rest : List ℕ) → list_any is_slash (xs ++ 47 ∷ rest) ≡ true
has_slash [] rest = refl
has_slash (x ∷ xs) rest = ap (λ b. is_slash x || b) (has_slash xs rest) ∙ or_right (is_slash x) true refl

-- a slash of a neighbour's path is one of its file's
pub cut : (path folder rest : List ℕ) → path ++ ending ≡ folder ++ 47 ∷ rest → (r : List ℕ) × (path ≡ folder ++ 47 ∷ r)
cut [] folder rest e = absurd (false≢true (ap (list_any is_slash) e ∙ has_slash folder rest))
cut (x ∷ path) [] rest e = (path, ap (λ n. n ∷ path) (heads x 47 (path ++ ending) rest e))
cut (x ∷ path) (y ∷ folder) rest e =
    let c = cut path folder rest (tails x y (path ++ ending) (folder ++ 47 ∷ rest) e) in
    (c.0, ap₂ (λ n l. n ∷ l) (heads x y (path ++ ending) (folder ++ 47 ∷ rest) e) c.1)

in_reuse : (path rest : List ℕ) → is_outside path ≡ false → path ++ ending ≡ codes ".reuse" ++ 47 ∷ rest → ⊥
in_reuse path rest inside e =
    let c = cut path (codes ".reuse") rest e in
    false≢true (sym (starts_reuse path inside) ∙ ap (is_in (codes ".reuse")) c.1 ∙ or_right _ true refl)

-- its neighbour is of the tree
neighbour_of_tree : (path : List ℕ) → is_outside path ≡ false → is_of_tree (path ++ ending) ≡ true
neighbour_of_tree path inside =
    and_all (bytes_eq (path ++ ending) (codes ".reuse")) (bytes_eq (path ++ ending) journal_folder)
    (lies_under (path ++ ending) journal_folder)
    (false_from_ne_true _ (λ e. let size = ap length ((bytes_eq-Decides (path ++ ending) (codes ".reuse")).0 e) in
    omega (arith, size, length-append path ending)))
    (false_from_ne_true _
    (λ e. in_reuse path (codes "undo") inside ((bytes_eq-Decides (path ++ ending) journal_folder).0 e)))
    (false_from_ne_true _ (λ e. let u = under_from_test (path ++ ending) journal_folder e in
    in_reuse path (codes "undo" ++ 47 ∷ u.0) inside u.1))

pub beside_of_tree : (path : List ℕ) → IsWorkable path → is_of_tree (path ++ ending) ≡ true
beside_of_tree path workable = neighbour_of_tree path (workable_within path workable)

-- ---- a neighbour is another file

pub apart : (path : List ℕ) → path ≢ neighbour_of path
apart path same = let size = ap length same in omega (arith, size, length-append path (codes ".license"))
