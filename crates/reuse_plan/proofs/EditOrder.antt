-- Changes in another order make the same tree.
use Rattle.std.proofs.Common.{◌≡◌, ◌⊎◌, inl, inr, ℕ, zero, suc, ◌+◌, ◌<◌, Bool, true, false, cond, ◌||◌, nat_lt, List}
use Rattle.std.proofs.Common.{[], ◌∷◌, ◌++◌, length, map, take, drop, get_or, Less, Equal, Greater, Ordering, Option}
use Rattle.std.proofs.Common.{Some, None, Result, Ok, Err, refl, sym, ap, ap₂, subst, ◌∙◌, arith, length-append}
use Rattle.std.proofs.Common.{append_assoc, Contains, bytes_eq, IsPermutation, IsSortedBy}
use Rattle.std.specs.Ordering.{nat_cmp, is_lt, ordering_reverse, is_eq}
use Rattle.std.specs.Cmp.Lexicographic.{slice_cmp, nat_list_cmp_total, nat_list_eq_equiv}
use Rattle.std.specs.List.{All, AllByRecursion, IsDistinct}
use Rattle.std.specs.FinMap.{get}
use Rattle.std.proofs.lemmas.Bool.{false≢true, or_cases}
use Rattle.std.proofs.lemmas.List.{length-map, get_or-map}
use Rattle.std.proofs.lemmas.List.Elements.{All-from_recursion, recursion_from_All}
use Rattle.std.proofs.lemmas.List.Sorted.{IsPermutation-map, All-permutation, Contains-permutation, length_permutation}
use Rattle.std.proofs.lemmas.List.Sorted.{sum_by-IsPermutation, list_any-IsPermutation}
use Rattle.std.proofs.lemmas.Map.Keys.{IsDistinct-head, IsDistinct-tail, IsDistinct-IsPermutation}
use Rattle.std.proofs.lemmas.Map.Keys.{sorted_from_all_adjacent}
use Rattle.std.proofs.lemmas.Map.Text.{is_eq-slice_cmp}
use Rattle.std.proofs.lemmas.Slice.Eq.{bytes_eq-Decides}
use Rattle.reuse_change.specs.Path.{lies_under}
use Rattle.reuse_change.specs.Files.{Files, AreFiles}
use Rattle.reuse_change.specs.declared.change.Change.{Change}
use Rattle.reuse_change.specs.declared.change.Change.TheVariants.{Make, Drop, Splice}
use Rattle.reuse_change.specs.Change.{path_of, Applies}
use Rattle.reuse_change.proofs.FileMaps.{same_files}
use Rattle.reuse_change.specs.Entry.{removed_by, written_by, entry_size}
use Rattle.reuse_command.specs.declared.reply.Refusal.{Refusal}
use Rattle.reuse_command.specs.declared.reply.Refusal.TheVariants.{TooMany}
use Rattle.reuse_change.specs.Listing.{ArePaths, is_among}
use Rattle.reuse_edit.specs.Edit.{Edit}
use Rattle.reuse_plan.specs.Outcome.{edited, edit_size, is_too_many, tree_after}
use Rattle.reuse_plan.specs.Plan.{IsPlan, is_before}
use Rattle.reuse_edit.specs.Answered.{CarriesOutEdit, MakesEach, MakesEdits}
use Rattle.reuse_plan.proofs.Planning.{paths_at, edited_other, EachHas, AreDistinct, each_has, IsFit, AreEdits, all_do}
use Rattle.reuse_plan.proofs.Planning.{same_many, plan_of_edits}
use Rattle.std.proofs.Math.Seq.{take-append_seam}

-- ---- the edit that a change makes

-- what a path holds after a change of what it held
abbrev file_after : Change → Option (List ℕ) → Option (List ℕ)
file_after (Make path new digest) file = Some new
file_after (Drop path old digest) file = None
file_after (Splice path at old new rest seal) None = None
file_after (Splice path at old new rest seal) (Some bytes) = Some (take at bytes ++ new ++ drop (at + length old) bytes)

drop_front : (xs ys : List ℕ) → drop (length xs) (xs ++ ys) ≡ ys
drop_front [] ys = refl
drop_front (x ∷ xs) ys = drop_front xs ys

some_is : (x y : List ℕ) → Some x ≡ Some y → x ≡ y
some_is x y e = cc

spliced : (bytes front old new back : List ℕ) (at : ℕ) → bytes ≡ front ++ old ++ back → length front ≡ at
    → take at bytes ++ new ++ drop (at + length old) bytes ≡ front ++ new ++ back
spliced bytes front old new back at e n =
    ap₂ (λ x y. x ++ new ++ y)
    (ap₂ take (sym n) (e ∙ append_assoc front old back) ∙ take-append_seam front (old ++ back))
    (ap₂ drop (ap (λ m. m + length old) (sym n) ∙ sym (length-append front old)) e ∙ drop_front (front ++ old) back)

applied : (c : Change) (before after : Option (List ℕ)) → Applies c before after → file_after c before ≡ after
applied (Make path new digest) before after t = sym t.range.1
applied (Drop path old digest) before after t = sym t.range.1
applied (Splice path at old new rest seal) None after t = absurd (none_is t.range.2.whole)
  where
    none_is : {x : List ℕ} → None ≡ Some x → ⊥
    none_is e = cc
applied (Splice path at old new rest seal) (Some bytes) after t =
    let r = t.range in
    ap (λ x. Some x)
    (spliced bytes r.0 old new r.1 at (some_is bytes (r.0 ++ old ++ r.1) r.2.whole) r.2.before) ∙ sym r.3.whole

abbrev edit_made : Files → Change → Edit
edit_made tree c = record {
  path = path_of c;
  removed = removed_by c;
  written = written_by c;
  file = file_after c (get tree (path_of c));
}

made_is : (tree : Files) (c : Change) (e : Edit) → CarriesOutEdit tree c e → e ≡ edit_made tree c
made_is tree c e makes =
    let file : e.file ≡ file_after c (get tree (path_of c)) =
    sym (applied c (get tree e.path) e.file makes.applies) ∙ ap (λ p. file_after c (get tree p)) (sym makes.path) in
    λ i. record { path = sym makes.path i; removed = sym makes.removed i; written = sym makes.written i; file = file i }

list_made : (tree : Files) (changes : List Change) (edits : List Edit) → MakesEach tree changes edits
    → edits ≡ map (edit_made tree) changes
list_made tree [] [] each = refl
list_made tree (c ∷ changes) (e ∷ edits) each =
    ap₂ (λ x xs. x ∷ xs) (made_is tree c e each.0) (list_made tree changes edits each.1)
list_made tree changes edits each = absurd each

abbrev MakesIts : Files → Change → Type 0
MakesIts tree c = CarriesOutEdit tree c (edit_made tree c)

all_made : (tree : Files) (changes : List Change) (edits : List Edit) → MakesEach tree changes edits
    → All (MakesIts tree) changes
all_made tree = all_do tree (MakesIts tree) (λ c e makes. subst (CarriesOutEdit tree c) (made_is tree c e makes) makes)

each_made : (tree : Files) (changes : List Change) → All (MakesIts tree) changes
    → MakesEach tree changes (map (edit_made tree) changes)
each_made tree [] all = tt
each_made tree (c ∷ changes) all =
    (all 0 c (omega arith), each_made tree changes (λ k d h. all (suc k) d (omega arith)))

-- ---- edits of distinct paths

has_at : (files : Files) (edits : List Edit) → EachHas files edits → (k : ℕ) (e : Edit) → k < length edits
    → get_or edits k e ≡ e → get files e.path ≡ e.file
has_at files [] each k e low is = absurd (omega arith)
has_at files (x ∷ edits) each zero e low is = subst (λ (y : Edit). get files y.path ≡ y.file) is each.0
has_at files (x ∷ edits) each (suc k) e low is = has_at files edits each.1 k e (omega arith) is

among_edit : (edits : List Edit) (q : List ℕ) → is_among (paths_at edits) q ≡ true
    → (e : Edit) × Contains edits e × (q ≡ e.path)
among_edit [] q h = absurd (false≢true h)
among_edit (x ∷ edits) q h = by_case (or_cases (bytes_eq q x.path) (is_among (paths_at edits) q) h) (among_edit edits q)
  where
    by_case : (bytes_eq q x.path ≡ true) ⊎ (is_among (paths_at edits) q ≡ true)
        → (is_among (paths_at edits) q ≡ true → (e : Edit) × Contains edits e × (q ≡ e.path))
        → (e : Edit) × Contains (x ∷ edits) e × (q ≡ e.path)
    by_case (inl same) rest = (x, (0, omega arith, refl), (bytes_eq-Decides q x.path).0 same)
    by_case (inr later) rest = let r = rest later in (r.0, (suc r.1.0, omega (arith, r.1.1), r.1.2), r.2)

module _ (tree : Files) (edits others : List Edit) (moved : IsPermutation edits others)
    (distinct : AreDistinct edits) where
  same_among : (q : List ℕ) → is_among (paths_at edits) q ≡ is_among (paths_at others) q
  same_among q = list_any-IsPermutation (λ p. bytes_eq q p) (paths_at edits) (paths_at others)
      (IsPermutation-map (λ (e : Edit). e.path) edits others moved)

  pub still_distinct : AreDistinct others
  still_distinct = IsDistinct-IsPermutation bytes_eq (nat_list_eq_equiv.symm) (paths_at edits) (paths_at others)
      (IsPermutation-map (λ (e : Edit). e.path) edits others moved) distinct

  -- the same tree, whatever the order
  pub same_tree : edited tree edits ≡ edited tree others
  same_tree = same_files _ _ (λ q. of_test q (is_among (paths_at edits) q) refl)
    where
      of_test : (q : List ℕ) (b : Bool) → is_among (paths_at edits) q ≡ b
          → get (edited tree edits) q ≡ get (edited tree others) q
      of_test q false h = edited_other tree edits q h ∙ sym (edited_other tree others q (sym (same_among q) ∙ h))
      of_test q true h =
          let found = among_edit edits q h in
          let e = found.0 in
          let there = Contains-permutation edits others found.0 moved found.1 in
          subst (λ p. get (edited tree edits) p ≡ get (edited tree others) p) (sym found.2)
          (has_at (edited tree edits) edits (each_has tree edits distinct) found.1.0 found.0 found.1.1 found.1.2
          ∙ sym
          (has_at (edited tree others) others (each_has tree others still_distinct) there.0 found.0 there.1 there.2))

  pub same_too_many : is_too_many edits ≡ is_too_many others
  same_too_many = ap₂ (λ m n. nat_lt 100_000 m || nat_lt 268_435_456 (256 + n))
      (sym (length_permutation edits others moved)) (sym (sum_by-IsPermutation edit_size edits others moved))

-- ---- sorted by their paths

distinct_next : (ks : List (List ℕ)) (k : ℕ) (d : List ℕ) → IsDistinct bytes_eq ks → suc k < length ks
    → bytes_eq (get_or ks k d) (get_or ks (suc k) d) ≡ false
distinct_next [] k d h low = absurd (omega arith)
distinct_next (x ∷ []) k d h low = absurd (omega arith)
distinct_next (x ∷ y ∷ ks) zero d h low = (IsDistinct-head bytes_eq x (y ∷ ks) h).0
distinct_next (x ∷ y ∷ ks) (suc k) d h low =
    distinct_next (y ∷ ks) k d (IsDistinct-tail bytes_eq x (y ∷ ks) h) (omega arith)

below_next : (x y : List ℕ) → is_lt (slice_cmp nat_cmp y x) ≡ false → bytes_eq x y ≡ false
    → slice_cmp nat_cmp x y ≡ Less
below_next x y up other = of_order (slice_cmp nat_cmp x y) refl
  where
    of_order : (o : Ordering) → slice_cmp nat_cmp x y ≡ o → slice_cmp nat_cmp x y ≡ Less
    of_order Less e = e
    of_order Equal e = absurd (false≢true (sym other ∙ sym (is_eq-slice_cmp x y) ∙ ap is_eq e))
    of_order Greater e =
        absurd (false≢true (sym up ∙ ap is_lt (nat_list_cmp_total.antisymm y x ∙ ap ordering_reverse e)))

pub ascending_sorted : (ks : List (List ℕ)) → IsSortedBy (λ x y. is_lt (slice_cmp nat_cmp x y)) ks
    → IsDistinct bytes_eq ks → ArePaths ks
ascending_sorted ks sorted distinct =
    sorted_from_all_adjacent nat_list_cmp_total ks []
    (λ k low. below_next (get_or ks k []) (get_or ks (k + 1) []) (sorted k [] (omega arith) low)
    (let e : suc k ≡ k + 1 = omega arith in subst (λ n. bytes_eq (get_or ks k []) (get_or ks n []) ≡ false) e
    (distinct_next ks k [] distinct (omega (arith, low)))))

-- ---- the plan of changes that were sorted

-- fit edits of distinct paths, none a folder of another, in any order
pub record AreFit (tree : Files) (edits : List Edit) : Type 0 where
  pub distinct : AreDistinct edits
  pub apart : (path other : List ℕ) → is_among (paths_at edits) path ≡ true → is_among (paths_at edits) other ≡ true
      → (lies_under other path || lies_under path other) ≡ false
  pub each : AllByRecursion (IsFit tree) edits

fit_sorted : (tree : Files) (edits others : List Edit) → IsPermutation edits others → ArePaths (paths_at others)
    → AreFit tree edits → AreEdits tree others
fit_sorted tree edits others moved ascending fit = record {
  ascending = ascending;
  apart = λ p q h k. fit.apart p q (same_among tree edits others moved fit.distinct p ∙ h)
      (same_among tree edits others moved fit.distinct q ∙ k);
  each = recursion_from_All (IsFit tree) others
      (All-permutation (IsFit tree) edits others moved (All-from_recursion (IsFit tree) edits fit.each));
}

paths_made : (tree : Files) (changes : List Change) → paths_at (map (edit_made tree) changes) ≡ map path_of changes
paths_made tree [] = refl
paths_made tree (c ∷ changes) = ap (λ ps. path_of c ∷ ps) (paths_made tree changes)

no_change : Change
no_change = Drop [] [] None

paths_sorted : (changes : List Change) → IsSortedBy is_before changes
    → IsSortedBy (λ x y. is_lt (slice_cmp nat_cmp x y)) (map path_of changes)
paths_sorted changes sorted k d from to =
    let low : k + 1 < length changes = omega (arith, length-map changes path_of, to) in
    ap₂ (λ x y. is_lt (slice_cmp nat_cmp x y)) (get_or-map path_of changes (k + 1) no_change d low)
    (get_or-map path_of changes k no_change d (omega arith)) ∙ sorted k no_change (omega arith) low

-- sorted changes that do what fit edits say are a plan
pub sorted_plan : (tree : Files) (given : Result (List Edit) Refusal) (changes sorted : List Change) → AreFiles tree
    → MakesEdits tree given changes → IsPermutation changes sorted → IsSortedBy is_before sorted
    → ((edits : List Edit) → given ≡ Ok edits → AreFit tree edits)
    → (nat_lt 100_000 (length sorted) || nat_lt 268_435_456 (entry_size sorted)) ≡ false
    → IsPlan (tree_after tree given) tree sorted
sorted_plan tree given changes sorted are made moved ordered fits few =
    let fit = fits made.0 made.1 in
    let same = list_made tree changes made.0 made.2 in
    let applied = subst (λ es. IsPermutation es (map (edit_made tree) sorted)) (sym same)
    (IsPermutation-map (edit_made tree) changes sorted moved) in
    let each = each_made tree sorted
    (All-permutation (MakesIts tree) changes sorted moved (all_made tree changes made.0 made.2)) in
    let distinct = still_distinct tree made.0 (map (edit_made tree) sorted) applied fit.distinct in
    let ascending =
    ascending_sorted (paths_at (map (edit_made tree) sorted)) (subst (IsSortedBy (λ x y. is_lt (slice_cmp nat_cmp x y)))
    (sym (paths_made tree sorted)) (paths_sorted sorted ordered)) distinct in
    let plan = plan_of_edits tree (map (edit_made tree) sorted) are
    (fit_sorted tree made.0 (map (edit_made tree) sorted) applied ascending fit)
    (sym (same_many tree sorted (map (edit_made tree) sorted) each) ∙ few) sorted each in
    subst (λ r. IsPlan (tree_after tree r) tree sorted) (sym made.1)
    (subst (λ r. IsPlan r tree sorted)
    (ap₂ (λ b t. cond b (Err TooMany) (Ok t))
    (sym (same_too_many tree made.0 (map (edit_made tree) sorted) applied fit.distinct))
    (sym (same_tree tree made.0 (map (edit_made tree) sorted) applied fit.distinct))) plan)
