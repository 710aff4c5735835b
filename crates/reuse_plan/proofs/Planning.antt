-- From what is done at each path to the plan of a command.
use Rattle.std.proofs.Common.{◌≡◌, ◌≢◌, ◌⊎◌, inl, inr, ⊎_elim, ℕ, ◌+◌, true, false, cond, ◌||◌, nat_lt, List, [], ◌∷◌}
use Rattle.std.proofs.Common.{length, map, sum_by, Less, Option, Some, None, IsSome, is_some, IsTrue, Ok, Err, refl}
use Rattle.std.proofs.Common.{sym, ap, ap₂, subst, ◌∙◌, arith, bytes_eq}
use Rattle.std.specs.Ordering.{nat_cmp}
use Rattle.std.specs.Cmp.Lexicographic.{slice_cmp, nat_list_cmp_total}
use Rattle.std.specs.List.{All, AllByRecursion, IsDistinct}
use Rattle.std.specs.FinMap.{get}
use Rattle.std.proofs.lemmas.Bool.{false≢true, cases_Bool, or_cases, or_parts, ltb-false}
use Rattle.std.proofs.lemmas.Cmp.{tied_itself}
use Rattle.std.proofs.lemmas.List.Elements.{All-cons, All-nil}
use Rattle.std.proofs.lemmas.List.Sums.{sum_by-cons}
use Rattle.std.proofs.lemmas.Map.Keys.{IsDistinct-from_sorted, IsDistinct-head, IsDistinct-tail}
use Rattle.std.proofs.lemmas.Map.Text.{is_eq-slice_cmp}
use Rattle.std.proofs.lemmas.Slice.Eq.{bytes_eq-Decides}
use Rattle.reuse_change.specs.Path.{is_path, lies_under}
use Rattle.reuse_change.specs.Files.{Files, AreFiles, Clashes}
use Rattle.reuse_change.specs.declared.change.Change.{Change}
use Rattle.reuse_change.specs.declared.change.Change.TheVariants.{Make, Drop, Splice}
use Rattle.reuse_change.specs.Change.{path_of, is_sealed, IsProper, Applies}
use Rattle.reuse_change.specs.Digest.{IsDigestOf}
use Rattle.reuse_change.proofs.FileMaps.{get-put_same, get-put_other, get-removed_same, get-removed_other}
use Rattle.reuse_change.specs.declared.direction.Direction.TheVariants.{Forward}
use Rattle.reuse_command.specs.declared.reply.Refusal.TheVariants as refusals
use Rattle.reuse_change.specs.Tree.{is_of_tree}
use Rattle.reuse_change.specs.Entry.{paths_of, touches, fixed_size, change_size, entry_size, AreAllSealed, HasOwnDigest}
use Rattle.reuse_change.specs.Entry.{IsSmall, IsEntry, AppliesBy, LeadsAll}
use Rattle.reuse_change.specs.Listing.{ArePaths, is_among}
use Rattle.reuse_edit.specs.Edit.{Edit}
use Rattle.reuse_plan.specs.Outcome.{with_file, edited, edit_size, is_too_many, tree_after}
use Rattle.reuse_plan.specs.Plan.{IsPlan}
use Rattle.reuse_edit.specs.Answered.{CarriesOutEdit, MakesEach}
use Rattle.std.proofs.Math.Bool.{or_comm}

-- the paths of edits
abbrev pub paths_at : List Edit → List (List ℕ)
paths_at edits = map (λ (e : Edit). e.path) edits

-- an edit of a good path of the tree, which makes no file where that clashes
pub record IsFit (tree : Files) (edit : Edit) : Type 0 where
  pub of_tree : is_of_tree edit.path ≡ true
  pub good_path : IsTrue (is_path edit.path)
  pub free : get tree edit.path ≡ None → IsSome edit.file → ¬ (Clashes tree edit.path)

-- fit edits of distinct paths in byte order, none a folder of another
pub record AreEdits (tree : Files) (edits : List Edit) : Type 0 where
  pub ascending : ArePaths (paths_at edits)
  pub apart : (path other : List ℕ) → is_among (paths_at edits) path ≡ true → is_among (paths_at edits) other ≡ true
      → (lies_under other path || lies_under path other) ≡ false
  pub each : AllByRecursion (IsFit tree) edits

-- ---- what the edited tree holds

other_path : (q p : List ℕ) → bytes_eq q p ≡ false → q ≢ p
other_path q p h same = false≢true (sym h ∙ (bytes_eq-Decides q p).1 same)

pub with_same : (tree : Files) (path : List ℕ) (file : Option (List ℕ)) → get (with_file tree path file) path ≡ file
with_same tree path None = get-removed_same tree path
with_same tree path (Some bytes) = get-put_same tree path bytes

pub with_other : (tree : Files) (path : List ℕ) (file : Option (List ℕ)) (q : List ℕ) → q ≢ path
    → get (with_file tree path file) q ≡ get tree q
with_other tree path None q other = get-removed_other tree path q other
with_other tree path (Some bytes) q other = get-put_other tree path bytes q other

-- a path that no edit is of keeps what it has
pub edited_other : (tree : Files) (edits : List Edit) (q : List ℕ) → is_among (paths_at edits) q ≡ false
    → get (edited tree edits) q ≡ get tree q
edited_other tree [] q h = refl
edited_other tree (e ∷ edits) q h =
    let parts = or_parts (bytes_eq q e.path) (is_among (paths_at edits) q) h in
    with_other (edited tree edits) e.path e.file q (other_path q e.path parts.0) ∙ edited_other tree edits q parts.1

abbrev pub EachHas : Files → List Edit → Type 0
EachHas files edits = AllByRecursion (λ (e : Edit). get files e.path ≡ e.file) edits

pub not_itself : (x y : List ℕ) → slice_cmp nat_cmp x y ≡ Less → x ≡ y → ⊥
not_itself x y e same = let s = sym e ∙ ap (slice_cmp nat_cmp x) (sym same) ∙ tied_itself nat_list_cmp_total x in cc

abbrev pub AreDistinct : List Edit → Type 0
AreDistinct edits = IsDistinct bytes_eq (paths_at edits)

still_has : (files : Files) (path : List ℕ) (file : Option (List ℕ)) (edits : List Edit) → AllByRecursion
    (λ p. bytes_eq path p ≡ false) (paths_at edits) → EachHas files edits → EachHas (with_file files path file) edits
still_has files path file [] others each = tt
still_has files path file (e ∷ edits) others each = (
  with_other files path file e.path (λ same. other_path path e.path others.0 (sym same)) ∙ each.0,
  still_has files path file edits others.1 each.1,
)

-- the path of each edit has what the edit says
pub each_has : (tree : Files) (edits : List Edit) → AreDistinct edits → EachHas (edited tree edits) edits
each_has tree [] distinct = tt
each_has tree (e ∷ edits) distinct = (
  with_same (edited tree edits) e.path e.file,
  still_has (edited tree edits) e.path e.file edits (IsDistinct-head bytes_eq e.path (paths_at edits) distinct)
      (each_has tree edits (IsDistinct-tail bytes_eq e.path (paths_at edits) distinct)),
)

-- edits in byte order are of distinct paths
pub distinct_of : (paths : List (List ℕ)) → ArePaths paths → IsDistinct bytes_eq paths
distinct_of paths sorted = subst (λ e. IsDistinct e paths) (λ i x y. is_eq-slice_cmp x y i)
    (IsDistinct-from_sorted (slice_cmp nat_cmp) paths sorted)

pub edited_has : (tree : Files) (edits : List Edit) → ArePaths (paths_at edits) → EachHas (edited tree edits) edits
edited_has tree edits ascending = each_has tree edits (distinct_of (paths_at edits) ascending)

-- ---- changes that do what edits say

same_paths : (tree : Files) (changes : List Change) (edits : List Edit) → MakesEach tree changes edits
    → paths_of changes ≡ paths_at edits
same_paths tree [] [] each = refl
same_paths tree (c ∷ changes) (e ∷ edits) each = ap₂ (λ p ps. p ∷ ps) each.0.path (same_paths tree changes edits each.1)
same_paths tree changes edits each = absurd each

pub touches_among : (changes : List Change) (q : List ℕ) → touches changes q ≡ is_among (paths_of changes) q
touches_among [] q = refl
touches_among (c ∷ changes) q = ap (λ b. bytes_eq q (path_of c) || b) (touches_among changes q)

same_size : (tree : Files) (change : Change) (edit : Edit) → CarriesOutEdit tree change edit
    → change_size change ≡ edit_size edit
same_size tree change edit makes =
    let a = ap length makes.path in
    let b = ap length makes.removed in
    let d = ap length makes.written in
    let e = ap fixed_size makes.sealed in
    omega (arith, a, b, d, e)

pub same_sizes : (tree : Files) (changes : List Change) (edits : List Edit) → MakesEach tree changes edits
    → sum_by change_size changes ≡ sum_by edit_size edits
same_sizes tree [] [] each = refl
same_sizes tree (c ∷ changes) (e ∷ edits) each =
    sum_by-cons change_size c changes ∙ ap₂ (λ m n. m + n) (same_size tree c e each.0)
    (same_sizes tree changes edits each.1) ∙ sym (sum_by-cons edit_size e edits)
same_sizes tree changes edits each = absurd each

pub same_count : (tree : Files) (changes : List Change) (edits : List Edit) → MakesEach tree changes edits
    → length changes ≡ length edits
same_count tree [] [] each = refl
same_count tree (c ∷ changes) (e ∷ edits) each = let n = same_count tree changes edits each.1 in omega (arith, n)
same_count tree changes edits each = absurd each

-- the changes are too many where the edits are
pub same_many : (tree : Files) (changes : List Change) (edits : List Edit) → MakesEach tree changes edits
    → (nat_lt 100_000 (length changes) || nat_lt 268_435_456 (entry_size changes)) ≡ is_too_many edits
same_many tree changes edits each =
    ap₂ (λ m n. nat_lt 100_000 m || nat_lt 268_435_456 (256 + n)) (same_count tree changes edits each)
    (same_sizes tree changes edits each)

-- what each change has that does what an edit says, all have
pub all_do : (tree : Files) (P : Change → Type 0) → ((c : Change) (e : Edit) → CarriesOutEdit tree c e → P c)
    → (changes : List Change) (edits : List Edit) → MakesEach tree changes edits → All P changes
all_do tree P of [] [] each = All-nil P
all_do tree P of (c ∷ changes) (e ∷ edits) each =
    All-cons P c changes (of c e each.0) (all_do tree P of changes edits each.1)
all_do tree P of changes edits each = absurd each

-- the same, where something holds of each edit too
all_do_as : (tree : Files) (P : Change → Type 0) (Q : Edit → Type 0)
    → ((c : Change) (e : Edit) → CarriesOutEdit tree c e → Q e → P c)
    → (changes : List Change) (edits : List Edit) → MakesEach tree changes edits
    → AllByRecursion Q edits → All P changes
all_do_as tree P Q of [] [] each has = All-nil P
all_do_as tree P Q of (c ∷ changes) (e ∷ edits) each has =
    All-cons P c changes (of c e each.0 has.0) (all_do_as tree P Q of changes edits each.1 has.1)
all_do_as tree P Q of changes edits each has = absurd each

pub sealed_each : (tree : Files) (changes : List Change) (edits : List Edit) → MakesEach tree changes edits
    → AreAllSealed true changes
sealed_each tree = all_do tree (λ c. is_sealed c ≡ true) (λ c e does. does.sealed)

-- a change that leads from a file to another has the digest of its own
pub own_digest : (change : Change) (before after : Option (List ℕ)) → Applies change before after → HasOwnDigest change
own_digest (Make path new digest) before after t = subst (IsDigestOf digest) t.range.1 t.to
own_digest (Drop path old digest) before after t = subst (IsDigestOf digest) t.range.0 t.from
own_digest (Splice path at old new rest seal) before after t = tt

leads_each : (tree after : Files) (changes : List Change) (edits : List Edit) → MakesEach tree changes edits
    → EachHas after edits
    → All (λ (c : Change). AppliesBy Forward c (get tree (path_of c)) (get after (path_of c))) changes
leads_each tree after =
    all_do_as tree (λ (c : Change). AppliesBy Forward c (get tree (path_of c)) (get after (path_of c)))
    (λ (e : Edit). get after e.path ≡ e.file) (λ c e does has.
    subst (λ p. Applies c (get tree p) (get after p)) (sym does.path)
    (subst (λ f. Applies c (get tree e.path) f) (sym has) does.applies))

-- ---- the edited tree is one

-- a path with an edit: what the tree has there then is fit
fit_at : (tree after : Files) (edits : List Edit) → AllByRecursion (IsFit tree) edits → EachHas after edits
    → (q : List ℕ) → is_among (paths_at edits) q ≡ true
    → IsTrue (is_path q) × (get tree q ≡ None → IsSome (get after q) → ¬ (Clashes tree q))
fit_at tree after [] each has q h = absurd (false≢true h)
fit_at tree after (e ∷ edits) each has q h =
    by_case (or_cases (bytes_eq q e.path) (is_among (paths_at edits) q) h) (fit_at tree after edits each.1 has.1 q)
  where
    by_case : (bytes_eq q e.path ≡ true) ⊎ (is_among (paths_at edits) q ≡ true)
        → (is_among (paths_at edits) q ≡ true
        → IsTrue (is_path q) × (get tree q ≡ None → IsSome (get after q) → ¬ (Clashes tree q)))
        → IsTrue (is_path q) × (get tree q ≡ None → IsSome (get after q) → ¬ (Clashes tree q))
    by_case (inl same) rest =
        subst (λ p. IsTrue (is_path p) × (get tree p ≡ None → IsSome (get after p) → ¬ (Clashes tree p)))
        (sym ((bytes_eq-Decides q e.path).0 same))
        (each.0.good_path, λ none some. each.0.free none (ap is_some (sym has.0) ∙ some))
    by_case (inr later) rest = rest later

module _ (tree after : Files) (edits : List Edit) (are : AreFiles tree) (fit : AreEdits tree edits)
    (has : EachHas after edits)
    (others : (q : List ℕ) → is_among (paths_at edits) q ≡ false → get after q ≡ get tree q) where
  in_tree : (q : List ℕ) → is_among (paths_at edits) q ≡ false → IsSome (get after q) → IsSome (get tree q)
  in_tree q h some = ap is_some (sym (others q h)) ∙ some

  -- an edited path and another of the tree
  one_edited : (q r : List ℕ) → is_among (paths_at edits) q ≡ true → IsSome (get after q) → IsSome (get tree r)
      → (lies_under r q || lies_under q r) ≡ true → ⊥
  one_edited q r among some there nested = of_file (get tree q) refl
    where
      clash : Clashes tree q
      clash = record { other = r; is_file = there; nested = nested }

      of_file : (file : Option (List ℕ)) → get tree q ≡ file → ⊥
      of_file None e = (fit_at tree after edits fit.each has q among).1 e some clash
      of_file (Some bytes) e = are.apart q (ap is_some e) clash

  none_nested : (q r : List ℕ) → IsSome (get after q) → IsSome (get after r)
      → (lies_under r q || lies_under q r) ≡ true → ⊥
  none_nested q r some there nested = ⊎_elim
      (λ (a : is_among (paths_at edits) q ≡ true). ⊎_elim
      (λ (b : is_among (paths_at edits) r ≡ true). false≢true (sym (fit.apart q r a b) ∙ nested))
      (λ (b : is_among (paths_at edits) r ≡ false). one_edited q r a some (in_tree r b there) nested)
      (cases_Bool (is_among (paths_at edits) r)))
      (λ (a : is_among (paths_at edits) q ≡ false). ⊎_elim
      (λ (b : is_among (paths_at edits) r ≡ true). one_edited r q b there (in_tree q a some)
      (or_comm (lies_under q r) (lies_under r q) ∙ nested))
      (λ (b : is_among (paths_at edits) r ≡ false). are.apart q (in_tree q a some)
      (record { other = r; is_file = in_tree r b there; nested = nested }))
      (cases_Bool (is_among (paths_at edits) r)))
      (cases_Bool (is_among (paths_at edits) q))

  pub still_files : AreFiles after
  still_files = record {
    are_paths = λ q some. ⊎_elim
        (λ (a : is_among (paths_at edits) q ≡ true). (fit_at tree after edits fit.each has q a).0)
        (λ (a : is_among (paths_at edits) q ≡ false). are.are_paths q (in_tree q a some))
        (cases_Bool (is_among (paths_at edits) q));
    apart = λ q some c. none_nested q c.other some c.is_file c.nested;
  }

-- ---- the plan

module _ (tree : Files) (edits : List Edit) (are : AreFiles tree) (sound : AreEdits tree edits)
    (few : is_too_many edits ≡ false) where
  leads : (changes : List Change) → MakesEach tree changes edits → LeadsAll changes tree (edited tree edits)
  leads changes each = record {
    each = leads_each tree (edited tree edits) changes edits each (edited_has tree edits sound.ascending);
    others = λ q h. edited_other tree edits q
        (ap (λ ps. is_among ps q) (sym (same_paths tree changes edits each)) ∙ sym (touches_among changes q) ∙ h);
  }

  entry : (c : Change) (changes : List Change) → MakesEach tree (c ∷ changes) edits → IsEntry (c ∷ changes)
  entry c changes each =
      let all : List Change = c ∷ changes in
      let many = or_parts (nat_lt 100_000 (length (c ∷ changes))) (nat_lt 268_435_456 (entry_size (c ∷ changes)))
      (same_many tree (c ∷ changes) edits each ∙ few) in
      record {
        some = omega arith;
        proper = all_do tree IsProper (λ x e does. does.proper) (c ∷ changes) edits each;
        small = all_do tree IsSmall (λ x e does. does.small) (c ∷ changes) edits each;
        of_tree = all_do_as tree (λ (x : Change). is_of_tree (path_of x) ≡ true) (IsFit tree)
            (λ x e does fit. ap is_of_tree does.path ∙ fit.of_tree) (c ∷ changes) edits each sound.each;
        ascending = subst ArePaths (sym (same_paths tree (c ∷ changes) edits each)) sound.ascending;
        apart = λ p q h k. sound.apart p q
            (ap (λ ps. is_among ps p) (sym (same_paths tree (c ∷ changes) edits each))
            ∙ sym (touches_among (c ∷ changes) p) ∙ h)
            (ap (λ ps. is_among ps q) (sym (same_paths tree (c ∷ changes) edits each))
            ∙ sym (touches_among (c ∷ changes) q) ∙ k);
        few = ltb-false 100_000 _ many.0;
        light = ltb-false 268_435_456 _ many.1;
        alike = (true, sealed_each tree (c ∷ changes) edits each);
        own = all_do tree HasOwnDigest (λ x e does. own_digest x _ _ does.applies) (c ∷ changes) edits each;
      }

  good : (changes : List Change) → MakesEach tree changes edits → (changes ≡ []) ⊎ IsEntry changes
  good [] each = inl refl
  good (c ∷ changes) each = inr (entry c changes each)

  -- changes that do what such edits say are a plan
  pub plan_of_edits : (changes : List Change) → MakesEach tree changes edits
      → IsPlan (tree_after tree (Ok edits)) tree changes
  plan_of_edits changes each = record {
    after = edited tree edits;
    outcome = ap (λ b. cond b (Err refusals.TooMany) (Ok (edited tree edits))) few;
    good = good changes each;
    leads = leads changes each;
    are_files = still_files tree (edited tree edits) edits are sound (edited_has tree edits sound.ascending)
        (λ q h. edited_other tree edits q h);
  }
