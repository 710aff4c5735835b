-- What annotate does at the paths of its list, one after the other.
use Rattle.std.proofs.Common.{◌≡◌, ◌⊎◌, inl, inr, ℕ, ◌+◌, ◌<◌, Bool, true, false, cond, ◌||◌, nat_lt, List, [], ◌∷◌}
use Rattle.std.proofs.Common.{◌++◌, codes, length, Option, Some, None, Result, Ok, Err, take, get_or, refl, sym, ap}
use Rattle.std.proofs.Common.{subst, ◌∙◌, filter_map, bytes_eq, option_to_list}
use Rattle.std.specs.List.{AllByRecursion, cons_option}
use Rattle.std.proofs.lemmas.List.{take_more}
use Rattle.std.proofs.lemmas.List.Elements.{filter_map-append}
use Rattle.reuse_command.specs.Reading.{Files}
use Rattle.std.proofs.lemmas.Bool.{false≢true, false_from_ne_true, or_right}
use Rattle.std.proofs.lemmas.Slice.Eq.{bytes_eq-Decides}
use Rattle.reuse_change.specs.Path.{lies_under, journal_folder}
use Rattle.reuse_change.specs.declared.change.Change.{Change}
use Rattle.reuse_command.specs.declared.reply.Refusal.{Refusal}
use Rattle.reuse_command.specs.declared.reply.Refusal.TheVariants as refusals
use Rattle.reuse_change.specs.Tree.{is_of_tree}
use Rattle.reuse_command.specs.Covered.{is_in, is_outside}
use Rattle.reuse_edit.specs.Edit.{Edit}
use Rattle.reuse_plan.specs.Outcome.{edited, tree_after}
use Rattle.reuse_edit.specs.Answered.{MakesEdits}
use Rattle.reuse_change.proofs.ListingLemmas.{under_from_test}
use Rattle.reuse_plan.proofs.Outcomes.{ok_edits}
use Rattle.reuse_plan.proofs.Planning.{same_many}
use Rattle.reuse_change.specs.Entry.{entry_size}
use Rattle.reuse_edit.specs.PathEdits.{or_first}
use Rattle.reuse_plan.proofs.CommandEdits.{edits_at}
use Rattle.reuse_edit.proofs.NeighbourPaths.{starts_reuse, and_all}

pub inside_of_tree : (path : List ℕ) → is_outside path ≡ false → is_of_tree path ≡ true
inside_of_tree path h =
    let out = starts_reuse path h in
    and_all (bytes_eq path (codes ".reuse")) (bytes_eq path journal_folder) (lies_under path journal_folder)
    (false_from_ne_true _
    (λ e. false≢true (sym out ∙ ap (is_in (codes ".reuse")) ((bytes_eq-Decides path (codes ".reuse")).0 e))))
    (false_from_ne_true _
    (λ e. false≢true (sym out ∙ ap (is_in (codes ".reuse")) ((bytes_eq-Decides path journal_folder).0 e))))
    (false_from_ne_true _ (λ e. let under = under_from_test path journal_folder e in
    false≢true (sym out ∙ ap (is_in (codes ".reuse")) under.1 ∙ or_right _ true refl)))

-- ---- the paths in order

pub first_is : (r : Result (Option Edit) Refusal) (rest : Result (List Edit) Refusal) (edits : List Edit)
    → or_first r rest ≡ Ok edits
    → ((r ≡ Ok None) × (rest ≡ Ok edits))
    ⊎ ((e : Edit) × (more : List Edit) × (r ≡ Ok (Some e)) × (rest ≡ Ok more) × (edits ≡ e ∷ more))
first_is (Err refusal) rest edits h = absurd (cc)
first_is (Ok None) (Err refusal) edits h = absurd (cc)
first_is (Ok None) (Ok more) edits h = inl (refl, h)
first_is (Ok (Some e)) (Err refusal) edits h = absurd (cc)
first_is (Ok (Some e)) (Ok more) edits h = inr (e, more, refl, refl, cc)

pub no_edits : (edits : List Edit) → ok_edits [] ≡ ok_edits edits → edits ≡ []
no_edits edits h = cc

module _ (at : List ℕ → Result (Option Edit) Refusal) where
  -- what holds of the edit at each path holds of all
  pub all_edits : (P : Edit → Type 0) → ((p : List ℕ) (e : Edit) → at p ≡ Ok (Some e) → P e)
      → (ps : List (List ℕ)) (edits : List Edit) → edits_at at ps ≡ Ok edits → AllByRecursion P edits
  all_edits P each [] edits h = subst (AllByRecursion P) (sym (no_edits edits h)) tt
  all_edits P each (p ∷ ps) edits h = elim (first_is (at p) (edits_at at ps) edits h) [
    | inl none ↦ all_edits P each ps edits none.1
    | inr some ↦
        let rest : AllByRecursion P some.1 = all_edits P each ps some.1 some.3 in
        subst (AllByRecursion P) (sym some.4) (each p some.0 some.2, rest)
  ]

-- ---- the plan

pub too_many : (tree : Files) (given : Result (List Edit) Refusal) (changes : List Change)
    → MakesEdits tree given changes
    → (nat_lt 100_000 (length changes) || nat_lt 268_435_456 (entry_size changes)) ≡ true
    → tree_after tree given ≡ Err refusals.TooMany
too_many tree given changes made many =
    ap (tree_after tree) made.1 ∙ ap (λ b. cond b (Err refusals.TooMany) (Ok (edited tree made.0)))
    (sym (same_many tree changes made.0 made.2) ∙ many)

pub if_not : {A : Type 0} (b : Bool) (r : Refusal) (rest : Result A Refusal) (x : A)
    → cond b (Err r) rest ≡ Ok x → rest ≡ Ok x
if_not true r rest x e = absurd (cc)
if_not false r rest x e = e

-- an option's value behind those of a part of a list
pub one_more : {X Y : Type 0} (h : X → Option Y) (xs : List X) (i : ℕ) (d : X) (old new : List Y) → i < length xs
    → old ≡ filter_map h (take i xs)
    → new ≡ old ++ option_to_list (h (get_or xs i d)) → new ≡ filter_map h (take (i + 1) xs)
one_more h xs i d old new low so is =
    is ∙ ap (λ ys. ys ++ option_to_list (h (get_or xs i d))) so
    ∙ ap (λ ys. filter_map h (take i xs) ++ ys) (of_one (h (get_or xs i d)))
    ∙ sym (filter_map-append h (take i xs) (get_or xs i d ∷ [])) ∙ ap (filter_map h) (sym (take_more xs i d low))
  where
    of_one : {Y : Type 0} (o : Option Y) → option_to_list o ≡ cons_option o []
    of_one None = refl
    of_one (Some x) = refl
