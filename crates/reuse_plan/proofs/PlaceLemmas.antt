-- The paths that a command goes through, one place after the other.
use Rattle.std.proofs.Common.{◌≡◌, ℕ, ◌+◌, ◌<◌, Bool, true, false, cond, ◌||◌, List, [], ◌∷◌, ◌++◌, length, take}
use Rattle.std.proofs.Common.{get_or, filter, ◌==◌, refl, sym, ap, ◌∙◌, arith, append_assoc, flat_map}
use Rattle.std.specs.List.{list_any}
use Rattle.reuse_command.specs.Reading.{keys, Files}
use Rattle.std.proofs.lemmas.Bool.Decides.{nat_tests}
use Rattle.std.proofs.lemmas.List.{append-nil, take_more}
use Rattle.std.proofs.lemmas.List.Concat.{flat_map-append}
use Rattle.std.proofs.lemmas.List.Elements.{filter-append}
use Rattle.reuse_change.specs.Path.{lies_under}
use Rattle.reuse_change.specs.Listing.{is_folder}
use Rattle.reuse_plan.specs.Shown.{ShowsBeneath}
use Rattle.reuse_plan.specs.Selected.{expanded}
use Rattle.reuse_command.specs.declared.command.Place.{Place}
use Rattle.reuse_command.specs.declared.command.Place.TheVariants.{Path}

-- what is kept of one more
pub kept_more : (test : List ℕ → Bool) (xs : List (List ℕ)) (i : ℕ) (d : List ℕ) (start old new : List (List ℕ))
    → i < length xs → old ≡ start ++ filter test (take i xs)
    → new ≡ old ++ filter test (get_or xs i d ∷ []) → new ≡ start ++ filter test (take (i + 1) xs)
kept_more test xs i d start old new low so is =
    is ∙ ap (λ ys. ys ++ filter test (get_or xs i d ∷ [])) so
    ∙ append_assoc start (filter test (take i xs)) (filter test (get_or xs i d ∷ []))
    ∙ ap (λ ys. start ++ ys)
    (sym (filter-append test (take i xs) (get_or xs i d ∷ [])) ∙ ap (filter test) (sym (take_more xs i d low)))

-- what stands for one more
pub expanded_more : (chooses : List ℕ → Bool) (tree : Files) (places : List Place) (i : ℕ) (d : Place) (old new : List (List ℕ))
    → i < length places → old ≡ flat_map (expanded chooses tree) (take i places)
    → new ≡ old ++ expanded chooses tree (get_or places i d)
    → new ≡ flat_map (expanded chooses tree) (take (i + 1) places)
expanded_more chooses tree places i d old new low so is =
    is ∙ ap (λ ys. ys ++ expanded chooses tree (get_or places i d)) so
    ∙ ap (λ ys. flat_map (expanded chooses tree) (take i places) ++ ys)
    (sym (append-nil (expanded chooses tree (get_or places i d))))
    ∙ sym (flat_map-append (expanded chooses tree) (take i places) (get_or places i d ∷ []))
    ∙ ap (flat_map (expanded chooses tree)) (sym (take_more places i d low))

-- where something is kept, it passes
one_passes : (test : List ℕ → Bool) (ks : List (List ℕ)) → (length (filter test ks) ≡ 0 → ⊥) → list_any test ks ≡ true
one_passes test [] h = absurd (h refl)
one_passes test (k ∷ ks) h = of_test (test k) h (one_passes test ks)
  where
    of_test : (b : Bool) → (length (cond b (k ∷ filter test ks) (filter test ks)) ≡ 0 → ⊥)
        → ((length (filter test ks) ≡ 0 → ⊥) → list_any test ks ≡ true) → (b || list_any test ks) ≡ true
    of_test true h rest = refl
    of_test false h rest = rest h

module _ (chooses : List ℕ → Bool) (tree : Files) (path : List ℕ) (paths beneath : List (List ℕ))
    (shows : ShowsBeneath chooses paths tree path) (are : beneath ≡ filter (λ other. lies_under other path) paths) where
  pub some_beneath : (length beneath ≡ 0 → ⊥) → is_folder tree path ≡ true
  some_beneath h = shows.some (one_passes (λ other. lies_under other path) paths (λ e. h (ap length are ∙ e)))

  -- a path that is no folder
  pub stands_alone : is_folder tree path ≡ false → expanded chooses tree (Path path) ≡ path ∷ []
  stands_alone e =
      ap (λ b. cond b (filter chooses (filter (λ other. lies_under other path) (keys tree))) (path ∷ [])) e

  -- a folder
  pub stands_for : is_folder tree path ≡ true → expanded chooses tree (Path path) ≡ filter chooses beneath
  stands_for e =
      ap (λ b. cond b (filter chooses (filter (λ other. lies_under other path) (keys tree))) (path ∷ [])) e
      ∙ sym shows.chosen ∙ ap (filter chooses) (sym are)

pub not_zero : (n : ℕ) → (n == 0) ≡ false → n ≡ 0 → ⊥
not_zero n h e = absurd (grind (arith, nat_tests))
