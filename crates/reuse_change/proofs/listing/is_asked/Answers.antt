use Rattle.std.proofs.Common.{◌≡◌, ◌==◌, ◌||◌, ◌<◌, ℕ, true, false, List, [], ◌∷◌, length, refl, sym, ◌∙◌, arith}
use Rattle.std.specs.List.{list_any}
use Rattle.std.specs.Str.{bytes_eq}
use Rattle.std.proofs.lemmas.Bool.{false≢true}
use Rattle.std.proofs.lemmas.Bool.Decides.{nat_tests}
use Rattle.reuse_change.specs.Path.{lies_under}
use Rattle.reuse_change.specs.Listing.{is_asked}
use Rattle.reuse_change.proofs.listing.is_asked.Goals as goal

not_zero : (n : ℕ) → 0 < n → (n == 0) ≡ false
not_zero n h = grind (arith, nat_tests)

none_asked : (folders : List (List ℕ)) (path : List ℕ) → (length folders == 0) ≡ true → true ≡ is_asked folders path
none_asked [] path none = refl
none_asked (folder ∷ folders) path none =
    absurd (false≢true (sym (not_zero (length (folder ∷ folders)) (omega arith)) ∙ none))

some_asked : (folders : List (List ℕ)) (path : List ℕ) → (length folders == 0) ≡ false
    → list_any (λ place. bytes_eq path place || lies_under path place) folders ≡ is_asked folders path
some_asked [] path none = absurd (false≢true (sym none))
some_asked (folder ∷ folders) path none = refl

pub returns-then-is_empty : goal.returns-then-is_empty
returns-then-is_empty c =
    c.if-is_empty.true ∙ none_asked c.args.folders.now c.args.path.now (sym c.is_empty.ensures ∙ c.if-is_empty.true)

pub returns-else-is_empty : goal.returns-else-is_empty
returns-else-is_empty c = c.is_at_or_under_one.ensures
    ∙ some_asked c.args.folders.now c.args.path.now (sym c.is_empty.ensures ∙ c.if-is_empty.false)
