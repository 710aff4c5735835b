-- What the words of `amend` change (docs/REFERENCE.md, "amend").
use Rattle.std.specs.Prelude.{ℕ, Bool, ◌||◌, List, [], ◌∷◌, Result, Ok, Err, codes, if◌then◌else◌}
use Rattle.std.specs.List.{list_any}
use Rattle.reuse_amend.specs.AmendmentViews.{no_amendments}
use Rattle.reuse_amend.specs.declared.amendments.Amendments.{Amendments}
use Rattle.reuse_arguments.specs.AmendSteps.{all_removed, all_replaced, with_holder, with_prefix, with_until}
use Rattle.reuse_arguments.specs.Found.{Rows, flag, is_given, value, values}
use Rattle.reuse_arguments.specs.LineFaults.{Mistake, nothing_to_amend, then_read}
use Rattle.reuse_arguments.specs.declared.words.amend_words.Part.TheVariants.{Licence, Holder, Contributor}

-- the options with values that change something; one of them is wanted, or that the header goes
unfoldable pub amending_options : List (List ℕ)
amending_options =
    codes "replace-license" ∷ codes "remove-license" ∷ codes "replace-holder" ∷ codes "remove-holder"
    ∷ codes "replace-contributor" ∷ codes "remove-contributor" ∷ codes "until" ∷ codes "copyright-prefix"
    ∷ codes "remove-text" ∷ []

abbrev pub has_amending_value : Rows → Bool
has_amending_value found = list_any (is_given found) amending_options

abbrev pub is_amending : Rows → Bool
is_amending found = has_amending_value found || flag found (codes "remove-header")

-- the options in the order in which they count
abbrev pub steps_of : Rows → List (Amendments → Result Amendments Mistake)
steps_of found =
    all_replaced Licence (values found (codes "replace-license"))
    ∷ all_removed Licence (values found (codes "remove-license"))
    ∷ all_replaced Holder (values found (codes "replace-holder"))
    ∷ all_removed Holder (values found (codes "remove-holder"))
    ∷ all_replaced Contributor (values found (codes "replace-contributor"))
    ∷ all_removed Contributor (values found (codes "remove-contributor"))
    ∷ with_until (value found (codes "until"))
    ∷ with_prefix (value found (codes "copyright-prefix"))
    ∷ with_holder (value found (codes "holder"))
    ∷ []

-- each step in turn, up to the first mistake
unfoldable pub in_turn : List (Amendments → Result Amendments Mistake) → Amendments → Result Amendments Mistake
in_turn [] so_far = Ok so_far
in_turn (step ∷ steps) so_far = then_read (step so_far) (in_turn steps)

unfoldable pub amendments_read : Rows → Result Amendments Mistake
amendments_read found = if is_amending found then in_turn (steps_of found) no_amendments else Err nothing_to_amend
