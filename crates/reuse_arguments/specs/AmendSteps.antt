-- One change that `amend` is asked for after the other: what each adds to those so far, or why it is refused
-- (docs/REFERENCE.md, "amend").
use Rattle.std.specs.Prelude.{ℕ, List, [], ◌∷◌, ◌++◌, Option, None, Some, Result, Ok, Err, codes, if◌then◌else◌}
use Rattle.std.specs.List.{list_all}
use Rattle.reuse_notice.specs.Adding.{Refusal, bad_licence, bad_text, bad_year, is_bad_text, is_bad_year, is_space}
use Rattle.reuse_notice.specs.Adding.{without_spaces}
use Rattle.reuse_amend.specs.AmendmentViews.{replacement}
use Rattle.reuse_notice.specs.Tags.{year_of}
use Rattle.reuse_amend.specs.declared.amendments.Amendments.{Amendments}
use Rattle.reuse_notice.specs.declared.prefixes.Prefix.{Prefix}
use Rattle.reuse_amend.specs.declared.replacements.Replacement.{Replacement}
use Rattle.reuse_arguments.specs.LineFaults.{Mistake, bad_additions, or_mistake, then_read, unless_refused, unread}
use Rattle.reuse_arguments.specs.PrefixNames.{prefix_named}
use Rattle.reuse_arguments.specs.declared.words.amend_words.Part.{Part}
use Rattle.reuse_arguments.specs.declared.words.amend_words.Part.TheVariants.{Licence, Holder, Contributor}

-- a text that is searched for in files has more than spaces
abbrev pub searched_read : List ℕ → Result (List ℕ) Mistake
searched_read text = if list_all is_space text then Err (bad_additions (bad_text [])) else Ok text

-- why a text can't take the place of another
abbrev pub new_refusal : Part → List ℕ → Option Refusal
new_refusal Licence text = bad_licence (text ∷ [])
new_refusal Holder text = if is_bad_text text then Some (bad_text text) else None
new_refusal Contributor text = if is_bad_text text then Some (bad_text text) else None

-- one replacement more, and one more text that is removed
abbrev pub with_replaced : Part → Replacement → Amendments → Amendments
with_replaced Licence made so_far = record so_far { replaced_licences = so_far.replaced_licences ++ made ∷ [] }
with_replaced Holder made so_far = record so_far { replaced_holders = so_far.replaced_holders ++ made ∷ [] }
with_replaced Contributor made so_far =
    record so_far { replaced_contributors = so_far.replaced_contributors ++ made ∷ [] }

abbrev pub with_removed : Part → List ℕ → Amendments → Amendments
with_removed Licence text so_far = record so_far { removed_licences = so_far.removed_licences ++ text ∷ [] }
with_removed Holder text so_far = record so_far { removed_holders = so_far.removed_holders ++ text ∷ [] }
with_removed Contributor text so_far = record so_far { removed_contributors = so_far.removed_contributors ++ text ∷ [] }

-- OLD becomes NEW
unfoldable pub replaced : Part → List ℕ → List ℕ → Amendments → Result Amendments Mistake
replaced part old new so_far =
    then_read (searched_read old) (λ searched.
    unless_refused (new_refusal part (without_spaces new)) (with_replaced part (replacement searched new) so_far))

-- a text goes
unfoldable pub removed : Part → List ℕ → Amendments → Result Amendments Mistake
removed part text so_far =
    then_read (searched_read text) (λ searched. Ok (with_removed part (without_spaces searched) so_far))

-- OLD and NEW by turns, in their order
unfoldable pub all_replaced : Part → List (List ℕ) → Amendments → Result Amendments Mistake
all_replaced part [] so_far = Ok so_far
all_replaced part (old ∷ []) so_far = Err (unread (codes "a text that nothing takes the place of"))
all_replaced part (old ∷ new ∷ others) so_far = then_read (replaced part old new so_far) (all_replaced part others)

-- texts that go, in their order
unfoldable pub all_removed : Part → List (List ℕ) → Amendments → Result Amendments Mistake
all_removed part [] so_far = Ok so_far
all_removed part (text ∷ others) so_far = then_read (removed part text so_far) (all_removed part others)

-- years reach this one
unfoldable pub with_until : Option (List ℕ) → Amendments → Result Amendments Mistake
with_until None so_far = Ok so_far
with_until (Some year) so_far =
    if is_bad_year (without_spaces year) then Err (bad_additions (bad_year (without_spaces year)))
    else Ok (record so_far { until = year_of (without_spaces year) })

-- notices begin this way
abbrev pub prefix_read : List ℕ → Result Prefix Mistake
prefix_read name = or_mistake (prefix_named name) (unread (codes "a prefix that nothing reads"))

unfoldable pub with_prefix : Option (List ℕ) → Amendments → Result Amendments Mistake
with_prefix None so_far = Ok so_far
with_prefix (Some name) so_far = then_read (prefix_read name) (λ prefix. Ok (record so_far { prefix = Some prefix }))

-- these two are for the notices of this holder alone
unfoldable pub with_holder : Option (List ℕ) → Amendments → Result Amendments Mistake
with_holder None so_far = Ok so_far
with_holder (Some holder) so_far =
    then_read (searched_read holder) (λ searched. Ok (record so_far { holder = Some (without_spaces searched) }))
