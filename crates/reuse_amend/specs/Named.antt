-- What amendments name: the licences, contributors and holders that they replace or remove (docs/RULES.md, "What amend
-- writes"). What of it they leave, where it stands in a text that they made (the same, "What amend leaves").
use Rattle.std.specs.Prelude.{ℕ, Bool, false, not, ◌&&◌, ◌||◌, List}
use Rattle.std.specs.List.{list_any}
use Rattle.std.specs.Option.{option_map_or, is_none}
use Rattle.std.specs.Str.{bytes_eq}
use Rattle.reuse_amend.specs.declared.replacements.Replacement.{Replacement}
use Rattle.reuse_amend.specs.declared.amendments.Amendments.{Amendments}
use Rattle.reuse_notice.specs.ExpressionSteps.{fault_of}
use Rattle.reuse_notice.specs.MergeSteps.{is_among}
use Rattle.reuse_amend.specs.Pieces.{pieces_of, is_identifier}
use Rattle.reuse_amend.specs.NoticeParts.{parts_of}

-- a whole text is the one that is replaced
abbrev pub is_old : List ℕ → Replacement → Bool
is_old text r = bytes_eq text r.old

-- a text has a token that is another text
abbrev pub has_token : List ℕ → List ℕ → Bool
has_token token text = list_any (λ p. bytes_eq p.0 token) (pieces_of text)

-- a licence is the one that is replaced, or an expression with the identifier that is replaced
abbrev pub is_old_licence : List ℕ → Replacement → Bool
is_old_licence value r =
    is_old value r || is_identifier r.old && is_none (fault_of value) && has_token r.old value

-- a licence is replaced, as a whole or within it, or removed as a whole
abbrev pub names_licence : Amendments → List ℕ → Bool
names_licence a value =
    list_any (is_old_licence value) a.replaced_licences || is_among a.removed_licences value

-- a contributor is replaced or removed
abbrev pub names_contributor : Amendments → List ℕ → Bool
names_contributor a value =
    list_any (is_old value) a.replaced_contributors || is_among a.removed_contributors value

-- a holder is replaced or removed
abbrev pub names_holder : Amendments → List ℕ → Bool
names_holder a holder = list_any (is_old holder) a.replaced_holders || is_among a.removed_holders holder

-- the holder of a notice is
abbrev pub names_notice : Amendments → List ℕ → Bool
names_notice a notice = option_map_or (λ p. names_holder a p.holder) (parts_of notice) false

-- ---- what they leave

-- a replacement doesn't leave its own NEW
abbrev pub is_new : List ℕ → Replacement → Bool
is_new text r = bytes_eq text r.new

-- a licence is left by a replacement, and any other text is
abbrev pub is_left_licence : List ℕ → Replacement → Bool
is_left_licence value r = is_old_licence value r && not (is_new value r)

abbrev pub is_left_text : List ℕ → Replacement → Bool
is_left_text text r = is_old text r && not (is_new text r)

-- a licence, a contributor or a holder is left by a replacement, or removed
abbrev pub leaves_licence : Amendments → List ℕ → Bool
leaves_licence a value =
    list_any (is_left_licence value) a.replaced_licences || is_among a.removed_licences value

abbrev pub leaves_contributor : Amendments → List ℕ → Bool
leaves_contributor a value =
    list_any (is_left_text value) a.replaced_contributors || is_among a.removed_contributors value

abbrev pub leaves_holder : Amendments → List ℕ → Bool
leaves_holder a holder = list_any (is_left_text holder) a.replaced_holders || is_among a.removed_holders holder

-- the holder of a notice is
abbrev pub leaves_notice : Amendments → List ℕ → Bool
leaves_notice a notice = option_map_or (λ p. leaves_holder a p.holder) (parts_of notice) false
