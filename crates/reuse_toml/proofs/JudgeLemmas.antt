-- The items and the members of two tables, judged from one on.
use Rattle.std.proofs.Common.{◌≡◌, ℕ, ◌+◌, ◌<◌, ◌≤◌, Bool, true, false, List, [], ◌∷◌, length, drop, get_or, refl, sym}
use Rattle.std.proofs.Common.{ap, ◌∙◌, cond, arith}
use Rattle.std.specs.Prelude.{◌&&◌, ◌==◌}
use Rattle.std.specs.Str.{bytes_eq}
use Rattle.std.proofs.lemmas.Bool.Decides.{Decides-eqb}
use Rattle.std.proofs.lemmas.List.{drop_all}
use Rattle.toml.specs.Data.{Data, Items, no_items, item, Members, no_members, member}
use Rattle.toml.specs.View.{view, items_view}
use Rattle.toml.specs.declared.value.Value.{Value}
use Rattle.toml.proofs.Views.{items_view-drop}
use Rattle.reuse_amend.specs.declared.amendments.Amendments.{Amendments}
use Rattle.reuse_toml.specs.declared.toml_judge.TomlLevel.{TomlLevel}
use Rattle.reuse_toml.specs.TomlAmending.{level_of_member, is_removed, is_no_items, is_amended, are_amended}
use Rattle.reuse_toml.specs.TomlAmending.{members_amended}

-- none are left where the length is 0
pub none_left : (vs : List Value) → is_no_items (items_view vs) ≡ (length vs == 0)
none_left [] = refl
none_left (v ∷ vs) = by (length (v ∷ vs) == 0) refl
  where
    by : (b : Bool) → (length (v ∷ vs) == 0) ≡ b → false ≡ b
    by false e = refl
    by true e = let none : length (v ∷ vs) ≡ 0 = (Decides-eqb (length (v ∷ vs)) 0).0 e in absurd (omega (arith, none))

module _ (a : Amendments) (level : TomlLevel) (whole : Bool) where
  removed-more : (d : Data) (ds es : Items) → is_removed a level d ≡ true → are_amended a level (item d ds) es ≡ whole
      → are_amended a level ds es ≡ whole
  removed-more d ds no_items gone so = sym (ap (λ b. b && are_amended a level ds no_items) gone) ∙ so
  removed-more d ds (item e es) gone so = sym
      (ap (λ b. cond b (are_amended a level ds (item e es)) (is_amended a level d e && are_amended a level ds es)) gone)
      ∙ so

  kept-none : (d : Data) (ds : Items) → is_removed a level d ≡ false
      → are_amended a level (item d ds) no_items ≡ whole → false ≡ whole
  kept-none d ds stays so = sym (ap (λ b. b && are_amended a level ds no_items) stays) ∙ so

  kept-is : (d e : Data) (ds es : Items) (is : Bool) → is_removed a level d ≡ false → is_amended a level d e ≡ is
      → are_amended a level (item d ds) (item e es) ≡ whole → (is && are_amended a level ds es) ≡ whole
  kept-is d e ds es is stays same so =
      sym (ap (λ b. cond b (are_amended a level ds (item e es)) (is_amended a level d e && are_amended a level ds es))
      stays ∙ ap (λ b. b && are_amended a level ds es) same) ∙ so

  module _ (items : List Value) (i : ℕ) (d value : Value) (es : Items) (low : i < length items)
      (is : value ≡ get_or items i d)
      (so : are_amended a level (items_view (drop i items)) es ≡ whole) where
    so-at : are_amended a level (item (view value) (items_view (drop (i + 1) items))) es ≡ whole
    so-at = sym (ap (λ ds. are_amended a level ds es)
        (items_view-drop items i d low ∙ ap (λ v. item (view v) (items_view (drop (i + 1) items))) (sym is))) ∙ so

    pub items-removed : is_removed a level (view value) ≡ true
        → are_amended a level (items_view (drop (i + 1) items)) es ≡ whole
    items-removed gone = removed-more (view value) (items_view (drop (i + 1) items)) es gone so-at

    pub items-none : is_removed a level (view value) ≡ false → es ≡ no_items → false ≡ whole
    items-none stays none =
        kept-none (view value) (items_view (drop (i + 1) items)) stays
        (ap (are_amended a level (item (view value) (items_view (drop (i + 1) items)))) (sym none) ∙ so-at)

    pub items-judged : (e : Data) (more : Items) (same : Bool) → is_removed a level (view value) ≡ false
        → es ≡ item e more → is_amended a level (view value) e ≡ same
        → (same && are_amended a level (items_view (drop (i + 1) items)) more) ≡ whole
    items-judged e more same stays first judged =
        kept-is (view value) e (items_view (drop (i + 1) items)) more same stays judged
        (ap (are_amended a level (item (view value) (items_view (drop (i + 1) items)))) (sym first) ∙ so-at)

  pub items-end : (items : List Value) (i : ℕ) (es : Items) → length items ≤ i
      → are_amended a level (items_view (drop i items)) es ≡ whole → is_no_items es ≡ whole
  items-end items i es high so = sym (ap (λ vs. are_amended a level (items_view vs) es) (drop_all i items high)) ∙ so

  module _ (k : List ℕ) (d : Data) (ms : Members) (ns : Members)
      (so : members_amended a level (member k d ms) ns ≡ whole) where
    pub members-none : ns ≡ no_members → false ≡ whole
    members-none none = sym (ap (members_amended a level (member k d ms)) none) ∙ so

    pub members-judged : (l : List ℕ) (e : Data) (more : Members) (named same : Bool) → ns ≡ member l e more
        → bytes_eq k l ≡ named → is_amended a (level_of_member level k) d e ≡ same
        → ((named && same) && members_amended a level ms more) ≡ whole
    members-judged l e more named same first name judged =
        sym (ap (members_amended a level (member k d ms)) first
        ∙ ap (λ b. (b && is_amended a (level_of_member level k) d e) && members_amended a level ms more) name
        ∙ ap (λ b. (named && b) && members_amended a level ms more) judged) ∙ so

    pub members-other : (l : List ℕ) (e : Data) (more : Members) → ns ≡ member l e more
        → bytes_eq k l ≡ false → false ≡ whole
    members-other l e more first name =
        members-judged l e more false (is_amended a (level_of_member level k) d e) first name refl
