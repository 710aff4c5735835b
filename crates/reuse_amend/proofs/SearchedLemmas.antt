-- Bytes that hold no text that the amendments name have no part that they leave.
use Rattle.std.proofs.Common.{◌≡◌, ℕ, Bool, true, false, cond, List, [], ◌∷◌, ◌++◌, nat_eq, Option, None, Some}
use Rattle.std.proofs.Common.{refl, sym, ap, ◌∙◌, inl, inr}
use Rattle.std.specs.Prelude.{◌&&◌, ◌||◌, not}
use Rattle.std.specs.List.{starts_with, list_any}
use Rattle.std.specs.Option.{option_map_or, is_none}
use Rattle.std.specs.Str.{bytes_eq}
use Rattle.std.proofs.lemmas.Bool.{or_parts, eq-eqb, false≢true}
use Rattle.std.proofs.lemmas.Bool.{cases_Bool as truth}
use Rattle.std.proofs.lemmas.Slice.Eq.{bytes_eq-Decides}
use Rattle.reuse_notice.specs.declared.expressions.Token.{Token}
use Rattle.reuse_amend.specs.declared.replacements.Replacement.{Replacement}
use Rattle.reuse_amend.specs.declared.amendments.Amendments.{Amendments}
use Rattle.reuse_notice.specs.Adding.{holds}
use Rattle.reuse_notice.specs.ExpressionSteps.{fault_of}
use Rattle.reuse_notice.specs.MergeSteps.{is_among}
use Rattle.reuse_amend.specs.Pieces.{pieces_of, is_identifier}
use Rattle.reuse_amend.specs.NoticeParts.{Parts, parts_text, parts_of}
use Rattle.reuse_amend.specs.Searched.{holds_any, holds_old, holds_named}
use Rattle.reuse_amend.specs.Named
use Rattle.reuse_amend.proofs.UnnamedLemmas.{together, pieces-join}
use Rattle.reuse_amend.proofs.JoinedLemmas.{parts_joined}

-- ---- parts of bytes that don't hold a text

pub or_false : (a b : Bool) → a ≡ false → b ≡ false → (a || b) ≡ false
or_false true b p q = p
or_false false b p q = q

and_false : (a b : Bool) → b ≡ false → (a && b) ≡ false
and_false true b q = q
and_false false b q = refl

first_part : (part x y : List ℕ) → starts_with nat_eq (x ++ y) part ≡ false → starts_with nat_eq x part ≡ false
first_part [] x y e = e
first_part (p ∷ part) [] y e = refl
first_part (p ∷ part) (b ∷ x) y e = by (λ other. first_part part x y other) (nat_eq p b) e
  where
    by : (starts_with nat_eq (x ++ y) part ≡ false → starts_with nat_eq x part ≡ false) → (t : Bool)
        → (t && starts_with nat_eq (x ++ y) part) ≡ false → (t && starts_with nat_eq x part) ≡ false
    by again true other = again other
    by again false other = refl

not_first : (part text : List ℕ) → holds part text ≡ false → starts_with nat_eq text part ≡ false
not_first part [] e = e
not_first part (b ∷ text) e = (or_parts (starts_with nat_eq (b ∷ text) part) (holds part text) e).0

pub unheld-front : (part x y : List ℕ) → holds part (x ++ y) ≡ false → holds part x ≡ false
unheld-front part [] y e = first_part part [] y (not_first part y e)
unheld-front part (b ∷ x) y e =
    let both = or_parts (starts_with nat_eq (b ∷ x ++ y) part) (holds part (x ++ y)) e in
    or_false (starts_with nat_eq (b ∷ x) part) (holds part x) (first_part part (b ∷ x) y both.0)
    (unheld-front part x y both.1)

pub unheld-behind : (part x y : List ℕ) → holds part (x ++ y) ≡ false → holds part y ≡ false
unheld-behind part [] y e = e
unheld-behind part (b ∷ x) y e =
    unheld-behind part x y (or_parts (starts_with nat_eq (b ∷ x ++ y) part) (holds part (x ++ y)) e).1

-- ---- nor do their parts hold what is named

module _ (whole small : List ℕ) (keep : (part : List ℕ) → holds part whole ≡ false → holds part small ≡ false) where
  any_less : (texts : List (List ℕ)) → holds_any texts whole ≡ false → holds_any texts small ≡ false
  any_less [] e = refl
  any_less (text ∷ texts) e =
      let both = or_parts (holds text whole) (holds_any texts whole) e in
      or_false (holds text small) (holds_any texts small) (keep text both.0) (any_less texts both.1)

  old_less : (rs : List Replacement) → holds_old rs whole ≡ false → holds_old rs small ≡ false
  old_less [] e = refl
  old_less (r ∷ rs) e =
      let both = or_parts (holds r.old whole) (holds_old rs whole) e in
      or_false (holds r.old small) (holds_old rs small) (keep r.old both.0) (old_less rs both.1)

-- what is said of bytes that hold nothing that is named
record HoldsNone (a : Amendments) (text : List ℕ) : Type 0 where
  replaced_licences : holds_old a.replaced_licences text ≡ false
  removed_licences : holds_any a.removed_licences text ≡ false
  replaced_holders : holds_old a.replaced_holders text ≡ false
  removed_holders : holds_any a.removed_holders text ≡ false
  replaced_contributors : holds_old a.replaced_contributors text ≡ false
  removed_contributors : holds_any a.removed_contributors text ≡ false

six : (u v w x y z : Bool) → (u || v || w || x || y || z) ≡ false
    → (u ≡ false) × (v ≡ false) × (w ≡ false) × (x ≡ false) × (y ≡ false) × (z ≡ false)
six u v w x y z e =
    let five = or_parts (u || v || w || x || y) z e in
    let four = or_parts (u || v || w || x) y five.0 in
    let three = or_parts (u || v || w) x four.0 in
    let two = or_parts (u || v) w three.0 in
    let one = or_parts u v two.0 in
    (one.0, one.1, two.1, three.1, four.1, five.1)

none_held : (a : Amendments) (text : List ℕ) → holds_named a text ≡ false → HoldsNone a text
none_held a text e =
    let all = six (holds_old a.replaced_licences text) (holds_any a.removed_licences text)
    (holds_old a.replaced_holders text) (holds_any a.removed_holders text)
    (holds_old a.replaced_contributors text) (holds_any a.removed_contributors text) e in
    record {
      replaced_licences = all.0;
      removed_licences = all.1;
      replaced_holders = all.2;
      removed_holders = all.3;
      replaced_contributors = all.4;
      removed_contributors = all.5;
    }

named_less : (a : Amendments) (whole small : List ℕ)
    → ((part : List ℕ) → holds part whole ≡ false → holds part small ≡ false) → holds_named a whole ≡ false
    → holds_named a small ≡ false
named_less a whole small keep e =
    let h = none_held a whole e in
    or_false _ _ (or_false _ _ (or_false _ _ (or_false _ _ (or_false _ _
    (old_less whole small keep a.replaced_licences h.replaced_licences)
    (any_less whole small keep a.removed_licences h.removed_licences))
    (old_less whole small keep a.replaced_holders h.replaced_holders))
    (any_less whole small keep a.removed_holders h.removed_holders))
    (old_less whole small keep a.replaced_contributors h.replaced_contributors))
    (any_less whole small keep a.removed_contributors h.removed_contributors)

pub unnamed-front : (a : Amendments) (x y : List ℕ) → holds_named a (x ++ y) ≡ false → holds_named a x ≡ false
unnamed-front a x y e = named_less a (x ++ y) x (λ part h. unheld-front part x y h) e

pub unnamed-behind : (a : Amendments) (x y : List ℕ) → holds_named a (x ++ y) ≡ false → holds_named a y ≡ false
unnamed-behind a x y e = named_less a (x ++ y) y (λ part h. unheld-behind part x y h) e

-- ---- and they are none of what is left

own_front : (text : List ℕ) → starts_with nat_eq text text ≡ true
own_front [] = refl
own_front (b ∷ text) = ap (λ t. t && starts_with nat_eq text text) (eq-eqb b b refl) ∙ own_front text

own_part : (text : List ℕ) → holds text text ≡ true
own_part [] = refl
own_part (b ∷ text) = ap (λ t. t || holds (b ∷ text) text) (own_front (b ∷ text))

unlike : (text other : List ℕ) → holds other text ≡ false → bytes_eq text other ≡ false
unlike text other e = elim (truth (bytes_eq text other)) [
  | inl is ↦
      let same : text ≡ other = (bytes_eq-Decides text other).0 is in
      absurd (false≢true (sym e ∙ ap (holds other) same ∙ own_part other))
  | inr isnt ↦ isnt
]

unlike_turned : (text other : List ℕ) → holds other text ≡ false → bytes_eq other text ≡ false
unlike_turned text other e = elim (truth (bytes_eq other text)) [
  | inl is ↦
      let same : other ≡ text = (bytes_eq-Decides other text).0 is in
      absurd (false≢true (sym e ∙ ap (λ part. holds part text) same ∙ own_part text))
  | inr isnt ↦ isnt
]

no_token : (token : List ℕ) (pieces : List (List ℕ × Token)) → holds token (together pieces) ≡ false
    → list_any (λ (p : List ℕ × Token). bytes_eq p.0 token) pieces ≡ false
no_token token [] e = refl
no_token token (p ∷ pieces) e =
    or_false (bytes_eq p.0 token) (list_any (λ (p : List ℕ × Token). bytes_eq p.0 token) pieces)
    (unlike p.0 token (unheld-front token p.0 (together pieces) e))
    (no_token token pieces (unheld-behind token p.0 (together pieces) e))

not_token : (token text : List ℕ) → holds token text ≡ false → Named.has_token token text ≡ false
not_token token text e = no_token token (pieces_of text) (ap (holds token) (pieces-join text) ∙ e)

not_old : (value : List ℕ) (r : Replacement) → holds r.old value ≡ false → Named.is_old_licence value r ≡ false
not_old value r e =
    or_false (bytes_eq value r.old) (is_identifier r.old && is_none (fault_of value) && Named.has_token r.old value)
    (unlike value r.old e)
    (and_false (is_identifier r.old && is_none (fault_of value)) (Named.has_token r.old value)
    (not_token r.old value e))

none_among : (removed : List (List ℕ)) (text : List ℕ) → holds_any removed text ≡ false
    → is_among removed text ≡ false
none_among [] text e = refl
none_among (other ∷ removed) text e =
    let both = or_parts (holds other text) (holds_any removed text) e in
    or_false (bytes_eq other text) (is_among removed text) (unlike_turned text other both.0)
    (none_among removed text both.1)

no_licence : (rs : List Replacement) (value : List ℕ) → holds_old rs value ≡ false
    → list_any (Named.is_left_licence value) rs ≡ false
no_licence [] value e = refl
no_licence (r ∷ rs) value e =
    let both = or_parts (holds r.old value) (holds_old rs value) e in
    or_false (Named.is_left_licence value r) (list_any (Named.is_left_licence value) rs)
    (ap (λ b. b && not (Named.is_new value r)) (not_old value r both.0)) (no_licence rs value both.1)

no_text : (rs : List Replacement) (text : List ℕ) → holds_old rs text ≡ false
    → list_any (Named.is_left_text text) rs ≡ false
no_text [] text e = refl
no_text (r ∷ rs) text e =
    let both = or_parts (holds r.old text) (holds_old rs text) e in
    or_false (Named.is_left_text text r) (list_any (Named.is_left_text text) rs)
    (ap (λ b. b && not (Named.is_new text r)) (unlike text r.old both.0)) (no_text rs text both.1)

pub unheld_licence : (a : Amendments) (value : List ℕ) → holds_named a value ≡ false
    → Named.leaves_licence a value ≡ false
unheld_licence a value e =
    let h = none_held a value e in
    or_false (list_any (Named.is_left_licence value) a.replaced_licences) (is_among a.removed_licences value)
    (no_licence a.replaced_licences value h.replaced_licences)
    (none_among a.removed_licences value h.removed_licences)

pub unheld_contributor : (a : Amendments) (value : List ℕ) → holds_named a value ≡ false
    → Named.leaves_contributor a value ≡ false
unheld_contributor a value e =
    let h = none_held a value e in
    or_false (list_any (Named.is_left_text value) a.replaced_contributors) (is_among a.removed_contributors value)
    (no_text a.replaced_contributors value h.replaced_contributors)
    (none_among a.removed_contributors value h.removed_contributors)

unheld_holder : (a : Amendments) (holder : List ℕ) → holds_named a holder ≡ false
    → Named.leaves_holder a holder ≡ false
unheld_holder a holder e =
    let h = none_held a holder e in
    or_false (list_any (Named.is_left_text holder) a.replaced_holders) (is_among a.removed_holders holder)
    (no_text a.replaced_holders holder h.replaced_holders) (none_among a.removed_holders holder h.removed_holders)

holder_within : (a : Amendments) (p : Parts) → holds_named a (parts_text p) ≡ false → holds_named a p.holder ≡ false
holder_within a p e = by p.years_first e
  where
    by : (b : Bool) → holds_named a
        (p.front ++ cond b p.years p.holder ++ p.between ++ cond b p.holder p.years ++ p.trailing) ≡ false
        → holds_named a p.holder ≡ false
    by true other =
        unnamed-behind a (p.front ++ p.years ++ p.between) p.holder
        (unnamed-front a (p.front ++ p.years ++ p.between ++ p.holder) p.trailing other)
    by false other =
        unnamed-behind a p.front p.holder
        (unnamed-front a (p.front ++ p.holder) p.between
        (unnamed-front a (p.front ++ p.holder ++ p.between) p.years
        (unnamed-front a (p.front ++ p.holder ++ p.between ++ p.years) p.trailing other)))

pub unheld_notice : (a : Amendments) (notice : List ℕ) → holds_named a notice ≡ false
    → Named.leaves_notice a notice ≡ false
unheld_notice a notice e = by (parts_of notice) refl
  where
    by : (o : Option Parts) → parts_of notice ≡ o → option_map_or (λ p. Named.leaves_holder a p.holder) o false ≡ false
    by None read = refl
    by (Some p) read =
        unheld_holder a p.holder (holder_within a p (ap (holds_named a) (parts_joined notice p read) ∙ e))
