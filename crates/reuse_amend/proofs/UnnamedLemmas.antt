-- What the amendments don't name stays.
use Rattle.std.proofs.Common.{◌≡◌, ◌≢◌, ℕ, zero, suc, ◌-◌, ◌<◌, Bool, true, false, List, [], ◌∷◌, ◌++◌, take, drop, map}
use Rattle.std.proofs.Common.{Option, Some, None, refl, sym, ap, subst, ◌∙◌, arith, cond, inl, inr}
use Rattle.std.specs.Prelude.{Contains, filter_map, flat_map, fold, not, ◌&&◌, ◌||◌}
use Rattle.std.specs.Option.{option_map, option_and_then, is_none}
use Rattle.std.specs.List.{AllByRecursion, cons_option}
use Rattle.std.specs.Str.{bytes_eq}
use Rattle.std.proofs.lemmas.Bool.{false_from_ne_true}
use Rattle.std.proofs.lemmas.List.{take-append-drop}
use Rattle.std.proofs.lemmas.Slice.Eq.{bytes_eq-Decides, slice_eq-Decides}
use Rattle.reuse_notice.specs.declared.expressions.Token.{Token}
use Rattle.reuse_amend.specs.declared.replacements.Replacement.{Replacement}
use Rattle.reuse_amend.specs.declared.amendments.Amendments.{Amendments}
use Rattle.reuse_notice.specs.declared.infos.Info.{Info}
use Rattle.reuse_notice.specs.Expressions.{token_len}
use Rattle.reuse_notice.specs.ExpressionSteps.{fault_of}
use Rattle.reuse_amend.specs.Pieces.{pieces_from, pieces_of, is_identifier}
use Rattle.reuse_notice.specs.Sets.{set_of}
use Rattle.reuse_notice.specs.MergeSteps.{is_among}
use Rattle.reuse_notice.specs.Infos.{same_texts, says_the_same}
use Rattle.reuse_notice.specs.TextLists.{without}
use Rattle.reuse_amend.specs.Amending
use Rattle.reuse_amend.specs.Unnamed.{IsNoOld, HasNoOld, IsOtherLicence, IsOtherContributor}
use Rattle.reuse_amend.proofs.PieceLemmas.{token-some}
use Rattle.reuse_notice.proofs.SetLemmas.{In, In-from_contains, Contains-from_in, set_of-has}

pub other_text : (x y : List ℕ) → x ≢ y → bytes_eq x y ≡ false
other_text x y h = false_from_ne_true (bytes_eq x y) (λ e. h ((bytes_eq-Decides x y).0 e))

pub own_text : (x : List ℕ) → bytes_eq x x ≡ true
own_text x = (bytes_eq-Decides x x).1 refl

-- ---- pieces

abbrev pub together : List (List ℕ × Token) → List ℕ
together pieces = flat_map (λ (p : List ℕ × Token). p.0) pieces

pub pieces_from-join : (skip : ℕ) (bytes : List ℕ) → together (pieces_from skip bytes) ≡ drop skip bytes
unfolding pieces_from
pieces_from-join zero [] = refl
pieces_from-join (suc skip) [] = refl
pieces_from-join (suc skip) (b ∷ bytes) = pieces_from-join skip bytes
pieces_from-join zero (b ∷ bytes) =
    ap (λ rest. take (token_len (b ∷ bytes)) (b ∷ bytes) ++ rest) (pieces_from-join (token_len (b ∷ bytes) - 1) bytes)
    ∙ by (token_len (b ∷ bytes)) (token-some (b ∷ bytes))
  where
    by : (n : ℕ) → 0 < n → take n (b ∷ bytes) ++ drop (n - 1) bytes ≡ b ∷ bytes
    by zero low = absurd (omega arith)
    by (suc n) low = let less : suc n - 1 ≡ n = omega arith in ap (λ k. take (suc n) (b ∷ bytes) ++ drop k bytes) less
        ∙ ap (λ xs. b ∷ xs) (take-append-drop n bytes)

pub pieces-join : (text : List ℕ) → together (pieces_of text) ≡ text
pieces-join text = pieces_from-join 0 text

-- ---- licences

pub pieces-stay : (r : Replacement) (behind : Bool) (pieces : List (List ℕ × Token))
    → AllByRecursion (λ p. p.0 ≢ r.old) pieces → Amending.pieces_replaced r behind pieces ≡ together pieces
unfolding Amending.pieces_replaced
pieces-stay r behind [] h = refl
pieces-stay r behind (p ∷ pieces) h =
    ap (λ b. cond (b && (is_identifier r.new || not behind)) (Amending.operand r.new) p.0
    ++ Amending.pieces_replaced r (Amending.is_behind_with behind p.1) pieces) (other_text p.0 r.old h.0)
    ∙ ap (λ xs. p.0 ++ xs) (pieces-stay r (Amending.is_behind_with behind p.1) pieces h.1)

licence-stays : (r : Replacement) (value : List ℕ) → value ≢ r.old
    → AllByRecursion (λ p. p.0 ≢ r.old) (pieces_of value) → Amending.licence_replaced r value ≡ Some value
licence-stays r value whole tokens =
    ap (λ b. cond b (Some r.new) (cond (is_identifier r.old && is_none (fault_of value))
    (Amending.if_expression (Amending.expression_replaced r value)) (Some value))) (other_text value r.old whole)
    ∙ ap (λ t. cond (is_identifier r.old && is_none (fault_of value)) (Amending.if_expression t) (Some value))
    (pieces-stay r false (pieces_of value) tokens ∙ pieces-join value)
    ∙ by (is_identifier r.old) (is_none (fault_of value))
  where
    by : (named good : Bool) → cond (named && good) (cond good (Some value) None) (Some value) ≡ Some value
    by true true = refl
    by true false = refl
    by false good = refl

pub licence-amended-stays : (rs : List Replacement) (value : List ℕ) → IsNoOld rs value → HasNoOld rs value
    → Amending.licence_amended rs value ≡ Some value
unfolding Amending.licence_amended
licence-amended-stays [] value whole tokens = refl
licence-amended-stays (r ∷ rs) value whole tokens =
    ap (option_and_then (Amending.licence_amended rs)) (licence-stays r value whole.0 tokens.0)
    ∙ licence-amended-stays rs value whole.1 tokens.1

-- ---- lists and sets

-- what a text becomes stands among what the texts become
each-has : (f : List ℕ → Option (List ℕ)) (xs ys : List (List ℕ)) (x y : List ℕ) → Amending.each_made f xs ≡ Some ys
    → In x xs → f x ≡ Some y → In y ys
unfolding Amending.each_made
each-has f [] ys x y e h is = absurd h
each-has f (z ∷ xs) ys x y e h is = by (λ others rest k. each-has f xs others x y rest k is) (f z) refl
    (Amending.each_made f xs) refl e
  where
    later : ((others : List (List ℕ)) → Amending.each_made f xs ≡ Some others → In x xs → In y others)
        → (made : List ℕ) (others : List (List ℕ)) → f z ≡ Some made → Amending.each_made f xs ≡ Some others
        → In x (z ∷ xs) → In y (made ∷ others)
    later again made others first rest (inl same) = inl (let e' : Some y ≡ Some made = sym is ∙ ap f same ∙ first in cc)
    later again made others first rest (inr k) = inr (again others rest k)

    by : ((others : List (List ℕ)) → Amending.each_made f xs ≡ Some others → In x xs → In y others)
        → (o : Option (List ℕ)) → f z ≡ o → (os : Option (List (List ℕ))) → Amending.each_made f xs ≡ os
        → option_and_then (λ made. option_map (λ others. made ∷ others) os) o ≡ Some ys → In y ys
    by again None first os rest e' = absurd (cc e')
    by again (Some made) first None rest e' = absurd (cc e')
    by again (Some made) first (Some others) rest e' = let same : made ∷ others
        ≡ ys = cc e' in subst (In y) same (later again made others first rest h)

without-has : (removed xs : List (List ℕ)) (x : List ℕ) → is_among removed x ≡ false → In x xs
    → In x (without removed xs)
without-has removed [] x stays h = absurd h
without-has removed (z ∷ xs) x stays (inl e) =
    subst (λ b. In x (cond (not b) (z ∷ without removed xs) (without removed xs)))
    (sym stays ∙ ap (is_among removed) e) (inl e)
without-has removed (z ∷ xs) x stays (inr h) = by (without-has removed xs x stays h) (is_among removed z)
  where
    by : In x (without removed xs) → (b : Bool) → In x (cond (not b) (z ∷ without removed xs) (without removed xs))
    by again true = again
    by again false = inr again

map-has : (f : List ℕ → List ℕ) (xs : List (List ℕ)) (x : List ℕ) → In x xs → In (f x) (map f xs)
map-has f [] x h = absurd h
map-has f (z ∷ xs) x (inl e) = inl (ap f e)
map-has f (z ∷ xs) x (inr h) = inr (map-has f xs x h)

pub filter_map-has : (f : List ℕ → Option (List ℕ)) (xs : List (List ℕ)) (x y : List ℕ) → In x xs → f x ≡ Some y
    → In y (filter_map f xs)
filter_map-has f [] x y h is = absurd h
filter_map-has f (z ∷ xs) x y (inl e) is = subst (λ o. In y (cons_option o (filter_map f xs))) (sym is ∙ ap f e)
    (inl refl)
filter_map-has f (z ∷ xs) x y (inr h) is = by (filter_map-has f xs x y h is) (f z)
  where
    by : In y (filter_map f xs) → (o : Option (List ℕ)) → In y (cons_option o (filter_map f xs))
    by again None = again
    by again (Some w) = inr again

pub in_set : (xs : List (List ℕ)) (x : List ℕ) → In x xs → Contains (set_of xs) x
in_set xs x h = Contains-from_in (set_of xs) x (set_of-has xs x h)

-- ---- the information

-- the parts of amended information
pub record AreAmended (a : Amendments) (info new : Info) : Type 0 where
  pub licences : List (List ℕ)
  pub made : Amending.each_made (Amending.licence_amended a.replaced_licences) info.licences ≡ Some licences
  pub new_licences : new.licences ≡ set_of (without a.removed_licences licences)
  pub new_contributors : new.contributors ≡ Amending.contributors_amended a info.contributors
  pub new_notices : new.notices ≡ Amending.notices_amended a info.notices
  pub new_free : new.free ≡ info.free

abbrev amended_with : Amendments → Info → List (List ℕ) → Info
amended_with a info licences = record {
  notices = Amending.notices_amended a info.notices;
  contributors = Amending.contributors_amended a info.contributors;
  licences = licences;
  free = info.free;
}

pub are_amended : (a : Amendments) (info new : Info) → Amending.amended a info ≡ Some new → AreAmended a info new
are_amended a info new e = by (Amending.each_made (Amending.licence_amended a.replaced_licences) info.licences) refl e
  where
    by : (o : Option (List (List ℕ)))
        → Amending.each_made (Amending.licence_amended a.replaced_licences) info.licences ≡ o
        → option_map (amended_with a info) (option_map (λ texts. set_of (without a.removed_licences texts)) o)
        ≡ Some new → AreAmended a info new
    by None is e' = absurd (cc e')
    by (Some licences) is e' =
        let same : amended_with a info (set_of (without a.removed_licences licences)) ≡ new = cc e' in
        record {
          licences = licences;
          made = is;
          new_licences = ap (λ (i : Info). i.licences) (sym same);
          new_contributors = ap (λ (i : Info). i.contributors) (sym same);
          new_notices = ap (λ (i : Info). i.notices) (sym same);
          new_free = ap (λ (i : Info). i.free) (sym same);
        }

pub other_licence-stays : (a : Amendments) (info new : Info) (value : List ℕ) → Amending.amended a info ≡ Some new
    → IsOtherLicence a value → Contains info.licences value → Contains new.licences value
other_licence-stays a info new value e other h =
    let parts = are_amended a info new e in
    let stands = each-has (Amending.licence_amended a.replaced_licences) info.licences parts.licences value value
    parts.made (In-from_contains info.licences value h)
    (licence-amended-stays a.replaced_licences value other.whole other.tokens) in
    subst (λ xs. Contains xs value) (sym parts.new_licences) (in_set (without a.removed_licences parts.licences) value
    (without-has a.removed_licences parts.licences value other.stays stands))

pub text-stays : (rs : List Replacement) (text : List ℕ) → IsNoOld rs text → Amending.text_amended rs text ≡ text
text-stays [] text h = refl
text-stays (r ∷ rs) text h = ap (λ b. fold Amending.text_replaced (cond b r.new text) rs) (other_text text r.old h.0)
    ∙ text-stays rs text h.1

pub other_contributor-stays : (a : Amendments) (info new : Info) (text : List ℕ) → Amending.amended a info ≡ Some new
    → IsOtherContributor a text → Contains info.contributors text → Contains new.contributors text
other_contributor-stays a info new text e other h =
    let parts = are_amended a info new e in
    let f = Amending.text_amended a.replaced_contributors in
    let stands : In text (map f info.contributors) = subst (λ t. In t (map f info.contributors))
    (text-stays a.replaced_contributors text other.whole)
    (map-has f info.contributors text (In-from_contains info.contributors text h)) in
    subst (λ xs. Contains xs text) (sym parts.new_contributors)
    (in_set (without a.removed_contributors (map f info.contributors)) text
    (without-has a.removed_contributors (map f info.contributors) text other.stays stands))

-- ---- the same

both : (x y : Bool) → (x && y) ≡ true → (x ≡ true) × (y ≡ true)
both true y e = (refl, e)
both false y e = absurd (cc e)

pub same_is : (info other : Info) → says_the_same info other ≡ true
    → (info.notices ≡ other.notices) × (info.contributors ≡ other.contributors) × (info.licences ≡ other.licences)
same_is info other e =
    let outer = both (same_texts info.notices other.notices && same_texts info.contributors other.contributors)
    (same_texts info.licences other.licences) e in
    let inner =
    both (same_texts info.notices other.notices) (same_texts info.contributors other.contributors) outer.0 in (
      (slice_eq-Decides bytes_eq-Decides info.notices other.notices _ refl).0 inner.0,
      (slice_eq-Decides bytes_eq-Decides info.contributors other.contributors _ refl).0 inner.1,
      (slice_eq-Decides bytes_eq-Decides info.licences other.licences _ refl).0 outer.1,
    )

pub is_same : (info other : Info) → (info.notices ≡ other.notices) × (info.contributors ≡ other.contributors)
    × (info.licences ≡ other.licences) → says_the_same info other ≡ true
is_same info other h =
    ap (λ b. b && same_texts info.contributors other.contributors && same_texts info.licences other.licences)
    ((slice_eq-Decides bytes_eq-Decides info.notices other.notices _ refl).1 h.0)
    ∙ ap (λ b. b && same_texts info.licences other.licences)
    ((slice_eq-Decides bytes_eq-Decides info.contributors other.contributors _ refl).1 h.1)
    ∙ (slice_eq-Decides bytes_eq-Decides info.licences other.licences _ refl).1 h.2
