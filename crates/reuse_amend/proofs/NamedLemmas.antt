-- What the amendments name, and that other values stay.
use Rattle.std.proofs.Common.{◌≡◌, ◌≢◌, ℕ, ◌<◌, Bool, true, false, cond, List, [], ◌∷◌, length, take, drop, refl}
use Rattle.std.proofs.Common.{Option, Some, None, sym, ap, ◌∙◌, arith}
use Rattle.std.specs.Prelude.{◌||◌, ◌&&◌, not}
use Rattle.std.specs.List.{list_any, AllByRecursion}
use Rattle.std.specs.Option.{option_map, option_map_or, option_and_then, is_none}
use Rattle.std.specs.Str.{bytes_eq}
use Rattle.std.proofs.lemmas.Bool.{or_parts, false≢true}
use Rattle.reuse_notice.specs.declared.expressions.Token.{Token}
use Rattle.reuse_amend.specs.declared.replacements.Replacement.{Replacement}
use Rattle.reuse_amend.specs.declared.amendments.Amendments.{Amendments}
use Rattle.reuse_notice.specs.Expressions.{token_len}
use Rattle.reuse_notice.specs.ExpressionSteps.{fault_of}
use Rattle.reuse_notice.specs.MergeSteps.{is_among}
use Rattle.reuse_amend.specs.Pieces.{pieces_of, is_identifier}
use Rattle.reuse_amend.specs.NoticeParts.{Parts, parts_of}
use Rattle.reuse_amend.specs.Amending
use Rattle.reuse_amend.specs.Named.{is_old, has_token, is_old_licence, names_licence, names_contributor, names_holder}
use Rattle.reuse_amend.specs.Named.{names_notice}
use Rattle.reuse_amend.specs.Unnamed.{IsNoOld}
use Rattle.reuse_amend.proofs.PieceLemmas.{pieces-nil, pieces-first, token-some}
use Rattle.reuse_amend.proofs.UnnamedLemmas.{own_text, pieces-stay, pieces-join, text-stays}
use Rattle.reuse_amend.proofs.InPlaceLemmas.{notice-stays}

-- ---- the search for a token, from one piece on

abbrev among : List ℕ → List (List ℕ × Token) → Bool
among token pieces = list_any (λ (p : List ℕ × Token). bytes_eq p.0 token) pieces

has-first : (token rest : List ℕ) (n : ℕ) → 0 < length rest → 0 < n → n ≡ token_len rest
    → has_token token rest ≡ (bytes_eq (take n rest) token || has_token token (drop n rest))
has-first token rest n low some is = ap (among token) (pieces-first rest n low some is)

pub has-more : (token rest : List ℕ) (r : Bool) → 0 < length rest
    → bytes_eq (take (token_len rest) rest) token ≡ false → has_token token rest ≡ r
    → has_token token (drop (token_len rest) rest) ≡ r
has-more token rest r low other so =
    sym (has-first token rest (token_len rest) low (token-some rest) refl
    ∙ ap (λ b. b || has_token token (drop (token_len rest) rest)) other) ∙ so

pub has-stop : (token rest : List ℕ) (r : Bool) → 0 < length rest
    → bytes_eq (take (token_len rest) rest) token ≡ true → has_token token rest ≡ r → true ≡ r
has-stop token rest r low found so =
    sym (has-first token rest (token_len rest) low (token-some rest) refl
    ∙ ap (λ b. b || has_token token (drop (token_len rest) rest)) found) ∙ so

pub has-end : (token rest : List ℕ) (r : Bool) → length rest ≡ 0 → has_token token rest ≡ r → false ≡ r
has-end token [] r none so = ap (among token) (sym pieces-nil) ∙ so
has-end token (b ∷ rest) r none so = absurd (omega arith)

-- ---- other texts

-- a text that is none of those that are replaced
pub no_text : (x y : List ℕ) → bytes_eq x y ≡ false → x ≢ y
no_text x y e same =
    let t : true ≡ false = sym (own_text y) ∙ ap (λ z. bytes_eq z y) (sym same) ∙ e in absurd (cc t)

no_old : (rs : List Replacement) (text : List ℕ) → list_any (is_old text) rs ≡ false → IsNoOld rs text
no_old [] text e = tt
no_old (r ∷ rs) text e =
    let both = or_parts (is_old text r) (list_any (is_old text) rs) e in
    (no_text text r.old both.0, no_old rs text both.1)

no_piece : (old : List ℕ) (pieces : List (List ℕ × Token)) → among old pieces ≡ false
    → AllByRecursion (λ p. p.0 ≢ old) pieces
no_piece old [] e = tt
no_piece old (p ∷ pieces) e =
    let both = or_parts (bytes_eq p.0 old) (among old pieces) e in
    (no_text p.0 old both.0, no_piece old pieces both.1)

-- ---- licences

-- an expression whose identifiers may be replaced, or another value
abbrev within : Replacement → List ℕ → Bool → Option (List ℕ)
within r value b = cond b (Amending.if_expression (Amending.expression_replaced r value)) (Some value)

licence-kept : (r : Replacement) (value : List ℕ) → is_old_licence value r ≡ false
    → Amending.licence_replaced r value ≡ Some value
licence-kept r value e =
    let both = or_parts (is_old value r) (is_identifier r.old && is_none (fault_of value) && has_token r.old value) e in
    ap (λ b. cond b (Some r.new) (within r value (is_identifier r.old && is_none (fault_of value)))) both.0
    ∙ by (is_identifier r.old) (is_none (fault_of value)) refl both.1
  where
    stays : has_token r.old value ≡ false → is_none (fault_of value) ≡ true → within r value true ≡ Some value
    stays other good =
        ap Amending.if_expression
        (pieces-stay r false (pieces_of value) (no_piece r.old (pieces_of value) other) ∙ pieces-join value)
        ∙ ap (λ b. cond b (Some value) None) good

    by : (named good : Bool) → is_none (fault_of value) ≡ good → (named && good && has_token r.old value) ≡ false
        → within r value (named && good) ≡ Some value
    by true true is other = stays other is
    by true false is other = refl
    by false good is other = refl

licences-kept : (rs : List Replacement) (value : List ℕ) → list_any (is_old_licence value) rs ≡ false
    → Amending.licence_amended rs value ≡ Some value
unfolding Amending.licence_amended
licences-kept [] value e = refl
licences-kept (r ∷ rs) value e =
    let both = or_parts (is_old_licence value r) (list_any (is_old_licence value) rs) e in
    ap (option_and_then (Amending.licence_amended rs)) (licence-kept r value both.0) ∙ licences-kept rs value both.1

unless-kept : (removed : List (List ℕ)) (value : List ℕ) → is_among removed value ≡ false
    → Amending.unless_removed removed value ≡ Some value
unless-kept removed value e = ap (λ b. cond b None (Some value)) e

pub other_licence-kept : (a : Amendments) (value : List ℕ) → names_licence a value ≡ false
    → Amending.licence_alone a value ≡ Some (Some value)
other_licence-kept a value e =
    let both = or_parts (list_any (is_old_licence value) a.replaced_licences) (is_among a.removed_licences value) e in
    ap (option_map (Amending.unless_removed a.removed_licences)) (licences-kept a.replaced_licences value both.0)
    ∙ ap (λ o. Some o) (unless-kept a.removed_licences value both.1)

-- ---- contributors and notices

pub other_contributor-kept : (a : Amendments) (value : List ℕ) → names_contributor a value ≡ false
    → Amending.contributor_alone a value ≡ Some value
other_contributor-kept a value e =
    let both = or_parts (list_any (is_old value) a.replaced_contributors) (is_among a.removed_contributors value) e in
    ap (Amending.unless_removed a.removed_contributors)
    (text-stays a.replaced_contributors value (no_old a.replaced_contributors value both.0))
    ∙ unless-kept a.removed_contributors value both.1

pub none_concerned : {X : Type 0} (a : Amendments) (holder : List ℕ) (o : Option X) → o ≡ None
    → Amending.if_concerned a holder o ≡ None
none_concerned a holder o e = by (Amending.concerns a holder)
  where
    by : (b : Bool) → cond b o None ≡ None
    by true = e
    by false = refl

pub other_notice-kept : (a : Amendments) (notice : List ℕ) → names_notice a notice ≡ false → a.until ≡ None
    → a.prefix ≡ None → Amending.notice_amended a notice ≡ Some notice
other_notice-kept a notice e until prefix = by (parts_of notice) refl e
  where
    by : (o : Option Parts) → parts_of notice ≡ o → option_map_or (λ p. names_holder a p.holder) o false ≡ false
        → Amending.notice_amended a notice ≡ Some notice
    by None read other =
        ap (λ o. option_map_or
        (λ p. Amending.holder_amended a p (Amending.text_amended a.replaced_holders p.holder)) o (Some notice)) read
    by (Some p) read other =
        let both = or_parts (list_any (is_old p.holder) a.replaced_holders) (is_among a.removed_holders p.holder) other
        in
        notice-stays a notice (record {
          parts = p;
          read = read;
          whole = no_old a.replaced_holders p.holder both.0;
          stays = both.1;
          until = none_concerned a p.holder a.until until;
          prefix = none_concerned a p.holder a.prefix prefix;
        })

-- ---- what is left

or_right : (a b : Bool) → b ≡ true → (a || b) ≡ true
or_right true b e = refl
or_right false b e = e

either_true : (a b : Bool) → (a || b) ≡ true → b ≡ false → a ≡ true
either_true true b e other = refl
either_true false b e other = absurd (false≢true (sym other ∙ e))

module _ {X : Type 0} (old new : X → Bool) where
  pub left_old : (rs : List X) → list_any (λ r. old r && not (new r)) rs ≡ true → list_any old rs ≡ true
  left_old [] e = e
  left_old (r ∷ rs) e = by (λ e'. left_old rs e') (old r) (new r) e
    where
      by : (list_any (λ r. old r && not (new r)) rs ≡ true → list_any old rs ≡ true) → (o n : Bool)
          → ((o && not n) || list_any (λ r. old r && not (new r)) rs) ≡ true → (o || list_any old rs) ≡ true
      by again true n e' = refl
      by again false n e' = again e'

  pub old_new : (rs : List X) → list_any old rs ≡ true → list_any (λ r. old r && not (new r)) rs ≡ false
      → list_any new rs ≡ true
  old_new [] e none = e
  old_new (r ∷ rs) e none = by (λ e' none'. old_new rs e' none') (old r) (new r) e none
    where
      by : (list_any old rs ≡ true → list_any (λ r. old r && not (new r)) rs ≡ false → list_any new rs ≡ true)
          → (o n : Bool) → (o || list_any old rs) ≡ true
          → ((o && not n) || list_any (λ r. old r && not (new r)) rs) ≡ false → (n || list_any new rs) ≡ true
      by again o true e' none' = refl
      by again true false e' none' = absurd (false≢true (sym none'))
      by again false false e' none' = again e' none'

  -- with what is removed
  pub left_or_removed : (rs : List X) (removed : Bool)
      → (list_any (λ r. old r && not (new r)) rs || removed) ≡ true → (list_any old rs || removed) ≡ true
  left_or_removed rs removed e = by (list_any (λ r. old r && not (new r)) rs) refl e
    where
      by : (b : Bool) → list_any (λ r. old r && not (new r)) rs ≡ b → (b || removed) ≡ true
          → (list_any old rs || removed) ≡ true
      by true is e' = ap (λ t. t || removed) (left_old rs is)
      by false is e' = or_right (list_any old rs) removed e'

  pub named_new : (rs : List X) (removed : Bool) → (list_any old rs || removed) ≡ true
      → (list_any (λ r. old r && not (new r)) rs || removed) ≡ false → list_any new rs ≡ true
  named_new rs removed e none =
      let parts = or_parts (list_any (λ r. old r && not (new r)) rs) removed none in
      old_new rs (either_true (list_any old rs) removed e parts.1) parts.0
