-- What amendments don't name stays in a notice, byte for byte.
use Rattle.std.proofs.Common.{◌≡◌, ℕ, ◌++◌, Bool, true, false, cond, List, take, Option, Some, None, refl, sym, ap}
use Rattle.std.proofs.Common.{subst, ◌∙◌, append_assoc, inl, inr, ◌⊎◌}
use Rattle.std.specs.Prelude.{Contains, filter_map, unwrap_or, codes}
use Rattle.std.specs.Option.{option_map_or}
use Rattle.reuse_notice.specs.declared.prefixes.Prefix.{Prefix}
use Rattle.reuse_notice.specs.declared.infos.Info.{Info}
use Rattle.reuse_notice.specs.Prefixes.{prefix_text}
use Rattle.reuse_notice.specs.Tags.{year_of}
use Rattle.reuse_notice.specs.MergeSteps.{is_among}
use Rattle.reuse_notice.proofs.SetLemmas.{In-from_contains}
use Rattle.reuse_amend.specs.declared.amendments.Amendments.{Amendments}
use Rattle.reuse_amend.specs.YearSpans.{upto}
use Rattle.reuse_amend.specs.NoticeParts.{Parts, parts_text, parts_of}
use Rattle.reuse_amend.specs.Amending
use Rattle.reuse_amend.specs.Unnamed.{IsOtherNotice}
use Rattle.reuse_amend.specs.InPlace.{IsReached, IsPrefixed, IsUntil, IsChangedInPlace}
use Rattle.reuse_amend.proofs.UnnamedLemmas.{are_amended, text-stays, in_set, filter_map-has}
use Rattle.reuse_amend.proofs.ChoiceLemmas.{not_some}
use Rattle.reuse_amend.proofs.EndLemmas.{upto_joined, run_read}
use Rattle.reuse_amend.proofs.PartLemmas.{Anything, anything}
use Rattle.reuse_amend.proofs.JoinedLemmas.{parts_joined}
use Rattle.reuse_amend.proofs.WrittenLemmas.{until_reaches}

-- ---- notices that stay

-- so do the parts of one for which neither a prefix nor a year is chosen
pub parts_stay : (p : Parts) (prefix : Option Prefix) (until : Option ℕ) → prefix ≡ None → until ≡ None
    → record {
      prefix = unwrap_or prefix p.prefix;
      front = option_map_or (Amending.front_with p) prefix p.front;
      years = option_map_or (λ year. Amending.years_until year p.years) until p.years;
      between = p.between;
      holder = p.holder;
      trailing = p.trailing;
      years_first = p.years_first;
    } ≡ p
parts_stay p prefix until e f =
    ap (λ o. record {
      prefix = unwrap_or o p.prefix;
      front = option_map_or (Amending.front_with p) o p.front;
      years = option_map_or (λ year. Amending.years_until year p.years) until p.years;
      between = p.between;
      holder = p.holder;
      trailing = p.trailing;
      years_first = p.years_first;
    }) e
    ∙ ap (λ o. record {
      prefix = p.prefix;
      front = p.front;
      years = option_map_or (λ year. Amending.years_until year p.years) o p.years;
      between = p.between;
      holder = p.holder;
      trailing = p.trailing;
      years_first = p.years_first;
    }) f

pub notice-stays : (a : Amendments) (text : List ℕ) → IsOtherNotice a text → Amending.notice_amended a text ≡ Some text
notice-stays a text other =
    let p = other.parts in
    ap (λ o. option_map_or (λ q. Amending.holder_amended a q (Amending.text_amended a.replaced_holders q.holder)) o
    (Some text)) other.read
    ∙ ap (Amending.holder_amended a p) (text-stays a.replaced_holders p.holder other.whole)
    ∙ ap (λ b. cond b None (Some (parts_text (Amending.parts_amended a p p.holder)))) other.stays
    ∙ ap (λ q. Some (parts_text q)) (parts_stay p (Amending.if_concerned a p.holder a.prefix)
    (Amending.if_concerned a p.holder a.until) other.prefix other.until)
    ∙ ap (λ t. Some t) (parts_joined text p other.read)

pub other_notice-stays : (a : Amendments) (info new : Info) (text : List ℕ) → Amending.amended a info ≡ Some new
    → IsOtherNotice a text → Contains info.notices text → Contains new.notices text
other_notice-stays a info new text e other h =
    let parts = are_amended a info new e in
    subst (λ xs. Contains xs text) (sym parts.new_notices) (in_set
    (filter_map (Amending.notice_amended a) info.notices) text
    (filter_map-has (Amending.notice_amended a) info.notices text text (In-from_contains info.notices text h)
    (notice-stays a text other)))

-- ---- what changes

-- years stay, or a span of them is written anew
until_in_place : (year : ℕ) (years : List ℕ) → (Amending.years_until year years ≡ years)
    ⊎ IsReached year years (Amending.years_until year years)
until_in_place year years = elim (until_reaches year years (Amending.years_until year years) refl) [
  | inl same ↦ inl (sym same)
  | inr r ↦ (let run = r.run in
      let read = run_read Anything anything years run r.found in
      let span = upto run.latest.start run.latest.rest in
      let whole = upto_joined Anything run.latest.start run.latest.rest read.span_is.cut in
      inr (record {
        before = upto years run.latest.start;
        span = span;
        after = run.latest.rest;
        low = run.latest.low;
        is = sym (append_assoc (upto years run.latest.start) span run.latest.rest
            ∙ ap (λ t. upto years run.latest.start ++ t) whole
            ∙ upto_joined Anything years run.latest.start read.start);
        begins = ap (λ t. year_of (take 4 t)) whole ∙ read.span_is.digits;
        written = sym r.written;
      }))
]

front_in_place : (p : Parts) (o : Option Prefix) → (option_map_or (Amending.front_with p) o p.front ≡ p.front)
    ⊎ IsPrefixed o (option_map_or (Amending.front_with p) o p.front)
front_in_place p None = inl refl
front_in_place p (Some prefix) = by (Amending.is_front prefix p)
  where
    by : (t : Bool) → (cond t p.front (prefix_text prefix ++ codes " ") ≡ p.front)
        ⊎ IsPrefixed (Some prefix) (cond t p.front (prefix_text prefix ++ codes " "))
    by true = inl refl
    by false = inr (record { set = prefix; is = refl; written = refl })

years_in_place : (years : List ℕ) (o : Option ℕ) → (option_map_or (λ year. Amending.years_until year years) o years
    ≡ years) ⊎ IsUntil o years (option_map_or (λ year. Amending.years_until year years) o years)
years_in_place years None = inl refl
years_in_place years (Some year) = elim (until_in_place year years) [
  | inl same ↦ inl same
  | inr reached ↦ inr (record { year = year; is = refl; reached = reached })
]

pub in_place : (a : Amendments) (text new : List ℕ) (p : Parts) → parts_of text ≡ Some p
    → Amending.notice_amended a text ≡ Some new → IsChangedInPlace a p new
in_place a text new p read e =
    by (is_among a.removed_holders holder)
    (sym (ap (λ o. option_map_or (λ q. Amending.holder_amended a q
    (Amending.text_amended a.replaced_holders q.holder)) o (Some text)) read) ∙ e)
  where
    holder : List ℕ
    holder = Amending.text_amended a.replaced_holders p.holder

    by : (t : Bool) → cond t None (Some (parts_text (Amending.parts_amended a p holder))) ≡ Some new
        → IsChangedInPlace a p new
    by true e' = absurd (not_some new e')
    by false e' = record {
      parts = Amending.parts_amended a p holder;
      written = let same : parts_text (Amending.parts_amended a p holder) ≡ new = cc e' in sym same;
      holder = refl;
      front = front_in_place p (Amending.if_concerned a holder a.prefix);
      years = years_in_place p.years (Amending.if_concerned a holder a.until);
      between = refl;
      trailing = refl;
      order = refl;
    }

-- a notice stays, or its parts are amended
pub record HasNewParts (a : Amendments) (text new : List ℕ) : Type 0 where
  pub parts : Parts
  pub read : parts_of text ≡ Some parts
  pub written : parts_text (Amending.parts_amended a parts (Amending.text_amended a.replaced_holders parts.holder))
      ≡ new

pub becomes : (a : Amendments) (text new : List ℕ) → Amending.notice_amended a text ≡ Some new
    → (text ≡ new) ⊎ HasNewParts a text new
becomes a text new e = by (parts_of text) refl e
  where
    stays : (p : Parts) → parts_of text ≡ Some p → (t : Bool)
        → cond t None (Some (parts_text (Amending.parts_amended a p
        (Amending.text_amended a.replaced_holders p.holder)))) ≡ Some new → HasNewParts a text new
    stays p read true e' = absurd (not_some new e')
    stays p read false e' = record { parts = p; read = read; written = cc e' }

    by : (o : Option Parts) → parts_of text ≡ o
        → option_map_or (λ p. Amending.holder_amended a p (Amending.text_amended a.replaced_holders p.holder)) o
        (Some text) ≡ Some new
        → (text ≡ new) ⊎ HasNewParts a text new
    by None read e' = inl (cc e')
    by (Some p) read e' = inr (stays p read (is_among a.removed_holders
        (Amending.text_amended a.replaced_holders p.holder)) e')
