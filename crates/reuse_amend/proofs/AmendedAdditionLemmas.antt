-- Amendments of notices that are written as an addition is.
use Rattle.std.proofs.Common.{◌≡◌, ℕ, ◌<◌, ◌≤◌, nat_lt, Bool, true, false, cond, List, [], ◌∷◌, ◌++◌, length}
use Rattle.std.proofs.Common.{drop, Option, Some, None, refl, sym, ap, subst, ◌∙◌, arith}
use Rattle.std.specs.Prelude.{codes, unwrap_or}
use Rattle.std.specs.List.{AllByRecursion}
use Rattle.std.specs.Option.{option_map_or}
use Rattle.std.specs.Str.{bytes_eq}
use Rattle.std.proofs.lemmas.Bool.{and_parts, ltb-true, ne_eqb}
use Rattle.std.proofs.lemmas.List.{append-nil}
use Rattle.std.proofs.lemmas.Slice.Eq.{bytes_eq-Decides}
use Rattle.reuse_notice.specs.declared.prefixes.Prefix.{Prefix}
use Rattle.reuse_notice.specs.declared.tags.Years.{Years}
use Rattle.reuse_notice.specs.Prefixes.{prefix_text}
use Rattle.reuse_notice.specs.Tags.{is_blank, all_blank, drop_front, trimmed}
use Rattle.reuse_notice.specs.Adding.{four_digits, years_text, notice_written}
use Rattle.reuse_notice.specs.MergeSteps.{is_among}
use Rattle.reuse_notice.specs.Plain.{IsPlain}
use Rattle.reuse_amend.specs.declared.amendments.Amendments.{Amendments}
use Rattle.reuse_amend.specs.declared.replacements.Replacement.{Replacement}
use Rattle.reuse_amend.specs.YearSpans.{upto, next_span}
use Rattle.reuse_amend.specs.NoticeParts.{Parts, parts_text, parts_of}
use Rattle.reuse_amend.specs.Amending.{range_text, is_before, span_until, years_until, is_front, front_with}
use Rattle.reuse_amend.specs.Amending.{if_concerned, text_replaced, text_amended, parts_amended, holder_amended}
use Rattle.reuse_amend.specs.Amending.{notice_amended}
use Rattle.reuse_amend.specs.InPlace.{reaching, years_reaching, addition_amended}
use Rattle.reuse_amend.specs.Settled.{may_be_read_on, CanBeWritten, HasFourDigits, WritePlainTexts, ReadsAsAmended}
use Rattle.reuse_amend.proofs.EndLemmas.{upto_is}
use Rattle.reuse_amend.proofs.PartLemmas.{Anything}
use Rattle.reuse_amend.proofs.ShapeLemmas.{IsWhole, plain_whole}
use Rattle.reuse_amend.proofs.WrittenLemmas.{chosen_short}
use Rattle.reuse_amend.proofs.AgainLemmas.{IsApart}
use Rattle.reuse_amend.proofs.AdditionLemmas.{added, added_text, is_clear, no_run}
use Rattle.reuse_amend.proofs.AddedLemmas.{same_parts, OneSpan, one_span, one_run, read_added}

-- ---- holders

text_whole : (rs : List Replacement) (text : List ℕ) → AllByRecursion (λ r. IsPlain r.new) rs → IsWhole text
    → IsWhole (text_amended rs text)
text_whole [] text plain whole = whole
text_whole (r ∷ rs) text plain whole = text_whole rs (text_replaced text r) plain.1 (by (bytes_eq text r.old))
  where
    by : (t : Bool) → IsWhole (cond t r.new text)
    by true = plain_whole r.new plain.0
    by false = whole

-- ---- years

reached_can : (until : Option ℕ) (years : Option Years) → HasFourDigits until → CanBeWritten years
    → CanBeWritten (years_reaching until years)
reached_can until None short can = tt
reached_can None (Some years) short can = can
reached_can (Some year) (Some years) short can = by (nat_lt years.high year) refl
  where
    by : (t : Bool) → nat_lt years.high year ≡ t → CanBeWritten
        (Some (cond t (record { low = years.low; high = year }) years))
    by true e =
        let less : years.high < year = ltb-true years.high year e in
        let order : years.low ≤ years.high = can.0 in
        (omega (arith, less, order), short)
    by false e = can

next_nil : next_span [] ≡ None
unfolding drop_front
next_nil = refl

alone : IsApart []
unfolding drop_front
alone = record { word = refl; dash = refl }

one_alone : (years : Years) → CanBeWritten (Some years) → OneSpan years (years_text years) []
one_alone years can = subst (λ t. OneSpan years t []) (append-nil (years_text years)) (one_span years [] can alone)

until_written : (year : ℕ) (years : Years) → CanBeWritten (Some years)
    → years_until year (years_text years) ≡ years_text (reaching year years)
until_written year years can =
    ap (λ o. option_map_or (λ run. span_until year text run.latest) o text) (one_run years text [] one next_nil)
    ∙ by (nat_lt years.high year) refl
  where
    text : List ℕ
    text = years_text years

    one : OneSpan years text []
    one = one_alone years can

    none : upto text one.span.start ≡ []
    none = ap (upto text) one.start ∙ upto_is Anything text text (record { front = []; joined = refl; holds = tt })

    by : (t : Bool) → nat_lt years.high year ≡ t → span_until year text one.span
        ≡ years_text (cond t (record { low = years.low; high = year }) years)
    by true e =
        let less : years.high < year = ltb-true years.high year e in
        let order : years.low ≤ years.high = can.0 in
        ap (λ o. cond (is_before year o) (upto text one.span.start ++ range_text one.span.low year
        ++ one.span.rest) text) one.high
        ∙ ap (λ t. cond t (upto text one.span.start ++ range_text one.span.low year ++ one.span.rest) text) e
        ∙ ap (λ t. t ++ range_text one.span.low year ++ one.span.rest) none
        ∙ ap (λ t. range_text one.span.low year ++ t) one.rest
        ∙ append-nil (range_text one.span.low year)
        ∙ ap (λ low. range_text low year) one.low
        ∙ ap (λ t. cond t (four_digits years.low) (range_text years.low year))
        (sym (ne_eqb years.low year (omega (arith, less, order))))
    by false e =
        ap (λ o. cond (is_before year o) (upto text one.span.start ++ range_text one.span.low year
        ++ one.span.rest) text) one.high
        ∙ ap (λ t. cond t (upto text one.span.start ++ range_text one.span.low year ++ one.span.rest) text) e

-- ---- the parts

front_set : (prefix : Prefix) (set : Option Prefix) (p : Parts) → p.prefix ≡ prefix
    → p.front ≡ prefix_text prefix ++ codes " "
    → option_map_or (front_with p) set p.front ≡ prefix_text (unwrap_or set prefix) ++ codes " "
front_set prefix None p own front = front
front_set prefix (Some set) p own front = by (is_front set p) refl
  where
    same : is_front set p ≡ true → prefix_text prefix ≡ prefix_text set
    same is =
        ap prefix_text (sym own)
        ∙ (bytes_eq-Decides (prefix_text p.prefix) (prefix_text set)).0
        (and_parts (bytes_eq (prefix_text p.prefix) (prefix_text set))
        (all_blank (drop (length (prefix_text p.prefix)) p.front)) is).0

    by : (t : Bool) → is_front set p ≡ t → cond t p.front (prefix_text set ++ codes " ") ≡ prefix_text set ++ codes " "
    by true is = front ∙ ap (λ t. t ++ codes " ") (same is)
    by false is = refl

no_until : (until : Option ℕ) → option_map_or (λ year. years_until year []) until [] ≡ []
no_until None = refl
no_until (Some year) = ap (λ o. option_map_or (λ run. span_until year [] run.latest) o []) (no_run [] refl)

one_until : (until : Option ℕ) (years : Years) → CanBeWritten (Some years)
    → option_map_or (λ year. years_until year (years_text years)) until (years_text years)
    ≡ years_text (option_map_or (λ year. reaching year years) until years)
one_until None years can = refl
one_until (Some year) years can = until_written year years can

added_holder : (prefix : Prefix) (years : Option Years) (holder : List ℕ) → (added prefix years holder).holder ≡ holder
added_holder prefix None holder = refl
added_holder prefix (Some years) holder = refl

amended_added : (a : Amendments) (prefix : Prefix) (years : Option Years) (old new : List ℕ) → CanBeWritten years
    → parts_amended a (added prefix years old) new
    ≡ added (unwrap_or (if_concerned a new a.prefix) prefix) (years_reaching (if_concerned a new a.until) years) new
amended_added a prefix None old new can =
    let set = if_concerned a new a.prefix in
    let p = added prefix None old in
    same_parts (unwrap_or set prefix) false _ _ _ _ _ (prefix_text (unwrap_or set prefix) ++ codes " ") [] [] new []
    (front_set prefix set p refl refl) (no_until (if_concerned a new a.until)) refl refl refl
amended_added a prefix (Some years) old new can =
    let set = if_concerned a new a.prefix in
    let until = if_concerned a new a.until in
    let p = added prefix (Some years) old in
    same_parts (unwrap_or set prefix) true _ _ _ _ _ (prefix_text (unwrap_or set prefix) ++ codes " ")
    (years_text (option_map_or (λ year. reaching year years) until years)) (codes " ") new []
    (front_set prefix set p refl refl) (one_until until years can) refl refl refl

-- ---- the notice

pub addition_stays : (a : Amendments) (prefix : Prefix) (years : Option Years) (holder : List ℕ) → CanBeWritten years
    → all_blank holder ≡ false
    → trimmed is_blank holder ≡ holder → may_be_read_on holder ≡ false
    → is_among a.removed_holders (text_amended a.replaced_holders holder) ≡ false
    → notice_amended a (notice_written prefix years holder) ≡ Some
    (addition_amended a prefix years (text_amended a.replaced_holders holder))
addition_stays a prefix years holder can some trim clear kept =
    let text = notice_written prefix years holder in
    let whole : IsWhole holder = record { some = some; trim = trim } in
    let new = text_amended a.replaced_holders holder in
    let p = added prefix years holder in
    let set = unwrap_or (if_concerned a new a.prefix) prefix in
    let reached = years_reaching (if_concerned a new a.until) years in
    ap (λ o. option_map_or (λ q. holder_amended a q (text_amended a.replaced_holders q.holder)) o (Some text))
    (read_added prefix years holder can whole (is_clear holder whole clear))
    ∙ ap (λ h. holder_amended a p (text_amended a.replaced_holders h)) (added_holder prefix years holder)
    ∙ ap (λ t. cond t None (Some (parts_text (parts_amended a p new)))) kept
    ∙ ap (λ q. Some (parts_text q)) (amended_added a prefix years holder new can)
    ∙ ap (λ t. Some t) (added_text set reached new)

pub addition_read : (a : Amendments) (prefix : Prefix) (years : Option Years) (holder : List ℕ) → WritePlainTexts a
    → HasFourDigits a.until
    → CanBeWritten years → all_blank holder ≡ false → trimmed is_blank holder ≡ holder → may_be_read_on holder ≡ false
    → may_be_read_on (text_amended a.replaced_holders holder) ≡ false
    → ReadsAsAmended a (notice_written prefix years holder)
addition_read a prefix years holder plain short can some trim clear new_clear parts found kept =
    subst (λ p. parts_of (parts_text (parts_amended a p (text_amended a.replaced_holders p.holder)))
    ≡ Some (parts_amended a p (text_amended a.replaced_holders p.holder)))
    own
    (subst (λ h. parts_of (parts_text (parts_amended a p (text_amended a.replaced_holders h)))
    ≡ Some (parts_amended a p (text_amended a.replaced_holders h)))
    (sym (added_holder prefix years holder))
    (subst (λ q. parts_of (parts_text q) ≡ Some q) (sym (amended_added a prefix years holder new can))
    (ap parts_of (added_text set reached new) ∙ read_added set reached new
    (reached_can until years (chosen_short a new short) can) whole_new (is_clear new whole_new new_clear))))
  where
    new : List ℕ
    new = text_amended a.replaced_holders holder

    p : Parts
    p = added prefix years holder

    until : Option ℕ
    until = if_concerned a new a.until

    set : Prefix
    set = unwrap_or (if_concerned a new a.prefix) prefix

    reached : Option Years
    reached = years_reaching until years

    whole : IsWhole holder
    whole = record { some = some; trim = trim }

    whole_new : IsWhole new
    whole_new = text_whole a.replaced_holders holder plain.holders whole

    own : p ≡ parts
    own = cc (sym (read_added prefix years holder can whole (is_clear holder whole clear)) ∙ found)
