-- What is written of a notice begins as a notice does, and ends in no blank byte, if the notice does so.
use Rattle.std.proofs.Common.{◌≡◌, ℕ, ◌+◌, ◌%◌, ◌<◌, ◌≤◌, nat_eq, Bool, true, false, cond, List, []}
use Rattle.std.proofs.Common.{◌∷◌, ◌++◌, length, length-append, take, drop, Option, Some, None, refl, sym, ap, subst}
use Rattle.std.proofs.Common.{◌∙◌, arith, append_assoc, inl, inr, ◌⊎◌}
use Rattle.std.specs.Prelude.{not, ◌&&◌, ◌||◌, codes}
use Rattle.std.specs.List.{starts_with}
use Rattle.std.specs.Option.{option_map_or}
use Rattle.std.proofs.lemmas.Bool.{false≢true, and_parts}
use Rattle.std.proofs.lemmas.Bool.Decides.{Decides-eqb, nat_tests}
use Rattle.std.proofs.lemmas.List.{append-nil, append_cancel_left, take-append-drop, take-append-le}
use Rattle.std.proofs.lemmas.Slice.Eq.{starts_is}
use Rattle.std.proofs.Math.Seq.{take-append_seam, drop-append_seam}
use Rattle.reuse_notice.specs.declared.prefixes.Prefix.{Prefix}
use Rattle.reuse_notice.specs.declared.prefixes.Prefix.TheVariants.{Spdx, SpdxC, SpdxSymbol, SpdxString, SpdxStringC}
use Rattle.reuse_notice.specs.declared.prefixes.Prefix.TheVariants.{SpdxStringSymbol, String, StringC, StringSymbol}
use Rattle.reuse_notice.specs.declared.prefixes.Prefix.TheVariants.{Symbol}
use Rattle.reuse_notice.specs.Prefixes.{prefix_text, longest_first}
use Rattle.reuse_notice.specs.Tags.{is_blank, all_blank, drop_front, drop_end, leaves_value, needs_no_space, prefix_of}
use Rattle.reuse_notice.proofs.BlankLemmas.{drop_end-twice}
use Rattle.reuse_notice.proofs.PrefixLemmas.{found_passes, prefix_longest}
use Rattle.reuse_amend.specs.declared.amendments.Amendments.{Amendments}
use Rattle.reuse_amend.specs.YearSpans.{upto, spans_from}
use Rattle.reuse_amend.specs.NoticeParts.{Parts, first_of, last_of, parts_text, has_colon, is_begun_by}
use Rattle.reuse_amend.specs.NoticeParts.{parts_of}
use Rattle.reuse_amend.specs.Amending.{range_text, years_until, is_front, front_with}
use Rattle.reuse_amend.specs.Amending.{if_concerned, parts_amended}
use Rattle.reuse_amend.proofs.EndLemmas.{run_read}
use Rattle.reuse_amend.proofs.PartLemmas.{Anything, anything, is_full}
use Rattle.reuse_amend.proofs.ShapeLemmas.{IsWhole, last_blank, last_more, of_last, last_of as trim_last}
use Rattle.reuse_amend.proofs.JoinedLemmas.{five, parts_joined}
use Rattle.reuse_amend.proofs.FrontLemmas.{front_read, trailing_blank}
use Rattle.reuse_amend.proofs.ReadAgainLemmas.{blank_behind}
use Rattle.reuse_amend.proofs.WrittenLemmas.{until_reaches}

-- ---- the end

last_nil : (xs : List ℕ) → last_blank (xs ++ []) ≡ last_blank xs
last_nil xs = ap last_blank (append-nil xs)

-- blank bytes end in one
blank_last : (b : ℕ) (xs : List ℕ) → all_blank (b ∷ xs) ≡ true → last_blank (b ∷ xs) ≡ true
blank_last b [] e = (and_parts (is_blank b) true e).0
blank_last b (x ∷ xs) e = blank_last x xs (and_parts (is_blank b) (all_blank (x ∷ xs)) e).1

until_nil : (year : ℕ) → years_until year [] ≡ []
unfolding spans_from
until_nil year = refl

digit_last : (n : ℕ) → is_blank (48 + n) ≡ false
digit_last n = grind (arith, nat_tests)

-- years that end in no blank byte end in none when they reach a year, and are still some
until_last : (year : ℕ) (years : List ℕ) → 0 < length years → last_blank years ≡ false
    → (0 < length (years_until year years)) × (last_blank (years_until year years) ≡ false)
until_last year years some e = elim (until_reaches year years (years_until year years) refl) [
  | inl same ↦ subst (λ t. (0 < length t) × (last_blank t ≡ false)) same (some, e)
  | inr r ↦ (let run = r.run in
      let read = run_read Anything anything years run r.found in
      let front = upto years run.latest.start ++ range_text run.latest.low year in
      subst (λ t. (0 < length t) × (last_blank t ≡ false)) r.written
      (by front run.latest.rest (filled (upto years run.latest.start) run.latest.low)
      (digits (upto years run.latest.start) run.latest.low)
      (read.start.front ++ read.span_is.cut.front) (read.start.joined
      ∙ ap (λ t. read.start.front ++ t) read.span_is.cut.joined
      ∙ sym (append_assoc read.start.front read.span_is.cut.front run.latest.rest))))
]
  where
    filled : (xs : List ℕ) (low : ℕ) → 0 < length (xs ++ range_text low year)
    filled xs low = let n = length-append xs (range_text low year) in omega (arith, n)

    digits : (xs : List ℕ) (low : ℕ) → last_blank (xs ++ range_text low year) ≡ false
    digits xs low = last_more xs (range_text low year) (omega arith) ∙ digit_last (year % 10)

    by : (front rest : List ℕ) → 0 < length front → last_blank front ≡ false → (before : List ℕ)
        → years ≡ before ++ rest
        → (0 < length (front ++ rest)) × (last_blank (front ++ rest) ≡ false)
    by front [] low ends before is = (let n = length-append front [] in omega (arith, n, low), last_nil front ∙ ends)
    by front (b ∷ rest) low ends before is = (
      let n = length-append front (b ∷ rest) in omega (arith, n),
      last_more front (b ∷ rest) (omega arith)
          ∙ sym (last_more before (b ∷ rest) (omega arith)) ∙ ap last_blank (sym is) ∙ e,
    )

years_last : (years : List ℕ) (o : Option ℕ) → 0 < length years → last_blank years ≡ false
    → (0 < length (option_map_or (λ year. years_until year years) o years))
    × (last_blank (option_map_or (λ year. years_until year years) o years) ≡ false)
years_last years None some e = (some, e)
years_last years (Some year) some e = until_last year years some e

pub no_years : (o : Option ℕ) → option_map_or (λ year. years_until year []) o [] ≡ []
no_years None = refl
no_years (Some year) = until_nil year

-- the end of what stands behind the front
tail_last : (years_first : Bool) (front front' years years' between holder holder' : List ℕ)
    → last_blank holder' ≡ false → 0 < length holder'
    → (0 < length years → last_blank years ≡ false → (0 < length years') × (last_blank years' ≡ false))
    → (years ≡ [] → years' ≡ [])
    → last_blank (front ++ cond years_first years holder ++ between ++ cond years_first holder years) ≡ false
    → last_blank (front' ++ cond years_first years' holder' ++ between ++ cond years_first holder' years') ≡ false
tail_last true front front' years years' between holder holder' h some later none e = last_more
    (front' ++ years' ++ between) holder' some ∙ h
tail_last false front front' [] years' between holder holder' h some later none e =
    ap (λ t. last_blank (front' ++ holder' ++ between ++ t)) (none refl) ∙ last_nil (front' ++ holder' ++ between)
    ∙ by between (sym (last_nil (front ++ holder ++ between)) ∙ e)
  where
    by : (xs : List ℕ) → last_blank (front ++ holder ++ xs) ≡ false → last_blank (front' ++ holder' ++ xs) ≡ false
    by [] k = last_nil (front' ++ holder') ∙ last_more front' holder' some ∙ h
    by (x ∷ xs) k = last_more (front' ++ holder') (x ∷ xs) (omega arith)
        ∙ sym (last_more (front ++ holder) (x ∷ xs) (omega arith)) ∙ k
tail_last false front front' (y ∷ years) years' between holder holder' h some later none e =
    let new = later (omega arith) (sym (last_more (front ++ holder ++ between) (y ∷ years) (omega arith)) ∙ e) in
    last_more (front' ++ holder' ++ between) years' new.0 ∙ new.1

whole_some : (xs : List ℕ) → IsWhole xs → 0 < length xs
whole_some [] whole = absurd (false≢true (sym whole.some))
whole_some (x ∷ xs) whole = omega arith

whole_last : (xs : List ℕ) → IsWhole xs → last_blank xs ≡ false
whole_last xs whole = trim_last is_blank xs (ap (drop_end is_blank) (sym whole.trim)
    ∙ drop_end-twice is_blank (drop_front is_blank xs) ∙ whole.trim)

pub end_kept : (a : Amendments) (text : List ℕ) (p : Parts) (holder : List ℕ) → parts_of text ≡ Some p → IsWhole holder
    → drop_end is_blank text ≡ text → drop_end is_blank (parts_text (parts_amended a p holder))
    ≡ parts_text (parts_amended a p holder)
end_kept a text p holder read whole e =
    of_last (parts_text new) (by p.trailing refl)
  where
    new : Parts
    new = parts_amended a p holder

    ends : last_blank (parts_text p) ≡ false
    ends = ap last_blank (parts_joined text p read) ∙ trim_last is_blank text e

    later : last_blank (p.front ++ first_of p ++ p.between ++ last_of p) ≡ false
        → last_blank (new.front ++ first_of new ++ new.between ++ last_of new) ≡ false
    later = tail_last p.years_first p.front new.front p.years new.years p.between p.holder holder
        (whole_last holder whole) (whole_some holder whole)
        (λ some k. years_last p.years (if_concerned a holder a.until) some k)
        (λ none. ap (λ ys. option_map_or (λ year. years_until year ys) (if_concerned a holder a.until) ys) none
        ∙ no_years (if_concerned a holder a.until))

    by : (trailing : List ℕ) → p.trailing ≡ trailing → last_blank (parts_text new) ≡ false
    by [] is =
        ap (λ t. last_blank (new.front ++ first_of new ++ new.between ++ last_of new ++ t)) is
        ∙ last_nil (new.front ++ first_of new ++ new.between ++ last_of new)
        ∙ later (sym (ap (λ t. last_blank (p.front ++ first_of p ++ p.between ++ last_of p ++ t)) is
        ∙ last_nil (p.front ++ first_of p ++ p.between ++ last_of p)) ∙ ends)
    by (t ∷ ts) is =
        let blank : last_blank (t ∷ ts) ≡ true = blank_last t ts (ap all_blank (sym is) ∙ trailing_blank text p read) in
        absurd (false≢true (sym ends ∙ ap (λ x. last_blank (p.front ++ first_of p ++ p.between ++ last_of p ++ x)) is
        ∙ last_more (p.front ++ first_of p ++ p.between ++ last_of p) (t ∷ ts) (omega arith) ∙ blank))

-- ---- the beginning

-- a text that begins as a notice does
pub record BeginsNotice (text : List ℕ) : Type 0 where
  pub prefix : Prefix
  pub rest : List ℕ
  pub is : text ≡ prefix_text prefix ++ rest
  pub space : (prefix ≡ Spdx) ⊎ ((more : List ℕ) × (rest ≡ 32 ∷ more))
  pub some : all_blank rest ≡ false

-- the longer of two beginnings of a text begins with the shorter
common : (a b c d text : List ℕ) → text ≡ a ++ b → text ≡ c ++ d → length a ≤ length c → c ≡ a ++ drop (length a) c
common a b c d text e f low =
    sym (take-append-drop (length a) c) ∙ ap (λ t. t ++ drop (length a) c)
    (sym (take-append-le (length a) c d low) ∙ ap (take (length a)) (sym f ∙ e) ∙ take-append_seam a b)

no_space : (prefix : Prefix) → needs_no_space prefix ≡ true → prefix ≡ Spdx
no_space Spdx e = refl
no_space SpdxC e = absurd (false≢true e)
no_space SpdxSymbol e = absurd (false≢true e)
no_space SpdxString e = absurd (false≢true e)
no_space SpdxStringC e = absurd (false≢true e)
no_space SpdxStringSymbol e = absurd (false≢true e)
no_space String e = absurd (false≢true e)
no_space StringC e = absurd (false≢true e)
no_space StringSymbol e = absurd (false≢true e)
no_space Symbol e = absurd (false≢true e)

-- how annotate reads a prefix
pub record PrefixRead (text : List ℕ) (prefix : Prefix) : Type 0 where
  pub is : text ≡ prefix_text prefix ++ drop (length (prefix_text prefix)) text
  pub space : (needs_no_space prefix || starts_with nat_eq (drop (length (prefix_text prefix)) text) (32 ∷ [])) ≡ true
  pub some : all_blank (drop (length (prefix_text prefix)) text) ≡ false

pub prefix_read : (text : List ℕ) (prefix : Prefix) → prefix_of text ≡ Some prefix → PrefixRead text prefix
prefix_read text prefix e =
    let rest = drop (length (prefix_text prefix)) text in
    let passes = found_passes (leaves_value text) longest_first prefix e in
    let outer = and_parts (starts_with nat_eq text (prefix_text prefix) &&
    (needs_no_space prefix || starts_with nat_eq rest (32 ∷ []))) (not (all_blank rest)) passes in
    let inner = and_parts (starts_with nat_eq text (prefix_text prefix))
    (needs_no_space prefix || starts_with nat_eq rest (32 ∷ [])) outer.0 in
    record {
      is = (starts_is Decides-eqb text (prefix_text prefix) _ refl).0 inner.0;
      space = inner.1;
      some = negated
          (all_blank rest) outer.1;
    }
  where
    negated : (t : Bool) → not t ≡ true → t ≡ false
    negated true k = absurd (false≢true k)
    negated false k = refl

-- a notice that annotate reads begins so
pub narrow_begins : (text : List ℕ) (prefix : Prefix) → prefix_of text ≡ Some prefix → BeginsNotice text
narrow_begins text prefix e =
    let read = prefix_read text prefix e in
    let rest = drop (length (prefix_text prefix)) text in
    record {
      prefix = prefix;
      rest = rest;
      is = read.is;
      space = by rest
          (needs_no_space prefix) refl read.space;
      some = read.some;
    }
  where
    by : (rest : List ℕ) (t : Bool) → needs_no_space prefix ≡ t → (t || starts_with nat_eq rest (32 ∷ [])) ≡ true
        → (prefix ≡ Spdx) ⊎ ((more : List ℕ) × (rest ≡ 32 ∷ more))
    by rest true k l = inl (no_space prefix k)
    by rest false k l = inr (drop 1 rest, (starts_is Decides-eqb rest (32 ∷ []) _ refl).0 l)

-- all behind the front is more than blank bytes
abbrev behind_front_of : Parts → List ℕ
behind_front_of p = first_of p ++ (p.between ++ (last_of p ++ p.trailing))

blank_front : (xs ys : List ℕ) → all_blank xs ≡ false → all_blank (xs ++ ys) ≡ false
blank_front [] ys e = absurd (false≢true (sym e))
blank_front (x ∷ xs) ys e = by (is_blank x) e (blank_front xs ys)
  where
    by : (t : Bool) → (t && all_blank xs) ≡ false → (all_blank xs ≡ false → all_blank (xs ++ ys) ≡ false)
        → (t && all_blank (xs ++ ys)) ≡ false
    by true k again = again k
    by false k again = refl

-- a front that is kept begins as the text does
kept_begins : (text f end rest behind : List ℕ) (prefix : Prefix) → text ≡ f ++ end → is_full end ≡ true
    → text ≡ prefix_text prefix ++ rest
    → (prefix ≡ Spdx) ⊎ ((more : List ℕ) × (rest ≡ 32 ∷ more)) → length (prefix_text prefix) ≤ length f
    → all_blank behind ≡ false → BeginsNotice (f ++ behind)
kept_begins text f end rest behind prefix cut full is space long some =
    subst (λ t. BeginsNotice (t ++ behind)) (sym same) (by_space (drop (length (prefix_text prefix)) f) same space)
  where
    same : f ≡ prefix_text prefix ++ drop (length (prefix_text prefix)) f
    same = common (prefix_text prefix) rest f end text is cut long

    -- what stands behind the prefix in the text
    follows : (d : List ℕ) → f ≡ prefix_text prefix ++ d → d ++ end ≡ rest
    follows d e =
        append_cancel_left (prefix_text prefix) (d ++ end) rest
        (sym (append_assoc (prefix_text prefix) d end) ∙ ap (λ t. t ++ end) (sym e) ∙ sym cut ∙ is)

    begun : (d : List ℕ) → (prefix ≡ Spdx) ⊎ ((more : List ℕ) × (d ++ behind ≡ 32 ∷ more))
        → BeginsNotice ((prefix_text prefix ++ d) ++ behind)
    begun d sp = record {
      prefix = prefix;
      rest = d ++ behind;
      is = append_assoc
          (prefix_text prefix) d behind;
      space = sp;
      some = blank_behind d behind some;
    }

    by_space : (d : List ℕ) → f ≡ prefix_text prefix ++ d → (prefix ≡ Spdx) ⊎ ((more : List ℕ) × (rest ≡ 32 ∷ more))
        → BeginsNotice ((prefix_text prefix ++ d) ++ behind)
    by_space d e (inl spdx) = begun d (inl spdx)
    by_space [] e (inr sp) =
        let blank : end ≡ 32 ∷ sp.0 = follows [] e ∙ sp.1 in
        absurd (false≢true (ap is_full (sym blank) ∙ full))
    by_space (b ∷ ds) e (inr sp) =
        let both : b ∷ (ds ++ end) ≡ 32 ∷ sp.0 = follows (b ∷ ds) e ∙ sp.1 in
        let space : b ≡ 32 = cc both in
        begun (b ∷ ds) (inr (ds ++ behind, ap (λ (c : ℕ). c ∷ (ds ++ behind)) space))

pub begin_kept : (a : Amendments) (text : List ℕ) (p : Parts) (holder : List ℕ) (prefix : Prefix)
    → parts_of text ≡ Some p
    → prefix_of text ≡ Some prefix → IsWhole holder → BeginsNotice (parts_text (parts_amended a p holder))
unfolding narrow_begins
begin_kept a text p holder prefix read narrow whole =
    subst BeginsNotice (sym (five new.front (first_of new) new.between (last_of new) new.trailing))
    (by_front (if_concerned a holder a.prefix))
  where
    new : Parts
    new = parts_amended a p holder

    some : all_blank (behind_front_of new) ≡ false
    some = by p.years_first
      where
        by : (t : Bool) → all_blank (cond t new.years holder ++
            (new.between ++ (cond t holder new.years ++ new.trailing))) ≡ false
        by true = blank_behind new.years _ (blank_behind new.between _ (blank_front holder new.trailing whole.some))
        by false = blank_front holder _ whole.some

    kept : BeginsNotice (p.front ++ behind_front_of new)
    kept =
        let fr = front_read text p read in
        let begins = narrow_begins text prefix narrow in
        let leaves = found_passes (leaves_value text) longest_first prefix narrow in
        let long = prefix_longest (is_begun_by text) fr.prefix prefix fr.found
        (ap (λ t. t || has_colon text prefix) leaves) in
        let more = fr.long in
        subst (λ f. BeginsNotice (f ++ behind_front_of new)) (sym fr.front)
        (kept_begins text fr.cut.front fr.end begins.rest
        (behind_front_of new) prefix fr.cut.joined fr.full begins.is begins.space (omega (arith, long, more)) some)

    by_front : (o : Option Prefix) → BeginsNotice (option_map_or (front_with p) o p.front ++ behind_front_of new)
    by_front None = kept
    by_front (Some r) = by (is_front r p)
      where
        by : (t : Bool) → BeginsNotice (cond t p.front (prefix_text r ++ codes " ") ++ behind_front_of new)
        by true = kept
        by false = record {
          prefix = r;
          rest = 32 ∷ behind_front_of new;
          is = append_assoc (prefix_text r) (codes " ") (behind_front_of new);
          space = inr (behind_front_of new, refl);
          some = blank_behind (32 ∷ []) (behind_front_of new) some;
        }

-- what begins as a notice is one
pub begins_leaves : (text : List ℕ) (b : BeginsNotice text) → leaves_value text b.prefix ≡ true
begins_leaves text b =
    ap (λ t. leaves_value t b.prefix) b.is
    ∙ ap (λ t. (t && (needs_no_space b.prefix || starts_with nat_eq
    (drop (length (prefix_text b.prefix)) (prefix_text b.prefix ++ b.rest)) (32 ∷ [])) && not
    (all_blank (drop (length (prefix_text b.prefix)) (prefix_text b.prefix ++ b.rest)))))
    ((starts_is Decides-eqb (prefix_text b.prefix ++ b.rest) (prefix_text b.prefix) _ refl).1 b.rest refl)
    ∙ ap (λ r. (needs_no_space b.prefix || starts_with nat_eq r (32 ∷ [])) && not (all_blank r))
    (drop-append_seam (prefix_text b.prefix) b.rest)
    ∙ ap (λ t. t && not (all_blank b.rest)) (elim b.space as (λ _.
    (needs_no_space b.prefix || starts_with nat_eq b.rest (32 ∷ [])) ≡ true) [
      | inl spdx ↦ ap (λ (p : Prefix). needs_no_space p || starts_with nat_eq b.rest (32 ∷ [])) spdx
      | inr space ↦ ap (λ r. needs_no_space b.prefix || starts_with nat_eq r (32 ∷ [])) space.1
          ∙ either (needs_no_space b.prefix)
    ])
    ∙ ap not b.some
  where
    either : (t : Bool) → (t || true) ≡ true
    either true = refl
    either false = refl
