-- Years are read again where something else stands behind them, and where one of their spans is written anew.
use Rattle.std.proofs.Common.{◌≡◌, ℕ, suc, ◌<◌, nat_eq, Bool, true, false, cond, List, [], ◌∷◌}
use Rattle.std.proofs.Common.{◌++◌, length, length-append, drop, Option, Some, None, refl, sym, ap, ◌∙◌}
use Rattle.std.proofs.Common.{arith, append_assoc, inl, inr, ◌⊎◌}
use Rattle.std.specs.Prelude.{not, ◌&&◌, ◌||◌, ◌==◌, codes, unwrap_or}
use Rattle.std.specs.Char.{is_ascii_digit}
use Rattle.std.specs.List.{starts_with, list_all}
use Rattle.std.specs.Option.{option_map, option_and_then, option_or}
use Rattle.std.proofs.lemmas.Bool.{false≢true, and_parts}
use Rattle.std.proofs.lemmas.Bool.Decides.{Decides-eqb, nat_tests}
use Rattle.std.proofs.lemmas.Slice.Eq.{starts_is}
use Rattle.std.proofs.Math.Seq.{drop-append_seam}
use Rattle.reuse_notice.specs.Tags.{is_blank, all_blank, drop_front}
use Rattle.reuse_amend.specs.YearSpans.{ends_word, behind, if_word_ends, behind_word}
use Rattle.reuse_amend.specs.YearSpans.{behind_dash}
use Rattle.reuse_amend.specs.YearSpans.{behind_and, past_and, separated}
use Rattle.reuse_amend.proofs.ChoiceLemmas.{was_some, then_some, either_some, if_some}
use Rattle.reuse_amend.proofs.EndLemmas.{dropped}
use Rattle.reuse_amend.proofs.PartLemmas.{is_full, full_kept}

-- ---- what may stand behind

-- a text that begins with a digit
abbrev pub is_dated : List ℕ → Bool
is_dated [] = false
is_dated (b ∷ bytes) = is_ascii_digit b

-- in front of which a word ends, and years don't go on behind a dash
pub record IsApart (rest : List ℕ) : Type 0 where
  pub word : ends_word rest ≡ true
  pub dash : behind_dash (drop_front is_blank rest) ≡ None

digit_full : (b : ℕ) → is_ascii_digit b ≡ true → is_blank b ≡ false
digit_full b e = grind (arith, nat_tests)

pub other_byte : (m b : ℕ) → (m < 48) ⊎ (57 < m) → is_ascii_digit b ≡ true → nat_eq m b ≡ false
other_byte m b (inl low) e = grind (arith, nat_tests)
other_byte m b (inr high) e = grind (arith, nat_tests)

pub dated_full : (xs : List ℕ) → is_dated xs ≡ true → is_full xs ≡ true
dated_full [] e = e
dated_full (x ∷ xs) e = ap not (digit_full x e)

-- blank bytes in front are dropped up to a text that is more
pub blanks_again : (front rest : List ℕ) → all_blank front ≡ true → is_full rest ≡ true
    → drop_front is_blank (front ++ rest) ≡ rest
unfolding drop_front
blanks_again [] rest e full = full_kept rest full
blanks_again (b ∷ front) rest e full =
    let two = and_parts (is_blank b) (all_blank front) e in
    ap (λ t. cond t (drop_front is_blank (front ++ rest)) (b ∷ (front ++ rest))) two.0
    ∙ blanks_again front rest two.1 full

-- a lead is followed by what stands behind it
pub lead_again : (lead rest : List ℕ) → behind lead (lead ++ rest) ≡ Some rest
lead_again lead rest =
    ap (λ t. cond t (Some (drop (length lead) (lead ++ rest))) None)
    ((starts_is Decides-eqb (lead ++ rest) lead _ refl).1 rest refl)
    ∙ ap (λ (t : List ℕ). Some t) (drop-append_seam lead rest)

pub word_again : (word rest : List ℕ) → ends_word rest ≡ true → behind_word word (word ++ rest) ≡ Some rest
word_again word rest e = ap (option_and_then if_word_ends) (lead_again word rest) ∙ ap (λ t. cond t (Some rest) None) e

-- a text that begins with a digit begins with none of these bytes
no_lead : (m : ℕ) (lead xs : List ℕ) → (m < 48) ⊎ (57 < m) → is_dated xs ≡ true → behind (m ∷ lead) xs ≡ None
no_lead m lead [] h e = refl
no_lead m lead (x ∷ xs) h e = ap (λ t. cond (t && starts_with nat_eq xs lead)
    (Some (drop (suc (length lead)) (x ∷ xs))) None) (other_byte m x h e)

no_and : (xs : List ℕ) → is_dated xs ≡ true → behind_and xs ≡ None
no_and xs e =
    ap (λ (o : Option (List ℕ)). option_map (drop_front is_blank) (option_or o (behind_word (codes "and") xs)))
    (no_lead 38 [] xs (inl (omega arith)) e)
    ∙ ap (λ o. option_map (drop_front is_blank) (option_and_then if_word_ends o))
    (no_lead 97 (codes "nd") xs (inr (omega arith)) e)

pub past_none : (xs : List ℕ) → is_dated xs ≡ true → past_and xs ≡ xs
past_none xs e = ap (λ o. unwrap_or o xs) (no_and xs e)

-- ---- separators

pub lead_found : (lead text rest : List ℕ) → behind lead text ≡ Some rest → text ≡ lead ++ rest
lead_found lead text rest e =
    let is = if_some (starts_with nat_eq text lead) (Some (drop (length lead) text)) rest e in
    let same : drop (length lead) text ≡ rest = cc is.1 in
    (starts_is Decides-eqb text lead _ refl).0 is.0 ∙ ap (λ t. lead ++ t) same

pub word_found : (word text rest : List ℕ) → behind_word word text ≡ Some rest
    → (text ≡ word ++ rest) × (ends_word rest ≡ true)
word_found word text rest e =
    let two = then_some if_word_ends (behind word text) rest e in
    let ends = if_some (ends_word two.0) (Some two.0) rest two.2 in
    let same : two.0 ≡ rest = cc ends.1 in
    (lead_found word text two.0 two.1 ∙ ap (λ t. word ++ t) same, ap ends_word (sym same) ∙ ends.0)

no_end : (xs : List ℕ) → is_dated xs ≡ true → ends_word xs ≡ false
no_end [] e = absurd (false≢true e)
no_end (x ∷ xs) e = grind (arith, nat_tests)

blank_end : (b : ℕ) (bytes : List ℕ) → is_blank b ≡ true → ends_word (b ∷ bytes) ≡ true
blank_end b bytes e = ap (λ t. t || b == 44 || b == 38) e

-- `and` or `&` and blank bytes, in front of a text that begins with a digit
record IsAnd (text rest : List ℕ) : Type 0 where
  front : List ℕ
  joined : text ≡ front ++ rest
  again : (other : List ℕ) → is_dated other ≡ true → behind_and (front ++ other) ≡ Some other
  full : (other : List ℕ) → is_full (front ++ other) ≡ true
  comma : (other : List ℕ) → behind (codes ",") (front ++ other) ≡ None
  dash : (other : List ℕ) → behind_dash (front ++ other) ≡ None

-- blank bytes behind `and`, of which there are some
after_and : (blanks rest : List ℕ) → all_blank blanks ≡ true → is_dated rest ≡ true → ends_word (blanks ++ rest) ≡ true
    → (other : List ℕ) → is_dated other ≡ true → behind_and (codes "and" ++ blanks ++ other) ≡ Some other
after_and [] rest e digit ends other o = absurd (false≢true (sym (no_end rest digit) ∙ ends))
after_and (b ∷ blanks) rest e digit ends other o =
    ap (option_map (drop_front is_blank)) (word_again (codes "and") (b ∷ (blanks ++ other))
    (blank_end b (blanks ++ other) (and_parts (is_blank b) (all_blank blanks) e).0))
    ∙ ap (λ (t : List ℕ). Some t) (blanks_again (b ∷ blanks) other e (dated_full other o))

found_and : (text rest : List ℕ) → is_dated rest ≡ true → behind_and text ≡ Some rest → IsAnd text rest
found_and text rest digit e =
    let was = was_some (drop_front is_blank) (option_or (behind (codes "&") text)
    (behind_word (codes "and") text)) rest e in
    let blanks = dropped was.0 in
    let more : was.0 ≡ blanks.0 ++ rest = blanks.1 ∙ ap (λ t. blanks.0 ++ t) was.2 in
    elim (either_some (behind (codes "&") text) (behind_word (codes "and") text) was.0 was.1) [
      | inl is ↦ record {
        front = 38 ∷ blanks.0;
        joined = lead_found (codes "&") text was.0 is ∙ ap (λ t. 38 ∷ t) more;
        again = λ other o. ap (λ (t : List ℕ). Some t) (blanks_again blanks.0 other blanks.2 (dated_full other o));
        full = λ other. refl;
        comma = λ other. refl;
        dash = λ other. refl;
      }
      | inr is ↦ (let found = word_found (codes "and") text was.0 is in
          record {
            front = codes "and" ++ blanks.0;
            joined = found.0 ∙ ap (λ t. codes "and" ++ t) more;
            again = λ other o. after_and blanks.0 rest blanks.2 digit (ap ends_word (sym more) ∙ found.1) other o;
            full = λ other. refl;
            comma = λ other. refl;
            dash = λ other. refl;
          })
    ]

-- a separator in front of a text that begins with a digit
pub record IsGap (text rest : List ℕ) : Type 0 where
  pub front : List ℕ
  pub joined : text ≡ front ++ rest
  pub some : 0 < length front
  pub again : (other : List ℕ) → is_dated other ≡ true → separated (front ++ other) ≡ Some other
  pub dash : (other : List ℕ) → behind_dash (drop_front is_blank (front ++ other)) ≡ None

-- what stands behind blank bytes
from_blanks : (blanks core other : List ℕ) → all_blank blanks ≡ true → is_full (core ++ other) ≡ true
    → drop_front is_blank ((blanks ++ core) ++ other) ≡ core ++ other
from_blanks blanks core other e full = ap (drop_front is_blank) (append_assoc blanks core other)
    ∙ blanks_again blanks (core ++ other) e full

-- a comma, and perhaps `and` or `&`
comma_gap : (blanks0 blanks1 core rest : List ℕ) → all_blank blanks0 ≡ true → all_blank blanks1 ≡ true
    → ((other : List ℕ) → is_dated other ≡ true → (is_full (core ++ other) ≡ true) × (past_and (core ++ other) ≡ other))
    → (text : List ℕ) → text ≡ blanks0 ++ 44 ∷ (blanks1 ++ (core ++ rest)) → IsGap text rest
comma_gap blanks0 blanks1 core rest e f again text is = record {
  front = blanks0 ++ 44 ∷ (blanks1 ++ core);
  joined = is ∙ ap (λ t. blanks0 ++ 44 ∷ t) (sym (append_assoc blanks1 core rest))
      ∙ sym (append_assoc blanks0 (44 ∷ (blanks1 ++ core)) rest);
  some = let n = length-append blanks0 (44 ∷ (blanks1 ++ core)) in omega (arith, n);
  again = λ other o.
      ap (λ t. option_or (option_map (λ rest. past_and (drop_front is_blank rest)) (behind (codes ",") t))
      (behind_and t)) (from other)
      ∙ ap (λ t. Some (past_and (drop_front is_blank t))) (append_assoc blanks1 core other)
      ∙ ap (λ t. Some (past_and t)) (blanks_again blanks1 (core ++ other) f (again other o).0)
      ∙ ap (λ (t : List ℕ). Some t) (again other o).1;
  dash = λ other. ap behind_dash (from other);
}
  where
    from : (other : List ℕ) → drop_front is_blank ((blanks0 ++ 44 ∷ (blanks1 ++ core)) ++ other)
        ≡ 44 ∷ ((blanks1 ++ core) ++ other)
    from other = from_blanks blanks0 (44 ∷ (blanks1 ++ core)) other e refl

pub found_gap : (text rest : List ℕ) → is_dated rest ≡ true → separated text ≡ Some rest → IsGap text rest
found_gap text rest digit e =
    elim (either_some (option_map (λ (more : List ℕ). past_and (drop_front is_blank more)) (behind (codes ",") front))
    (behind_and front) rest e) [
      | inl is ↦ (let was = was_some (λ (more : List ℕ). past_and (drop_front is_blank more))
          (behind (codes ",") front) rest is in
          let blanks1 = dropped was.0 in
          let comma : text ≡ blanks0.0 ++ 44 ∷ (blanks1.0 ++ drop_front is_blank was.0) =
          blanks0.1 ∙ ap (λ t. blanks0.0 ++ t) (lead_found (codes ",") front was.0 was.1
          ∙ ap (λ t. 44 ∷ t) blanks1.1) in
          by_and blanks1.0 blanks1.2 (drop_front is_blank was.0) comma
          (behind_and (drop_front is_blank was.0)) refl was.2)
      | inr is ↦ (let found = found_and front rest digit is in record {
        front = blanks0.0 ++ found.front;
        joined = blanks0.1 ∙ ap (λ t. blanks0.0 ++ t) found.joined ∙ sym (append_assoc blanks0.0 found.front rest);
        some = some_front found.front found.full;
        again = λ other o.
            ap (λ t. option_or (option_map (λ rest. past_and (drop_front is_blank rest)) (behind (codes ",") t))
            (behind_and t)) (from_blanks blanks0.0 found.front other blanks0.2 (found.full other))
            ∙ ap (λ o'. option_or (option_map (λ rest. past_and (drop_front is_blank rest)) o')
            (behind_and (found.front ++ other))) (found.comma other)
            ∙ found.again other o;
        dash = λ other. ap behind_dash (from_blanks blanks0.0 found.front other blanks0.2 (found.full other))
            ∙ found.dash other;
      })
    ]
  where
    front : List ℕ
    front = drop_front is_blank text

    blanks0 : (blanks : List ℕ) × (text ≡ blanks ++ drop_front is_blank text) × (list_all is_blank blanks ≡ true)
    blanks0 = dropped text

    some_front : (f : List ℕ) → ((other : List ℕ) → is_full (f ++ other) ≡ true) → 0 < length (blanks0.0 ++ f)
    some_front [] full = absurd (false≢true (full []))
    some_front (b ∷ f) full = let n = length-append blanks0.0 (b ∷ f) in omega (arith, n)

    by_and : (blanks1 : List ℕ) → all_blank blanks1 ≡ true → (inner : List ℕ)
        → text ≡ blanks0.0 ++ 44 ∷ (blanks1 ++ inner)
        → (o : Option (List ℕ)) → behind_and inner ≡ o → unwrap_or o inner ≡ rest → IsGap text rest
    by_and blanks1 f inner is None none same =
        comma_gap blanks0.0 blanks1 [] rest blanks0.2 f (λ other o. (dated_full other o, past_none other o)) text
        (is ∙ ap (λ t. blanks0.0 ++ 44 ∷ (blanks1 ++ t)) same)
    by_and blanks1 f inner is (Some r) some same =
        let found = found_and inner rest digit (some ∙ ap (λ (t : List ℕ). Some t) same) in
        comma_gap blanks0.0 blanks1 found.front rest blanks0.2 f
        (λ other o. (found.full other, ap (λ o'. unwrap_or o' (found.front ++ other)) (found.again other o))) text
        (is ∙ ap (λ t. blanks0.0 ++ 44 ∷ (blanks1 ++ t)) found.joined)

-- behind a separator in front of which a word ends nothing goes on
pub gap_apart : (text rest other : List ℕ) (gap : IsGap text rest) → ends_word text ≡ true
    → IsApart (gap.front ++ other)
gap_apart text rest other gap ends = record {
  word = first gap.front gap.some (ap ends_word (sym gap.joined) ∙ ends);
  dash = gap.dash other;
}
  where
    first : (front : List ℕ) → 0 < length front → ends_word (front ++ rest) ≡ true → ends_word (front ++ other) ≡ true
    first [] some e = absurd (omega arith)
    first (b ∷ front) some e = e
