-- Where annotate reads years in a notice, amend reads the same.
use Rattle.std.proofs.Common.{◌≡◌, ℕ, ◌<◌, nat_eq, Bool, true, false, cond}
use Rattle.std.proofs.Common.{List, [], ◌∷◌, ◌++◌, length, drop, Some, None, refl, sym, ap}
use Rattle.std.proofs.Common.{◌∙◌, arith, inl, inr, ◌⊎◌}
use Rattle.std.specs.Prelude.{not, ◌&&◌, ◌||◌, codes, find, unwrap_or}
use Rattle.std.specs.List.{starts_with, list_any}
use Rattle.std.specs.Option.{option_map, option_map_or, option_and_then, option_or}
use Rattle.std.proofs.lemmas.Bool.{false≢true, and_parts, or_parts}
use Rattle.std.proofs.lemmas.Bool.Decides.{Decides-eqb, nat_tests}
use Rattle.std.proofs.lemmas.Slice.Eq.{starts_is}
use Rattle.std.proofs.Math.Seq.{drop-append_seam}
use Rattle.reuse_notice.specs.declared.prefixes.Prefix.{Prefix}
use Rattle.reuse_notice.specs.declared.prefixes.Prefix.TheVariants.{Spdx, SpdxC, SpdxSymbol, SpdxString, SpdxStringC}
use Rattle.reuse_notice.specs.declared.prefixes.Prefix.TheVariants.{SpdxStringSymbol, String, StringC, StringSymbol}
use Rattle.reuse_notice.specs.declared.prefixes.Prefix.TheVariants.{Symbol}
use Rattle.reuse_notice.specs.Prefixes.{prefix_text, copyright_sign, longest_first}
use Rattle.reuse_notice.specs.Tags.{is_blank, all_blank, drop_front, drop_end, needs_no_space}
use Rattle.reuse_notice.proofs.BlankLemmas.{dropped_end}
use Rattle.reuse_amend.specs.YearSpans.{en_dash, ends_word, behind, if_word_ends, behind_word, span_front, behind_and}
use Rattle.reuse_amend.specs.YearSpans.{past_and, next_span}
use Rattle.reuse_amend.specs.NoticeParts.{unless_nil, past, past_sign, value_behind, has_colon, is_begun_by}
use Rattle.reuse_amend.specs.NoticeParts.{wide_prefix_of, starts_blank, past_by, holder_behind, behind_comma}
use Rattle.reuse_amend.specs.NoticeParts.{leaves_holder}
use Rattle.reuse_amend.specs.InPlace.{goes_on}
use Rattle.reuse_amend.proofs.PartLemmas.{is_full, full_some}
use Rattle.reuse_amend.proofs.ReadAgainLemmas.{blank_behind}
use Rattle.reuse_amend.proofs.AgainLemmas.{is_dated, IsApart, other_byte, blanks_again, dated_full}

-- ---- the prefix

-- what stands behind a prefix goes on to no longer one, and leaves a value
pub record IsBehind (prefix : Prefix) (rest : List ℕ) : Type 0 where
  pub c : starts_with nat_eq rest (codes " (C)") ≡ false
  pub word : starts_with nat_eq rest (codes " Copyright") ≡ false
  pub sign : starts_with nat_eq rest (32 ∷ copyright_sign) ≡ false
  pub space : (needs_no_space prefix || starts_with nat_eq rest (32 ∷ [])) ≡ true
  pub some : all_blank rest ≡ false

no_longer : (xs lead more : List ℕ) → starts_with nat_eq xs lead ≡ false → starts_with nat_eq xs (lead ++ more) ≡ false
no_longer xs [] more e = absurd (false≢true (sym e))
no_longer [] (b ∷ lead) more e = refl
no_longer (x ∷ xs) (b ∷ lead) more e = by (nat_eq b x) e (λ k. no_longer xs lead more k)
  where
    by : (t : Bool) → (t && starts_with nat_eq xs lead) ≡ false
        → (starts_with nat_eq xs lead ≡ false → starts_with nat_eq xs (lead ++ more) ≡ false)
        → (t && starts_with nat_eq xs (lead ++ more)) ≡ false
    by true e' again = again e'
    by false e' again = refl

-- the prefix itself leaves a value
own_leaves : (prefix : Prefix) (rest : List ℕ) → IsBehind prefix rest
    → is_begun_by (prefix_text prefix ++ rest) prefix ≡ true
own_leaves prefix rest h =
    let starts : starts_with nat_eq (prefix_text prefix ++ rest) (prefix_text prefix) ≡ true =
    (starts_is Decides-eqb (prefix_text prefix ++ rest) (prefix_text prefix) _ refl).1 rest refl in
    let behind = drop-append_seam (prefix_text prefix) rest in
    ap (λ t. (t && (needs_no_space prefix || starts_with nat_eq
    (drop (length (prefix_text prefix)) (prefix_text prefix ++ rest)) (32 ∷ [])) && not
    (all_blank (drop (length (prefix_text prefix)) (prefix_text prefix ++ rest)))) || has_colon
    (prefix_text prefix ++ rest) prefix) starts
    ∙ ap (λ r. ((needs_no_space prefix || starts_with nat_eq r (32 ∷ [])) && not (all_blank r)) || has_colon
    (prefix_text prefix ++ rest) prefix) behind
    ∙ ap (λ t. (t && not (all_blank rest)) || has_colon (prefix_text prefix ++ rest) prefix) h.space
    ∙ ap (λ t. not t || has_colon (prefix_text prefix ++ rest) prefix) h.some

pub wide_found : (prefix : Prefix) (rest : List ℕ) → IsBehind prefix rest
    → wide_prefix_of (prefix_text prefix ++ rest) ≡ Some prefix
wide_found SpdxStringC rest h = let own = own_leaves SpdxStringC rest h in ap
    (λ t. cond t (Some SpdxStringC) (find (is_begun_by (prefix_text SpdxStringC ++ rest)) (drop 1 longest_first))) own
wide_found SpdxStringSymbol rest h = let own = own_leaves SpdxStringSymbol rest h in ap
    (λ t. cond t (Some SpdxStringSymbol) (find (is_begun_by (prefix_text SpdxStringSymbol ++ rest))
    (drop 2 longest_first))) own
wide_found SpdxString rest h = let c = h.c in let sign = h.sign in let own = own_leaves SpdxString rest h in rw
    (c, sign, own) refl
wide_found SpdxC rest h = ap (λ t. cond t (Some SpdxC) (find (is_begun_by (prefix_text SpdxC ++ rest))
    (drop 4 longest_first))) (own_leaves SpdxC rest h)
wide_found SpdxSymbol rest h = ap (λ t. cond t (Some SpdxSymbol)
    (find (is_begun_by (prefix_text SpdxSymbol ++ rest)) (drop 5 longest_first))) (own_leaves SpdxSymbol rest h)
wide_found Spdx rest h =
    let first = no_longer rest (codes " Copyright") (codes " (C)") h.word in
    let second = no_longer rest (codes " Copyright") (32 ∷ copyright_sign) h.word in
    let word = h.word in
    let c = h.c in
    let sign = h.sign in
    let own = own_leaves Spdx rest h in
    rw (first, second, word, c, sign, own) refl
wide_found StringC rest h = ap (λ t. cond t (Some StringC) (find (is_begun_by (prefix_text StringC ++ rest))
    (drop 7 longest_first))) (own_leaves StringC rest h)
wide_found StringSymbol rest h = ap (λ t. cond t (Some StringSymbol)
    (find (is_begun_by (prefix_text StringSymbol ++ rest)) (drop 8 longest_first))) (own_leaves StringSymbol rest h)
wide_found String rest h = let c = h.c in let sign = h.sign in let own = own_leaves String rest h in rw
    (c, sign, own) refl
wide_found Symbol rest h = ap (λ t. cond t (Some Symbol) None) (own_leaves Symbol rest h)

-- ---- years behind blank bytes

blank_other : (m b : ℕ) → is_blank m ≡ false → is_blank b ≡ true → nat_eq m b ≡ false
blank_other m b e f = grind (arith, nat_tests)

-- a text that begins with a digit behind blank bytes begins with no other byte
no_start : (m : ℕ) (lead blanks value : List ℕ) → is_blank m ≡ false → (m < 48) ⊎ (57 < m) → all_blank blanks ≡ true
    → is_dated value ≡ true
    → starts_with nat_eq (blanks ++ value) (m ∷ lead) ≡ false
no_start m lead [] [] full other e dated = absurd (false≢true dated)
no_start m lead [] (x ∷ value) full other e dated = ap (λ t. t && starts_with nat_eq value lead)
    (other_byte m x other dated)
no_start m lead (b ∷ blanks) value full other e dated =
    ap (λ t. t && starts_with nat_eq (blanks ++ value) lead) (blank_other m b full
    (and_parts (is_blank b) (all_blank blanks) e).0)

no_space_start : (m : ℕ) (lead blanks value : List ℕ) → is_blank m ≡ false → (m < 48) ⊎ (57 < m)
    → all_blank blanks ≡ true → is_dated value ≡ true
    → starts_with nat_eq (blanks ++ value) (32 ∷ m ∷ lead) ≡ false
no_space_start m lead [] [] full other e dated = absurd (false≢true dated)
no_space_start m lead [] (x ∷ value) full other e dated = ap (λ t. t && starts_with nat_eq value (m ∷ lead))
    (other_byte 32 x (inl (omega arith)) dated)
no_space_start m lead (b ∷ blanks) value full other e dated =
    ap (λ t. nat_eq 32 b && t) (no_start m lead blanks value full other
    (and_parts (is_blank b) (all_blank blanks) e).1 dated) ∙ by (nat_eq 32 b)
  where
    by : (t : Bool) → (t && false) ≡ false
    by true = refl
    by false = refl

dated_some : (blanks value : List ℕ) → is_dated value ≡ true → all_blank (blanks ++ value) ≡ false
dated_some blanks value dated = blank_behind blanks value (full_some value (dated_full value dated))

pub dated_behind : (prefix : Prefix) (blanks value : List ℕ) → all_blank blanks ≡ true → is_dated value ≡ true
    → (needs_no_space prefix || starts_with nat_eq (blanks ++ value) (32 ∷ [])) ≡ true
    → IsBehind prefix (blanks ++ value)
dated_behind prefix blanks value e dated space = record {
  c = no_space_start 40 (codes "C)") blanks value refl (inl (omega arith)) e dated;
  word = no_space_start 67 (codes "opyright") blanks value refl (inr (omega arith)) e dated;
  sign = no_space_start 194 (169 ∷ []) blanks value refl (inr (omega arith)) e dated;
  space = space;
  some = dated_some blanks value dated;
}

-- nothing stands between a prefix and a value but blank bytes, if it begins neither with a colon nor with a sign
pub plain_value : (blanks value : List ℕ) → all_blank blanks ≡ true → is_full value ≡ true
    → starts_with nat_eq value (codes ":") ≡ false
    → starts_with nat_eq value (codes "(c)") ≡ false → starts_with nat_eq value (codes "(C)") ≡ false
    → starts_with nat_eq value copyright_sign ≡ false
    → value_behind (blanks ++ value) ≡ value
plain_value blanks value e full colon small c sign =
    ap (λ t. past_sign (past (codes ":") t)) (blanks_again blanks value e full)
    ∙ ap (λ t. past_sign (cond t (unless_nil value (drop_front is_blank (drop 1 value))) value)) colon
    ∙ ap (λ t. option_map_or (λ sign. past sign value) (cond t (Some (codes "(c)"))
    (cond (starts_with nat_eq value (codes "(C)")) (Some (codes "(C)"))
    (cond (starts_with nat_eq value copyright_sign) (Some copyright_sign) None))) value) small
    ∙ ap (λ t. option_map_or (λ sign. past sign value) (cond t (Some (codes "(C)"))
    (cond (starts_with nat_eq value copyright_sign) (Some copyright_sign) None)) value) c
    ∙ ap (λ t. option_map_or (λ sign. past sign value) (cond t (Some copyright_sign) None) value) sign

-- nor between a prefix and years
pub dated_value : (blanks value : List ℕ) → all_blank blanks ≡ true → is_dated value ≡ true
    → value_behind (blanks ++ value) ≡ value
dated_value blanks value e dated =
    plain_value blanks value e (dated_full value dated) (none 58 [] (inr (omega arith)))
    (none 40 (codes "c)") (inl (omega arith)))
    (none 40 (codes "C)") (inl (omega arith))) (none 194 (169 ∷ []) (inr (omega arith)))
  where
    none : (m : ℕ) (lead : List ℕ) → (m < 48) ⊎ (57 < m) → starts_with nat_eq value (m ∷ lead) ≡ false
    none m lead other = first value dated
      where
        first : (xs : List ℕ) → is_dated xs ≡ true → starts_with nat_eq xs (m ∷ lead) ≡ false
        first [] d = absurd (false≢true d)
        first (x ∷ xs) d = ap (λ t. t && starts_with nat_eq xs lead) (other_byte m x other d)

-- ---- the holder behind the years

-- a text that begins as its end without blank bytes does
starts_trimmed : (xs blanks lead : List ℕ) → all_blank blanks ≡ true → list_any is_blank lead ≡ false
    → starts_with nat_eq (xs ++ blanks) lead ≡ starts_with nat_eq xs lead
starts_trimmed [] [] lead e f = refl
starts_trimmed [] (b ∷ blanks) [] e f = refl
starts_trimmed [] (b ∷ blanks) (m ∷ lead) e f =
    ap (λ t. t && starts_with nat_eq blanks lead) (blank_other m b
    (or_parts (is_blank m) (list_any is_blank lead) f).0 (and_parts (is_blank b) (all_blank blanks) e).0)
starts_trimmed (x ∷ xs) blanks [] e f = refl
starts_trimmed (x ∷ xs) blanks (m ∷ lead) e f =
    ap (λ t. nat_eq m x && t) (starts_trimmed xs blanks lead e (or_parts (is_blank m) (list_any is_blank lead) f).1)

-- a text that begins with none of these
pub record IsStill (text : List ℕ) : Type 0 where
  pub minus : starts_with nat_eq text (codes "-") ≡ false
  pub dash : starts_with nat_eq text en_dash ≡ false
  pub comma : starts_with nat_eq text (codes ",") ≡ false
  pub ampersand : starts_with nat_eq text (codes "&") ≡ false
  pub conjunction : starts_with nat_eq text (codes "and") ≡ false
  pub by : starts_with nat_eq text (codes "by") ≡ false

pub still_holder : (holder : List ℕ) → goes_on holder ≡ false → IsStill holder
still_holder holder e =
    let starts = λ (lead : List ℕ). starts_with nat_eq holder lead in
    let a = or_parts (starts (codes "-"))
    (list_any starts (en_dash ∷ codes "," ∷ codes "&" ∷ codes "and" ∷ codes "by" ∷ [])) e in
    let b = or_parts (starts en_dash) (list_any starts (codes "," ∷ codes "&" ∷ codes "and" ∷ codes "by" ∷ [])) a.1 in
    let c = or_parts (starts (codes ",")) (list_any starts (codes "&" ∷ codes "and" ∷ codes "by" ∷ [])) b.1 in
    let d = or_parts (starts (codes "&")) (list_any starts (codes "and" ∷ codes "by" ∷ [])) c.1 in
    let f = or_parts (starts (codes "and")) (list_any starts (codes "by" ∷ [])) d.1 in
    let g = or_parts (starts (codes "by")) false f.1 in
    record { minus = a.0; dash = b.0; comma = c.0; ampersand = d.0; conjunction = f.0; by = g.0 }

pub still_trimmed : (xs : List ℕ) → IsStill (drop_end is_blank xs) → IsStill xs
still_trimmed xs h =
    let d = dropped_end is_blank xs in
    let same = λ (lead : List ℕ) (clean : list_any is_blank lead ≡ false). ap (λ t. starts_with nat_eq t lead) d.1
    ∙ starts_trimmed (drop_end is_blank xs) d.0 lead d.2 clean in
    record {
      minus = same (codes "-") refl ∙ h.minus;
      dash = same en_dash refl ∙ h.dash;
      comma = same (codes ",") refl ∙ h.comma;
      ampersand = same (codes "&") refl ∙ h.ampersand;
      conjunction = same (codes "and") refl ∙ h.conjunction;
      by = same (codes "by") refl ∙ h.by;
    }

no_behind : (lead text : List ℕ) → starts_with nat_eq text lead ≡ false → behind lead text ≡ None
no_behind lead text e = ap (λ t. cond t (Some (drop (length lead) text)) None) e

-- years don't go on in front of it
pub still_apart : (rest : List ℕ) → ends_word rest ≡ true → IsStill (drop_front is_blank rest) → IsApart rest
still_apart rest word h = record {
  word = word;
  dash = ap (λ o. option_map (drop_front is_blank) (option_or o (behind en_dash (drop_front is_blank rest))))
      (no_behind (codes "-") (drop_front is_blank rest) h.minus)
      ∙ ap (option_map (drop_front is_blank)) (no_behind en_dash (drop_front is_blank rest) h.dash);
}

pub still_last : (rest : List ℕ) → IsStill (drop_front is_blank rest) → next_span rest ≡ None
still_last rest h =
    let front = drop_front is_blank rest in
    ap (option_and_then span_front)
    (ap (λ o. option_or (option_map (λ more. past_and (drop_front is_blank more)) o) (behind_and front))
    (no_behind (codes ",") front h.comma)
    ∙ ap (λ o. option_map (drop_front is_blank) (option_or o (behind_word (codes "and") front)))
    (no_behind (codes "&") front h.ampersand)
    ∙ ap (λ o. option_map (drop_front is_blank) (option_and_then if_word_ends o))
    (no_behind (codes "and") front h.conjunction))

pub still_behind : (rest : List ℕ) → IsStill (drop_front is_blank rest) → holder_behind rest ≡ drop_front is_blank rest
still_behind rest h =
    let front = drop_front is_blank rest in
    ap (λ t. past_by (cond t (unless_nil front (drop_front is_blank (drop 1 front))) front)) h.comma
    ∙ ap (λ t. cond (starts_blank (drop 2 front)) (cond t (unless_nil front
    (drop_front is_blank (drop 2 front))) front) front) h.by
    ∙ same (starts_blank (drop 2 front)) front
  where
    same : (t : Bool) (xs : List ℕ) → cond t xs xs ≡ xs
    same true xs = refl
    same false xs = refl

pub still_leaves : (rest : List ℕ) → starts_blank rest ≡ true → all_blank rest ≡ false
    → IsStill (drop_front is_blank rest) → leaves_holder rest ≡ true
still_leaves rest blank some h =
    ap (λ t. (t || starts_with nat_eq rest (codes ",")) && not (all_blank (behind_comma rest))) blank
    ∙ ap (λ o. not (all_blank (unwrap_or o rest))) (no_behind (codes ",") (drop_front is_blank rest) h.comma)
    ∙ ap not some
