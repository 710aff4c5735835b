-- What is cut from a text at ASCII bytes is text.
use Rattle.std.proofs.Common.{◌≡◌, ℕ, suc, ◌+◌, ◌<◌, ◌&&◌, ◌||◌, Bool, true, false, cond, List, [], ◌∷◌, ◌++◌, length}
use Rattle.std.proofs.Common.{drop, get_or, Option, Some, None, map, refl, sym, ap, subst, ◌∙◌, append_assoc, arith}
use Rattle.std.proofs.Common.{add-one, length-append, zero, lit<}
use Rattle.std.specs.Prelude.{◌==◌, nat_eq}
use lib.Utf8.{scalar, encode, encodes}
use Rattle.std.specs.List.{slice_split, onto_first, prefix_len, starts_with}
use Rattle.std.specs.Str.{IsUtf8, all_scalars}
use Rattle.std.proofs.lemmas.Bool.{eqb-true, false≢true}
use Rattle.std.proofs.lemmas.List.{append-nil, take_at}
use Rattle.std.proofs.Math.Seq.{get_or-append_seam}
use Rattle.std.proofs.lemmas.Str.{IsUtf8-take, IsUtf8-drop, IsUtf8-nil, IsCharBoundary-before_ascii}
use Rattle.std.proofs.lemmas.Str.{IsCharBoundary-after_ascii, encode_same}
use Rattle.reuse_text.specs.declared.LineKind.{LineKind}
use Rattle.reuse_text.specs.declared.LineKind.TheVariants.{Lf, Crlf}
use Rattle.reuse_text.specs.Text.{TextLine, AreLines, text_of, ending_bytes, lines_of, byte_order_mark, mark_len_of}
use Rattle.reuse_text.specs.Text.{after_mark, placed, file_lines, line_bytes}
use Rattle.reuse_dep5.specs.SourceText.{NumberedLine, is_nil, is_blank, is_comment, is_continuation, is_separator}
use Rattle.reuse_dep5.specs.SourceText.{numbered, without_comments, dep5_lines, nonempty, runs, paragraphs, past}
use Rattle.reuse_dep5.specs.SourceText.{before_end, trimmed}
use Rattle.reuse_dep5.specs.Fields.{is_name_byte, is_field, field_rest, has_name, is_dot, continuation_text}
use Rattle.reuse_dep5.specs.Fields.{continuations, value_of}
use Rattle.reuse_dep5.specs.PatternText.{line_words, words_of}
use Rattle.reuse_dep5.specs.LastMatch.{EachPasses}
use Rattle.reuse_dep5.specs.Steps.Parts.{with_front}
use Rattle.reuse_dep5.proofs.SourceLemmas.{with_front-split, front_more}
use Rattle.reuse_toml.proofs.ReadGlobLemmas.{both_parts}

-- cut at an ASCII byte, which is left out
cut : (ys : List ℕ) (b : ℕ) (zs : List ℕ) → b < 128 → IsUtf8 (ys ++ b ∷ zs) → IsUtf8 ys × IsUtf8 zs
cut ys b zs ascii utf8 =
    let bs : List ℕ = ys ++ b ∷ zs in
    let at : get_or bs (length ys) 0 ≡ b = get_or-append_seam ys b zs 0 in
    let within : length ys < length bs = omega (arith, length-append ys (b ∷ zs)) in
    let low : get_or bs (length ys) 0 < 128 = omega (arith, at, ascii) in
    let behind : drop (length ys + 1) bs ≡ zs = drop_behind ys in (
      subst IsUtf8 (take_at ys (b ∷ zs) (length ys) refl)
          (IsUtf8-take bs (length ys) utf8 (IsCharBoundary-before_ascii bs (length ys) within low)),
      subst IsUtf8 behind
          (IsUtf8-drop bs (length ys + 1) utf8 (IsCharBoundary-after_ascii bs (length ys) utf8 within low)),
    )
  where
    drop_behind : (xs : List ℕ) → drop (length xs + 1) (xs ++ b ∷ zs) ≡ zs
    drop_behind xs = rw add-one (by_front xs)
      where
        by_front : (xs : List ℕ) → drop (suc (length xs)) (xs ++ b ∷ zs) ≡ zs
        by_front [] = refl
        by_front (x ∷ xs) = by_front xs

-- a blank is ASCII
blank_ascii : (b : ℕ) → is_blank b ≡ true → b < 128
blank_ascii b e = by_test (b == 32) refl (b == 9) refl e
  where
    by_test : (s : Bool) → (b == 32) ≡ s → (t : Bool) → (b == 9) ≡ t → (s || t) ≡ true → b < 128
    by_test true es t et g = omega (arith, eqb-true b 32 es)
    by_test false es true et g = omega (arith, eqb-true b 9 et)
    by_test false es false et g = absurd (false≢true g)

-- the parts between blanks
split_text : (ys xs : List ℕ) → IsUtf8 (ys ++ xs) → EachPasses IsUtf8 (with_front ys (slice_split is_blank xs))
split_text ys [] utf8 = (utf8, tt)
split_text ys (x ∷ xs) utf8 = by_test (is_blank x) refl (λ zs u. split_text zs xs u)
  where
    by_test : (b : Bool) → is_blank x ≡ b
        → ((zs : List ℕ) → IsUtf8 (zs ++ xs) → EachPasses IsUtf8 (with_front zs (slice_split is_blank xs))) → EachPasses
        IsUtf8 (with_front ys (cond b ([] ∷ slice_split is_blank xs) (onto_first x (slice_split is_blank xs))))
    by_test true e rec =
        let parts = cut ys x xs (blank_ascii x e) utf8 in (
          subst IsUtf8 (sym (append-nil ys)) parts.0,
          subst (EachPasses IsUtf8) (with_front-split is_blank xs) (rec [] parts.1),
        )
    by_test false e rec =
        subst (EachPasses IsUtf8) (sym (front_more is_blank ys x (slice_split is_blank xs)))
        (rec (ys ++ x ∷ []) (subst IsUtf8 (sym (append_assoc ys (x ∷ []) xs)) utf8))

nonempty_passes : {A : Type 0} (P : List A → Type 0) (parts : List (List A)) → EachPasses P parts
    → EachPasses P (nonempty parts)
nonempty_passes P [] each = tt
nonempty_passes P (part ∷ parts) each = by_test (is_nil part) (nonempty_passes P parts each.1)
  where
    by_test : (b : Bool) → EachPasses P (nonempty parts)
        → EachPasses P (cond b (nonempty parts) (part ∷ nonempty parts))
    by_test true rec = rec
    by_test false rec = (each.0, rec)

runs_text : (content : List ℕ) → IsUtf8 content → EachPasses IsUtf8 (runs is_blank content)
runs_text content utf8 =
    nonempty_passes IsUtf8 (slice_split is_blank content)
    (subst (EachPasses IsUtf8) (with_front-split is_blank content) (split_text [] content utf8))

-- without blanks at its ends
past_text : (xs : List ℕ) → IsUtf8 xs → IsUtf8 (past is_blank xs)
past_text [] utf8 = utf8
past_text (x ∷ xs) utf8 = by_test (is_blank x) refl (λ u. past_text xs u)
  where
    by_test : (b : Bool) → is_blank x ≡ b → (IsUtf8 xs → IsUtf8 (past is_blank xs))
        → IsUtf8 (cond b (past is_blank xs) (x ∷ xs))
    by_test true e rec = rec (cut [] x xs (blank_ascii x e) utf8).1
    by_test false e rec = utf8

-- the end that is left out begins with a blank, or there is none
abbrev BeginsBlank : List ℕ → Type 0
BeginsBlank [] = Unit {0}
BeginsBlank (b ∷ bs) = is_blank b ≡ true

end_left_out : (xs : List ℕ) → (tail : List ℕ) × (xs ≡ before_end is_blank xs ++ tail) × BeginsBlank tail
end_left_out [] = ([], refl, tt)
end_left_out (x ∷ xs) = by_test (is_blank x) refl (is_nil (before_end is_blank xs)) (end_left_out xs)
  where
    by_test : (b : Bool) → is_blank x ≡ b → (n : Bool)
        → ((tail : List ℕ) × (xs ≡ before_end is_blank xs ++ tail) × BeginsBlank tail)
        → (tail : List ℕ) × (x ∷ xs ≡ cond (b && n) [] (x ∷ before_end is_blank xs) ++ tail) × BeginsBlank tail
    by_test true e true rec = (x ∷ xs, refl, e)
    by_test true e false rec = (rec.0, ap (λ t. x ∷ t) rec.1, rec.2)
    by_test false e n rec = (rec.0, ap (λ t. x ∷ t) rec.1, rec.2)

before_text : (ys tail : List ℕ) → BeginsBlank tail → IsUtf8 (ys ++ tail) → IsUtf8 ys
before_text ys [] begins utf8 = subst IsUtf8 (append-nil ys) utf8
before_text ys (b ∷ tail) begins utf8 = (cut ys b tail (blank_ascii b begins) utf8).0

trimmed_text : (content : List ℕ) → IsUtf8 content → IsUtf8 (trimmed content)
trimmed_text content utf8 =
    let front : List ℕ = past is_blank content in
    let left = end_left_out front in
    before_text (before_end is_blank front) left.0 left.2 (subst IsUtf8 left.1 (past_text content utf8))

continuation_is_text : (content : List ℕ) → IsUtf8 content → IsUtf8 (continuation_text content)
continuation_is_text content utf8 = by_test (is_dot (trimmed content))
  where
    by_test : (b : Bool) → IsUtf8 (cond b [] (trimmed content))
    by_test true = IsUtf8-nil
    by_test false = trimmed_text content utf8

-- what follows the colon
rest_text : (content : List ℕ) → IsUtf8 content → (get_or content (prefix_len is_name_byte content) 0 == 58) ≡ true
    → IsUtf8 (field_rest content)
rest_text content utf8 e =
    let at : get_or content (prefix_len is_name_byte content) 0 ≡ 58 =
    eqb-true (get_or content (prefix_len is_name_byte content) 0) 58 e in
    let within : prefix_len is_name_byte content < length content =
    place_within content (prefix_len is_name_byte content) at in
    IsUtf8-drop content (prefix_len is_name_byte content + 1) utf8
    (IsCharBoundary-after_ascii content (prefix_len is_name_byte content) utf8 within (omega (arith, at)))
  where
    place_within : (xs : List ℕ) (n : ℕ) → get_or xs n 0 ≡ 58 → n < length xs
    place_within [] n e = omega (arith, e)
    place_within (x ∷ xs) zero e = omega arith
    place_within (x ∷ xs) (suc n) e = omega (arith, place_within xs n e)

-- the lines of a value
abbrev pub HasText : NumberedLine → Type 0
HasText line = IsUtf8 line.content

continuations_text : (lines : List NumberedLine) → EachPasses HasText lines → EachPasses HasText (continuations lines)
continuations_text [] each = tt
continuations_text (line ∷ lines) each = by_test (is_continuation line.content) (continuations_text lines each.1)
  where
    by_test : (b : Bool) → EachPasses HasText (continuations lines) → EachPasses HasText
        (cond b (record { number = line.number; content = continuation_text line.content } ∷ continuations lines) [])
    by_test true rec = (continuation_is_text line.content each.0, rec)
    by_test false rec = tt

pub value_text : (name : List ℕ) (lines : List NumberedLine) → EachPasses HasText lines
    → EachPasses HasText (value_of name lines)
value_text name [] each = tt
value_text name (line ∷ lines) each = by_test (has_name name line.content) refl (value_text name lines each.1)
  where
    by_test : (b : Bool) → has_name name line.content ≡ b → EachPasses HasText (value_of name lines)
        → EachPasses HasText
        (cond b (record { number = line.number; content = trimmed (field_rest line.content) } ∷ continuations lines)
        (value_of name lines))
    by_test true e rec =
        let field = both_parts (is_field line.content) _ e in
        let colon = both_parts _ (get_or line.content (prefix_len is_name_byte line.content) 0 == 58) field.0 in (
          trimmed_text (field_rest line.content) (rest_text line.content each.0 colon.1),
          continuations_text lines each.1,
        )
    by_test false e rec = rec

-- the words of a value
each_append : {A : Type 0} (P : A → Type 0) (xs ys : List A) → EachPasses P xs → EachPasses P ys
    → EachPasses P (xs ++ ys)
each_append P [] ys a b = b
each_append P (x ∷ xs) ys a b = (a.0, each_append P xs ys a.1 b)

numbered_text : (number : ℕ) (words : List (List ℕ)) → EachPasses IsUtf8 words
    → EachPasses HasText (map (λ (w : List ℕ). record { number = number; content = w }) words)
numbered_text number [] each = tt
numbered_text number (word ∷ words) each = (each.0, numbered_text number words each.1)

pub words_text : (value : List NumberedLine) → EachPasses HasText value → EachPasses HasText (words_of value)
words_text [] each = tt
words_text (line ∷ value) each =
    each_append HasText (line_words line) (words_of value)
    (numbered_text line.number (runs is_blank line.content) (runs_text line.content each.0)) (words_text value each.1)

-- the lines of paragraphs
lines_split : (lines : List NumberedLine) → EachPasses HasText lines
    → EachPasses (EachPasses HasText) (slice_split is_separator lines)
lines_split [] each = (tt, tt)
lines_split (line ∷ lines) each =
    by_test (is_separator line) (slice_split is_separator lines) (lines_split lines each.1)
  where
    by_test : (b : Bool) (parts : List (List NumberedLine)) → EachPasses (EachPasses HasText) parts
        → EachPasses (EachPasses HasText) (cond b ([] ∷ parts) (onto_first line parts))
    by_test true parts rec = (tt, rec)
    by_test false [] rec = ((each.0, tt), tt)
    by_test false (part ∷ parts) rec = ((each.0, rec.0), rec.1)

paragraphs_text : (lines : List NumberedLine) → EachPasses HasText lines
    → EachPasses (EachPasses HasText) (paragraphs lines)
paragraphs_text lines each =
    nonempty_passes (EachPasses HasText) (slice_split is_separator lines) (lines_split lines each)

comments_text : (lines : List NumberedLine) → EachPasses HasText lines → EachPasses HasText (without_comments lines)
comments_text [] each = tt
comments_text (line ∷ lines) each = by_test (is_comment line.content) (comments_text lines each.1)
  where
    by_test : (b : Bool) → EachPasses HasText (without_comments lines)
        → EachPasses HasText (cond b (without_comments lines) (line ∷ without_comments lines))
    by_test true rec = rec
    by_test false rec = (each.0, rec)

-- the lines of a text
abbrev HasContent : TextLine → Type 0
HasContent line = IsUtf8 line.content

contents_text : (lines : List TextLine) → AreLines lines → IsUtf8 (text_of lines) → EachPasses HasContent lines
contents_text [] good utf8 = tt
contents_text (line ∷ lines) good utf8 = by_ending line.ending refl (λ u. contents_text lines good.2 u)
  where
    by_ending : (e : Option LineKind) → line.ending ≡ e → (IsUtf8 (text_of lines) → EachPasses HasContent lines)
        → EachPasses HasContent (line ∷ lines)
    by_ending None is rec =
        let none : text_of lines ≡ [] = ap text_of (good.1 is) in
        let u = subst (λ (x : Option LineKind). IsUtf8 ((line.content ++ ending_bytes x) ++ text_of lines)) is utf8 in (
          subst IsUtf8
              (ap (λ t. (line.content ++ []) ++ t) none ∙ append-nil (line.content ++ []) ∙ append-nil line.content) u,
          rec (subst IsUtf8 (sym none) IsUtf8-nil),
        )
    by_ending (Some Lf) is rec =
        let u = subst (λ (x : Option LineKind). IsUtf8 ((line.content ++ ending_bytes x) ++ text_of lines)) is utf8 in
        let parts = cut line.content 10 (text_of lines) (lit< tt)
        (subst IsUtf8 (append_assoc line.content (10 ∷ []) (text_of lines)) u) in
        (parts.0, rec parts.1)
    by_ending (Some Crlf) is rec =
        let u = subst (λ (x : Option LineKind). IsUtf8 ((line.content ++ ending_bytes x) ++ text_of lines)) is utf8 in
        let parts = cut line.content 13 (10 ∷ text_of lines) (lit< tt)
        (subst IsUtf8 (append_assoc line.content (13 ∷ 10 ∷ []) (text_of lines)) u) in
        (parts.0, rec (cut [] 10 (text_of lines) (lit< tt) parts.1).1)

placed_text : (start : ℕ) (number : ℕ) (lines : List TextLine) → EachPasses HasContent lines
    → EachPasses HasText (numbered number (placed start lines))
placed_text start number [] each = tt
placed_text start number (line ∷ lines) each =
    (each.0, placed_text (start + length (line_bytes line)) (number + 1) lines each.1)

-- a text without its mark
marked : (d : ℕ) (ds rest : List ℕ) → all_scalars (d ∷ ds) ≡ true
    → encodes (d ∷ ds) ≡ 239 ∷ 187 ∷ 191 ∷ rest → IsUtf8 rest
unfolding encode
marked d ds rest scalars e =
    let same = encode_same d 65279 (encodes ds) rest e in
    (ds, ((both_parts (scalar d) (all_scalars ds) scalars).1, same.1))

behind_mark : (bytes : List ℕ) → IsUtf8 bytes → starts_with nat_eq bytes byte_order_mark ≡ true → IsUtf8 (drop 3 bytes)
behind_mark [] utf8 e = IsUtf8-nil
behind_mark (a ∷ []) utf8 e = IsUtf8-nil
behind_mark (a ∷ b ∷ []) utf8 e = IsUtf8-nil
behind_mark (a ∷ b ∷ c ∷ rest) utf8 e =
    let p = both_parts (239 == a) ((187 == b) && ((191 == c) && true)) e in
    let q = both_parts (187 == b) ((191 == c) && true) p.1 in
    let r = both_parts (191 == c) true q.1 in
    let ea : 239 ≡ a = eqb-true 239 a p.0 in
    let eb : 187 ≡ b = eqb-true 187 b q.0 in
    let ec : 191 ≡ c = eqb-true 191 c r.0 in
    let same : a ∷ b ∷ c ∷ rest ≡ 239 ∷ 187 ∷ 191 ∷ rest = cc in
    by_chars utf8.0 utf8.1.0 (utf8.1.1 ∙ same)
  where
    by_chars : (cs : List ℕ) → all_scalars cs ≡ true → encodes cs ≡ 239 ∷ 187 ∷ 191 ∷ rest → IsUtf8 rest
    by_chars [] scalars f = cc
    by_chars (d ∷ ds) scalars f = marked d ds rest scalars f

after_mark_text : (bytes : List ℕ) → IsUtf8 bytes → IsUtf8 (after_mark bytes)
after_mark_text bytes utf8 = by_test (starts_with nat_eq bytes byte_order_mark) refl
  where
    by_test : (b : Bool) → starts_with nat_eq bytes byte_order_mark ≡ b → IsUtf8 (drop (cond b 3 0) bytes)
    by_test true e = behind_mark bytes utf8 e
    by_test false e = utf8

-- the words and the value lines of a text
pub dep5_text : (bytes : List ℕ) → (text_of (lines_of (after_mark bytes)) ≡ after_mark bytes) → AreLines
    (lines_of (after_mark bytes)) → IsUtf8 bytes → EachPasses (EachPasses HasText) (paragraphs (dep5_lines bytes))
dep5_text bytes joined good utf8 =
    let contents =
    contents_text (lines_of (after_mark bytes)) good (subst IsUtf8 (sym joined) (after_mark_text bytes utf8)) in
    paragraphs_text (dep5_lines bytes) (comments_text (numbered 1 (file_lines bytes))
    (placed_text (mark_len_of bytes) 1 (lines_of (after_mark bytes)) contents))

pub each_weaker : {A : Type 0} (P Q : A → Type 0) → ((x : A) → P x → Q x) → (xs : List A) → EachPasses P xs
    → EachPasses Q xs
each_weaker P Q more [] each = tt
each_weaker P Q more (x ∷ xs) each = (more x each.0, each_weaker P Q more xs each.1)
