-- What is the first fault of paragraphs is what their reading answers.
use Rattle.std.proofs.Common.{◌≡◌, ◌≢◌, ◌⊎◌, ◌↔◌, inl, inr, ℕ, List, [], ◌∷◌, ◌++◌, Bool, true, false, Option, Some}
use Rattle.std.proofs.Common.{None, Result, Ok, Err, refl, sym, ap, subst, ◌∙◌, append_assoc}
use Rattle.std.specs.Str.{is_utf8, IsUtf8}
use Rattle.std.proofs.lemmas.Str.{IsUtf8-from_is_utf8, is_utf8-from_IsUtf8}
use Rattle.std.proofs.lemmas.Bool.{false≢true}
use Rattle.std.proofs.lemmas.List.{append-nil}
use Rattle.reuse_dep5.specs.declared.refusal.Dep5Refusal.{Dep5Refusal}
use Rattle.reuse_dep5.specs.declared.refusal.Dep5Refusal.TheVariants.{NotUtf8, BadDep5}
use Rattle.reuse_dep5.specs.declared.refusal.Dep5Cause.{Dep5Cause}
use Rattle.reuse_dep5.specs.declared.refusal.Dep5Cause.TheVariants.{NoField, Orphan, Repeated, NoKind, Missing}
use Rattle.reuse_dep5.specs.declared.refusal.Dep5Cause.TheVariants.{BadEscape}
use Rattle.reuse_dep5.specs.declared.pattern.PatternPiece.{PatternPiece}
use Rattle.reuse_dep5.specs.PatternValue.{PatternValue}
use Rattle.reuse_dep5.specs.SourceText.{NumberedLine, is_nil, is_continuation, dep5_lines, paragraphs}
use Rattle.reuse_dep5.specs.Fields.{is_field, text_of}
use Rattle.reuse_dep5.specs.PatternText.{words_of, word_pieces, onto_patterns, patterns_of}
use Rattle.reuse_dep5.specs.Dep5.{HeaderValue, FilesValue, Dep5Value, line_cause, or_next, line_fault, format_value}
use Rattle.reuse_dep5.specs.Dep5.{files_value, license_value, ◌>>=◌, header_of, is_incomplete, files_of, later_of}
use Rattle.reuse_dep5.specs.Dep5.{laters_of, paragraphs_of, dep5_of}
use Rattle.reuse_dep5.specs.Grammar.{IsLineFault, IsFirstLineFault, IsHeader, HasParts, ArePatterns, IsLater, AreLater}
use Rattle.reuse_dep5.specs.Grammar.{IsHeaderFault, IsPartFault, IsLaterFault, IsFirstFault, IsDep5Text, IsTextFault}
use Rattle.reuse_dep5.proofs.NameLemmas.{continuation_no_field}
use Rattle.reuse_dep5.proofs.GrammarLemmas.{nil_from, some_cause, AreFieldsBehind, ok_or_err, header_refused}
use Rattle.reuse_dep5.proofs.GrammarLemmas.{no_header_fault, has_parts, later_refused, no_later_fault, Names, accepted}
use Rattle.reuse_dep5.proofs.GrammarLemmas.{accepted_exactly, refused}
use Rattle.reuse_dep5.proofs.DepLemmas.{dep5_not_utf8, dep5_utf8}

-- a test that has no other answer
is_false : (b : Bool) → ¬ (b ≡ true) → b ≡ false
is_false true h = absurd (h refl)
is_false false h = refl

nil_test : {A : Type 0} (xs : List A) → xs ≡ [] → is_nil xs ≡ true
nil_test xs e = ap is_nil e

some_test : {A : Type 0} (xs : List A) → xs ≢ [] → is_nil xs ≡ false
some_test xs h = is_false (is_nil xs) (λ e. h (nil_from xs e))

-- ---- a line

cause_named : (before : List NumberedLine) (line : NumberedLine) (cause : Dep5Cause) → IsLineFault before line cause
    → line_cause before line.content ≡ Some cause
cause_named before line NoField m =
    rw (is_false (is_continuation line.content) m.1, is_false (is_field line.content) m.0) refl
cause_named before line Orphan m = rw (m.1, m.0) refl
cause_named before line Repeated m = rw (
  is_false (is_continuation line.content) (λ k. false≢true (sym (continuation_no_field line.content k) ∙ m.0)),
  m.0,
  m.1,
) refl
cause_named before line _ m = absurd m

no_cause : (before : List NumberedLine) (line : NumberedLine) → ((cause : Dep5Cause) → ¬ IsLineFault before line cause)
    → line_cause before line.content ≡ None
no_cause before line sound = by_cause (line_cause before line.content) refl
  where
    by_cause : (o : Option Dep5Cause) → line_cause before line.content ≡ o → o ≡ None
    by_cause None e = refl
    by_cause (Some cause) e = absurd (sound cause (some_cause before line cause e))

-- behind some lines, a line of fields, and the fields after it
first_sound : (front : List NumberedLine) (first : NumberedLine) (rest : List NumberedLine)
    → AreFieldsBehind front (first ∷ rest) → (cause : Dep5Cause) → ¬ IsLineFault front first cause
first_sound front first rest sound cause m = sound [] first rest refl cause
    (subst (λ (f : List NumberedLine). IsLineFault f first cause) (sym (append-nil front)) m)

rest_sound : (front : List NumberedLine) (first : NumberedLine) (rest : List NumberedLine)
    → AreFieldsBehind front (first ∷ rest) → AreFieldsBehind (front ++ first ∷ []) rest
rest_sound front first rest sound = λ before line after stands cause m.
    sound (first ∷ before) line after (ap (λ q. first ∷ q) stands) cause
    (subst (λ (f : List NumberedLine). IsLineFault f line cause) (append_assoc front (first ∷ []) before) m)

line_found : (front before : List NumberedLine) (line : NumberedLine) (after : List NumberedLine) (cause : Dep5Cause)
    → AreFieldsBehind front before → IsLineFault (front ++ before) line cause
    → line_fault front (before ++ line ∷ after) ≡ Some (BadDep5 line.number cause)
line_found front [] line after cause sound fault =
    ap (λ o. or_next line.number o (line_fault (front ++ line ∷ []) after)) (cause_named front line cause
    (subst (λ (f : List NumberedLine). IsLineFault f line cause) (append-nil front) fault))
line_found front (first ∷ before) line after cause sound fault =
    ap (λ o. or_next first.number o (line_fault (front ++ first ∷ []) (before ++ line ∷ after)))
    (no_cause front first (first_sound front first before sound))
    ∙ line_found (front ++ first ∷ []) before line after cause (rest_sound front first before sound)
    (subst (λ (f : List NumberedLine). IsLineFault f line cause) (sym (append_assoc front (first ∷ []) before)) fault)

no_line : (front p : List NumberedLine) → AreFieldsBehind front p → line_fault front p ≡ None
no_line front [] sound = refl
no_line front (first ∷ rest) sound =
    ap (λ o. or_next first.number o (line_fault (front ++ first ∷ []) rest))
    (no_cause front first (first_sound front first rest sound))
    ∙ no_line (front ++ first ∷ []) rest (rest_sound front first rest sound)

first_line_found : (p : List NumberedLine) (number : ℕ) (cause : Dep5Cause) → IsFirstLineFault p number cause
    → line_fault [] p ≡ Some (BadDep5 number cause)
first_line_found p number cause f =
    ap (line_fault []) f.stands ∙ line_found [] f.before f.line f.after cause f.sound f.fault
    ∙ ap (λ n. Some (BadDep5 n cause)) (sym f.named)

-- ---- the header

header_found : (p : List NumberedLine) (number : ℕ) (cause : Dep5Cause) → IsHeaderFault p number cause
    → header_of p ≡ Err (BadDep5 number cause)
unfolding header_of
header_found p number cause (inl line) = rw (first_line_found p number cause line) refl
header_found p number cause (inr none) =
    rw (no_line [] p none.0, nil_test (text_of (format_value p)) none.1, none.2, none.3) refl

header_read : (p : List NumberedLine) → IsHeader p → (header : HeaderValue) × (header_of p ≡ Ok header)
header_read p good =
    elim (ok_or_err (header_of p)) [
      | inl m ↦ m
      | inr m ↦ (let r = header_refused p m.0 m.1 in absurd (no_header_fault p r.0 r.1 good r.3))
    ]

-- ---- a later paragraph

word_found : (before : List NumberedLine) (word : NumberedLine) (after : List NumberedLine) → ArePatterns before
    → word_pieces word.content ≡ None → patterns_of (before ++ word ∷ after) ≡ Err (BadDep5 word.number BadEscape)
word_found [] word after sound none = ap (λ o. onto_patterns word.number o (patterns_of after)) none
word_found (first ∷ before) word after sound none =
    by_pieces (word_pieces first.content) sound.0 (patterns_of (before ++ word ∷ after))
    (word_found before word after sound.1 none)
  where
    by_pieces : (o : Option (List PatternPiece)) → o ≢ None → (r : Result (List PatternValue) Dep5Refusal)
        → r ≡ Err (BadDep5 word.number BadEscape) → onto_patterns first.number o r ≡ Err (BadDep5 word.number BadEscape)
    by_pieces None h r e = absurd (h refl)
    by_pieces (Some pieces) h r e = ap (onto_patterns first.number (Some pieces)) e

lacking : (p : List NumberedLine) → ¬ HasParts p → is_incomplete p ≡ true
lacking p h = by_test (is_incomplete p) refl
  where
    by_test : (b : Bool) → is_incomplete p ≡ b → b ≡ true
    by_test true e = refl
    by_test false e = absurd (h (has_parts p e))

complete : (p : List NumberedLine) → HasParts p → is_incomplete p ≡ false
complete p parts =
    rw (some_test (words_of (files_value p)) parts.pattern, some_test _ parts.notice, some_test _ parts.short_name) refl

part_found : (p : List NumberedLine) (number : ℕ) (cause : Dep5Cause) → line_fault [] p ≡ None
    → IsPartFault p number cause → later_of p ≡ Err (BadDep5 number cause)
unfolding later_of files_of
part_found p number NoKind fields m =
    rw (fields, nil_test (files_value p) m.0, nil_test (license_value p) m.1, m.2) refl
part_found p number Missing fields m = rw (fields, some_test (files_value p) m.0, lacking p m.1, m.2) refl
part_found p number BadEscape fields m =
    rw (
      fields,
      some_test (files_value p) m.0,
      complete p m.1,
      m.2.stands,
      word_found m.2.before m.2.word m.2.after m.2.sound m.2.fault,
      m.2.named,
    ) refl
part_found p number _ fields m = absurd m

later_found : (p : List NumberedLine) (number : ℕ) (cause : Dep5Cause) → IsLaterFault p number cause
    → later_of p ≡ Err (BadDep5 number cause)
unfolding later_of
later_found p number cause (inl line) = rw (first_line_found p number cause line) refl
later_found p number cause (inr part) = part_found p number cause (no_line [] p part.0) part.1

later_read : (p : List NumberedLine) → IsLater p → (files : List FilesValue) × (later_of p ≡ Ok files)
later_read p good =
    elim (ok_or_err (later_of p)) [
      | inl m ↦ m
      | inr m ↦ (let r = later_refused p m.0 m.1 in absurd (no_later_fault p r.0 r.1 good r.3))
    ]

laters_found : (before : List (List NumberedLine)) (p : List NumberedLine) (after : List (List NumberedLine))
    (d : Dep5Refusal) → AreLater before → later_of p ≡ Err d → laters_of (before ++ p ∷ after) ≡ Err d
laters_found [] p after d sound e = ap (λ r. r >>= (λ files. laters_of after >>= (λ more. Ok (files ++ more)))) e
laters_found (first ∷ before) p after d sound e =
    let read = later_read first sound.0 in
    ap (λ r. r >>= (λ files. laters_of (before ++ p ∷ after) >>= (λ more. Ok (files ++ more)))) read.1
    ∙ ap (λ r. r >>= (λ more. Ok (read.0 ++ more))) (laters_found before p after d sound.1 e)

-- ---- a dep5

pub found : (ps : List (List NumberedLine)) (number : ℕ) (cause : Dep5Cause) → IsFirstFault ps number cause
    → paragraphs_of ps ≡ Err (BadDep5 number cause)
unfolding paragraphs_of
found [] number cause m = rw (m.0, m.1) refl
found (p ∷ ps) number cause (inl h) = rw (header_found p number cause h) refl
found (p ∷ ps) number cause (inr l) =
    let read = header_read p l.0 in
    let later = ap laters_of l.1.stands ∙ laters_found l.1.before l.1.p l.1.after (BadDep5 number cause) l.1.sound
    (later_found l.1.p number cause l.1.fault) in
    ap (λ r. r >>= (λ header. laters_of ps >>= (λ files. Ok (record { header = header; files = files })))) read.1
    ∙ ap (λ r. r >>= (λ files. Ok (record { header = read.0; files = files }))) later

pub refused_exactly : (ps : List (List NumberedLine)) (d : Dep5Refusal)
    → (paragraphs_of ps ≡ Err d) ↔ Names (IsFirstFault ps) d
refused_exactly ps d = (refused ps d, λ m. found ps m.0 m.1 m.3 ∙ ap Err m.2)

-- ---- a text

-- bytes that are no UTF-8, or those that are, with their paragraphs
text_or_none : (bytes : List ℕ) → IsUtf8 bytes ⊎ (¬ IsUtf8 bytes)
text_or_none bytes = by_test (is_utf8 bytes) refl
  where
    by_test : (b : Bool) → is_utf8 bytes ≡ b → IsUtf8 bytes ⊎ (¬ IsUtf8 bytes)
    by_test true e = inl (IsUtf8-from_is_utf8 bytes e)
    by_test false e = inr (λ utf8. false≢true (sym e ∙ is_utf8-from_IsUtf8 bytes utf8))

read_text : (bytes : List ℕ) → IsUtf8 bytes → paragraphs_of (paragraphs (dep5_lines bytes)) ≡ dep5_of bytes
read_text bytes utf8 = dep5_utf8 bytes (dep5_lines bytes) utf8 refl

pub text_accepted : (bytes : List ℕ) → ((dep5 : Dep5Value) × (dep5_of bytes ≡ Ok dep5)) ↔ IsDep5Text bytes
text_accepted bytes = (
  to,
  λ m. let r = (accepted_exactly (paragraphs (dep5_lines bytes))).1 m.1 in (r.0, sym (read_text bytes m.0) ∙ r.1),
)
  where
    to : (dep5 : Dep5Value) × (dep5_of bytes ≡ Ok dep5) → IsDep5Text bytes
    to (dep5, e) =
        elim (text_or_none bytes) [
          | inl utf8 ↦ (utf8, accepted (paragraphs (dep5_lines bytes)) dep5 (read_text bytes utf8 ∙ e))
          | inr none ↦ (let f = sym (dep5_not_utf8 bytes none) ∙ e in cc)
        ]

fault_reported : (bytes : List ℕ) (e : Dep5Refusal) → IsTextFault bytes e → dep5_of bytes ≡ Err e
fault_reported bytes NotUtf8 m = dep5_not_utf8 bytes m
fault_reported bytes (BadDep5 number cause) m =
    sym (read_text bytes m.0) ∙ found (paragraphs (dep5_lines bytes)) number cause m.1
fault_reported bytes _ m = absurd m

reported_fault : (bytes : List ℕ) (e : Dep5Refusal) → dep5_of bytes ≡ Err e → IsTextFault bytes e
reported_fault bytes e is =
    elim (text_or_none bytes) [
      | inl utf8 ↦ (
          let r = refused (paragraphs (dep5_lines bytes)) e (read_text bytes utf8 ∙ is) in
          subst (IsTextFault bytes) r.2 (utf8, r.3))
      | inr none ↦ (
          let same : NotUtf8 ≡ e = (let f = sym (dep5_not_utf8 bytes none) ∙ is in cc) in
          subst (IsTextFault bytes) same none)
    ]

pub text_refused : (bytes : List ℕ) (e : Dep5Refusal) → (dep5_of bytes ≡ Err e) ↔ IsTextFault bytes e
text_refused bytes e = (reported_fault bytes e, fault_reported bytes e)

pub text_answered : (bytes : List ℕ) → IsDep5Text bytes ⊎ ((e : Dep5Refusal) × IsTextFault bytes e)
text_answered bytes =
    elim (ok_or_err (dep5_of bytes)) [
      | inl m ↦ inl ((text_accepted bytes).0 m)
      | inr m ↦ inr (m.0, reported_fault bytes m.0 m.1)
    ]

pub text_either : (bytes : List ℕ) (e : Dep5Refusal) → IsTextFault bytes e → ¬ IsDep5Text bytes
text_either bytes e fault good = let m = (text_accepted bytes).1 good in
    let f = sym m.1 ∙ fault_reported bytes e fault in cc

pub text_one : (bytes : List ℕ) (e other : Dep5Refusal) → IsTextFault bytes e → IsTextFault bytes other → e ≡ other
text_one bytes e other a b = let f = sym (fault_reported bytes e a) ∙ fault_reported bytes other b in cc
