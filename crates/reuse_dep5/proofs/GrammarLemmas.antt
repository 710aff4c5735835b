-- A reading is accepted exactly on the grammar, and refused at the first fault.
use Rattle.std.proofs.Common.{◌≡◌, ◌≢◌, ◌⊎◌, ◌↔◌, inl, inr, ℕ, ◌||◌, List, [], ◌∷◌, ◌++◌, Bool, true, false, cond, not}
use Rattle.std.proofs.Common.{Option, Some, None, Result, Ok, Err, refl, sym, ap, subst, ◌∙◌, append_assoc, codes}
use Rattle.std.proofs.lemmas.Bool.{false≢true}
use Rattle.std.proofs.lemmas.List.{append-nil}
use Rattle.std.specs.List.{list_any}
use Rattle.reuse_dep5.specs.declared.refusal.Dep5Refusal.{Dep5Refusal}
use Rattle.reuse_dep5.specs.declared.refusal.Dep5Refusal.TheVariants.{BadDep5}
use Rattle.reuse_dep5.specs.declared.refusal.Dep5Cause.{Dep5Cause}
use Rattle.reuse_dep5.specs.declared.refusal.Dep5Cause.TheVariants.{Empty, NoField, Orphan, Repeated, NoFormat, NoKind}
use Rattle.reuse_dep5.specs.declared.refusal.Dep5Cause.TheVariants.{Missing, BadEscape}
use Rattle.reuse_dep5.specs.PatternValue.{PatternValue}
use Rattle.reuse_dep5.specs.SourceText.{NumberedLine, is_nil, is_continuation}
use Rattle.reuse_dep5.specs.Fields.{is_field, field_name, has_name, text_of, nonempty_lines, first_line, value_of}
use Rattle.reuse_dep5.specs.PatternText.{words_of, word_pieces, patterns_of}
use Rattle.reuse_dep5.specs.Dep5.{HeaderValue, FilesValue, Dep5Value, line_cause, or_next, line_fault, first_number}
use Rattle.reuse_dep5.specs.Dep5.{format_value, files_value, copyright_value, license_value, comment_value, ◌>>=◌}
use Rattle.reuse_dep5.specs.Dep5.{header_of, is_incomplete, later_of, laters_of, paragraphs_of}
use Rattle.reuse_dep5.specs.Grammar.{IsFieldLine, IsContinuation, IsRepetition, IsLineFault, AreFields}
use Rattle.reuse_dep5.specs.Grammar.{IsFirstLineFault, IsHeader, HasParts, ArePatterns, IsLater, AreLater}
use Rattle.reuse_dep5.specs.Grammar.{IsGrammatical, IsHeaderFault, IsFirstBadWord, IsLaterFault, IsFirstLaterFault}
use Rattle.reuse_dep5.specs.Grammar.{IsFirstFault}
use Rattle.reuse_dep5.proofs.NameLemmas.{continuation_no_field}
use Rattle.reuse_dep5.proofs.ReadingLemmas.{bind_ok, bind_err, unless_ok, unless_err, cond_ok, cond_err, patterns_ok}
use Rattle.reuse_dep5.proofs.ReadingLemmas.{patterns_err, files_ok, files_err, later_ok, later_err, laters_ok}
use Rattle.reuse_dep5.proofs.ReadingLemmas.{laters_err}

-- tests of emptiness
pub nil_from : {A : Type 0} (xs : List A) → is_nil xs ≡ true → xs ≡ []
nil_from [] e = refl
nil_from (x ∷ xs) e = absurd (false≢true e)

some_from : {A : Type 0} (xs : List A) → is_nil xs ≡ false → xs ≢ []
some_from xs e f = false≢true (sym e ∙ ap is_nil f)

-- what is wrong with a line
module _ (before : List NumberedLine) (line : NumberedLine) where
  no_fault : (IsContinuation line → before ≡ [] → ⊥) → (¬ IsFieldLine line → ¬ IsContinuation line → ⊥)
      → (IsFieldLine line → IsRepetition before line → ⊥) → (cause : Dep5Cause) → ¬ IsLineFault before line cause
  no_fault orphan field repeated NoField m = field m.0 m.1
  no_fault orphan field repeated Orphan m = orphan m.1 m.0
  no_fault orphan field repeated Repeated m = repeated m.0 m.1
  no_fault orphan field repeated _ m = m

  abbrev again_in : Bool
  again_in = list_any (λ (l : NumberedLine). has_name (field_name line.content) l.content) before

  pub some_cause : (cause : Dep5Cause) → line_cause before line.content ≡ Some cause → IsLineFault before line cause
  some_cause cause e =
      by_tests (is_continuation line.content) refl (is_nil before) refl (is_field line.content) refl again_in refl e
    where
      by_tests : (k : Bool) → is_continuation line.content ≡ k → (n : Bool) → is_nil before ≡ n → (f : Bool)
          → is_field line.content ≡ f → (r : Bool) → again_in ≡ r → cond k (cond n (Some Orphan) None)
          (cond (not f) (Some NoField) (cond r (Some Repeated) None)) ≡ Some cause → IsLineFault before line cause
      by_tests true ek true en f ef r er g = let same : Orphan ≡ cause = cc in
          subst (IsLineFault before line) same (nil_from before en, ek)
      by_tests true ek false en f ef r er g = cc
      by_tests false ek n en false ef r er g =
          let same : NoField ≡ cause = cc in
          subst (IsLineFault before line) same (λ x. false≢true (sym ef ∙ x), λ x. false≢true (sym ek ∙ x))
      by_tests false ek n en true ef true er g = let same : Repeated ≡ cause = cc in
          subst (IsLineFault before line) same (ef, er)
      by_tests false ek n en true ef false er g = cc

  none_cause : line_cause before line.content ≡ None → (cause : Dep5Cause) → ¬ IsLineFault before line cause
  none_cause e =
      by_tests (is_continuation line.content) refl (is_nil before) refl (is_field line.content) refl again_in refl e
    where
      by_tests : (k : Bool) → is_continuation line.content ≡ k → (n : Bool) → is_nil before ≡ n → (f : Bool)
          → is_field line.content ≡ f → (r : Bool) → again_in ≡ r
          → cond k (cond n (Some Orphan) None) (cond (not f) (Some NoField) (cond r (Some Repeated) None)) ≡ None
          → (cause : Dep5Cause) → ¬ IsLineFault before line cause
      by_tests true ek true en f ef r er g = cc
      by_tests true ek false en f ef r er g =
          no_fault (λ k b. some_from before en b) (λ a b. b ek)
          (λ x y. false≢true (sym (continuation_no_field line.content ek) ∙ x))
      by_tests false ek n en false ef r er g = cc
      by_tests false ek n en true ef true er g = cc
      by_tests false ek n en true ef false er g =
          no_fault (λ k b. false≢true (sym ek ∙ k)) (λ a b. a ef) (λ x y. false≢true (sym er ∙ y))

or_next_none : (number : ℕ) (cause : Option Dep5Cause) (next : Option Dep5Refusal) → or_next number cause next ≡ None
    → (cause ≡ None) × (next ≡ None)
or_next_none number None next e = (refl, e)
or_next_none number (Some c) next e = cc

or_next_some : (number : ℕ) (cause : Option Dep5Cause) (next : Option Dep5Refusal) (d : Dep5Refusal)
    → or_next number cause next ≡ Some d
    → ((c : Dep5Cause) × (cause ≡ Some c) × (BadDep5 number c ≡ d)) ⊎ ((cause ≡ None) × (next ≡ Some d))
or_next_some number None next d e = inr (refl, e)
or_next_some number (Some c) next d e = inl (c, refl, cc)

-- the lines behind some lines are fields
abbrev pub AreFieldsBehind : List NumberedLine → List NumberedLine → Type 0
AreFieldsBehind front p = (before : List NumberedLine) (line : NumberedLine) (after : List NumberedLine)
    → p ≡ before ++ line ∷ after → (cause : Dep5Cause) → ¬ IsLineFault (front ++ before) line cause

fields_nil : (front : List NumberedLine) → AreFieldsBehind front []
fields_nil front [] line after e = cc
fields_nil front (x ∷ before) line after e = cc

fields_more : (front : List NumberedLine) (first : NumberedLine) (rest : List NumberedLine)
    → ((cause : Dep5Cause) → ¬ IsLineFault front first cause) → AreFieldsBehind (front ++ first ∷ []) rest
    → AreFieldsBehind front (first ∷ rest)
fields_more front first rest here more [] line after e cause m =
    let same : first ≡ line = cc in
    here cause (subst (λ (l : NumberedLine). IsLineFault front l cause) (sym same)
    (subst (λ (f : List NumberedLine). IsLineFault f line cause) (append-nil front) m))
fields_more front first rest here more (x ∷ before) line after e cause m =
    let head : first ≡ x = cc in
    let tail : rest ≡ before ++ line ∷ after = cc in
    let same : (front ++ x ∷ before) ≡ ((front ++ first ∷ []) ++ before) =
    ap (λ y. front ++ y ∷ before) (sym head) ∙ sym (append_assoc front (first ∷ []) before) in
    more before line after tail cause (subst (λ (f : List NumberedLine). IsLineFault f line cause) same m)

fields_from : (front p : List NumberedLine) → line_fault front p ≡ None → AreFieldsBehind front p
fields_from front [] e = fields_nil front
fields_from front (line ∷ p) e =
    let found = or_next_none line.number (line_cause front line.content) (line_fault (front ++ line ∷ []) p) e in
    fields_more front line p (none_cause front line found.0) (fields_from (front ++ line ∷ []) p found.1)

pub are_fields : (p : List NumberedLine) → line_fault [] p ≡ None → AreFields p
are_fields p e = fields_from [] p e

-- the first line with a fault, behind some lines
record IsFaultBehind (front p : List NumberedLine) (d : Dep5Refusal) : Type 0 where
  before : List NumberedLine
  line : NumberedLine
  after : List NumberedLine
  cause : Dep5Cause
  stands : p ≡ before ++ line ∷ after
  sound : AreFieldsBehind front before
  fault : IsLineFault (front ++ before) line cause
  named : BadDep5 line.number cause ≡ d

fault_from : (front p : List NumberedLine) (d : Dep5Refusal) → line_fault front p ≡ Some d → IsFaultBehind front p d
fault_from front [] d e = cc
fault_from front (line ∷ p) d e =
    elim (or_next_some line.number (line_cause front line.content) (line_fault (front ++ line ∷ []) p) d e) [
      | inl here ↦
          record {
            before = [];
            line = line;
            after = p;
            cause = here.0;
            stands = refl;
            sound = fields_nil front;
            fault = subst (λ (f : List NumberedLine). IsLineFault f line here.0) (sym (append-nil front))
                (some_cause front line here.0 here.1);
            named = here.2;
          }
      | inr later ↦ (
          let r = fault_from (front ++ line ∷ []) p d later.1 in
          record {
            before = line ∷ r.before;
            line = r.line;
            after = r.after;
            cause = r.cause;
            stands = ap (λ q. line ∷ q) r.stands;
            sound = fields_more front line r.before (none_cause front line later.0) r.sound;
            fault = subst (λ (f : List NumberedLine). IsLineFault f r.line r.cause)
                (append_assoc front (line ∷ []) r.before) r.fault;
            named = r.named;
          })
    ]

-- a fault with its refusal
abbrev pub Names : (ℕ → Dep5Cause → Type 0) → Dep5Refusal → Type 0
Names IsFault d = (number : ℕ) × (cause : Dep5Cause) × (BadDep5 number cause ≡ d) × IsFault number cause

line_named : (p : List NumberedLine) (d : Dep5Refusal) → line_fault [] p ≡ Some d → Names (IsFirstLineFault p) d
line_named p d e =
    let r = fault_from [] p d e in (
      r.line.number,
      r.cause,
      r.named,
      record {
        before = r.before;
        line = r.line;
        after = r.after;
        stands = r.stands;
        sound = r.sound;
        fault = r.fault;
        named = refl;
      },
    )

no_line_fault : (p : List NumberedLine) (number : ℕ) (cause : Dep5Cause) → AreFields p
    → ¬ IsFirstLineFault p number cause
no_line_fault p number cause fields f = fields f.before f.line f.after f.stands cause f.fault

-- a test of which the answer is one or the other
pub ok_or_err : {A : Type 0} (r : Result A Dep5Refusal) → ((x : A) × (r ≡ Ok x)) ⊎ ((d : Dep5Refusal) × (r ≡ Err d))
ok_or_err (Ok x) = inl (x, refl)
ok_or_err (Err d) = inr (d, refl)

-- the header
header_made : List NumberedLine → HeaderValue
header_made p = record {
  name = text_of (value_of (codes "Upstream-Name") p);
  contact = text_of (value_of (codes "Upstream-Contact") p);
  source = text_of (value_of (codes "Source") p);
  comment = text_of (comment_value p);
}

header_accepted : (p : List NumberedLine) (header : HeaderValue) → header_of p ≡ Ok header → IsHeader p
unfolding header_of
header_accepted p header e =
    let sound = unless_ok (line_fault [] p) _ header e in
    let whole = cond_ok (is_nil (text_of (format_value p))) (BadDep5 (first_number p) NoFormat) _ header sound.1 in
    record { fields = are_fields p sound.0; format = some_from (text_of (format_value p)) whole.0 }

pub header_refused : (p : List NumberedLine) (d : Dep5Refusal) → header_of p ≡ Err d → Names (IsHeaderFault p) d
unfolding header_of header_made
header_refused p d e =
    elim (unless_err (line_fault [] p)
    (cond (is_nil (text_of (format_value p))) (Err (BadDep5 (first_number p) NoFormat)) (Ok (header_made p))) d e) [
      | inl line ↦ (
          let r = line_named p d line in (r.0, r.1, r.2, inl r.3))
      | inr sound ↦
          elim (cond_err (is_nil (text_of (format_value p))) (BadDep5 (first_number p) NoFormat)
          (Ok (header_made p)) d sound.1) [
            | inl none ↦ (
              first_number p,
              NoFormat,
              none.1,
              inr (are_fields p sound.0, nil_from (text_of (format_value p)) none.0, refl, refl),
            )
            | inr some ↦ let f = some.1 in cc
          ]
    ]

pub no_header_fault : (p : List NumberedLine) (number : ℕ) (cause : Dep5Cause) → IsHeader p
    → ¬ IsHeaderFault p number cause
no_header_fault p number cause header (inl line) = no_line_fault p number cause header.fields line
no_header_fault p number cause header (inr none) = header.format none.1

-- the parts of a Files paragraph
or_parts : (a b : Bool) → (a || b) ≡ false → (a ≡ false) × (b ≡ false)
or_parts true b e = absurd (false≢true (sym e))
or_parts false b e = (refl, e)

pub has_parts : (p : List NumberedLine) → is_incomplete p ≡ false → HasParts p
has_parts p e =
    let w = is_nil (words_of (files_value p)) in
    let n = is_nil (nonempty_lines (copyright_value p)) in
    let a = or_parts (w || n) (is_nil (first_line (license_value p))) e in
    let b = or_parts w n a.0 in
    record {
      pattern = some_from (words_of (files_value p)) b.0;
      notice = some_from (nonempty_lines (copyright_value p)) b.1;
      short_name = some_from (first_line (license_value p)) a.1;
    }

lacks_parts : (p : List NumberedLine) → is_incomplete p ≡ true → ¬ HasParts p
lacks_parts p e parts =
    by_tests (is_nil (words_of (files_value p))) refl (is_nil (nonempty_lines (copyright_value p))) refl
    (is_nil (first_line (license_value p))) refl e
  where
    by_tests : (w : Bool) → is_nil (words_of (files_value p)) ≡ w → (n : Bool)
        → is_nil (nonempty_lines (copyright_value p)) ≡ n → (l : Bool) → is_nil (first_line (license_value p)) ≡ l
        → ((w || n) || l) ≡ true → ⊥
    by_tests true ew n en l el g = parts.pattern (nil_from (words_of (files_value p)) ew)
    by_tests false ew true en l el g = parts.notice (nil_from (nonempty_lines (copyright_value p)) en)
    by_tests false ew false en true el g = parts.short_name (nil_from (first_line (license_value p)) el)
    by_tests false ew false en false el g = false≢true g

-- the patterns
patterns_accepted : (words : List NumberedLine) (patterns : List PatternValue) → patterns_of words ≡ Ok patterns
    → ArePatterns words
patterns_accepted [] patterns e = tt
patterns_accepted (word ∷ words) patterns e =
    let found = patterns_ok word.number (word_pieces word.content) (patterns_of words) patterns e in
    (λ none. let f = found.2 in cc, patterns_accepted words found.1 found.3)

-- behind a good word, the first bad one is that of the words after it
behind_good_word : (word : NumberedLine) (words : List NumberedLine) (number : ℕ) → ¬ (word_pieces word.content ≡ None)
    → IsFirstBadWord words number → IsFirstBadWord (word ∷ words) number
behind_good_word word words number good b =
    record {
      before = word ∷ b.before;
      word = b.word;
      after = b.after;
      stands = ap (λ q. word ∷ q) b.stands;
      sound = (good, b.sound);
      fault = b.fault;
      named = b.named;
    }

patterns_refused : (words : List NumberedLine) (d : Dep5Refusal) → patterns_of words ≡ Err d
    → (number : ℕ) × (BadDep5 number BadEscape ≡ d) × IsFirstBadWord words number
patterns_refused [] d e = cc
patterns_refused (word ∷ words) d e =
    elim (patterns_err word.number (word_pieces word.content) (patterns_of words) d e) [
      | inl here ↦ (
        word.number,
        here.1,
        record { before = []; word = word; after = words; stands = refl; sound = tt; fault = here.0; named = refl },
      )
      | inr later ↦ (
          let r = patterns_refused words d later.2 in
          (r.0, r.1, behind_good_word word words r.0 (λ none. let f = later.1 in cc) r.2))
    ]

no_bad_word : (before : List NumberedLine) (word : NumberedLine) (after : List NumberedLine)
    → word_pieces word.content ≡ None → ¬ ArePatterns (before ++ word ∷ after)
no_bad_word [] word after none patterns = patterns.0 none
no_bad_word (x ∷ before) word after none patterns = no_bad_word before word after none patterns.1

-- a later paragraph
later_accepted : (p : List NumberedLine) (fs : List FilesValue) → later_of p ≡ Ok fs → IsLater p
later_accepted p fs e =
    let found = later_ok p fs e in
    elim found.1 [
      | inl alone ↦
          inr (record {
            fields = are_fields p found.0;
            no_files = nil_from (files_value p) alone.0;
            licence = some_from (license_value p) alone.1;
          })
      | inr some ↦ (
          let read = files_ok p some.1.0 some.1.1 in
          inl (record {
            fields = are_fields p found.0;
            files = some_from (files_value p) some.0;
            parts = has_parts p read.0;
            patterns = patterns_accepted (words_of (files_value p)) some.1.0.patterns read.1;
          }))
    ]

pub later_refused : (p : List NumberedLine) (d : Dep5Refusal) → later_of p ≡ Err d → Names (IsLaterFault p) d
later_refused p d e =
    elim (later_err p d e) [
      | inl line ↦ (let r = line_named p d line in (r.0, r.1, r.2, inl r.3))
      | inr sound ↦
          elim sound.1 [
            | inl none ↦ (
              first_number p,
              NoKind,
              none.2,
              inr (are_fields p sound.0, (nil_from (files_value p) none.0, nil_from (license_value p) none.1, refl)),
            )
            | inr some ↦
                elim (files_err p d some.1) [
                  | inl lacks ↦ (
                    first_number p,
                    Missing,
                    lacks.1,
                    inr (are_fields p sound.0, (some_from (files_value p) some.0, lacks_parts p lacks.0, refl)),
                  )
                  | inr bad ↦ (
                      let r = patterns_refused (words_of (files_value p)) d bad.1 in (
                        r.0,
                        BadEscape,
                        r.1,
                        inr (are_fields p sound.0, (some_from (files_value p) some.0, has_parts p bad.0, r.2)),
                      ))
                ]
          ]
    ]

pub no_later_fault : (p : List NumberedLine) (number : ℕ) (cause : Dep5Cause) → IsLater p
    → ¬ IsLaterFault p number cause
no_later_fault p number cause (inl files) (inl line) = no_line_fault p number cause files.fields line
no_later_fault p number cause (inr alone) (inl line) = no_line_fault p number cause alone.fields line
no_later_fault p number NoKind (inl files) (inr part) = files.files part.1.0
no_later_fault p number NoKind (inr alone) (inr part) = alone.licence part.1.1
no_later_fault p number Missing (inl files) (inr part) = part.1.1 files.parts
no_later_fault p number Missing (inr alone) (inr part) = part.1.0 alone.no_files
no_later_fault p number BadEscape (inl files) (inr part) =
    let bad = part.1.2 in
    no_bad_word bad.before bad.word bad.after bad.fault (subst ArePatterns bad.stands files.patterns)
no_later_fault p number BadEscape (inr alone) (inr part) = part.1.0 alone.no_files
no_later_fault p number _ later (inr part) = part.1

-- the later paragraphs
laters_accepted : (ps : List (List NumberedLine)) (fs : List FilesValue) → laters_of ps ≡ Ok fs → AreLater ps
laters_accepted [] fs e = tt
laters_accepted (p ∷ ps) fs e =
    let found = laters_ok p ps fs e in (later_accepted p found.0 found.2, laters_accepted ps found.1 found.3)

-- behind a good paragraph, the first fault is that of the paragraphs after it
behind_good_paragraph : (p : List NumberedLine) (ps : List (List NumberedLine)) (number : ℕ) (cause : Dep5Cause)
    → IsLater p → IsFirstLaterFault ps number cause → IsFirstLaterFault (p ∷ ps) number cause
behind_good_paragraph p ps number cause good f =
    record {
      before = p ∷ f.before;
      p = f.p;
      after = f.after;
      stands = ap (λ q. p ∷ q) f.stands;
      sound = (good, f.sound);
      fault = f.fault;
    }

laters_refused : (ps : List (List NumberedLine)) (d : Dep5Refusal) → laters_of ps ≡ Err d
    → Names (IsFirstLaterFault ps) d
laters_refused [] d e = cc
laters_refused (p ∷ ps) d e =
    elim (laters_err p ps d e) [
      | inl here ↦ (
          let r = later_refused p d here in
          (r.0, r.1, r.2, record { before = []; p = p; after = ps; stands = refl; sound = tt; fault = r.3 }))
      | inr later ↦ (
          let r = laters_refused ps d later.2 in
          (r.0, r.1, r.2, behind_good_paragraph p ps r.0 r.1 (later_accepted p later.0 later.1) r.3))
    ]

no_later_faults : (before : List (List NumberedLine)) (p : List NumberedLine) (after : List (List NumberedLine))
    (number : ℕ) (cause : Dep5Cause) → IsLaterFault p number cause → ¬ AreLater (before ++ p ∷ after)
no_later_faults [] p after number cause fault are = no_later_fault p number cause are.0 fault
no_later_faults (q ∷ before) p after number cause fault are = no_later_faults before p after number cause fault are.1

-- a dep5
abbrev dep5_made : List (List NumberedLine) → HeaderValue → Result Dep5Value Dep5Refusal
dep5_made ps header = laters_of ps >>= (λ files. Ok (record { header = header; files = files }))

pub accepted : (ps : List (List NumberedLine)) (dep5 : Dep5Value) → paragraphs_of ps ≡ Ok dep5 → IsGrammatical ps
unfolding paragraphs_of
accepted [] dep5 e = cc
accepted (p ∷ ps) dep5 e =
    let a = bind_ok (header_of p) (dep5_made ps) dep5 e in
    let b = bind_ok (laters_of ps) (λ files. Ok (record { header = a.0; files = files })) dep5 a.2 in
    (header_accepted p a.0 a.1, laters_accepted ps b.0 b.1)

pub refused : (ps : List (List NumberedLine)) (d : Dep5Refusal) → paragraphs_of ps ≡ Err d → Names (IsFirstFault ps) d
unfolding paragraphs_of
refused [] d e = (1, Empty, let f : BadDep5 1 Empty ≡ d = cc in f, (refl, refl))
refused (p ∷ ps) d e =
    elim (bind_err (header_of p) (dep5_made ps) d e) [
      | inl h ↦ (let r = header_refused p d h in (r.0, r.1, r.2, inl r.3))
      | inr a ↦
          elim (bind_err (laters_of ps) (λ files. Ok (record { header = a.0; files = files })) d a.2) [
            | inl l ↦ (
                let r = laters_refused ps d l in (r.0, r.1, r.2, inr (header_accepted p a.0 a.1, r.3)))
            | inr b ↦ let f = b.2 in cc
          ]
    ]

no_first_fault : (ps : List (List NumberedLine)) (number : ℕ) (cause : Dep5Cause) → IsGrammatical ps
    → ¬ IsFirstFault ps number cause
no_first_fault [] number cause good fault = good
no_first_fault (p ∷ ps) number cause good (inl h) = no_header_fault p number cause good.0 h
no_first_fault (p ∷ ps) number cause good (inr l) =
    no_later_faults l.1.before l.1.p l.1.after number cause l.1.fault (subst AreLater l.1.stands good.1)

pub accepted_exactly : (ps : List (List NumberedLine))
    → ((dep5 : Dep5Value) × (paragraphs_of ps ≡ Ok dep5)) ↔ IsGrammatical ps
accepted_exactly ps = (λ m. accepted ps m.0 m.1, from)
  where
    from : IsGrammatical ps → (dep5 : Dep5Value) × (paragraphs_of ps ≡ Ok dep5)
    from good =
        elim (ok_or_err (paragraphs_of ps)) [
          | inl m ↦ m
          | inr m ↦ (
              let r = refused ps m.0 m.1 in absurd (no_first_fault ps r.0 r.1 good r.3))
        ]
