-- What a conversion that succeeded, or was refused, has found.
use Rattle.std.proofs.Common.{◌≡◌, ◌≢◌, ◌↔◌, ◌⊎◌, inl, inr, ℕ, ◌<◌, ◌≤◌, Bool, true, false, cond, nat_lt, List, length}
use Rattle.std.proofs.Common.{Option, Some, None, Result, Ok, Err, refl, sym, ap, ◌∙◌, subst, arith}
use Rattle.std.specs.Str.{is_utf8}
use Rattle.std.proofs.lemmas.Bool.{false≢true}
use Rattle.std.proofs.lemmas.Bool.Decides.{nat_tests}
use Rattle.toml.specs.Data.{Members}
use Rattle.reuse_text.specs.declared.TheConstants.{LONGEST_FILE}
use Rattle.reuse_dep5.specs.declared.refusal.Dep5Refusal.{Dep5Refusal}
use Rattle.reuse_dep5.specs.declared.refusal.Dep5Refusal.TheVariants as refusal
use Rattle.reuse_dep5.specs.declared.refusal.Dep5Cause.{Dep5Cause}
use Rattle.reuse_dep5.specs.Answers.{IsRefusalOf}
use Rattle.reuse_dep5.specs.SourceText.{dep5_lines, paragraphs}
use Rattle.reuse_dep5.specs.Dep5.{Dep5Value, paragraphs_of, dep5_of}
use Rattle.reuse_dep5.specs.ReuseTable.{toml_text}
use Rattle.reuse_dep5.specs.ReadBack.{table_of}
use Rattle.reuse_toml.specs.TomlText.{read_toml}
use Rattle.reuse_dep5.specs.ReuseToml.{question_of, IsReuseToml, IsTomlRefusal}
use Rattle.reuse_dep5.specs.SameData.{same_members, is_table}
use Rattle.reuse_dep5.specs.Conversion.{text_unless, toml_of, converted_from, converted}
use Rattle.reuse_dep5.proofs.GrammarLemmas.{refused}
use Rattle.reuse_dep5.proofs.ConversionLemmas.{members_are, read_back, toml_answer}

-- a table passes the test against a stated one exactly where it is that
pub stated_exactly : (members : Members) (dep5 : Dep5Value)
    → (same_members members (table_of dep5) ≡ true) ↔ (members ≡ table_of dep5)
stated_exactly members dep5 =
    (members_are members (table_of dep5), λ e. read_back dep5 (Some members) (ap (λ ms. Some ms) e))

-- what was found is a table that passes
found_table : (found : Option Members) (dep5 : Dep5Value) → is_table found (table_of dep5) ≡ true
    → found ≡ Some (table_of dep5)
found_table None dep5 h = absurd (false≢true h)
found_table (Some members) dep5 h = ap (λ ms. Some ms) (members_are members (table_of dep5) h)

no_table : (found : Option Members) (dep5 : Dep5Value) → is_table found (table_of dep5) ≡ false
    → found ≢ Some (table_of dep5)
no_table found dep5 h e = false≢true (sym h ∙ read_back dep5 found e)

not_over : (most n : ℕ) → nat_lt most n ≡ false → n ≤ most
not_over most n h = grind (arith, nat_tests)

over : (most n : ℕ) → nat_lt most n ≡ true → most < n
over most n h = grind (arith, nat_tests)

-- ---- the text of a dep5

-- what is given, by whether the text is too long and whether it is read back
abbrev given : Bool → Bool → List ℕ → Result (List ℕ) Dep5Refusal
given long same text = cond long (Err refusal.TooLong) (cond same (Ok text) (Err refusal.NotToml))

given_text : (long same : Bool) (text found : List ℕ) → given long same text ≡ Ok found
    → (long ≡ false) × (same ≡ true) × (text ≡ found)
given_text true same text found h = cc
given_text false true text found h = (refl, refl, cc)
given_text false false text found h = cc

pub text_is : (dep5 : Dep5Value) (text : List ℕ) → toml_of dep5 ≡ Ok text → IsReuseToml dep5 text
text_is dep5 text = by_question (question_of dep5.files) refl
  where
    by_question : (q : Option ℕ) → question_of dep5.files ≡ q → text_unless q dep5 ≡ Ok text → IsReuseToml dep5 text
    by_question (Some line) e h = cc
    by_question None e h =
        let parts = given_text (nat_lt LONGEST_FILE (length (toml_text dep5)))
        (is_table (read_toml (toml_text dep5)) (table_of dep5)) (toml_text dep5) text h in
        subst (IsReuseToml dep5) parts.2 (record {
          no_question = e;
          stated = refl;
          fits = not_over LONGEST_FILE (length (toml_text dep5)) parts.0;
          reads_back = found_table (read_toml (toml_text dep5)) dep5 parts.1;
        })

pub text_given : (dep5 : Dep5Value) (text : List ℕ) → IsReuseToml dep5 text → toml_of dep5 ≡ Ok text
text_given dep5 text is =
    ap (λ q. text_unless q dep5) is.no_question
    ∙ both (nat_lt LONGEST_FILE (length (toml_text dep5))) (is_table (read_toml (toml_text dep5)) (table_of dep5))
    (not_longer LONGEST_FILE (length (toml_text dep5)) (subst (λ t. length t ≤ LONGEST_FILE) is.stated is.fits))
    (read_back dep5 (read_toml (toml_text dep5)) (ap read_toml (sym is.stated) ∙ is.reads_back))
    ∙ ap (λ t. Ok t) (sym is.stated)
  where
    not_longer : (most n : ℕ) → n ≤ most → nat_lt most n ≡ false
    not_longer most n h = grind (arith, nat_tests)

    both : (long same : Bool) → long ≡ false → same ≡ true → given long same (toml_text dep5) ≡ Ok (toml_text dep5)
    both true same e f = absurd (false≢true (sym e))
    both false true e f = refl
    both false false e f = absurd (false≢true f)

-- ---- the refusal of a dep5

-- a refusal to write that isn't an allocation failure
abbrev IsStatedRefusal : Dep5Value → Dep5Refusal → Type 0
IsStatedRefusal dep5 e = IsTomlRefusal dep5 e × (e ≢ refusal.Memory)

given_refusal : (dep5 : Dep5Value) (long same : Bool) (e : Dep5Refusal) → question_of dep5.files ≡ None
    → nat_lt LONGEST_FILE (length (toml_text dep5)) ≡ long → is_table (read_toml (toml_text dep5))
    (table_of dep5) ≡ same → given long same (toml_text dep5) ≡ Err e → IsStatedRefusal dep5 e
given_refusal dep5 true same e none long_is same_is h =
    subst (IsStatedRefusal dep5) (let f : refusal.TooLong ≡ e = cc in f)
    ((none, over LONGEST_FILE (length (toml_text dep5)) long_is), λ f. cc)
given_refusal dep5 false true e none long_is same_is h = cc
given_refusal dep5 false false e none long_is same_is h =
    subst (IsStatedRefusal dep5) (let f : refusal.NotToml ≡ e = cc in f) (
      (
        none,
        not_over LONGEST_FILE (length (toml_text dep5)) long_is,
        no_table (read_toml (toml_text dep5)) dep5 same_is,
      ),
      λ f. cc,
    )

pub refusal_is : (dep5 : Dep5Value) (e : Dep5Refusal) → toml_of dep5 ≡ Err e → IsStatedRefusal dep5 e
refusal_is dep5 e = by_question (question_of dep5.files) refl
  where
    by_question : (q : Option ℕ) → question_of dep5.files ≡ q → text_unless q dep5 ≡ Err e → IsStatedRefusal dep5 e
    by_question (Some line) f h =
        subst (IsStatedRefusal dep5) (let g : refusal.Question line ≡ e = cc in g) (f, λ g. cc)
    by_question None f h =
        given_refusal dep5 (nat_lt LONGEST_FILE (length (toml_text dep5)))
        (is_table (read_toml (toml_text dep5)) (table_of dep5)) e f refl refl h

-- ---- the text of the bytes of a dep5

pub converted_text : (bytes text : List ℕ)
    → (converted bytes ≡ Ok text) ↔ ((dep5 : Dep5Value) × (dep5_of bytes ≡ Ok dep5) × IsReuseToml dep5 text)
unfolding converted
converted_text bytes text =
    (read (dep5_of bytes) refl, λ found. ap converted_from found.1 ∙ text_given found.0 text found.2)
  where
    read : (r : Result Dep5Value Dep5Refusal) → dep5_of bytes ≡ r → converted_from r ≡ Ok text
        → (dep5 : Dep5Value) × (dep5_of bytes ≡ Ok dep5) × IsReuseToml dep5 text
    read (Ok dep5) e h = (dep5, e, text_is dep5 text h)
    read (Err refused) e h = cc

pub converted_fits : (bytes text : List ℕ) → converted bytes ≡ Ok text → length text ≤ LONGEST_FILE
converted_fits bytes text h =
    let found = (converted_text bytes text).0 h in
    found.2.fits

-- ---- the refusal of the bytes of a dep5

bad_dep5 : (number : ℕ) (cause : Dep5Cause) → refusal.BadDep5 number cause ≢ refusal.Memory
bad_dep5 number cause e = cc

never_memory : (bytes : List ℕ) → dep5_of bytes ≢ Err refusal.Memory
never_memory bytes = by_test (is_utf8 bytes)
  where
    by_test : (b : Bool)
        → cond b (paragraphs_of (paragraphs (dep5_lines bytes))) (Err refusal.NotUtf8) ≢ Err refusal.Memory
    by_test true h = let fault = refused (paragraphs (dep5_lines bytes)) refusal.Memory h in
        bad_dep5 fault.0 fault.1 fault.2
    by_test false h = cc

-- the refusal is that of the dep5, or that of its text
abbrev pub IsConversionRefusal : List ℕ → Dep5Refusal → Type 0
IsConversionRefusal bytes e = (e ≢ refusal.Memory)
    × ((dep5_of bytes ≡ Err e) ⊎ ((dep5 : Dep5Value) × (dep5_of bytes ≡ Ok dep5) × IsTomlRefusal dep5 e))

stated : (e : Dep5Refusal) (r : Result (List ℕ) Dep5Refusal) → e ≢ refusal.Memory → IsRefusalOf e r → r ≡ Err e
stated refusal.Memory r other h = absurd (other refl)
stated e r other h = h

pub converted_refusal : (bytes : List ℕ) (e : Dep5Refusal) → (converted bytes ≡ Err e) ↔ IsConversionRefusal bytes e
unfolding converted
converted_refusal bytes e = (read (dep5_of bytes) refl, back)
  where
    read : (r : Result Dep5Value Dep5Refusal) → dep5_of bytes ≡ r → converted_from r ≡ Err e
        → IsConversionRefusal bytes e
    read (Ok dep5) f h = let is = refusal_is dep5 e h in (is.1, inr (dep5, f, is.0))
    read (Err d) f h =
        let same : d ≡ e = cc in
        let whole : dep5_of bytes ≡ Err e = f ∙ ap Err same in
        (λ g. never_memory bytes (whole ∙ ap Err g), inl whole)

    back : IsConversionRefusal bytes e → converted_from (dep5_of bytes) ≡ Err e
    back is =
        elim is.1 [
          | inl f ↦ ap converted_from f
          | inr found ↦
              ap converted_from found.1 ∙ stated e (toml_of found.0) is.0 (toml_answer found.0 (Err e) tt found.2)
        ]
