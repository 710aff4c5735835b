-- A text is the stated one exactly where it is read back as the stated table.
use Rattle.std.proofs.Common.{◌≡◌, ◌≢◌, ℕ, ℤ, pos, ◌<◌, ◌≤◌, Bool, true, false, cond, ◌&&◌, nat_lt, codes, List, []}
use Rattle.std.proofs.Common.{◌∷◌, length, map, Option, Some, None, Result, Ok, Err, IfOk, IfErr, refl, sym, ap, ap₂}
use Rattle.std.proofs.Common.{◌∙◌, subst, arith}
use Rattle.std.specs.Prelude.{Vec}
use Rattle.std.specs.declared.alloc.Global.{Global}
use Rattle.std.specs.Str.{bytes_eq}
use Rattle.std.proofs.lemmas.Bool.{false≢true, and_parts}
use Rattle.std.proofs.lemmas.Bool.Decides.{nat_tests, Decides-int_eq}
use Rattle.std.proofs.lemmas.Slice.Eq.{bytes_eq-Decides}
use Rattle.toml.specs.Data.{Data, string, integer, array, table, Items, no_items, item, Members, no_members, member}
use Rattle.reuse_text.specs.declared.TheConstants.{LONGEST_FILE}
use Rattle.reuse_dep5.specs.declared.refusal.Dep5Refusal.{Dep5Refusal}
use Rattle.reuse_dep5.specs.declared.refusal.Dep5Refusal.TheVariants as refusal
use Rattle.reuse_dep5.specs.SourceText.{is_nil}
use Rattle.reuse_toml.specs.GlobText.{glob_text}
use Rattle.reuse_dep5.specs.Answers.{IsRefusalOf, IsAnswer}
use Rattle.reuse_dep5.specs.Dep5.{HeaderValue, Dep5Value}
use Rattle.reuse_dep5.specs.ReuseTable.{Annotation, annotations_of, toml_text}
use Rattle.reuse_dep5.specs.ReadBack.{text_items, texts_data, with_text, members_with, annotation_members}
use Rattle.reuse_dep5.specs.ReadBack.{annotation_items, with_annotations, with_header, table_of}
use Rattle.reuse_toml.specs.TomlText.{read_toml}
use Rattle.reuse_dep5.specs.ReuseToml.{IsReuseToml, IsTomlRefusal}
use Rattle.reuse_dep5.specs.SameData.{is_string, is_integer, same_data, same_items, same_members, is_table}
use Rattle.reuse_dep5.specs.Conversion.{text_unless, toml_of, converted_from}

-- ---- what passes the test is the same

string_is : (s : List ℕ) (e : Data) → is_string s e ≡ true → string s ≡ e
string_is s (string t) h = ap string ((bytes_eq-Decides s t).0 h)
string_is s e h = absurd (false≢true h)

integer_is : (m : ℤ) (e : Data) → is_integer m e ≡ true → integer m ≡ e
integer_is m (integer n) h = ap integer ((Decides-int_eq m n).0 h)
integer_is m e h = absurd (false≢true h)

mutual
  data_is : (d e : Data) → same_data d e ≡ true → d ≡ e
  data_is (string s) e h = string_is s e h
  data_is (integer m) e h = integer_is m e h
  data_is (array ds) (array es) h = ap array (items_are ds es h)
  data_is (table ms) (table ns) h = ap table (members_are ms ns h)
  data_is d e h = absurd (false≢true h)

  items_are : (ds es : Items) → same_items ds es ≡ true → ds ≡ es
  items_are no_items no_items h = refl
  items_are (item d ds) (item e es) h =
      let parts = and_parts (same_data d e) (same_items ds es) h in
      ap₂ item (data_is d e parts.0) (items_are ds es parts.1)
  items_are ds es h = absurd (false≢true h)

  pub members_are : (ms ns : Members) → same_members ms ns ≡ true → ms ≡ ns
  members_are no_members no_members h = refl
  members_are (member k d ms) (member l e ns) h =
      let parts = and_parts (bytes_eq k l && same_data d e) (same_members ms ns) h in
      let first = and_parts (bytes_eq k l) (same_data d e) parts.0 in
      let keys : k ≡ l = (bytes_eq-Decides k l).0 first.0 in
      ap (λ x. member x d ms) keys ∙ ap (λ x. member l x ms) (data_is d e first.1)
      ∙ ap (member l e) (members_are ms ns parts.1)
  members_are ms ns h = absurd (false≢true h)

-- ---- texts, whole numbers, arrays and tables pass it

and_true : (a b : Bool) → a ≡ true → b ≡ true → (a && b) ≡ true
and_true true b e f = f
and_true false b e f = absurd (false≢true e)

same_bytes : (s : List ℕ) → bytes_eq s s ≡ true
same_bytes s = (bytes_eq-Decides s s).1 refl

-- members that are the same as themselves
record Passes (ms : Members) : Type 0 where
  same : same_members ms ms ≡ true

none_pass : Passes no_members
none_pass = record { same = refl }

-- a member, whose value passes, before others that do
passes_more : (k : List ℕ) (d : Data) (ms : Members) → same_data d d ≡ true → Passes ms → Passes (member k d ms)
passes_more k d ms e f = record {
  same = and_true (bytes_eq k k && same_data d d) (same_members ms ms)
      (and_true (bytes_eq k k) (same_data d d) (same_bytes k) e) f.same;
}

text_items_pass : (texts : List (List ℕ)) → same_items (text_items texts) (text_items texts) ≡ true
text_items_pass [] = refl
text_items_pass (text ∷ texts) = and_true (bytes_eq text text) (same_items (text_items texts) (text_items texts))
    (same_bytes text) (text_items_pass texts)

texts_pass : (texts : List (List ℕ)) → same_data (texts_data texts) (texts_data texts) ≡ true
texts_pass [] = refl
texts_pass (text ∷ []) = same_bytes text
texts_pass (text ∷ next ∷ texts) = text_items_pass (text ∷ next ∷ texts)

with_text_passes : (key text : List ℕ) (rest : Members) → Passes rest → Passes (with_text key text rest)
with_text_passes key text rest h = of_test (is_nil text)
  where
    of_test : (b : Bool) → Passes (cond b rest (member key (string text) rest))
    of_test true = h
    of_test false = passes_more key (string text) rest (same_bytes text) h

members_pass : (paths notices : List (List ℕ)) (license comment : List ℕ)
    → Passes (members_with paths notices license comment)
members_pass paths notices license comment =
    with_text_passes (codes "SPDX-FileComment") comment _
    (passes_more (codes "SPDX-FileCopyrightText") (texts_data notices) _ (texts_pass notices)
    (passes_more (codes "SPDX-License-Identifier") (string license) _ (same_bytes license)
    (passes_more (codes "path") (texts_data paths) _ (texts_pass paths)
    (passes_more (codes "precedence") (string (codes "aggregate")) no_members
    (same_bytes (codes "aggregate")) none_pass))))

annotations_pass : (annotations : List Annotation)
    → same_items (annotation_items annotations) (annotation_items annotations) ≡ true
annotations_pass [] = refl
annotations_pass (a ∷ annotations) =
    and_true (same_members (annotation_members a) (annotation_members a))
    (same_items (annotation_items annotations) (annotation_items annotations))
    (members_pass (map glob_text a.globs) a.notices a.license a.comment).same (annotations_pass annotations)

with_annotations_passes : (annotations : List Annotation) (rest : Members) → Passes rest
    → Passes (with_annotations annotations rest)
with_annotations_passes annotations rest h = of_test (is_nil annotations)
  where
    of_test : (b : Bool)
        → Passes (cond b rest (member (codes "annotations") (array (annotation_items annotations)) rest))
    of_test true = h
    of_test false =
        passes_more (codes "annotations") (array (annotation_items annotations)) rest (annotations_pass annotations) h

with_header_passes : (header : HeaderValue) (rest : Members) → Passes rest → Passes (with_header header rest)
with_header_passes header rest h =
    with_text_passes (codes "SPDX-PackageComment") header.comment _
    (with_text_passes (codes "SPDX-PackageDownloadLocation") header.source _
    (with_text_passes (codes "SPDX-PackageName") header.name _
    (with_text_passes (codes "SPDX-PackageSupplier") header.contact rest h)))

table_passes : (dep5 : Dep5Value) → Passes (table_of dep5)
table_passes dep5 =
    with_header_passes dep5.header _ (with_annotations_passes (annotations_of dep5) _
    (passes_more (codes "version") (integer (pos 1)) no_members ((Decides-int_eq (pos 1) (pos 1)).1 refl) none_pass))

-- ---- what is read back

pub read_back : (dep5 : Dep5Value) (found : Option Members) → found ≡ Some (table_of dep5)
    → is_table found (table_of dep5) ≡ true
read_back dep5 found e = ap (λ f. is_table f (table_of dep5)) e ∙ (table_passes dep5).same

pub not_read_back : (dep5 : Dep5Value) (found : Option Members) → found ≢ Some (table_of dep5)
    → is_table found (table_of dep5) ≡ false
not_read_back dep5 None other = refl
not_read_back dep5 (Some members) other = of_test (same_members members (table_of dep5)) refl
  where
    of_test : (b : Bool) → same_members members (table_of dep5) ≡ b → b ≡ false
    of_test true e = absurd (other (ap (λ ms. Some ms) (members_are members (table_of dep5) e)))
    of_test false e = refl

-- ---- the text

not_longer : (most n : ℕ) → n ≤ most → nat_lt most n ≡ false
not_longer most n h = grind (arith, nat_tests)

longer : (most n : ℕ) → most < n → nat_lt most n ≡ true
longer most n h = grind (arith, nat_tests)

abbrev refused : Dep5Refusal → Result (List ℕ) Dep5Refusal
refused e = Err e

by_tests : (a b : Bool) (x y : Dep5Refusal) (text : List ℕ) (c d : Bool) → a ≡ c → b ≡ d
    → cond a (refused x) (cond b (Ok text) (refused y)) ≡ cond c (refused x) (cond d (Ok text) (refused y))
by_tests a b x y text c d e f = ap₂ (λ p q. cond p (refused x) (cond q (Ok text) (refused y))) e f

abbrev pub items_of : Vec ℕ Global → List ℕ
items_of text = text.items

-- what is answered to a dep5 is its text
pub toml_answer : (dep5 : Dep5Value) (result : Result (Vec ℕ Global) Dep5Refusal) → IfOk result
    (λ text. IsReuseToml dep5 text.items) → IfErr result (IsTomlRefusal dep5) → IsAnswer items_of result (toml_of dep5)
toml_answer dep5 (Ok text) ok err =
    ap (λ q. text_unless q dep5) ok.no_question
    ∙ by_tests _ _ refusal.TooLong refusal.NotToml (toml_text dep5) false true
    (not_longer LONGEST_FILE (length (toml_text dep5)) (subst (λ t. length t ≤ LONGEST_FILE) ok.stated ok.fits))
    (read_back dep5 (read_toml (toml_text dep5)) (ap read_toml (sym ok.stated) ∙ ok.reads_back))
    ∙ ap (λ t. Ok t) (sym ok.stated)
toml_answer dep5 (Err refusal.NotUtf8) ok err = absurd err
toml_answer dep5 (Err (refusal.BadDep5 line cause)) ok err = absurd err
toml_answer dep5 (Err (refusal.Question line)) ok err = ap (λ q. text_unless q dep5) err
toml_answer dep5 (Err refusal.TooLong) ok err =
    ap (λ q. text_unless q dep5) err.0
    ∙ ap (λ b. cond b (refused refusal.TooLong) (cond (is_table (read_toml (toml_text dep5)) (table_of dep5))
    (Ok (toml_text dep5)) (refused refusal.NotToml))) (longer LONGEST_FILE (length (toml_text dep5)) err.1)
toml_answer dep5 (Err refusal.NotToml) ok err =
    ap (λ q. text_unless q dep5) err.0
    ∙ by_tests _ _ refusal.TooLong refusal.NotToml (toml_text dep5) false false
    (not_longer LONGEST_FILE (length (toml_text dep5)) err.1) (not_read_back dep5 (read_toml (toml_text dep5)) err.2)
toml_answer dep5 (Err refusal.Memory) ok err = tt

-- a refusal of the dep5 is that of its conversion
pub refusal_stays : (e : Dep5Refusal) (given : Result Dep5Value Dep5Refusal) → IsRefusalOf e given
    → IsRefusalOf e (converted_from given)
refusal_stays refusal.Memory given h = tt
refusal_stays e given h = ap converted_from h

-- a text that is answered isn't too long
pub text_fits : (dep5 : Dep5Value) (result : Result (Vec ℕ Global) Dep5Refusal)
    → IfOk result (λ text. IsReuseToml dep5 text.items) → IfOk result (λ text. length text.items ≤ LONGEST_FILE)
text_fits dep5 (Ok text) ok = ok.fits
text_fits dep5 (Err e) ok = tt
