-- The `path` texts of the stated table, read as globs, answer each path as the dep5 does.
use Rattle.std.proofs.Common.{◌≡◌, ◌↔◌, ℕ, Bool, true, false, cond, List, [], ◌∷◌, map, Option, Some, None, refl, sym}
use Rattle.std.proofs.Common.{ap, subst, ◌∙◌}
use Rattle.std.specs.Prelude.{codes, IsTrue}
use Rattle.std.specs.Cmp.Lexicographic.{slice_cmp}
use Rattle.std.specs.List.{list_all}
use Rattle.std.specs.Ordering.{nat_cmp, is_eq, match_ordering}
use Rattle.std.specs.declared.cmp.Ordering.{Ordering}
use Rattle.std.specs.declared.cmp.Ordering.TheVariants.{Less, Equal, Greater}
use Rattle.std.specs.Str.{all_scalars}
use Rattle.std.proofs.lemmas.Bool.{false≢true}
use Rattle.toml.specs.Data.{Data, Members, get_member}
use Rattle.reuse_dep5.specs.declared.pattern.PatternPiece.{PatternPiece}
use Rattle.reuse_dep5.specs.declared.pattern.PatternPiece.TheVariants as pattern
use Rattle.reuse_toml.specs.declared.glob.GlobPiece.{GlobPiece}
use Rattle.reuse_toml.specs.declared.glob.GlobPiece.TheVariants as glob
use Rattle.reuse_dep5.specs.PatternValue.{PatternValue}
use Rattle.reuse_dep5.specs.Dep5.{FilesValue, Dep5Value}
use Rattle.reuse_dep5.specs.PatternMatch.{Matches}
use Rattle.reuse_toml.specs.GlobMatch.{GlobMatches}
use Rattle.reuse_dep5.specs.Translation.{has_question, starts_with_run, translated}
use Rattle.reuse_toml.specs.GlobText.{glob_text, glob_literals, HasRunsApart}
use Rattle.reuse_dep5.specs.Scalars.{literals, names_characters, name_characters}
use Rattle.reuse_dep5.specs.ReuseTable.{Annotation, annotation_of, annotations_of}
use Rattle.reuse_dep5.specs.ReadBack.{text_items, texts_data, with_text, members_with, annotation_members}
use Rattle.reuse_dep5.specs.ReadBack.{annotation_items, with_annotations, table_of}
use Rattle.reuse_toml.specs.TomlText.{read_toml}
use Rattle.reuse_dep5.specs.LastMatch.{SomePasses, IsLast, PatternsMatch, IsDep5Answer, texts_among, tables_among}
use Rattle.reuse_dep5.specs.LastMatch.{texts_in, tables_in, PathMatches, PathsMatch, IsWrittenAnswer}
use Rattle.reuse_dep5.specs.ReuseToml.{question_in, question_of}
use Rattle.reuse_toml.proofs.ReadGlobLemmas.{read_text, both_parts}
use Rattle.reuse_dep5.proofs.TableLemmas.{StandFor, passes_same, last_same, first_none, or_else_none}
use Rattle.reuse_dep5.proofs.TranslationLemmas.{translated_same}

-- a translation has no `*` but in `**`, and names what the pattern names
translated_apart : (pieces : List PatternPiece) → HasRunsApart (translated pieces)
translated_apart [] = tt
translated_apart (pattern.Literal c ∷ pieces) = translated_apart pieces
translated_apart (pattern.AnyCharacter ∷ pieces) = translated_apart pieces
translated_apart (pattern.AnyRun ∷ pieces) = by_test (translated_apart pieces) (starts_with_run pieces)
  where
    by_test : HasRunsApart (translated pieces) → (b : Bool)
        → HasRunsApart (cond b (translated pieces) (glob.AnyRun ∷ translated pieces))
    by_test rec true = rec
    by_test rec false = rec

translated_literals : (pieces : List PatternPiece) → glob_literals (translated pieces) ≡ literals pieces
translated_literals [] = refl
translated_literals (pattern.Literal c ∷ pieces) = ap (λ cs. c ∷ cs) (translated_literals pieces)
translated_literals (pattern.AnyCharacter ∷ pieces) = translated_literals pieces
translated_literals (pattern.AnyRun ∷ pieces) = by_test (translated_literals pieces) (starts_with_run pieces)
  where
    by_test : glob_literals (translated pieces) ≡ literals pieces → (b : Bool)
        → glob_literals (cond b (translated pieces) (glob.AnyRun ∷ translated pieces)) ≡ literals pieces
    by_test rec true = rec
    by_test rec false = rec

-- a written text, read as a glob, matches what the pattern matches
path_same : (pieces : List PatternPiece) (path : List ℕ) → has_question pieces ≡ false
    → all_scalars (literals pieces) ≡ true → PathMatches path (glob_text (translated pieces)) ↔ Matches pieces path
path_same pieces path none named =
    let read =
    read_text (translated pieces) (translated_apart pieces) (ap all_scalars (translated_literals pieces) ∙ named) in
    let same = translated_same pieces none path in (
      λ m. same.0
          (subst (λ (g : List GlobPiece). GlobMatches g path) (inner m.0 (translated pieces) (sym m.1 ∙ read)) m.2),
      λ m. (translated pieces, read, same.1 m),
    )
  where
    inner : (g h : List GlobPiece) → Some g ≡ Some h → g ≡ h
    inner g h e = cc

-- the texts at `path`
among_texts : (texts : List (List ℕ)) → texts_among (text_items texts) ≡ texts
among_texts [] = refl
among_texts (text ∷ texts) = ap (λ ts. text ∷ ts) (among_texts texts)

in_texts : (texts : List (List ℕ)) → texts_in (Some (texts_data texts)) ≡ texts
in_texts [] = refl
in_texts (text ∷ []) = refl
in_texts (text ∷ next ∷ texts) = among_texts (text ∷ next ∷ texts)

path_member : (paths notices : List (List ℕ)) (license comment : List ℕ)
    → get_member (codes "path") (members_with paths notices license comment) ≡ Some (texts_data paths)
path_member paths notices license [] = refl
path_member paths notices license (c ∷ comment) = refl

-- the tables at `annotations`
other_key : (o : Ordering) (found other : Option Data) → is_eq o ≡ false → match_ordering o other found other ≡ other
other_key Less found other e = refl
other_key Equal found other e = absurd (false≢true (sym e))
other_key Greater found other e = refl

past_text : (key other text : List ℕ) (rest : Members) → is_eq (slice_cmp nat_cmp key other) ≡ false
    → get_member key (with_text other text rest) ≡ get_member key rest
past_text key other [] rest e = refl
past_text key other (c ∷ text) rest e = other_key (slice_cmp nat_cmp key other) _ (get_member key rest) e

among_tables : (annotations : List Annotation)
    → tables_among (annotation_items annotations) ≡ map annotation_members annotations
among_tables [] = refl
among_tables (a ∷ more) = ap (λ ms. annotation_members a ∷ ms) (among_tables more)

with_records : (annotations : List Annotation) (rest : Members)
    → tables_in (get_member (codes "annotations") rest) ≡ [] → tables_in
    (get_member (codes "annotations") (with_annotations annotations rest)) ≡ map annotation_members annotations
with_records [] rest none = none
with_records (a ∷ more) rest none = among_tables (a ∷ more)

records_in : (dep5 : Dep5Value)
    → tables_in (get_member (codes "annotations") (table_of dep5)) ≡ map annotation_members (annotations_of dep5)
records_in dep5 =
    ap tables_in (
    past_text (codes "annotations") (codes "SPDX-PackageComment") dep5.header.comment _ refl
    ∙ past_text (codes "annotations") (codes "SPDX-PackageDownloadLocation") dep5.header.source _ refl
    ∙ past_text (codes "annotations") (codes "SPDX-PackageName") dep5.header.name _ refl
    ∙ past_text (codes "annotations") (codes "SPDX-PackageSupplier") dep5.header.contact _ refl)
    ∙ with_records (annotations_of dep5) _ refl

-- each written text stands for its pattern, and each written record for its paragraph
abbrev TextOf : List ℕ → PatternValue → Type 0
TextOf text pattern = (path : List ℕ) → PathMatches path text ↔ Matches pattern.pieces path

texts_stand : (ps : List PatternValue) → question_in ps ≡ None → list_all names_characters ps ≡ true
    → StandFor TextOf (map glob_text (map (λ (p : PatternValue). translated p.pieces) ps)) ps
texts_stand [] e named = tt
texts_stand (p ∷ ps) e named =
    let h = first_none (has_question p.pieces) p.line (question_in ps) e in
    let n = both_parts (names_characters p) (list_all names_characters ps) named in
    (λ path. path_same p.pieces path h.0 n.0, texts_stand ps h.1 n.1)

abbrev WrittenRecordOf : Members → FilesValue → Type 0
WrittenRecordOf members files = (path : List ℕ) → PathsMatch path members ↔ PatternsMatch path files

record_stands : (f : FilesValue) → question_in f.patterns ≡ None → list_all names_characters f.patterns ≡ true
    → WrittenRecordOf (annotation_members (annotation_of f)) f
record_stands f e named = λ path.
    let texts : List (List ℕ) = map glob_text (map (λ (p : PatternValue). translated p.pieces) f.patterns) in
    let at : texts_in (get_member (codes "path") (annotation_members (annotation_of f))) ≡ texts =
    ap texts_in (path_member texts f.notices f.license f.comment) ∙ in_texts texts in
    subst (λ (ts : List (List ℕ)). SomePasses (PathMatches path) ts ↔ PatternsMatch path f) (sym at)
    ((passes_same TextOf (PathMatches path) (λ (p : PatternValue). Matches p.pieces path)
    (λ t p same. same path) texts f.patterns (texts_stand f.patterns e named)).0)

records_stand : (fs : List FilesValue) → question_of fs ≡ None → name_characters fs ≡ true
    → StandFor WrittenRecordOf (map annotation_members (map annotation_of fs)) fs
records_stand [] e named = tt
records_stand (f ∷ fs) e named =
    let h = or_else_none (question_in f.patterns) (question_of fs) e in
    let n = both_parts (list_all names_characters f.patterns) (name_characters fs) named in
    (record_stands f h.0 n.0, records_stand fs h.1 n.1)

pub written_agrees : (dep5 : Dep5Value) (document : Members) → document ≡ table_of dep5 → question_of dep5.files ≡ None
    → name_characters dep5.files ≡ true → (path : List ℕ) (k : ℕ)
    → IsWrittenAnswer document path k ↔ IsDep5Answer dep5 path k
written_agrees dep5 document is none named path k =
    let at : tables_in (get_member (codes "annotations") document) ≡ map annotation_members (annotations_of dep5) =
    ap (λ d. tables_in (get_member (codes "annotations") d)) is ∙ records_in dep5 in
    subst (λ (ms : List Members). IsLast (PathsMatch path) ms k ↔ IsDep5Answer dep5 path k) (sym at)
    (last_same WrittenRecordOf (PathsMatch path) (PatternsMatch path) (λ m f same. same path)
    (map annotation_members (annotations_of dep5)) dep5.files k (records_stand dep5.files none named))

-- a text that was read back
pub written_from : (dep5 : Dep5Value) (text seen : List ℕ) (same : Bool) → seen ≡ text → same ≡ true
    → IsTrue same ↔ (read_toml seen ≡ Some (table_of dep5)) → question_of dep5.files ≡ None
    → name_characters dep5.files ≡ true → (document : Members) → read_toml text ≡ Some document
    → (path : List ℕ) (k : ℕ) → IsWrittenAnswer document path k ↔ IsDep5Answer dep5 path k
written_from dep5 text seen same is holds back none named document read =
    let e : read_toml text ≡ Some (table_of dep5) = ap read_toml (sym is) ∙ back.0 holds in
    written_agrees dep5 document (inner document (table_of dep5) (sym read ∙ e)) none named
  where
    inner : (m n : Members) → Some m ≡ Some n → m ≡ n
    inner m n h = cc
