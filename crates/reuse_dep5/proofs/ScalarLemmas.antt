-- What a pattern that was read names are characters.
use Rattle.std.proofs.Common.{◌≡◌, inl, inr, ℕ, Bool, true, false, cond, List, [], ◌∷◌, Option, Some, None, Ok, refl}
use Rattle.std.proofs.Common.{sym, ap, subst, ◌∙◌}
use Rattle.std.specs.Prelude.{◌==◌}
use lib.Utf8.{scalar}
use Rattle.std.specs.List.{list_all}
use Rattle.std.specs.Str.{chars, is_utf8, all_scalars}
use Rattle.std.proofs.lemmas.List.Folds.{list_all-append}
use Rattle.std.proofs.lemmas.Str.{IsUtf8-from_is_utf8, chars-encodes}
use Rattle.reuse_dep5.specs.declared.pattern.PatternPiece.{PatternPiece}
use Rattle.reuse_dep5.specs.declared.pattern.PatternPiece.TheVariants.{Literal, AnyCharacter, AnyRun}
use Rattle.reuse_dep5.specs.PatternValue.{PatternValue}
use Rattle.reuse_dep5.specs.SourceText.{NumberedLine}
use Rattle.reuse_dep5.specs.PatternText.{is_special, piece_of, onto_pieces, pieces_after, word_pieces, patterns_of}
use Rattle.reuse_dep5.specs.Dep5.{FilesValue, later_of, laters_of}
use Rattle.reuse_dep5.specs.Scalars.{literals, names_characters, name_characters}
use Rattle.reuse_toml.proofs.ReadGlobLemmas.{both_parts, both_true}
use Rattle.reuse_dep5.proofs.ReadingLemmas.{patterns_ok, files_ok, later_ok, laters_ok}

-- one piece more
literal_more : (c : ℕ) (pieces : List PatternPiece) → scalar c ≡ true → all_scalars (literals pieces) ≡ true
    → all_scalars (literals (piece_of c ∷ pieces)) ≡ true
literal_more c pieces e f = by_star (c == 42) (c == 63)
  where
    by_star : (s q : Bool) → all_scalars (literals (cond s AnyRun (cond q AnyCharacter (Literal c)) ∷ pieces)) ≡ true
    by_star true q = f
    by_star false true = f
    by_star false false = both_true (scalar c) (all_scalars (literals pieces)) e f

onto_some : (piece : PatternPiece) (spelled : Option (List PatternPiece)) (pieces : List PatternPiece)
    → onto_pieces piece spelled ≡ Some pieces
    → (rest : List PatternPiece) × (spelled ≡ Some rest) × (piece ∷ rest ≡ pieces)
onto_some piece None pieces e = cc
onto_some piece (Some rest) pieces e = (rest, refl, cc)

piece_scalars : (c : ℕ) (piece : PatternPiece) (spelled : Option (List PatternPiece)) (pieces : List PatternPiece)
    → ((rest : List PatternPiece) → all_scalars (literals rest) ≡ true → all_scalars (literals (piece ∷ rest)) ≡ true)
    → ((rest : List PatternPiece) → spelled ≡ Some rest → all_scalars (literals rest) ≡ true)
    → onto_pieces piece spelled ≡ Some pieces → all_scalars (literals pieces) ≡ true
piece_scalars c piece spelled pieces more rec e =
    let found = onto_some piece spelled pieces e in
    subst (λ (ps : List PatternPiece). all_scalars (literals ps) ≡ true) found.2 (more found.0 (rec found.0 found.1))

pieces_scalars : (behind : Bool) (cs : List ℕ) (pieces : List PatternPiece) → all_scalars cs ≡ true
    → pieces_after behind cs ≡ Some pieces → all_scalars (literals pieces) ≡ true
pieces_scalars true [] pieces s e = cc
pieces_scalars false [] pieces s e = let same : [] ≡ pieces = cc in ap (λ ps. all_scalars (literals ps)) (sym same)
pieces_scalars true (c ∷ cs) pieces s e =
    let parts = both_parts (scalar c) (all_scalars cs) s in
    by_test (is_special c) (λ rest. pieces_scalars false cs rest parts.1) parts.0 e
  where
    by_test : (b : Bool)
        → ((rest : List PatternPiece) → pieces_after false cs ≡ Some rest → all_scalars (literals rest) ≡ true)
        → scalar c ≡ true → cond b (onto_pieces (Literal c) (pieces_after false cs)) None ≡ Some pieces
        → all_scalars (literals pieces) ≡ true
    by_test true rec here f =
        piece_scalars c (Literal c) (pieces_after false cs) pieces
        (λ rest g. both_true (scalar c) (all_scalars (literals rest)) here g) rec f
    by_test false rec here f = cc
pieces_scalars false (c ∷ cs) pieces s e =
    let parts = both_parts (scalar c) (all_scalars cs) s in
    by_test (c == 92) (λ rest. pieces_scalars true cs rest parts.1)
    (λ rest. pieces_scalars false cs rest parts.1) parts.0 e
  where
    by_test : (b : Bool)
        → ((rest : List PatternPiece) → pieces_after true cs ≡ Some rest → all_scalars (literals rest) ≡ true)
        → ((rest : List PatternPiece) → pieces_after false cs ≡ Some rest → all_scalars (literals rest) ≡ true)
        → scalar c ≡ true → cond b (pieces_after true cs)
        (onto_pieces (piece_of c) (pieces_after false cs)) ≡ Some pieces → all_scalars (literals pieces) ≡ true
    by_test true behind rec here f = behind pieces f
    by_test false behind rec here f =
        piece_scalars c (piece_of c) (pieces_after false cs) pieces (λ rest g. literal_more c rest here g) rec f

word_scalars : (word : List ℕ) (pieces : List PatternPiece) → word_pieces word ≡ Some pieces
    → all_scalars (literals pieces) ≡ true
word_scalars word pieces e = by_test (is_utf8 word) refl e
  where
    by_test : (b : Bool) → is_utf8 word ≡ b → cond b (pieces_after false (chars word)) None ≡ Some pieces
        → all_scalars (literals pieces) ≡ true
    by_test true utf8 f =
        let u = IsUtf8-from_is_utf8 word utf8 in
        let same : chars word ≡ u.0 = ap chars (sym u.1.1) ∙ chars-encodes u.0 u.1.0 in
        pieces_scalars false (chars word) pieces (ap all_scalars same ∙ u.1.0) f
    by_test false utf8 f = cc

patterns_scalars : (words : List NumberedLine) (patterns : List PatternValue) → patterns_of words ≡ Ok patterns
    → list_all names_characters patterns ≡ true
patterns_scalars [] patterns e = let same : [] ≡ patterns = cc in ap (list_all names_characters) (sym same)
patterns_scalars (word ∷ words) patterns e =
    let found = patterns_ok word.number (word_pieces word.content) (patterns_of words) patterns e in
    ap (list_all names_characters) (sym found.4)
    ∙ both_true (all_scalars (literals found.0)) (list_all names_characters found.1)
    (word_scalars word.content found.0 found.2) (patterns_scalars words found.1 found.3)

later_scalars : (p : List NumberedLine) (fs : List FilesValue) → later_of p ≡ Ok fs → name_characters fs ≡ true
later_scalars p fs e =
    elim (later_ok p fs e).1 [
      | inl none ↦ ap name_characters (sym none.2)
      | inr some ↦
          let found = some.1 in
          ap name_characters (sym found.2)
          ∙ both_true (list_all names_characters found.0.patterns) true
          (patterns_scalars _ found.0.patterns (files_ok p found.0 found.1).1) refl
    ]

pub laters_scalars : (ps : List (List NumberedLine)) (fs : List FilesValue) → laters_of ps ≡ Ok fs
    → name_characters fs ≡ true
laters_scalars [] fs e = let same : [] ≡ fs = cc in ap name_characters (sym same)
laters_scalars (p ∷ ps) fs e =
    let found = laters_ok p ps fs e in
    ap name_characters (sym found.4)
    ∙ list_all-append (λ (f : FilesValue). list_all names_characters f.patterns) found.0 found.1
    ∙ both_true (name_characters found.0) (name_characters found.1) (later_scalars p found.0 found.2)
    (laters_scalars ps found.1 found.3)
