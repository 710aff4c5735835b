-- The text of a glob, read as a glob again, is that glob.
use Rattle.std.proofs.Common.{◌≡◌, ℕ, ◌&&◌, Bool, true, false, cond, List, [], ◌∷◌, ◌++◌, Option, Some, None, refl, sym}
use Rattle.std.proofs.Common.{ap, ◌∙◌, append_assoc}
use Rattle.std.specs.Prelude.{◌==◌, encode_utf8, encode_utf8_all}
use Rattle.std.specs.Str.{chars, all_scalars, is_utf8, IsUtf8}
use lib.Utf8.{scalar, encode}
use Rattle.std.proofs.lemmas.Bool.{eqb-true, false≢true}
use Rattle.std.proofs.lemmas.List.{append-nil}
use Rattle.std.proofs.lemmas.Str.{chars-encodes, encodes-append, IsUtf8-from_is_utf8}
use Rattle.reuse_toml.specs.declared.glob.GlobPiece.{GlobPiece}
use Rattle.reuse_toml.specs.declared.glob.GlobPiece.TheVariants.{Literal, RunInPart, AnyRun}
use Rattle.reuse_toml.specs.GlobText.{piece_text, glob_text, onto_glob, read_glob, glob_literals, begins_with_run}
use Rattle.reuse_toml.specs.GlobText.{HasRunsApart}

-- the characters of a piece, as it is written
abbrev pub piece_chars : GlobPiece → List ℕ
piece_chars (Literal c) = cond (c == 42) (92 ∷ 42 ∷ []) (cond (c == 92) (92 ∷ 92 ∷ []) (c ∷ []))
piece_chars RunInPart = 42 ∷ []
piece_chars AnyRun = 42 ∷ 42 ∷ []

abbrev pub glob_chars : List GlobPiece → List ℕ
glob_chars [] = []
glob_chars (piece ∷ pieces) = piece_chars piece ++ glob_chars pieces

-- a plain character is read as itself
read_plain : (c : ℕ) (cs : List ℕ) → (c == 42) ≡ false → (c == 92) ≡ false
    → read_glob (c ∷ cs) ≡ onto_glob (Literal c) (read_glob cs)
read_plain c [] star back = rw (back, star) refl
read_plain c (d ∷ cs) star back = rw (back, star) refl

read_literal : (c : ℕ) (cs : List ℕ) (glob : List GlobPiece) → read_glob cs ≡ Some glob
    → read_glob (piece_chars (Literal c) ++ cs) ≡ Some (Literal c ∷ glob)
read_literal c cs glob e = by_star (c == 42) refl (c == 92) refl
  where
    by_star : (s : Bool) → (c == 42) ≡ s → (b : Bool) → (c == 92) ≡ b
        → read_glob (cond s (92 ∷ 42 ∷ []) (cond b (92 ∷ 92 ∷ []) (c ∷ [])) ++ cs) ≡ Some (Literal c ∷ glob)
    by_star true star b back =
        ap (onto_glob (Literal 42)) e ∙ ap (λ x. Some (Literal x ∷ glob)) (sym (eqb-true c 42 star))
    by_star false star true back =
        ap (onto_glob (Literal 92)) e ∙ ap (λ x. Some (Literal x ∷ glob)) (sym (eqb-true c 92 back))
    by_star false star false back = read_plain c cs star back ∙ ap (onto_glob (Literal c)) e

-- a `*` that no other follows
abbrev begins_with_star : List ℕ → Bool
begins_with_star [] = false
begins_with_star (c ∷ cs) = c == 42

read_star : (cs : List ℕ) (glob : List GlobPiece) → begins_with_star cs ≡ false → read_glob cs ≡ Some glob
    → read_glob (42 ∷ cs) ≡ Some (RunInPart ∷ glob)
read_star [] glob apart e = ap (onto_glob RunInPart) e
read_star (d ∷ cs) glob apart e = rw apart (ap (onto_glob RunInPart) e)

apart_chars : (pieces : List GlobPiece) → begins_with_run pieces ≡ false → begins_with_star (glob_chars pieces) ≡ false
apart_chars [] e = refl
apart_chars (Literal c ∷ pieces) e = by_star (c == 42) refl (c == 92)
  where
    by_star : (s : Bool) → (c == 42) ≡ s → (b : Bool)
        → begins_with_star (cond s (92 ∷ 42 ∷ []) (cond b (92 ∷ 92 ∷ []) (c ∷ [])) ++ glob_chars pieces) ≡ false
    by_star true star b = refl
    by_star false star true = refl
    by_star false star false = star
apart_chars (RunInPart ∷ pieces) e = absurd (false≢true (sym e))
apart_chars (AnyRun ∷ pieces) e = absurd (false≢true (sym e))

pub read_chars : (glob : List GlobPiece) → HasRunsApart glob → read_glob (glob_chars glob) ≡ Some glob
read_chars [] apart = refl
read_chars (Literal c ∷ pieces) apart = read_literal c (glob_chars pieces) pieces (read_chars pieces apart)
read_chars (RunInPart ∷ pieces) apart =
    read_star (glob_chars pieces) pieces (apart_chars pieces apart.0) (read_chars pieces apart.1)
read_chars (AnyRun ∷ pieces) apart = ap (onto_glob AnyRun) (read_chars pieces apart)

-- the text is the UTF-8 of these characters
piece_encoded : (piece : GlobPiece) → encode_utf8_all (piece_chars piece) ≡ piece_text piece
unfolding encode
piece_encoded (Literal c) = by_star (c == 42) (c == 92)
  where
    by_star : (s b : Bool) → encode_utf8_all (cond s (92 ∷ 42 ∷ []) (cond b (92 ∷ 92 ∷ []) (c ∷ []))) ≡ cond s
        (92 ∷ 42 ∷ []) (cond b (92 ∷ 92 ∷ []) (encode_utf8 c))
    by_star true b = refl
    by_star false true = refl
    by_star false false = append-nil (encode_utf8 c)
piece_encoded RunInPart = refl
piece_encoded AnyRun = refl

glob_encoded : (glob : List GlobPiece) → encode_utf8_all (glob_chars glob) ≡ glob_text glob
glob_encoded [] = refl
glob_encoded (piece ∷ pieces) =
    encodes-append (piece_chars piece) (glob_chars pieces)
    ∙ ap (λ t. t ++ encode_utf8_all (glob_chars pieces)) (piece_encoded piece)
    ∙ ap (λ t. piece_text piece ++ t) (glob_encoded pieces)

-- these characters are characters where the literals are
pub both_parts : (a b : Bool) → (a && b) ≡ true → (a ≡ true) × (b ≡ true)
both_parts true b e = (refl, e)
both_parts false b e = absurd (false≢true e)

pub both_true : (a b : Bool) → a ≡ true → b ≡ true → (a && b) ≡ true
both_true a b e f = rw (e, f) refl

all_scalars-append : (cs ds : List ℕ) → all_scalars cs ≡ true → all_scalars ds ≡ true → all_scalars (cs ++ ds) ≡ true
all_scalars-append [] ds e f = f
all_scalars-append (c ∷ cs) ds e f =
    let parts = both_parts (scalar c) (all_scalars cs) e in
    both_true (scalar c) (all_scalars (cs ++ ds)) parts.0 (all_scalars-append cs ds parts.1 f)

literal_scalars : (c : ℕ) → scalar c ≡ true → all_scalars (piece_chars (Literal c)) ≡ true
literal_scalars c e = by_star (c == 42) (c == 92)
  where
    by_star : (s b : Bool) → all_scalars (cond s (92 ∷ 42 ∷ []) (cond b (92 ∷ 92 ∷ []) (c ∷ []))) ≡ true
    by_star true b = refl
    by_star false true = refl
    by_star false false = both_true (scalar c) true e refl

glob_scalars : (glob : List GlobPiece) → all_scalars (glob_literals glob) ≡ true → all_scalars (glob_chars glob) ≡ true
glob_scalars [] e = refl
glob_scalars (Literal c ∷ pieces) e =
    let parts = both_parts (scalar c) (all_scalars (glob_literals pieces)) e in
    all_scalars-append (piece_chars (Literal c)) (glob_chars pieces) (literal_scalars c parts.0)
    (glob_scalars pieces parts.1)
glob_scalars (RunInPart ∷ pieces) e = all_scalars-append (42 ∷ []) (glob_chars pieces) refl (glob_scalars pieces e)
glob_scalars (AnyRun ∷ pieces) e = all_scalars-append (42 ∷ 42 ∷ []) (glob_chars pieces) refl (glob_scalars pieces e)

-- so the text is read as the glob
pub read_text : (glob : List GlobPiece) → HasRunsApart glob → all_scalars (glob_literals glob) ≡ true
    → read_glob (chars (glob_text glob)) ≡ Some glob
read_text glob apart e =
    ap (λ t. read_glob (chars t)) (sym (glob_encoded glob))
    ∙ ap read_glob (chars-encodes (glob_chars glob) (glob_scalars glob e)) ∙ read_chars glob apart

-- what is read of a text is the pieces that were read behind which more stand
abbrev pub behind : List GlobPiece → Option (List GlobPiece) → Option (List GlobPiece)
behind pieces None = None
behind pieces (Some more) = Some (pieces ++ more)

pub behind_none : (more : Option (List GlobPiece)) → more ≡ behind [] more
behind_none None = refl
behind_none (Some more) = refl

pub behind_more : (pieces : List GlobPiece) (piece : GlobPiece) (more : Option (List GlobPiece))
    → behind pieces (onto_glob piece more) ≡ behind (pieces ++ piece ∷ []) more
behind_more pieces piece None = refl
behind_more pieces piece (Some more) = ap Some (sym (append_assoc pieces (piece ∷ []) more))

pub behind_step : (text first tail left : List ℕ) (c : ℕ) (old new : List GlobPiece) (piece : GlobPiece)
    → read_glob text ≡ behind old (read_glob first) → first ≡ c ∷ tail
    → read_glob (c ∷ tail) ≡ onto_glob piece (read_glob left) → new ≡ old ++ piece ∷ []
    → read_glob text ≡ behind new (read_glob left)
behind_step text first tail left c old new piece so at read pushed =
    so ∙ ap (λ t. behind old (read_glob t)) at ∙ ap (behind old) read ∙ behind_more old piece (read_glob left)
    ∙ ap (λ ps. behind ps (read_glob left)) (sym pushed)

-- a word that is no text does not pass the test
pub not_utf8 : (word : List ℕ) → ¬ IsUtf8 word → is_utf8 word ≡ false
not_utf8 word not = by_test (is_utf8 word) refl
  where
    by_test : (b : Bool) → is_utf8 word ≡ b → b ≡ false
    by_test true e = absurd (not (IsUtf8-from_is_utf8 word e))
    by_test false e = refl
