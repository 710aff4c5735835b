-- A text is its pieces; an amended text has each of them but strings and commas.
use Rattle.std.proofs.Common.{◌≡◌, ◌⊎◌, inl, inr, ℕ, zero, suc, ◌+◌, ◌-◌, ◌<◌, Bool, true, false, List, [], ◌∷◌, ◌++◌}
use Rattle.std.proofs.Common.{take, drop, refl, sym, ap, ◌∙◌, arith, cond, append_assoc}
use Rattle.std.specs.Prelude.{Result, Ok, Err, is_ok, flat_map, ◌==◌, slice_index}
use Rattle.std.specs.List.{prefix_len}
use Rattle.std.proofs.lemmas.Bool.{false≢true}
use Rattle.std.proofs.lemmas.List.{take-append-drop, append-nil}
use Rattle.reuse_amend.specs.declared.amendments.Amendments.{Amendments}
use Rattle.reuse_toml.specs.declared.toml_pieces.PieceKind.{PieceKind}
use Rattle.reuse_toml.specs.declared.toml_pieces.PieceKind.TheVariants.{Comma, Text}
use Rattle.reuse_toml.specs.declared.toml_places.TomlPlace.{TomlPlace}
use Rattle.reuse_toml.specs.declared.toml_places.TomlPlace.TheVariants.{Line, Value, Values}
use Rattle.reuse_toml.specs.declared.toml_values.AmendTomlRefusal.{AmendTomlRefusal}
use Rattle.reuse_toml.specs.declared.toml_values.NewPiece.{NewPiece}
use Rattle.reuse_toml.specs.declared.toml_values.NewPiece.TheVariants.{Same, Removed}
use Rattle.reuse_toml.specs.TomlPieces.{is_quote, is_word_byte, is_multi_line, string_len, is_no_line_end, piece_len}
use Rattle.reuse_toml.specs.TomlPieces.{pieces_from, pieces_of, kind_of}
use Rattle.reuse_toml.specs.TomlPlaces.{place_behind}
use Rattle.reuse_toml.specs.TomlValues.{piece_amended}
use Rattle.reuse_toml.specs.TomlAmending.{new_bytes, is_removed_piece, if_ok, pieces_amended, text_amended}
use Rattle.reuse_toml.specs.TomlLaws.{IsKept, EachIsKept, DiffersInStrings}

-- ---- the pieces

pub piece-some : (text : List ℕ) → 0 < piece_len text
piece-some text =
    let b = slice_index text 0 in
    by (b == 35) (is_quote b) (is_word_byte b) (is_multi_line b text) (prefix_len is_no_line_end (drop 1 text))
    (string_len b 3 (3, false) (drop 3 text))
    (string_len b 1 (1, false) (drop 1 text)) (prefix_len is_word_byte (drop 1 text))
  where
    by : (comment quoted word multi : Bool) (k l m n : ℕ)
        → 0 < cond comment (1 + k) (cond quoted (cond multi (3 + l) (1 + m)) (cond word (1 + n) 1))
    by true quoted word multi k l m n = omega arith
    by false true word true k l m n = omega arith
    by false true word false k l m n = omega arith
    by false false true multi k l m n = omega arith
    by false false false multi k l m n = omega arith

abbrev together : List (List ℕ) → List ℕ
together pieces = flat_map (λ piece. piece) pieces

pieces_from-join : (skip : ℕ) (bytes : List ℕ) → together (pieces_from skip bytes) ≡ drop skip bytes
unfolding pieces_from
pieces_from-join zero [] = refl
pieces_from-join (suc skip) [] = refl
pieces_from-join (suc skip) (b ∷ bytes) = pieces_from-join skip bytes
pieces_from-join zero (b ∷ bytes) =
    ap (λ rest. take (piece_len (b ∷ bytes)) (b ∷ bytes) ++ rest) (pieces_from-join (piece_len (b ∷ bytes) - 1) bytes)
    ∙ by (piece_len (b ∷ bytes)) (piece-some (b ∷ bytes))
  where
    by : (n : ℕ) → 0 < n → take n (b ∷ bytes) ++ drop (n - 1) bytes ≡ b ∷ bytes
    by zero low = absurd (omega arith)
    by (suc n) low = let less : suc n - 1 ≡ n = omega arith in
        ap (λ k. take (suc n) (b ∷ bytes) ++ drop k bytes) less ∙ ap (λ xs. b ∷ xs) (take-append-drop n bytes)

pub pieces-join : (text : List ℕ) → together (pieces_of text) ≡ text
pieces-join text = pieces_from-join 0 text

-- ---- what stays of them

-- the kinds of the pieces that do not stay
abbrev MayChange : PieceKind → NewPiece → Type 0
MayChange kind new = (new ≡ Same) ⊎ ((kind ≡ Text) ⊎ ((kind ≡ Comma) × (new ≡ Removed)))

module _ (a : Amendments) where
  the-same : (kind : PieceKind) (new : NewPiece) → ◌≡◌ {A = Result NewPiece AmendTomlRefusal} (Ok Same) (Ok new)
      → MayChange kind new
  the-same kind new h = inl (sym (ap in-ok h))
    where
      in-ok : Result NewPiece AmendTomlRefusal → NewPiece
      in-ok (Ok x) = x
      in-ok (Err e) = Same

  the-removed : (new : NewPiece) → ◌≡◌ {A = Result NewPiece AmendTomlRefusal} (Ok Removed) (Ok new)
      → MayChange Comma new
  the-removed new h = inr (inr (refl, sym (ap in-ok h)))
    where
      in-ok : Result NewPiece AmendTomlRefusal → NewPiece
      in-ok (Ok x) = x
      in-ok (Err e) = Same

  may-change : (place : TomlPlace) (kind : PieceKind) (piece : List ℕ) (new : NewPiece)
      → piece_amended a place kind piece ≡ Ok new → MayChange kind new
  may-change (Value key) Text piece new h = inr (inl refl)
  may-change (Values key before) Text piece new h = inr (inl refl)
  may-change (Values key true) Comma piece new h = the-removed new h
  may-change place kind piece new h = the-same kind new h

  kept : (kind : PieceKind) (piece : List ℕ) (new : NewPiece) → kind ≡ kind_of piece → MayChange kind new
      → IsKept piece (new_bytes piece new)
  kept kind piece new is (inl same) = inl (ap (new_bytes piece) same)
  kept kind piece new is (inr (inl text)) = inr (inl (sym is ∙ text))
  kept kind piece new is (inr (inr gone)) = inr (inr (sym is ∙ gone.0, ap (new_bytes piece) gone.1))

  abbrev Differs : List (List ℕ) → List ℕ → List ℕ → Type 0
  Differs pieces before text = (news : List (List ℕ)) × EachIsKept pieces news × (before ++ together news ≡ text)

  -- the rest, behind a piece that has become another one
  abbrev Rest : TomlPlace → List ℕ → List (List ℕ) → List ℕ → NewPiece → Result (List ℕ) AmendTomlRefusal
  Rest place piece pieces before new =
      pieces_amended a (place_behind place (kind_of piece) piece (is_removed_piece new))
      (before ++ new_bytes piece new) pieces

  first-kept : (piece : List ℕ) (pieces : List (List ℕ)) (place : TomlPlace) (before text : List ℕ)
      (more : (new : NewPiece) → Rest place piece pieces before new ≡ Ok text
      → Differs pieces (before ++ new_bytes piece new) text)
      (r : Result NewPiece AmendTomlRefusal) → piece_amended a place (kind_of piece) piece ≡ r
      → if_ok (Rest place piece pieces before) r ≡ Ok text → Differs (piece ∷ pieces) before text
  first-kept piece pieces place before text more (Err e) made h = absurd (false≢true (ap is_ok h))
  first-kept piece pieces place before text more (Ok new) made h =
      let (news, each, is) = more new h in (
        new_bytes piece new ∷ news,
        (kept (kind_of piece) piece new refl (may-change place (kind_of piece) piece new made), each),
        sym (append_assoc before (new_bytes piece new) (together news)) ∙ is,
      )

  each-kept : (pieces : List (List ℕ)) (place : TomlPlace) (before text : List ℕ)
      → pieces_amended a place before pieces ≡ Ok text
      → Differs pieces before text
  unfolding pieces_amended
  each-kept [] place before text h = ([], tt, append-nil before ∙ ap in-ok h)
    where
      in-ok : Result (List ℕ) AmendTomlRefusal → List ℕ
      in-ok (Ok x) = x
      in-ok (Err e) = []
  each-kept (piece ∷ pieces) place before text h =
      first-kept piece pieces place before text
      (λ new. each-kept pieces (place_behind place (kind_of piece) piece (is_removed_piece new))
      (before ++ new_bytes piece new) text)
      (piece_amended a place (kind_of piece) piece) refl h

  pub differs : (file text : List ℕ) → text_amended a file ≡ Ok text → DiffersInStrings file text
  differs file text h = let (news, each, is) = each-kept (pieces_of file) (Line false) [] text h in record {
    news = news;
    kept = each;
    written = is;
  }
