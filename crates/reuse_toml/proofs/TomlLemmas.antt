-- The pieces of a TOML text from one on, and what they become; texts that begin alike.
use Rattle.std.proofs.Common.{◌≡◌, ℕ, zero, suc, ◌+◌, ◌-◌, ◌<◌, ◌≤◌, Bool, true, false, List, [], ◌∷◌, ◌++◌, length}
use Rattle.std.proofs.Common.{take, drop, get_or, Option, Some, None, refl, sym, ap, subst, ◌∙◌, arith}
use Rattle.std.specs.Prelude.{Result, Ok, Err, nat_eq, nat_lt, slice_index, ◌&&◌}
use Rattle.std.specs.Option.{option_map_or}
use Rattle.std.specs.List.{common_prefix_len}
use Rattle.std.proofs.lemmas.Bool.{and_parts, ltb-false}
use Rattle.std.proofs.lemmas.Bool.Decides.{Decides-ltb}
use Rattle.std.proofs.lemmas.List.{drop_all}
use Rattle.std.proofs.lemmas.List.Sums.{common_prefix_len-drop_yes, common_prefix_len-drop_no}
use Rattle.toml.specs.Data.{Members}
use Rattle.reuse_toml.specs.TomlText.{read_toml}
use Rattle.reuse_notice.proofs.BlankLemmas.{drop_next}
use Rattle.reuse_amend.specs.declared.amendments.Amendments.{Amendments}
use Rattle.reuse_toml.specs.declared.toml_pieces.PieceKind.{PieceKind}
use Rattle.reuse_toml.specs.declared.toml_places.TomlPlace.{TomlPlace}
use Rattle.reuse_toml.specs.declared.toml_values.AmendTomlRefusal.{AmendTomlRefusal}
use Rattle.reuse_toml.specs.declared.toml_values.AmendTomlRefusal.TheVariants.{BadExpression, CannotBeAmended, TooLong}
use Rattle.reuse_toml.specs.declared.toml_values.AmendTomlRefusal.TheVariants.{Memory}
use Rattle.reuse_toml.specs.declared.toml_values.NewPiece.{NewPiece}
use Rattle.reuse_toml.specs.TomlPieces.{string_step, string_len, piece_len, pieces_from, pieces_of, kind_of}
use Rattle.reuse_toml.specs.TomlPlaces.{place_behind}
use Rattle.reuse_toml.specs.TomlValues.{piece_amended}
use Rattle.reuse_toml.specs.TomlAnswers.{IsTomlAnswer}
use Rattle.reuse_toml.specs.TomlAmending.{new_bytes, is_removed_piece, if_ok, pieces_amended, table_amended}
use Rattle.reuse_toml.specs.TomlAmending.{toml_amendment_of}

-- ---- strings

string_len-cons : (quote need : ℕ) (state : ℕ × Bool) (b : ℕ) (bytes : List ℕ) → string_len quote need state
    (b ∷ bytes) ≡ option_map_or (λ next. suc (string_len quote need next bytes)) (string_step quote need state b) 0
unfolding string_len
string_len-cons quote need state b bytes = refl

string_len-nil : (quote need : ℕ) (state : ℕ × Bool) → string_len quote need state [] ≡ 0
unfolding string_len
string_len-nil quote need state = refl

module _ (quote need : ℕ) (state : ℕ × Bool) (text : List ℕ) (i whole : ℕ) where
  string_len-at : (d b : ℕ) (o : Option (ℕ × Bool)) → i < length text → b ≡ get_or text i d
      → string_step quote need state b ≡ o
      → string_len quote need state (drop i text) ≡ option_map_or
      (λ next. suc (string_len quote need next (drop (i + 1) text))) o 0
  string_len-at d b o low is step =
      ap (string_len quote need state) (drop_next text i d low ∙ ap (λ x. x ∷ drop (i + 1) text) (sym is))
      ∙ string_len-cons quote need state b (drop (i + 1) text)
      ∙ ap (λ s. option_map_or (λ next. suc (string_len quote need next (drop (i + 1) text))) s 0) step

  pub string_len-more : (d b : ℕ) (next : ℕ × Bool) → i < length text → b ≡ get_or text i d
      → Some next ≡ string_step quote need state b
      → i + string_len quote need state (drop i text) ≡ whole
      → (i + 1) + string_len quote need next (drop (i + 1) text) ≡ whole
  string_len-more d b next low is step so = let at = string_len-at d b (Some next) low is (sym step) in
      omega (arith, at, so)

  pub string_len-stop : (d b : ℕ) → i < length text → b ≡ get_or text i d → None ≡ string_step quote need state b
      → i + string_len quote need state (drop i text) ≡ whole → i ≡ whole
  string_len-stop d b low is step so = let at = string_len-at d b None low is (sym step) in omega (arith, at, so)

  pub string_len-end : length text ≤ i → i ≤ length text → i + string_len quote need state (drop i text) ≡ whole
      → length text ≡ whole
  string_len-end high low so =
      let none = ap (string_len quote need state) (drop_all i text high) ∙ string_len-nil quote need state in
      omega (arith, none, so)

-- ---- pieces

pieces_from-skip : (skip : ℕ) (bytes : List ℕ) → pieces_from skip bytes ≡ pieces_from 0 (drop skip bytes)
unfolding pieces_from
pieces_from-skip zero bytes = refl
pieces_from-skip (suc skip) [] = refl
pieces_from-skip (suc skip) (b ∷ bytes) = pieces_from-skip skip bytes

pieces_from-cons : (b : ℕ) (bytes : List ℕ) → pieces_from 0 (b ∷ bytes) ≡ take (piece_len (b ∷ bytes))
    (b ∷ bytes) ∷ pieces_from (piece_len (b ∷ bytes) - 1) bytes
unfolding pieces_from
pieces_from-cons b bytes = refl

pub pieces-nil : pieces_of [] ≡ []
unfolding pieces_from
pieces-nil = refl

-- the first piece, and those behind its bytes
pieces-at : (bytes : List ℕ) (n : ℕ) → 0 < length bytes → 0 < n → n ≡ piece_len bytes
    → pieces_of bytes ≡ take n bytes ∷ pieces_of (drop n bytes)
pieces-at [] n low some is = absurd (omega arith)
pieces-at (b ∷ bytes) zero low some is = absurd (omega arith)
pieces-at (b ∷ bytes) (suc n) low some is =
    let less : suc n - 1 ≡ n = omega arith in
    pieces_from-cons b bytes
    ∙ ap (λ k. take k (b ∷ bytes) ∷ pieces_from (k - 1) bytes) (sym is)
    ∙ ap (λ k. take (suc n) (b ∷ bytes) ∷ pieces_from k bytes) less
    ∙ ap (λ ps. take (suc n) (b ∷ bytes) ∷ ps) (pieces_from-skip n bytes)

pub pieces-first : (bytes piece rest : List ℕ) → 0 < length bytes → 0 < piece_len bytes
    → piece ≡ take (piece_len bytes) bytes → rest ≡ drop (piece_len bytes) bytes
    → pieces_of bytes ≡ piece ∷ pieces_of rest
pieces-first bytes piece rest low some is left =
    pieces-at bytes (piece_len bytes) low some refl ∙ ap (λ p. p ∷ pieces_of (drop (piece_len bytes) bytes)) (sym is)
    ∙ ap (λ r. piece ∷ pieces_of r) (sym left)

-- ---- what they become

module _ (a : Amendments) (place : TomlPlace) (text : List ℕ) where
  amended-cons : (piece : List ℕ) (pieces : List (List ℕ)) → pieces_amended a place text (piece ∷ pieces)
      ≡ if_ok (λ new. pieces_amended a (place_behind place (kind_of piece) piece (is_removed_piece new))
      (text ++ new_bytes piece new) pieces) (piece_amended a place (kind_of piece) piece)
  unfolding pieces_amended
  amended-cons piece pieces = refl

  amended-nil : pieces_amended a place text [] ≡ Ok text
  unfolding pieces_amended
  amended-nil = refl

  amended-at : (bytes piece rest : List ℕ) (kind : PieceKind) (r : Result NewPiece AmendTomlRefusal)
      → pieces_of bytes ≡ piece ∷ pieces_of rest → kind ≡ kind_of piece → piece_amended a place kind piece ≡ r
      → pieces_amended a place text (pieces_of bytes) ≡ if_ok (λ new. pieces_amended a
      (place_behind place kind piece (is_removed_piece new)) (text ++ new_bytes piece new) (pieces_of rest)) r
  amended-at bytes piece rest kind r first is made =
      ap (pieces_amended a place text) first ∙ amended-cons piece (pieces_of rest)
      ∙ ap (λ k. if_ok (λ new. pieces_amended a (place_behind place k piece (is_removed_piece new))
      (text ++ new_bytes piece new) (pieces_of rest)) (piece_amended a place k piece)) (sym is)
      ∙ ap (if_ok (λ new. pieces_amended a (place_behind place kind piece (is_removed_piece new))
      (text ++ new_bytes piece new) (pieces_of rest))) made

  pub amended-more : (bytes piece rest grown : List ℕ) (kind : PieceKind) (new : NewPiece) (next : TomlPlace)
      (whole : Result (List ℕ) AmendTomlRefusal)
      → pieces_of bytes ≡ piece ∷ pieces_of rest → kind ≡ kind_of piece → piece_amended a place kind piece ≡ Ok new
      → next ≡ place_behind place kind piece (is_removed_piece new) → grown ≡ text ++ new_bytes piece new
      → pieces_amended a place text (pieces_of bytes) ≡ whole → pieces_amended a next grown (pieces_of rest) ≡ whole
  amended-more bytes piece rest grown kind new next whole first is made then more so =
      ap (λ p. pieces_amended a p grown (pieces_of rest)) then
      ∙ ap (λ t. pieces_amended a (place_behind place kind piece (is_removed_piece new)) t (pieces_of rest)) more
      ∙ sym (amended-at bytes piece rest kind (Ok new) first is made) ∙ so

  pub amended-stop : (bytes piece rest : List ℕ) (kind : PieceKind) (e : AmendTomlRefusal)
      (whole : Result (List ℕ) AmendTomlRefusal)
      → pieces_of bytes ≡ piece ∷ pieces_of rest → kind ≡ kind_of piece → piece_amended a place kind piece ≡ Err e
      → pieces_amended a place text (pieces_of bytes) ≡ whole → whole ≡ Err e
  amended-stop bytes piece rest kind e whole first is made so =
      sym so ∙ amended-at bytes piece rest kind (Err e) first is made

  pub amended-end : (bytes : List ℕ) (whole : Result (List ℕ) AmendTomlRefusal) → length bytes ≡ 0
      → pieces_amended a place text (pieces_of bytes) ≡ whole → whole ≡ Ok text
  amended-end [] whole none so = sym so ∙ ap (pieces_amended a place text) pieces-nil ∙ amended-nil
  amended-end (b ∷ bytes) whole none so = absurd (omega arith)

-- an answer that stops a search is its own
pub toml-stop : {X Y : Type 0} (expected : Result X AmendTomlRefusal) (whole : Result Y AmendTomlRefusal)
    (e : AmendTomlRefusal) → (expected ≡ Err e → whole ≡ Err e) → IsTomlAnswer expected (Err e)
    → IsTomlAnswer whole (Err e)
toml-stop expected whole BadExpression f is = f is
toml-stop expected whole CannotBeAmended f is = f is
toml-stop expected whole TooLong f is = f is
toml-stop expected whole (Memory e) f is = tt

-- ---- texts that begin alike

module _ (xs ys : List ℕ) (i whole : ℕ) where
  pub alike-more : (c d : ℕ) → i < length xs → i < length ys → nat_eq (get_or xs i c) (get_or ys i d) ≡ true
      → i + common_prefix_len nat_eq (drop i xs) (drop i ys) ≡ whole
      → (i + 1) + common_prefix_len nat_eq (drop (i + 1) xs) (drop (i + 1) ys) ≡ whole
  alike-more c d low other same so = let at = common_prefix_len-drop_yes nat_eq xs ys i c d low other same in
      omega (arith, at, so)

  pub alike-stop : (c d : ℕ) → i < length xs → i < length ys → nat_eq (get_or xs i c) (get_or ys i d) ≡ false
      → i + common_prefix_len nat_eq (drop i xs) (drop i ys) ≡ whole → i ≡ whole
  alike-stop c d low other same so = let at = common_prefix_len-drop_no nat_eq xs ys i c d low other same in
      omega (arith, at, so)

nothing-alike : (xs : List ℕ) → common_prefix_len nat_eq xs [] ≡ 0
nothing-alike [] = refl
nothing-alike (x ∷ xs) = refl

pub alike-over : (xs ys : List ℕ) (i whole : ℕ) → length ys ≤ i
    → i + common_prefix_len nat_eq (drop i xs) (drop i ys) ≡ whole → i ≡ whole
alike-over xs ys i whole high so =
    let none = ap (common_prefix_len nat_eq (drop i xs)) (drop_all i ys high) ∙ nothing-alike (drop i xs) in
    omega (arith, none, so)

-- the places of a byte that is there, and of one that is not
alike-differs-by : (xs ys : List ℕ) (i whole c : ℕ) (inside : Bool) → nat_lt i (length ys) ≡ inside → i < length xs
    → (inside && nat_eq (get_or xs i c) (slice_index ys i)) ≡ false
    → i + common_prefix_len nat_eq (drop i xs) (drop i ys) ≡ whole → i ≡ whole
alike-differs-by xs ys i whole c true e low other so =
    alike-stop xs ys i whole c 0 low ((Decides-ltb i (length ys)).0 e) other so
alike-differs-by xs ys i whole c false e low other so = alike-over xs ys i whole (ltb-false i (length ys) e) so

pub alike-differs : (xs ys : List ℕ) (i whole c : ℕ) → i < length xs
    → (nat_lt i (length ys) && nat_eq (get_or xs i c) (slice_index ys i)) ≡ false
    → i + common_prefix_len nat_eq (drop i xs) (drop i ys) ≡ whole → i ≡ whole
alike-differs xs ys i whole c low other so = alike-differs-by xs ys i whole c (nat_lt i (length ys)) refl low other so

pub alike-next : (xs ys : List ℕ) (i whole c : ℕ) → i < length xs
    → (nat_lt i (length ys) && nat_eq (get_or xs i c) (slice_index ys i)) ≡ true
    → i + common_prefix_len nat_eq (drop i xs) (drop i ys) ≡ whole
    → (i + 1 ≤ length ys) × ((i + 1) + common_prefix_len nat_eq (drop (i + 1) xs) (drop (i + 1) ys) ≡ whole)
alike-next xs ys i whole c low same so =
    let parts = and_parts (nat_lt i (length ys)) (nat_eq (get_or xs i c) (slice_index ys i)) same in
    let inside : i < length ys = (Decides-ltb i (length ys)).0 parts.0 in
    (omega (arith, inside), alike-more xs ys i whole c 0 low inside parts.1 so)

pub alike-end : (xs ys : List ℕ) (i whole : ℕ) → length xs ≤ i → i ≤ length xs
    → i + common_prefix_len nat_eq (drop i xs) (drop i ys) ≡ whole → length xs ≡ whole
alike-end xs ys i whole high low so =
    let none = ap (λ zs. common_prefix_len nat_eq zs (drop i ys)) (drop_all i xs high) in omega (arith, none, so)

-- ---- answers

-- the answer that is expected, in another form
pub answer-of : {X : Type 0} (expected other : Result X AmendTomlRefusal) (r : Result X AmendTomlRefusal)
    → expected ≡ other
    → IsTomlAnswer other r → IsTomlAnswer expected r
answer-of expected other r same is = subst (λ d. IsTomlAnswer d r) (sym same) is

pub amendment-is : (a : Amendments) (file : List ℕ) (found : Option Members) → read_toml file ≡ found
    → toml_amendment_of a file ≡ table_amended a file found
unfolding toml_amendment_of
amendment-is a file found is = ap (table_amended a file) is
