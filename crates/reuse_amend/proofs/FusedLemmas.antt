-- An identifier that ends in + may stand right before an operator. Where it is replaced by one without, both become one
-- word, and the text is no expression any more: it has one operator too few.
use Rattle.std.proofs.Common.{◌≡◌, ℕ, ◌+◌, ◌<◌, nat_eq, Bool, true, false, cond, List, [], ◌∷◌}
use Rattle.std.proofs.Common.{◌++◌, length, length-append, take, drop, refl, sym, ap, subst, ◌∙◌}
use Rattle.std.proofs.Common.{arith, append_assoc, inl, inr}
use Rattle.std.specs.Prelude.{◌==◌, ◌&&◌, ◌||◌, not, codes}
use Rattle.std.specs.List.{list_any, starts_with}
use Rattle.std.specs.Str.{bytes_eq}
use Rattle.std.proofs.Math.Seq.{take-length, drop-length}
use Rattle.std.proofs.lemmas.Bool.{eqb-true, eq-eqb, false≢true, cases_Bool as truth}
use Rattle.std.proofs.lemmas.List.{append-nil}
use Rattle.std.proofs.lemmas.List.Folds.{prefix_len-append}
use Rattle.std.proofs.lemmas.Slice.Eq.{bytes_eq-Decides}
use Rattle.reuse_notice.specs.declared.expressions.Token.{Token}
use Rattle.reuse_notice.specs.declared.expressions.Token.TheVariants.{Open, Close, Operator, With, Identifier, Stray}
use Rattle.reuse_notice.specs.Expressions.{Expression, licence, licence_with, group, joined, spelling, IsExpression}
use Rattle.reuse_notice.specs.Expressions.{is_word_byte, word_len, has_plus, word_token, token_at}
use Rattle.reuse_notice.specs.Expressions.{token_len}
use Rattle.reuse_amend.specs.Pieces.{pieces_of, is_name, is_operator}
use Rattle.reuse_amend.proofs.UnnamedLemmas.{together, other_text}
use Rattle.reuse_amend.proofs.PieceLemmas.{pieces-nil}
use Rattle.reuse_amend.proofs.CutLemmas.{is_plain, IsPiece, WellCut, EndsInWord, front_piece}
use Rattle.reuse_amend.proofs.CutLemmas.{plain_first}
use Rattle.reuse_amend.proofs.WordLemmas.{Word, kinds, without_blanks, blank_plain}

-- ---- words that are operators

last : List ℕ → ℕ
last [] = 0
last (b ∷ []) = b
last (b ∷ c ∷ bytes) = last (c ∷ bytes)

last-append : (w z : List ℕ) → 0 < length z → last (w ++ z) ≡ last z
unfolding last
last-append [] z some = refl
last-append (b ∷ []) [] some = absurd (omega arith)
last-append (b ∷ []) (c ∷ z) some = refl
last-append (b ∷ d ∷ w) z some = last-append (d ∷ w) z some

-- the length of an operator, by its last letter
size : ℕ → ℕ
size b = cond (b == 68 || b == 100) 3 (cond (b == 82 || b == 114) 2 4)

abbrev name_word : Bool → Bool → Bool → Bool → Bool → Bool → Token
name_word a b c d e f =
    cond (a || (b || (c || (d || false)))) Operator (cond (e || (f || false)) With (Identifier false))

op_size : (text : List ℕ) → is_operator (word_token text) ≡ true → length text ≡ size (last text)
unfolding last size
op_size text e =
    by (bytes_eq text (codes "AND")) (bytes_eq text (codes "OR")) (bytes_eq text (codes "and"))
    (bytes_eq text (codes "or")) (bytes_eq text (codes "WITH")) (bytes_eq text (codes "with"))
    (is (codes "AND") refl) (is (codes "OR") refl) (is (codes "and") refl) (is (codes "or") refl)
    (is (codes "WITH") refl) (is (codes "with") refl) e
  where
    is : (word : List ℕ) → length word ≡ size (last word) → bytes_eq text word ≡ true → length text ≡ size (last text)
    is word e t = subst (λ x. length x ≡ size (last x)) (sym ((bytes_eq-Decides text word).0 t)) e

    by : (a b c d e f : Bool) → (a ≡ true → length text ≡ size (last text))
        → (b ≡ true → length text ≡ size (last text)) → (c ≡ true → length text ≡ size (last text))
        → (d ≡ true → length text ≡ size (last text)) → (e ≡ true → length text ≡ size (last text))
        → (f ≡ true → length text ≡ size (last text))
        → is_operator (name_word a b c d e f) ≡ true → length text ≡ size (last text)
    by true b c d e f ha hb hc hd he hf op = ha refl
    by false true c d e f ha hb hc hd he hf op = hb refl
    by false false true d e f ha hb hc hd he hf op = hc refl
    by false false false true e f ha hb hc hd he hf op = hd refl
    by false false false false true f ha hb hc hd he hf op = he refl
    by false false false false false true ha hb hc hd he hf op = hf refl
    by false false false false false false ha hb hc hd he hf op = absurd (cc op)

-- a word that ends in an operator and is longer is an identifier
fused_name : (w z : List ℕ) → 0 < length w → 0 < length z → is_operator (word_token z) ≡ true
    → word_token (w ++ z) ≡ Identifier false
fused_name w z some more op =
    by (list_any (bytes_eq (w ++ z)) (codes "AND" ∷ codes "OR" ∷ codes "and" ∷ codes "or" ∷ []))
    (list_any (bytes_eq (w ++ z)) (codes "WITH" ∷ codes "with" ∷ [])) (λ e. no e)
  where
    no : is_operator (word_token (w ++ z)) ≡ true → ⊥
    no e =
        let same : length (w ++ z) ≡ length z =
        op_size (w ++ z) e ∙ ap size (last-append w z more) ∙ sym (op_size z op) in
        let whole = length-append w z in omega (arith, same, whole)

    by : (a b : Bool) → (is_operator (cond a Operator (cond b With (Identifier false))) ≡ true → ⊥)
        → cond a Operator (cond b With (Identifier false)) ≡ Identifier false
    by true b f = absurd (f refl)
    by false true f = absurd (f refl)
    by false false f = refl

-- a piece that is an operator is a word
pub op_word : (p : Word) → IsPiece p → is_operator p.1 ≡ true → (word_len p.0 ≡ length p.0) × (word_token p.0 ≡ p.1)
op_word p piece op = by (starts_with nat_eq p.0 (codes "(")) (starts_with nat_eq p.0 (codes ")")) (word_len p.0 == 0)
    (has_plus p.0) refl piece.whole piece.is op
  where
    by : (o c z plus : Bool) → has_plus p.0 ≡ plus → cond z 1 (cond plus (word_len p.0 + 1) (word_len p.0)) ≡ length p.0
        → cond o Open (cond c Close (cond z Stray (cond plus (Identifier true) (word_token (take (word_len p.0) p.0)))))
        ≡ p.1 → is_operator p.1 ≡ true → (word_len p.0 ≡ length p.0) × (word_token p.0 ≡ p.1)
    by true c z plus h len is op = absurd (false≢true (ap is_operator is ∙ op))
    by false true z plus h len is op = absurd (false≢true (ap is_operator is ∙ op))
    by false false true plus h len is op = absurd (false≢true (ap is_operator is ∙ op))
    by false false false true h len is op = absurd (false≢true (ap is_operator is ∙ op))
    by false false false false h len is op =
        (len, ap word_token (sym (take-length p.0) ∙ ap (λ (n : ℕ). take n p.0) (sym len)) ∙ is)

abbrev pub chosen : Bool → Bool → Bool → Bool → List ℕ → Token
chosen opens closes none plus word =
    cond opens Open (cond closes Close (cond none Stray (cond plus (Identifier true) (word_token word))))

-- ---- numbers of identifiers and of operators

unfoldable pub names : List Word → ℕ
names [] = 0
names (p ∷ ps) = cond (is_name p.1) 1 0 + names ps

unfoldable pub ops : List Word → ℕ
ops [] = 0
ops (p ∷ ps) = cond (is_operator p.1) 1 0 + ops ps

pub names-append : (xs ys : List Word) → names (xs ++ ys) ≡ names xs + names ys
unfolding names
names-append [] ys = omega arith
names-append (x ∷ xs) ys = let e = names-append xs ys in omega (arith, e)

pub ops-append : (xs ys : List Word) → ops (xs ++ ys) ≡ ops xs + ops ys
unfolding ops
ops-append [] ys = omega arith
ops-append (x ∷ xs) ys = let e = ops-append xs ys in omega (arith, e)

-- one identifier more than operators
abbrev pub Balanced : List Word → Type 0
Balanced ps = names ps ≡ ops ps + 1

token_names : List Token → ℕ
token_names [] = 0
token_names (t ∷ ts) = cond (is_name t) 1 0 + token_names ts

token_ops : List Token → ℕ
token_ops [] = 0
token_ops (t ∷ ts) = cond (is_operator t) 1 0 + token_ops ts

token_names-append : (xs ys : List Token) → token_names (xs ++ ys) ≡ token_names xs + token_names ys
unfolding token_names
token_names-append [] ys = omega arith
token_names-append (x ∷ xs) ys = let e = token_names-append xs ys in omega (arith, e)

token_ops-append : (xs ys : List Token) → token_ops (xs ++ ys) ≡ token_ops xs + token_ops ys
unfolding token_ops
token_ops-append [] ys = omega arith
token_ops-append (x ∷ xs) ys = let e = token_ops-append xs ys in omega (arith, e)

balanced_spelling : (e : Expression) → token_names (spelling e) ≡ token_ops (spelling e) + 1
unfolding token_names token_ops
balanced_spelling (licence plus) = refl
balanced_spelling (licence_with plus) = refl
balanced_spelling (group inner) =
    let h = balanced_spelling inner in
    let a = token_names-append (spelling inner) (Close ∷ []) in
    let b = token_ops-append (spelling inner) (Close ∷ []) in
    omega (arith, h, a, b)
balanced_spelling (joined left right) =
    let l = balanced_spelling left in
    let r = balanced_spelling right in
    let a = token_names-append (spelling left) (Operator ∷ spelling right) in
    let b = token_ops-append (spelling left) (Operator ∷ spelling right) in
    omega (arith, l, r, a, b)

-- the pieces of an expression are balanced
counted : (ps : List Word) → WellCut ps
    → (names ps ≡ token_names (kinds (without_blanks ps))) × (ops ps ≡ token_ops (kinds (without_blanks ps)))
unfolding names ops token_names token_ops
counted [] cut = (refl, refl)
counted (p ∷ ps) cut = by (counted ps cut.2) (bytes_eq p.0 (codes " ")) refl
  where
    none : (n : ℕ) → 0 + n ≡ n
    none n = omega arith

    by : (names ps ≡ token_names (kinds (without_blanks ps))) × (ops ps ≡ token_ops (kinds (without_blanks ps)))
        → (s : Bool) → bytes_eq p.0 (codes " ") ≡ s
        → (cond (is_name p.1) 1 0 + names ps ≡ token_names
        (kinds (cond (not s) (p ∷ without_blanks ps) (without_blanks ps))))
        × (cond (is_operator p.1) 1 0 + ops ps ≡ token_ops
        (kinds (cond (not s) (p ∷ without_blanks ps) (without_blanks ps))))
    by h false e = (ap (λ (n : ℕ). cond (is_name p.1) 1 0 + n) h.0, ap (λ (n : ℕ). cond (is_operator p.1) 1 0 + n) h.1)
    by h true e =
        let is = (blank_plain p e cut.0).1 in
        let a : ◌≡◌ {A = ℕ} (cond (is_name p.1) 1 0) 0 = ap (λ t. cond (is_name t) 1 0) is in
        let b : ◌≡◌ {A = ℕ} (cond (is_operator p.1) 1 0) 0 = ap (λ t. cond (is_operator t) 1 0) is in
        (ap (λ (n : ℕ). n + names ps) a ∙ none (names ps) ∙ h.0, ap (λ (n : ℕ). n + ops ps) b ∙ none (ops ps) ∙ h.1)

pub balanced : (ps : List Word) → WellCut ps → IsExpression (kinds (without_blanks ps)) → Balanced ps
balanced ps cut e =
    let c = counted ps cut in
    c.0 ∙ ap token_names (sym e.1) ∙ balanced_spelling e.0 ∙ ap (λ ts. token_ops ts + 1) e.1
    ∙ ap (λ (n : ℕ). n + 1) (sym c.1)

-- ---- where words fuse

pub plain_no_old : (x y : List ℕ) → is_plain x ≡ false → is_plain y ≡ true → bytes_eq x y ≡ false
plain_no_old x y e f = other_text x y (λ same. false≢true (sym e ∙ ap is_plain same ∙ f))

-- the token of a word
word_at : (x : List ℕ) → word_len x ≡ length x → 0 < length x → (token_at x ≡ word_token x) × (token_len x ≡ length x)
word_at [] e some = absurd (omega arith)
word_at (b ∷ x) e some = (token, len)
  where
    letter : is_word_byte b ≡ true
    letter = by (is_word_byte b) e
      where
        by : (t : Bool) → cond t (1 + word_len x) 0 ≡ length (b ∷ x) → t ≡ true
        by true e' = refl
        by false e' = absurd (omega (arith, e'))

    other : (n : ℕ) → is_word_byte n ≡ false → starts_with nat_eq (b ∷ x) (n ∷ []) ≡ false
    other n outside = elim (truth (n == b)) [
      | inl t ↦ absurd (false≢true (sym outside ∙ ap is_word_byte (eqb-true n b t) ∙ letter))
      | inr f ↦ ap (λ t. t && true) f
    ]

    some_word : (word_len (b ∷ x) == 0) ≡ false
    some_word = ap (λ t. cond t (1 + word_len x) 0 == 0) letter ∙ by (word_len x)
      where
        by : (n : ℕ) → (1 + n == 0) ≡ false
        by n = grind arith

    no_plus : has_plus (b ∷ x) ≡ false
    no_plus = ap (λ (n : ℕ). starts_with nat_eq (drop n (b ∷ x)) (codes "+")) e
        ∙ ap (λ xs. starts_with nat_eq xs (codes "+")) (drop-length (b ∷ x))

    token : token_at (b ∷ x) ≡ word_token (b ∷ x)
    token =
        ap (λ t. chosen t (starts_with nat_eq (b ∷ x) (codes ")")) (word_len (b ∷ x) == 0) (has_plus (b ∷ x))
        (take (word_len (b ∷ x)) (b ∷ x))) (other 40 refl)
        ∙ ap (λ t. chosen false t (word_len (b ∷ x) == 0) (has_plus (b ∷ x)) (take (word_len (b ∷ x)) (b ∷ x)))
        (other 41 refl)
        ∙ ap (λ t. chosen false false t (has_plus (b ∷ x)) (take (word_len (b ∷ x)) (b ∷ x))) some_word
        ∙ ap (λ t. chosen false false false t (take (word_len (b ∷ x)) (b ∷ x))) no_plus
        ∙ ap word_token (ap (λ (n : ℕ). take n (b ∷ x)) e ∙ take-length (b ∷ x))

    len : token_len (b ∷ x) ≡ length (b ∷ x)
    len = ap (λ t. cond t 1 (cond (has_plus (b ∷ x)) (word_len (b ∷ x) + 1) (word_len (b ∷ x)))) some_word
        ∙ ap (λ t. cond t (word_len (b ∷ x) + 1) (word_len (b ∷ x))) no_plus ∙ e

word_pieces : (x : List ℕ) → word_len x ≡ length x → 0 < length x → pieces_of x ≡ (x, word_token x) ∷ []
word_pieces x e some =
    let w = word_at x e some in
    ap pieces_of (sym (append-nil x)) ∙ front_piece (x, word_token x) [] (record { some = some; whole = w.1; is = w.0 })
    (λ k. refl) ∙ ap (λ ps. (x, word_token x) ∷ ps) pieces-nil

-- a word that is no operator
name_from : (w : List ℕ) → is_operator (word_token w) ≡ false → word_token w ≡ Identifier false
name_from w e = by (list_any (bytes_eq w) (codes "AND" ∷ codes "OR" ∷ codes "and" ∷ codes "or" ∷ []))
    (list_any (bytes_eq w) (codes "WITH" ∷ codes "with" ∷ [])) e
  where
    by : (a b : Bool) → is_operator (cond a Operator (cond b With (Identifier false))) ≡ false
        → cond a Operator (cond b With (Identifier false)) ≡ Identifier false
    by true b f = absurd (cc f)
    by false true f = absurd (cc f)
    by false false f = refl

no_ops : (p : Word) (n : ℕ) → cond (is_operator p.1) 1 0 + n ≡ 0 → (is_operator p.1 ≡ false) × (n ≡ 0)
no_ops p n e = by (is_operator p.1) e
  where
    by : (t : Bool) → cond t 1 0 + n ≡ 0 → (t ≡ false) × (n ≡ 0)
    by true e' = absurd (omega (arith, e'))
    by false e' = (refl, omega (arith, e'))

-- an operator behind pieces that have none and end in a word
pub fused : (ps : List Word) (z : List ℕ) → WellCut ps → EndsInWord ps → ops ps ≡ 0 → word_len z ≡ length z
    → 0 < length z
    → is_operator (word_token z) ≡ true
    → (names (pieces_of (together ps ++ z)) ≡ names ps) × (ops (pieces_of (together ps ++ z)) ≡ 0)
unfolding names ops
fused [] z cut ends none word some op = absurd ends
fused (p ∷ []) z cut ends none word some op =
    let size = length-append p.0 z in
    let low = cut.0.some in
    let whole : word_len (p.0 ++ z) ≡ length (p.0 ++ z) =
    prefix_len-append is_word_byte p.0 z ∙ ap (λ t. cond t (length p.0 + word_len z) (word_len p.0))
    (eq-eqb (word_len p.0) (length p.0) ends) ∙ ap (λ (n : ℕ). length p.0 + n) word ∙ sym size in
    let long : 0 < length (p.0 ++ z) = omega (arith, size, some) in
    let one : pieces_of (together (p ∷ []) ++ z) ≡ (p.0 ++ z, Identifier false) ∷ [] =
    ap (λ x. pieces_of (x ++ z)) (append-nil p.0) ∙ word_pieces (p.0 ++ z) whole long
    ∙ ap (λ t. (p.0 ++ z, t) ∷ []) (fused_name p.0 z low some op) in
    let own : p.1 ≡ word_token p.0 = sym cut.0.is ∙ (word_at p.0 ends low).0 in
    let is : p.1 ≡ Identifier false = own ∙ name_from p.0 (ap is_operator (sym own) ∙ (no_ops p 0 none).0) in
    (ap names one ∙ ap (λ t. cond (is_name t) 1 0 + 0) (sym is), ap ops one)
fused (p ∷ q ∷ ps) z cut ends none word some op =
    let size = length-append q.0 (together ps) in
    let low = cut.2.0.some in
    let h = fused (q ∷ ps) z cut.2 ends (no_ops p (ops (q ∷ ps)) none).1 word some op in
    let first : pieces_of (together (p ∷ q ∷ ps) ++ z) ≡ p ∷ pieces_of (together (q ∷ ps) ++ z) =
    ap pieces_of (append_assoc p.0 (together (q ∷ ps)) z)
    ∙ front_piece p (together (q ∷ ps) ++ z) cut.0
    (λ e. plain_first (together (q ∷ ps)) z (omega (arith, size, low)) ∙ cut.1 e) in (
      ap names first ∙ ap (λ (n : ℕ). cond (is_name p.1) 1 0 + n) h.0,
      ap ops first ∙ ap (λ t. cond t 1 0 + ops (pieces_of (together (q ∷ ps) ++ z))) (no_ops p (ops (q ∷ ps)) none).0
          ∙ ap (λ (n : ℕ). 0 + n) h.1,
    )
