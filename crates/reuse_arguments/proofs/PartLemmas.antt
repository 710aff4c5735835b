-- The parts of a word, one more at a time.
use Rattle.std.proofs.Common.{◌≡◌, ◌≢◌, ◌<◌, ◌+◌, ◌-◌, ℕ, Bool, true, false, cond, List, [], ◌∷◌, ◌++◌, None, Some}
use Rattle.std.proofs.Common.{length, take, map, filter, refl, sym, ◌∙◌, ap, append_assoc, append-nil, get_or, nat_eq}
use Rattle.std.proofs.Common.{Bor, subst}
use Rattle.std.proofs.lemmas.List.{take_more, map-append}
use Rattle.std.proofs.lemmas.List.Elements.{filter-append}
use Rattle.std.proofs.lemmas.Bool.{false_from_ne_true}
use Rattle.std.proofs.lemmas.Bool.Decides.{Decides-eqb}
use Rattle.std.proofs.lemmas.Slice.Eq.{ends_is}
use Rattle.std.specs.List.{join_with_byte, ends_with}
use Rattle.reuse_arguments.specs.Places.{without_end_slash, is_named, path_along}

-- a word with no slash at its end stays as it is
pub without_end_slash-none : (word : List ℕ) → ((front : List ℕ) → word ≢ front ++ (47 ∷ []))
    → word ≡ without_end_slash word
without_end_slash-none word none =
    let no : ends_with nat_eq word (47 ∷ []) ≡ false =
    false_from_ne_true _ (λ yes. none _ ((ends_is Decides-eqb word (47 ∷ []) _ refl).0 yes)) in
    sym (ap (λ (b : Bool). cond b (take (length word - 1) word) word) no)

-- one more piece at the end
join_with_byte-push : (c : ℕ) (x : List ℕ) (xs : List (List ℕ)) (y : List ℕ)
    → join_with_byte c ((x ∷ xs) ++ y ∷ []) ≡ join_with_byte c (x ∷ xs) ++ c ∷ y
join_with_byte-push c x [] y = refl
join_with_byte-push c x (z ∷ xs) y =
    ap (λ l. x ++ c ∷ l) (join_with_byte-push c z xs y) ∙ sym (append_assoc x (c ∷ join_with_byte c (z ∷ xs)) (c ∷ y))

-- the text is that of the parts, and there are none exactly where it says so
pub record AreJoined (is_empty : Bool) (text : List ℕ) (parts : List (List ℕ)) : Type 0 where
  pub path : cond is_empty None (Some text) ≡ path_along parts
  pub bytes : text ≡ join_with_byte 47 parts

-- with one part more
abbrev pub pushed : Bool → List ℕ → List ℕ → List ℕ
pushed is_empty text part = cond is_empty (text ++ part) (text ++ 47 ∷ part)

AreJoined-push : (is_empty : Bool) (text : List ℕ) (parts : List (List ℕ)) (part : List ℕ)
    → AreJoined is_empty text parts → AreJoined false (pushed is_empty text part) (parts ++ part ∷ [])
AreJoined-push true text [] part h = let e = h.bytes in record { path = rw e refl; bytes = rw e refl }
AreJoined-push false text [] part h = let bad = h.path in absurd (cc)
AreJoined-push true text (x ∷ xs) part h = let bad = h.path in absurd (cc)
AreJoined-push false text (x ∷ xs) part h =
    let e : text ++ 47 ∷ part ≡ join_with_byte 47 ((x ∷ xs) ++ part ∷ []) =
    ap (λ l. l ++ 47 ∷ part) h.bytes ∙ sym (join_with_byte-push 47 x xs part) in
    record { path = ap (λ l. Some l) e; bytes = e }

-- the named parts among the first ones
abbrev pub named_front : ℕ → List (Bor (List ℕ)) → List (List ℕ)
named_front i parts = filter is_named (map (λ part. part.now) (take i parts))

named_front-more : (i : ℕ) (parts : List (Bor (List ℕ))) (d : Bor (List ℕ)) → i < length parts
    → named_front (i + 1) parts ≡ named_front i parts ++ filter is_named ((get_or parts i d).now ∷ [])
named_front-more i parts d h =
    ap (λ l. filter is_named (map (λ p. p.now) l)) (take_more parts i d h)
    ∙ ap (filter is_named) (map-append (λ p. p.now) (take i parts) (get_or parts i d ∷ []))
    ∙ filter-append is_named (map (λ p. p.now) (take i parts)) ((get_or parts i d).now ∷ [])

-- a named part is one more, and another part is none
pub named_more : (kept new : List (Bor (List ℕ))) (i : ℕ) (parts : List (Bor (List ℕ))) (d : Bor (List ℕ))
    → i < length parts → true ≡ is_named (get_or parts i d).now → map (λ part. part.now) kept ≡ named_front i parts
    → new ≡ kept ++ get_or parts i d ∷ [] → map (λ part. part.now) new ≡ named_front (i + 1) parts
named_more kept new i parts d h named so_far is =
    let part = (get_or parts i d).now in
    let one : filter is_named (part ∷ []) ≡ part ∷ [] = ap (λ (b : Bool). cond b (part ∷ []) []) (sym named) in
    ap (map (λ p. p.now)) is ∙ map-append (λ p. p.now) kept (get_or parts i d ∷ []) ∙ ap (λ l. l ++ part ∷ []) so_far
    ∙ sym (named_front-more i parts d h ∙ ap (λ l. named_front i parts ++ l) one)

pub unnamed_more : (kept : List (Bor (List ℕ))) (i : ℕ) (parts : List (Bor (List ℕ))) (d : Bor (List ℕ))
    → i < length parts → false ≡ is_named (get_or parts i d).now → map (λ part. part.now) kept ≡ named_front i parts
    → map (λ part. part.now) kept ≡ named_front (i + 1) parts
unnamed_more kept i parts d h unnamed so_far =
    let part = (get_or parts i d).now in
    let none : filter is_named (part ∷ []) ≡ [] = ap (λ (b : Bool). cond b (part ∷ []) []) (sym unnamed) in
    so_far ∙ sym (named_front-more i parts d h ∙ ap (λ l. named_front i parts ++ l) none
    ∙ append-nil (named_front i parts))

-- the texts of the first parts
abbrev pub front_of : ℕ → List (Bor (List ℕ)) → List (List ℕ)
front_of i parts = map (λ part. part.now) (take i parts)

-- each part is added to the path
pub AreJoined-more : (is_empty : Bool) (text : List ℕ) (i : ℕ) (parts : List (Bor (List ℕ))) (d : Bor (List ℕ))
    → i < length parts → AreJoined is_empty text (front_of i parts)
    → AreJoined false (pushed is_empty text (get_or parts i d).now) (front_of (i + 1) parts)
AreJoined-more is_empty text i parts d h joined =
    let part = (get_or parts i d).now in
    subst (λ (l : List (List ℕ)). AreJoined false (pushed is_empty text part) l)
    (sym (ap (map (λ p. p.now)) (take_more parts i d h) ∙ map-append (λ p. p.now) (take i parts)
    (get_or parts i d ∷ [])))
    (AreJoined-push is_empty text (front_of i parts) part joined)
