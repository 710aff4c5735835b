-- The lines of one path, or of one of anything, more.
use Rattle.std.proofs.Common.{◌≡◌, ◌<◌, ◌+◌, ℕ, List, [], ◌∷◌, ◌++◌, Option, length, take, refl, sym, ◌∙◌, ap}
use Rattle.std.proofs.Common.{append_assoc, append-nil, get_or, subst}
use Rattle.std.proofs.lemmas.List.{take_more}
use Rattle.std.proofs.KnownBytes.{Appends-trans}
use Rattle.std.specs.Io.KnownBytes.{Appends}
use Rattle.reuse_print.specs.Lines.{joined}

pub joined-append : {A : Type 0} (text_of : A → List ℕ) (xs ys : List A)
    → joined text_of (xs ++ ys) ≡ joined text_of xs ++ joined text_of ys
joined-append text_of [] ys = refl
joined-append text_of (x ∷ xs) ys = ap (λ l. text_of x ++ l) (joined-append text_of xs ys)
    ∙ sym (append_assoc (text_of x) (joined text_of xs) (joined text_of ys))

pub joined-more : {A : Type 0} (text_of : A → List ℕ) (xs : List A) (i : ℕ) (d : A) → i < length xs
    → joined text_of (take i xs) ++ text_of (get_or xs i d) ≡ joined text_of (take (i + 1) xs)
joined-more text_of xs i d h =
    let last = get_or xs i d in
    let one : joined text_of (last ∷ []) ≡ text_of last = append-nil (text_of last) in
    sym (ap (joined text_of) (take_more xs i d h)
    ∙ joined-append text_of (take i xs) (last ∷ [])
    ∙ ap (λ l. joined text_of (take i xs) ++ l) one)

-- a text that is written behind those so far
pub Appends-joined : {A : Type 0} (text_of : A → List ℕ) (old mid new : Option (List ℕ)) (xs : List A) (i : ℕ) (x : A)
    → i < length xs → x ≡ get_or xs i x
    → Appends old mid (joined text_of (take i xs)) → Appends mid new (text_of x)
    → Appends old new (joined text_of (take (i + 1) xs))
Appends-joined text_of old mid new xs i x h is all one =
    subst (λ (l : List ℕ). Appends old new l) (joined-more text_of xs i x h)
    (Appends-trans old mid new (joined text_of (take i xs)) (text_of (get_or xs i x)) all
    (subst (λ (y : _). Appends mid new (text_of y)) is one))
