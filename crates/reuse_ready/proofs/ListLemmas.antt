-- A list that a loop gathers from those that it goes over.
use Rattle.std.proofs.Common.{◌≡◌, ◌∙◌, ℕ, ◌+◌, ◌<◌, List, [], ◌∷◌, ◌++◌, length, take, get_or}
use Rattle.std.proofs.Common.{append_assoc, ap, sym}
use Rattle.std.proofs.lemmas.List.{take_more}

-- one more of what is gathered, behind what stands in front
pub gathered : {X Y : Type 0} (F : List X → List Y) → ((xs ys : List X) → F (xs ++ ys) ≡ F xs ++ F ys)
    → (front : List Y)
    (xs : List X) (i : ℕ) (d : X) (old new : List Y) → i < length xs → old ≡ front ++ F (take i xs)
    → new ≡ old ++ F (get_or xs i d ∷ []) → new ≡ front ++ F (take (i + 1) xs)
gathered F joins front xs i d old new low so is =
    is ∙ ap (λ ys. ys ++ F (get_or xs i d ∷ [])) so ∙ append_assoc front (F (take i xs)) (F (get_or xs i d ∷ []))
    ∙ ap (λ ys. front ++ ys) (sym (joins (take i xs) (get_or xs i d ∷ [])))
    ∙ ap (λ ys. front ++ F ys) (sym (take_more xs i d low))
