-- Texts written one after another.
use Rattle.std.proofs.Common.{◌≡◌, ℕ, List, [], ◌∷◌, ◌++◌, flat_map, sym, ap, ◌∙◌, append_assoc}
use Rattle.std.proofs.Common.{◌+◌, ◌<◌, length, take, get_or}
use Rattle.std.proofs.lemmas.List.{append-nil, take_more}
use Rattle.std.proofs.lemmas.Grind.{flat_map-append}

pub then : (old mid new a b : List ℕ) → mid ≡ old ++ a → new ≡ mid ++ b → new ≡ old ++ (a ++ b)
then old mid new a b e f = f ∙ ap (λ x. x ++ b) e ∙ append_assoc old a b

-- one part more behind a head
pub run_more : {X : Type 0} (g : X → List ℕ) (head : List ℕ) (xs : List X) (i : ℕ) (d : X) (old mid new : List ℕ)
    → i < length xs → mid ≡ old ++ (head ++ flat_map g (take i xs)) → new ≡ mid ++ g (get_or xs i d)
    → new ≡ old ++ (head ++ flat_map g (take (i + 1) xs))
run_more g head xs i d old mid new within e1 e2 =
    let x = get_or xs i d in
    let more : flat_map g (take i xs) ++ g x ≡ flat_map g (take (i + 1) xs) =
    ap (λ r. flat_map g (take i xs) ++ r) (sym (append-nil (g x))) ∙ sym (flat_map-append g (take i xs) (x ∷ []))
    ∙ ap (flat_map g) (sym (take_more xs i d within)) in
    then old mid new (head ++ flat_map g (take i xs)) (g x) e1 e2
    ∙ ap (λ r. old ++ r) (append_assoc head (flat_map g (take i xs)) (g x) ∙ ap (λ r. head ++ r) more)
