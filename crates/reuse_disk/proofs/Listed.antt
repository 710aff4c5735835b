-- Lists of paths none of which is ignored.
use Rattle.std.proofs.Common.{◌≡◌, All, ℕ, Bool, true, false, if◌then◌else◌, List, [], ◌∷◌, ◌++◌, ap, ◌∙◌}
use Rattle.std.specs.Prelude.{map}
use Rattle.std.proofs.lemmas.List.{map_push}
use Rattle.std.specs.List.Sorted.{IsPermutation}
use Rattle.std.proofs.lemmas.List.Elements.{All-push, All-same}
use Rattle.std.proofs.lemmas.List.Sorted.{All-permutation}
use Rattle.reuse_system.specs.Ignored.{is_ignored}

abbrev pub IsInTree : List ℕ → Type 0
IsInTree path = is_ignored path ≡ false

-- a list after a push that may have failed
pub pushed : (done : Bool) (before after : List (List ℕ)) (path : List ℕ) →
    All IsInTree before → IsInTree path → after ≡ (if done then before ++ path ∷ [] else before) → All IsInTree after
pushed true before after path kept new same =
    All-same IsInTree after (before ++ path ∷ []) same (All-push IsInTree before path kept new)
pushed false before after path kept new same = All-same IsInTree after before same kept

-- a list in another order
pub in_order : (before after : List (List ℕ)) → IsPermutation before after → All IsInTree before → All IsInTree after
in_order before after = All-permutation IsInTree before after

-- the texts of a list after a push
pub texts_pushed : {T : Type 0} (text_of : T → List ℕ) (before after : List T) (one : T) (text : List ℕ)
    → after ≡ before ++ one ∷ [] → text_of one ≡ text → map text_of after ≡ map text_of before ++ text ∷ []
texts_pushed text_of before after one text pushed is =
    ap (map text_of) pushed ∙ map_push text_of before one ∙ ap (λ last. map text_of before ++ last ∷ []) is
