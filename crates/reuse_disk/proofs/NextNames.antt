-- The first name of a path, and the rest behind it.
use Rattle.std.proofs.Common.{◌≡◌, ◌≢◌, ◌⊎◌, ◌<◌, ◌+◌, inl, inr, ℕ, zero, suc, false, ◌==◌, length-append, List, []}
use Rattle.std.proofs.Common.{◌∷◌, ◌++◌, length, get_or, Option, None, Some, MatchOption, Bor, refl, ◌∙◌, ap, arith}
use Rattle.std.proofs.lemmas.Str.Pattern.{split_parts, IsSplitOnceResult}
use Rattle.reuse_disk.specs.OpenFolders.{IsNext}

next : (text name rest front behind : List ℕ) → name ≡ front → rest ≡ behind
    → (text ≡ front ++ 47 ∷ behind) ⊎ ((text ≡ front) × (behind ≡ []))
    → ((i : ℕ) → i < length front → get_or front i 0 ≢ 47) → length behind < length text → IsNext text name rest
next text name rest front behind e same parts last less =
    rw (e, same) (record { parts = parts; has_no_slash = last; is_shorter = less })

-- takes a clause of `split_once` at a slash
pub next_of : (text name rest : List ℕ) (r : Option (Bor (List ℕ) × Bor (List ℕ))) → IsSplitOnceResult 47 text r
    → 0 < length text
    → MatchOption r (name ≡ text) (λ x. name ≡ x.0.now) → MatchOption r (rest ≡ []) (λ x. rest ≡ x.1.now)
    → IsNext text name rest
next_of text name rest None h some e same =
    next text name rest text [] e same (inr (refl, refl)) (split_parts 47 text None h (omega arith)) some
next_of text name rest (Some x) h some e same =
    let parts = split_parts 47 text (Some x) h (omega arith) in
    let long : length text ≡ length x.0.now + suc (length x.1.now) =
    ap length parts.0 ∙ length-append x.0.now (47 ∷ x.1.now) in
    next text name rest x.0.now x.1.now e same (inl parts.0) parts.1 (omega (arith, long))

pub some_length : (n : ℕ) → (n == 0) ≡ false → 0 < n
some_length zero e = absurd (cc)
some_length (suc n) e = omega arith
