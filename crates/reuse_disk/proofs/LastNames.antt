-- The last name of a path is one.
use Rattle.std.proofs.Common.{◌≡◌, ◌≢◌, ◌⊎◌, inl, inr, ℕ, ◌<◌, Bool, true, false, List, [], ◌∷◌, ◌++◌, length, ◌==◌}
use Rattle.std.proofs.Common.{refl, sym, ◌∙◌, ap, cond, arith, get_or}
use Rattle.std.specs.List.{onto_first}
use Rattle.std.proofs.lemmas.Bool.{ne_eqb}
use Rattle.std.proofs.lemmas.List.Elements.{All-from_get_or}
use Rattle.std.proofs.lemmas.List.Splits.{slice_split_none, length-slice_split}
use Rattle.reuse_system.specs.Names.{IsNameOf}
use Rattle.reuse_system.specs.Names.{between_slashes}

onto_append : (x : ℕ) (xss yss : List (List ℕ)) → xss ≢ [] → onto_first x (xss ++ yss) ≡ onto_first x xss ++ yss
onto_append x [] yss some = absurd (some refl)
onto_append x (xs ∷ xss) yss some = refl

pub between-some : (xs : List ℕ) → between_slashes xs ≢ []
between-some xs e = let count = length-slice_split (λ byte. byte == 47) xs in omega (arith, ap length e, count)

split_step : (x : ℕ) (one more parts : List (List ℕ)) (b : Bool) → more ≡ one ++ parts → one ≢ []
    → cond b ([] ∷ more) (onto_first x more) ≡ cond b ([] ∷ one) (onto_first x one) ++ parts
split_step x one more parts true is some = ap (λ l. [] ∷ l) is
split_step x one more parts false is some = ap (onto_first x) is ∙ onto_append x one parts some

-- what stands between the slashes of two texts with a slash between them
pub between-append : (xs ys : List ℕ) → between_slashes (xs ++ 47 ∷ ys) ≡ between_slashes xs ++ between_slashes ys
between-append [] ys = refl
between-append (x ∷ xs) ys = split_step x (between_slashes xs) (between_slashes (xs ++ 47 ∷ ys)) (between_slashes ys)
    (x == 47) (between-append xs ys) (between-some xs)

-- a name without a slash
pub no_slash : (name : List ℕ) → ((i : ℕ) → i < length name → get_or name i 0 ≢ 47) → between_slashes name ≡ name ∷ []
no_slash name last = slice_split_none (λ byte. byte == 47) name
    (All-from_get_or (λ byte. (byte == 47) ≡ false) name 0 (λ i short. ne_eqb _ 47 (last i short)))

last_of : List (List ℕ) → List ℕ
last_of [] = []
last_of (name ∷ []) = name
last_of (name ∷ next ∷ names) = last_of (next ∷ names)

last_of-append : (above : List (List ℕ)) (name : List ℕ) → last_of (above ++ name ∷ []) ≡ name
unfolding last_of
last_of-append [] name = refl
last_of-append (one ∷ []) name = refl
last_of-append (one ∷ next ∷ above) name = last_of-append (next ∷ above) name

pub last_same : (above other : List (List ℕ)) (name one : List ℕ) → above ++ name ∷ [] ≡ other ++ one ∷ [] → name ≡ one
last_same above other name one is = sym (last_of-append above name) ∙ ap last_of is ∙ last_of-append other one

pub by_parts : (path name : List ℕ) → IsNameOf path name
    → (name ≡ path) ⊎ ((folder : List ℕ) × (path ≡ folder ++ 47 ∷ name))
    → (above : List (List ℕ)) × (between_slashes path ≡ above ++ name ∷ [])
by_parts path name named (inl is) = ([], ap between_slashes (sym is) ∙ no_slash name named.last)
by_parts path name named (inr at) = (
  between_slashes at.0,
  ap between_slashes at.1 ∙ between-append at.0 name
      ∙ ap (λ names. between_slashes at.0 ++ names) (no_slash name named.last),
)

-- a path has no two names
pub same_name : (path name one : List ℕ) → IsNameOf path name → IsNameOf path one → name ≡ one
same_name path name one named other =
    let first = by_parts path name named named.behind in
    let second = by_parts path one other other.behind in last_same first.0 second.0 name one (sym first.1 ∙ second.1)
