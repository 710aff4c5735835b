-- The names that the code holds are the table of names.
use Rattle.std.proofs.Common.{◌≡◌, ◌∙◌, ℕ, Bool, true, false, cond, List, [], ◌∷◌, map, Option, None, Some, refl, ap}
use Rattle.std.specs.Prelude.{◌==◌, unwrap_or}
use Rattle.std.specs.List.{after_last}
use Rattle.std.specs.Str.{bytes_eq, str_to_ascii_lowercase, str_eq_ignore_ascii_case}
use Rattle.std.proofs.lemmas.Slice.Eq.{bytes_eq-Decides}
use Rattle.std.specs.Option.{option_map, option_or}
use Rattle.reuse_style.specs.declared.style.Kind.{Kind}
use Rattle.reuse_style.specs.declared.style.Kind.TheVariants.{Unknown}
use Rattle.reuse_style.specs.declared.table.TableKind.{TableKind}
use Rattle.reuse_style.specs.declared.table.TheConstants.{NAMES}
use Rattle.reuse_style.specs.Names.{slash, dot, lookup, joined, from_last, kind_of_name, kind_in, table_kind}
use Rattle.reuse_style.specs.Names.{table_of_names}

-- the names that the code holds
listed : List (List ℕ × TableKind)
listed = map (λ entry. (entry.0.now, entry.1)) NAMES

kinds_listed : List (List ℕ × TableKind) → List (List ℕ × Kind)
kinds_listed table = map (λ (entry : List ℕ × TableKind). (entry.0, table_kind entry.1)) table

names_are_listed : kinds_listed listed ≡ table_of_names
unfolding kinds_listed listed table_of_names
names_are_listed = refl

-- looking up in a table whose values are mapped
lookup-map : (table : List (List ℕ × TableKind)) (name : List ℕ)
    → option_map table_kind (lookup table name) ≡ lookup (kinds_listed table) name
unfolding lookup kinds_listed
lookup-map [] name = refl
lookup-map (entry ∷ table) name = by (str_eq_ignore_ascii_case entry.0 name) (lookup-map table name)
  where
    by : (b : Bool) → option_map table_kind (lookup table name) ≡ lookup (kinds_listed table) name
        → option_map table_kind (cond b (Some entry.1) (lookup table name)) ≡ cond b (Some (table_kind entry.1))
        (lookup (kinds_listed table) name)
    by true e = refl
    by false e = e

pub listed_lookup : (name : List ℕ) (found : Option TableKind) → found ≡ lookup
    (map (λ entry. (entry.0.now, entry.1)) NAMES) name → option_map table_kind found ≡ lookup table_of_names name
unfolding listed
listed_lookup name found is =
    ap (option_map table_kind) is ∙ lookup-map listed name
    ∙ ap (λ (table : List (List ℕ × Kind)). lookup table name) names_are_listed

-- where an own name has no kind, the table's has
pub joined_none : (own : List ℕ → Option Kind) (name : List ℕ) (kind : Option Kind) → None ≡ own name
    → kind ≡ lookup table_of_names name → kind ≡ joined own name
joined_none own name kind none is = is ∙ ap (λ (o : Option Kind). option_or o (lookup table_of_names name)) none

-- ---- own names

pub kind_others : (own : List ℕ → Option Kind) (path : List ℕ)
    → (let part = after_last (λ b. b == slash) path in
    own part ≡ None → own (from_last (λ b. b == dot) part) ≡ None → kind_in own path ≡ kind_of_name path)
unfolding kind_in
kind_others own path whole ending =
    let part = after_last (λ b. b == slash) path in
    let last = from_last (λ b. b == dot) part in
    ap (λ (o : Option Kind). unwrap_or (option_or (option_or o (lookup table_of_names part))
    (option_or (own last) (lookup table_of_names last))) Unknown) whole
    ∙ ap (λ (o : Option Kind). unwrap_or
    (option_or (lookup table_of_names part) (option_or o (lookup table_of_names last))) Unknown) ending

pub kind_none : (path : List ℕ) → kind_in (lookup []) path ≡ kind_of_name path
unfolding lookup
kind_none path = kind_others (lookup []) path refl refl

pub kind_whole : (own : List ℕ → Option Kind) (path : List ℕ) (kind : Kind)
    → own (after_last (λ b. b == slash) path) ≡ Some kind → kind_in own path ≡ kind
unfolding kind_in
kind_whole own path kind is =
    let part = after_last (λ b. b == slash) path in
    let last = from_last (λ b. b == dot) part in
    ap (λ (o : Option Kind). unwrap_or (option_or (option_or o (lookup table_of_names part))
    (option_or (own last) (lookup table_of_names last))) Unknown) is

pub lookup_cases : (own : List (List ℕ × Kind)) (name other : List ℕ) → str_eq_ignore_ascii_case name other ≡ true
    → lookup own name ≡ lookup own other
unfolding lookup
lookup_cases [] name other e = refl
lookup_cases (entry ∷ own) name other e =
    let same : str_to_ascii_lowercase name ≡ str_to_ascii_lowercase other =
    (bytes_eq-Decides (str_to_ascii_lowercase name) (str_to_ascii_lowercase other)).0 e in
    ap (λ (k : List ℕ). cond (bytes_eq (str_to_ascii_lowercase entry.0) k) (Some entry.1) (lookup own name)) same
    ∙ ap (λ (o : Option Kind). cond (str_eq_ignore_ascii_case entry.0 other) (Some entry.1) o)
    (lookup_cases own name other e)
