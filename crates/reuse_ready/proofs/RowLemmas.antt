-- The row of a name among names, and one name more.
use Rattle.std.proofs.Common.{◌≡◌, ◌∙◌, ℕ, ◌+◌, ◌≤◌, Bool, true, false, cond, List, [], ◌∷◌, ◌++◌, length}
use Rattle.std.proofs.Common.{Option, Some, None, refl, sym, ap, arith}
use Rattle.std.specs.Prelude.{find, count_by}
use Rattle.std.specs.Option.{option_map, option_or}
use Rattle.std.proofs.lemmas.List.Folds.{find-append}
use Rattle.std.proofs.lemmas.List.Sums.{sum_by-append, sum_by-cons, count_by-le-length}
use Rattle.reuse_ready.specs.declared.name_count.NameCount.{NameCount}
use Rattle.reuse_ready.specs.Ready.{ready_style}
use Rattle.reuse_ready.specs.Tally.{is_spelling, row_of}

-- the row of a first spelling, and of how often the name stands there
abbrev pub row_by : Option (List ℕ) → ℕ → Option NameCount
row_by first n = option_map (λ (name : List ℕ). record { name = name; count = n; style = ready_style name }) first

-- a row, or the first one, with the name once more
abbrev pub more : List ℕ → Option NameCount → NameCount
more name None = record { name = name; count = 1; style = ready_style name }
more name (Some row) = record { name = row.name; count = row.count + 1; style = row.style }

-- what is not found is not counted
none_counted : (p : List ℕ → Bool) (names : List (List ℕ)) → find p names ≡ None → count_by p names ≡ 0
none_counted p [] e = refl
none_counted p (name ∷ names) e =
    sum_by-cons (λ x. cond (p x) 1 0) name names ∙ by (p name) e (none_counted p names)
  where
    by : (b : Bool) → cond b (Some name) (find p names) ≡ None → (find p names ≡ None → count_by p names ≡ 0)
        → cond b 1 0 + count_by p names ≡ 0
    by true e h = let none : Some name ≡ None = e in cc
    by false e h = omega (arith, h e)

joined : (first : Option (List ℕ)) (n : ℕ) (name : List ℕ) (b : Bool) → (first ≡ None → n ≡ 0)
    → row_by (option_or first (cond b (Some name) None)) (n + cond b 1 0) ≡ cond b (Some (more name (row_by first n)))
    (row_by first n)
joined None n name true none =
    ap (λ (k : ℕ). row_by (Some name) k) (let e : n + 1 ≡ 1 = omega (arith, none refl) in e)
joined None n name false none = refl
joined (Some first) n name true none = refl
joined (Some first) n name false none =
    ap (λ (k : ℕ). row_by (Some first) k) (let e : n + 0 ≡ n = omega arith in e)

and_none : (n : ℕ) → n + 0 ≡ n
and_none n = omega arith

-- the row with one name more
pub row_more : (names : List (List ℕ)) (name lowered : List ℕ)
    → row_of (names ++ name ∷ []) lowered ≡ cond (is_spelling lowered name) (Some (more name (row_of names lowered)))
    (row_of names lowered)
row_more names name lowered =
    let p : List ℕ → Bool = is_spelling lowered in
    let last : count_by p (name ∷ []) ≡ cond (p name) 1 0 =
    sum_by-cons (λ x. cond (p x) 1 0) name [] ∙ and_none (cond (p name) 1 0) in
    let counted : count_by p (names ++ name ∷ []) ≡ count_by p names + cond (p name) 1 0 =
    sum_by-append (λ x. cond (p x) 1 0) names (name ∷ []) ∙ ap (λ (k : ℕ). count_by p names + k) last in
    ap (λ (first : Option (List ℕ)). row_by first (count_by p (names ++ name ∷ []))) (find-append p names (name ∷ []))
    ∙ ap (λ (k : ℕ). row_by (option_or (find p names) (cond (p name) (Some name) None)) k) counted
    ∙ joined (find p names) (count_by p names) name (p name) (none_counted p names)

-- a row counts no more names than there are
counted_in : (first : Option (List ℕ)) (n : ℕ) (row : NameCount) → row_by first n ≡ Some row → row.count ≡ n
counted_in None n row e = let none : None ≡ Some row = e in cc
counted_in (Some first) n row e =
    let is : record { name = first; count = n; style = ready_style first } ≡ row = cc in
    ap (λ (r : NameCount). r.count) (sym is)

pub count_within : (names : List (List ℕ)) (lowered : List ℕ) (row : NameCount) → row_of names lowered ≡ Some row
    → row.count ≤ length names
count_within names lowered row e =
    let is = counted_in (find (is_spelling lowered) names) (count_by (is_spelling lowered) names) row e in
    omega (arith, count_by-le-length (is_spelling lowered) names)
