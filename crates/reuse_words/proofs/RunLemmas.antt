-- Runs of rows, one row at a time.
use Rattle.std.proofs.Common.{◌≡◌, ℕ, suc, ◌+◌, ◌≤◌, true, false, List, [], ◌∷◌, length, cond}
use Rattle.std.proofs.Common.{Option, None, Some, refl, sym, ap, subst, ◌∙◌, arith, map}
use Rattle.std.proofs.lemmas.List.{length-map}
use Rattle.std.specs.Prelude.{option_and_then, IfSome}
use Rattle.std.specs.Option.{option_map, option_or}
use Rattle.reuse_text.specs.Text.{is_empty}
use Rattle.reuse_words.specs.declared.runs.Run.{Run}
use Rattle.reuse_words.specs.Runs.{words_behind, run_count, run_here, later, first_run}

-- a run behind so many rows
abbrev pub later_by : ℕ → Run → Run
later_by n run = record { start = n + run.start; count = run.count }

-- ---- counts

counted_more : (count : ℕ) (o : Option ℕ)
    → option_map (λ more. count + more) (option_map (λ n. suc n) o) ≡ option_map (λ more. (count + 1) + more) o
counted_more count None = refl
counted_more count (Some n) = ap Some (omega arith)

-- a row that words begin with is counted
pub count_step : (count w : ℕ) (words row left : List ℕ) (rows : List (List ℕ))
    → words_behind row (w ∷ words) ≡ Some left
    → option_map (λ more. (count + 1) + more) (run_count left rows)
    ≡ option_map (λ more. count + more) (run_count (w ∷ words) (row ∷ rows))
unfolding run_count
count_step count w words row left rows e =
    sym (counted_more count (run_count left rows))
    ∙ ap (λ o. option_map (λ more. count + more) (option_map (λ n. suc n) (option_and_then (λ l. run_count l rows) o)))
    (sym e)

pub count_stops : (count w : ℕ) (words row : List ℕ) (rows : List (List ℕ)) → words_behind row (w ∷ words) ≡ None
    → option_map (λ more. count + more) (run_count (w ∷ words) (row ∷ rows)) ≡ None
unfolding run_count
count_stops count w words row rows e =
    ap (λ o. option_map (λ more. count + more) (option_map (λ n. suc n) (option_and_then (λ l. run_count l rows) o))) e

pub count_ends : (count w : ℕ) (words : List ℕ)
    → option_map (λ more. count + more) (run_count (w ∷ words) []) ≡ None
unfolding run_count
count_ends count w words = refl

pub count_whole : (count : ℕ) (rows : List (List ℕ))
    → option_map (λ more. count + more) (run_count [] rows) ≡ Some count
unfolding run_count
count_whole count rows = ap Some (omega arith)

pub counted_all : (o : Option ℕ) → option_map (λ more. 0 + more) o ≡ o
counted_all None = refl
counted_all (Some n) = ap Some (omega arith)

-- ---- first runs

pub later_none : (o : Option Run) → option_map (later_by 0) o ≡ o
later_none None = refl
later_none (Some run) = ap (λ n. Some (record { start = n; count = run.count })) (omega arith)

later_more : (n : ℕ) (o : Option Run) → option_map (later_by (n + 1)) o ≡ option_map (later_by n) (option_map later o)
later_more n None = refl
later_more n (Some run) = ap (λ m. Some (record { start = m; count = run.count })) (omega arith)

-- a row at which no run begins
pub none_here : (n : ℕ) (words row : List ℕ) (rows : List (List ℕ)) → run_here words row rows ≡ None
    → option_map (later_by (n + 1)) (first_run words rows) ≡ option_map (later_by n) (first_run words (row ∷ rows))
unfolding first_run
none_here n words row rows e =
    later_more n (first_run words rows)
    ∙ ap (λ o. option_map (later_by n) (option_or o (option_map later (first_run words rows)))) (sym e)

-- a row at which one does
pub one_here : (n count : ℕ) (words row : List ℕ) (rows : List (List ℕ)) → is_empty row ≡ false
    → run_count words (row ∷ rows) ≡ Some count
    → option_map (later_by n) (first_run words (row ∷ rows)) ≡ Some (record { start = n; count = count })
unfolding first_run
one_here n count words row rows full is =
    ap (λ t. option_map (later_by n) (option_or (cond t None
    (option_map (λ c. record { start = 0; count = c }) (run_count words (row ∷ rows))))
    (option_map later (first_run words rows)))) full
    ∙ ap (λ o. option_map (later_by n) (option_or (option_map (λ c. record { start = 0; count = c }) o)
    (option_map later (first_run words rows)))) is
    ∙ ap (λ m. Some (record { start = m; count = count })) (omega arith)

pub blank_here : (words row : List ℕ) (rows : List (List ℕ)) → is_empty row ≡ true → run_here words row rows ≡ None
blank_here words row rows e =
    ap (λ t. cond t None (option_map (λ c. record { start = 0; count = c }) (run_count words (row ∷ rows)))) e

pub uncounted_here : (words row : List ℕ) (rows : List (List ℕ)) → run_count words (row ∷ rows) ≡ None
    → run_here words row rows ≡ None
uncounted_here words [] rows e = refl
uncounted_here words (b ∷ row) rows e = ap (option_map (λ c. record { start = 0; count = c })) e

-- ---- runs are within their rows

suc_within : (o : Option ℕ) (n : ℕ) → IfSome o (λ count. count ≤ n)
    → IfSome (option_map (λ c. suc c) o) (λ count. count ≤ suc n)
suc_within None n h = tt
suc_within (Some count) n h = omega arith

left_within : (o : Option (List ℕ)) (rows : List (List ℕ))
    → ((left : List ℕ) → IfSome (run_count left rows) (λ count. count ≤ length rows))
    → IfSome (option_and_then (λ left. run_count left rows) o) (λ count. count ≤ length rows)
left_within None rows h = tt
left_within (Some left) rows h = h left

pub count_within : (words : List ℕ) (rows : List (List ℕ))
    → IfSome (run_count words rows) (λ count. count ≤ length rows)
unfolding run_count
count_within [] rows = omega arith
count_within (w ∷ words) [] = tt
count_within (w ∷ words) (row ∷ rows) =
    suc_within (option_and_then (λ left. run_count left rows) (words_behind row (w ∷ words))) (length rows)
    (left_within (words_behind row (w ∷ words)) rows (λ left. count_within left rows))

-- a run lies within so many rows
abbrev pub Within : ℕ → Run → Type 0
Within n run = run.start + run.count ≤ n

begun_within : (o : Option ℕ) (n : ℕ) → IfSome o (λ count. count ≤ n)
    → IfSome (option_map (λ count. record { start = 0; count = count }) o) (Within n)
begun_within None n h = tt
begun_within (Some count) n h = omega arith

here_within : (words row : List ℕ) (rows : List (List ℕ))
    → IfSome (run_here words row rows) (Within (suc (length rows)))
here_within words [] rows = tt
here_within words (b ∷ row) rows =
    begun_within (run_count words ((b ∷ row) ∷ rows)) (suc (length rows)) (count_within words ((b ∷ row) ∷ rows))

later_within : (o : Option Run) (n : ℕ) → IfSome o (Within n) → IfSome (option_map later o) (Within (suc n))
later_within None n h = tt
later_within (Some run) n h = omega arith

or_within : (o other : Option Run) (n : ℕ) → IfSome o (Within n) → IfSome other (Within n)
    → IfSome (option_or o other) (Within n)
or_within None other n h k = k
or_within (Some run) other n h k = h

pub first_within : (words : List ℕ) (rows : List (List ℕ)) → IfSome (first_run words rows) (Within (length rows))
unfolding first_run
first_within words [] = tt
first_within words (row ∷ rows) =
    or_within (run_here words row rows) (option_map later (first_run words rows)) (suc (length rows))
    (here_within words row rows) (later_within (first_run words rows) (length rows) (first_within words rows))

pub first_within_contents : {X : Type 0} (words : List ℕ) (row : X → List ℕ) (contents : List X)
    → IfSome (first_run words (map row contents)) (Within (length contents))
first_within_contents words row contents =
    subst (λ n. IfSome (first_run words (map row contents)) (Within n)) (length-map contents row)
    (first_within words (map row contents))
