-- Runs of elements that each have words: which they are, and that the first is found.
use Rattle.std.proofs.Common.{◌≡◌, ◌≢◌, ℕ, suc, ◌+◌, ◌≤◌, Bool, true, false, List, [], ◌∷◌, ◌++◌, length, take, drop}
use Rattle.std.proofs.Common.{Option, None, Some, refl, sym, ap, subst, ◌∙◌, arith, map, nat_eq, cond}
use Rattle.std.specs.Prelude.{option_and_then, flat_map, IfSome, MatchOption}
use Rattle.std.specs.List.{starts_with}
use Rattle.std.specs.Option.{option_map, option_or}
use Rattle.std.proofs.lemmas.List.{drop_at, take-append-drop, drop-drop, append-nil}
use Rattle.std.proofs.lemmas.Slice.Eq.{starts_is}
use Rattle.std.proofs.lemmas.Bool.Decides.{Decides-eqb}
use Rattle.reuse_text.specs.Text.{is_empty}
use Rattle.reuse_words.specs.declared.runs.Run.{Run}
use Rattle.reuse_words.specs.Runs.{words_behind, run_count, run_here, later, first_run}
use Rattle.reuse_words.proofs.RunLemmas.{later_none, one_here}

-- ---- words behind a row

behind_by : (row words left : List ℕ) (t : Bool) → starts_with nat_eq words row ≡ t
    → cond t (Some (drop (length row) words)) None ≡ Some left → words ≡ row ++ left
behind_by row words left false is e = absurd (let none : ⊥ = cc in none)
behind_by row words left true is e =
    let same : drop (length row) words ≡ left = cc in
    (starts_is Decides-eqb words row true (sym is)).0 refl ∙ ap (λ (l : List ℕ). row ++ l) same

behind_split : (row words left : List ℕ) → words_behind row words ≡ Some left → words ≡ row ++ left
behind_split row words left e = behind_by row words left (starts_with nat_eq words row) refl e

split_behind : (row left : List ℕ) → words_behind row (row ++ left) ≡ Some left
split_behind row left =
    ap (λ (t : Bool). cond t (Some (drop (length row) (row ++ left))) None)
    ((starts_is Decides-eqb (row ++ left) row (starts_with nat_eq (row ++ left) row) refl).1 left refl)
    ∙ ap Some (drop_at row left (length row) refl)

-- ---- the parts of a count

counted : (o : Option ℕ) (n : ℕ) → option_map (λ c. suc c) o ≡ Some n → (m : ℕ) × (o ≡ Some m) × (n ≡ suc m)
counted None n e = absurd (let none : ⊥ = cc in none)
counted (Some m) n e = (m, refl, (let same : n ≡ suc m = cc in same))

left_some : (o : Option (List ℕ)) (rows : List (List ℕ)) (m : ℕ)
    → option_and_then (λ left. run_count left rows) o ≡ Some m
    → (left : List ℕ) × (o ≡ Some left) × (run_count left rows ≡ Some m)
left_some None rows m e = absurd (let none : ⊥ = cc in none)
left_some (Some left) rows m e = (left, refl, e)

-- a count of a row and of those behind it
count_parts : (w : ℕ) (words row : List ℕ) (rows : List (List ℕ)) (n : ℕ)
    → run_count (w ∷ words) (row ∷ rows) ≡ Some n
    → (left : List ℕ) × (m : ℕ) × ((w ∷ words) ≡ row ++ left) × (run_count left rows ≡ Some m) × (n ≡ suc m)
unfolding run_count
count_parts w words row rows n e =
    let more = counted (option_and_then (λ left. run_count left rows) (words_behind row (w ∷ words))) n e in
    let rest = left_some (words_behind row (w ∷ words)) rows more.0 more.1 in
    (rest.0, more.0, behind_split row (w ∷ words) rest.0 rest.1, rest.2, more.2)

count_first : (words row left : List ℕ) (rows : List (List ℕ)) (m : ℕ) → words ≢ [] → words ≡ row ++ left
    → run_count left rows ≡ Some m → run_count words (row ∷ rows) ≡ Some (suc m)
unfolding run_count
count_first [] row left rows m some split is = absurd (some refl)
count_first (w ∷ words) row left rows m some split is =
    ap (λ (o : Option (List ℕ)). option_map (λ n. suc n) (option_and_then (λ l. run_count l rows) o))
    (ap (words_behind row) split ∙ split_behind row left)
    ∙ ap (λ (o : Option ℕ). option_map (λ n. suc n) o) is

count_nothing : (rows : List (List ℕ)) → run_count [] rows ≡ Some 0
unfolding run_count
count_nothing rows = refl

count_nowhere : (w : ℕ) (words : List ℕ) → run_count (w ∷ words) [] ≡ None
unfolding run_count
count_nowhere w words = refl

counts_nothing : (rows : List (List ℕ)) (n : ℕ) → run_count [] rows ≡ Some n → 0 ≡ n
counts_nothing rows n e =
    let z : Some 0 ≡ Some n = sym (count_nothing rows) ∙ e in let same : 0 ≡ n = cc in same

-- ---- first runs, row by row

pub first_more : (words row : List ℕ) (rows : List (List ℕ))
    → first_run words (row ∷ rows) ≡ option_or (run_here words row rows) (option_map later (first_run words rows))
unfolding first_run
first_more words row rows = refl

pub first_nowhere : (words : List ℕ) → first_run words [] ≡ None
unfolding first_run
first_nowhere words = refl

abbrev pub StartsBy : ℕ → Run → Type 0
StartsBy n run = run.start ≤ n

begun_here : (o : Option ℕ) (n : ℕ) → IfSome (option_map (λ c. record { start = 0; count = c }) o) (StartsBy n)
begun_here None n = tt
begun_here (Some c) n = omega arith

starts_here : (words row : List ℕ) (rows : List (List ℕ)) (n : ℕ) → IfSome (run_here words row rows) (StartsBy n)
starts_here words [] rows n = tt
starts_here words (b ∷ row) rows n = begun_here (run_count words ((b ∷ row) ∷ rows)) n

least_or : (o other : Option Run) (n : ℕ) → IfSome o (StartsBy n) → MatchOption other ⊥ (StartsBy n)
    → MatchOption (option_or o other) ⊥ (StartsBy n)
least_or None other n h k = k
least_or (Some run) other n h k = h

least_later : (o : Option Run) (n : ℕ) → MatchOption o ⊥ (StartsBy n)
    → MatchOption (option_map later o) ⊥ (StartsBy (suc n))
least_later None n h = h
least_later (Some run) n h = omega arith

full : (row : List ℕ) → row ≢ [] → is_empty row ≡ false
full [] some = absurd (some refl)
full (b ∷ row) some = refl

full_some : (row : List ℕ) → is_empty row ≡ false → row ≢ []
full_some [] e = absurd (let none : ⊥ = cc in none)
full_some (b ∷ row) e = λ nil. let none : ⊥ = cc in none

append_some : (xs ys : List ℕ) → ys ≢ [] → (xs ++ ys) ≢ []
append_some [] ys some = some
append_some (x ∷ xs) ys some = λ nil. let none : ⊥ = cc in none

-- ---- runs of elements, each with its words

module _ {X : Type 0} (f : X → List ℕ) where
  -- some elements begin with one that has words, and end with one
  abbrev pub Begins : List X → Type 0
  Begins xs = (first : X) × (others : List X) × (xs ≡ first ∷ others) × (f first ≢ [])

  abbrev pub Ends : List X → Type 0
  Ends xs = (others : List X) × (last : X) × (xs ≡ others ++ last ∷ []) × (f last ≢ [])

  -- what is counted has the words
  count_sound : (words : List ℕ) (xs : List X) (n : ℕ) → run_count words (map f xs) ≡ Some n
      → flat_map f (take n xs) ≡ words
  count_sound [] xs n e = subst (λ (k : ℕ). flat_map f (take k xs) ≡ []) (counts_nothing (map f xs) n e) refl
  count_sound (w ∷ words) [] n e =
      absurd (let bad : None ≡ Some n = sym (count_nowhere w words) ∙ e in let none : ⊥ = cc in none)
  count_sound (w ∷ words) (x ∷ xs) n e =
      let parts = count_parts w words (f x) (map f xs) n e in
      ap (λ (k : ℕ). flat_map f (take k (x ∷ xs))) parts.4
      ∙ ap (λ (bytes : List ℕ). f x ++ bytes) (count_sound parts.0 xs parts.1 parts.3) ∙ sym parts.2

  ends_step : (x : X) (xs : List X) (w : ℕ) (words left : List ℕ) (m n : ℕ) → (w ∷ words) ≡ f x ++ left
      → run_count left (map f xs) ≡ Some m → n ≡ suc m
      → ((l : ℕ) (ls : List ℕ) (k : ℕ) → run_count (l ∷ ls) (map f xs) ≡ Some k → Ends (take k xs))
      → Ends (take n (x ∷ xs))
  ends_step x xs w words [] m n split is e ih =
      subst (λ (k : ℕ). Ends (take k (x ∷ xs)))
      (ap (λ (k : ℕ). suc k) (counts_nothing (map f xs) m is) ∙ sym e) (
        [],
        x,
        refl,
        λ nil. let bad : (w ∷ words) ≡ [] = split ∙ ap (λ (r : List ℕ). r ++ []) nil in let none : ⊥ = cc in none,
      )
  ends_step x xs w words (l ∷ ls) m n split is e ih =
      let rest = ih l ls m is in
      subst (λ (k : ℕ). Ends (take k (x ∷ xs))) (sym e)
      (x ∷ rest.0, rest.1, ap (λ (ys : List X). x ∷ ys) rest.2, rest.3)

  count_ends : (w : ℕ) (words : List ℕ) (xs : List X) (n : ℕ) → run_count (w ∷ words) (map f xs) ≡ Some n
      → Ends (take n xs)
  count_ends w words [] n e =
      absurd (let bad : None ≡ Some n = sym (count_nowhere w words) ∙ e in let none : ⊥ = cc in none)
  count_ends w words (x ∷ xs) n e =
      let parts = count_parts w words (f x) (map f xs) n e in
      ends_step x xs w words parts.0 parts.1 n parts.2 parts.3 parts.4 (λ l ls k is. count_ends l ls xs k is)

  count_begins : (w : ℕ) (words : List ℕ) (x : X) (xs : List X) (n : ℕ) → f x ≢ []
      → run_count (w ∷ words) (map f (x ∷ xs)) ≡ Some n → Begins (take n (x ∷ xs))
  count_begins w words x xs n some e =
      let parts = count_parts w words (f x) (map f xs) n e in
      (x, take parts.1 xs, ap (λ (k : ℕ). take k (x ∷ xs)) parts.4, some)

  -- elements that end with words are counted
  flat_some : (others : List X) (last : X) → f last ≢ [] → flat_map f (others ++ last ∷ []) ≢ []
  flat_some [] last some = subst (λ (r : List ℕ). r ≢ []) (sym (append-nil (f last))) some
  flat_some (x ∷ others) last some =
      append_some (f x) (flat_map f (others ++ last ∷ [])) (flat_some others last some)

  count_found : (others : List X) (last : X) (back : List X) → f last ≢ []
      → run_count (flat_map f (others ++ last ∷ [])) (map f ((others ++ last ∷ []) ++ back))
      ≡ Some (length (others ++ last ∷ []))
  count_found [] last back some =
      count_first (f last ++ []) (f last) [] (map f back) 0 (flat_some [] last some) refl (count_nothing (map f back))
  count_found (x ∷ others) last back some =
      count_first (f x ++ flat_map f (others ++ last ∷ [])) (f x) (flat_map f (others ++ last ∷ []))
      (map f ((others ++ last ∷ []) ++ back)) (length (others ++ last ∷ []))
      (append_some (f x) (flat_map f (others ++ last ∷ [])) (flat_some others last some)) refl
      (count_found others last back some)

  count_run : (run back : List X) → Ends run → run_count (flat_map f run) (map f (run ++ back)) ≡ Some (length run)
  count_run run back (others, last, is, some) =
      subst (λ (r : List X). run_count (flat_map f r) (map f (r ++ back)) ≡ Some (length r)) (sym is)
      (count_found others last back some)

  here_by : (run back : List X) (first : X) (others : List X) (words : List ℕ) → run ≡ first ∷ others → f first ≢ []
      → run_count words (map f (run ++ back)) ≡ Some (length run)
      → first_run words (map f (run ++ back)) ≡ Some (record { start = 0; count = length run })
  here_by run back first others words is some count =
      let there : run_count words (f first ∷ map f (others ++ back)) ≡ Some (length run) =
      ap (λ (r : List X). run_count words (map f (r ++ back))) (sym is) ∙ count in
      ap (λ (r : List X). first_run words (map f (r ++ back))) is
      ∙ sym (later_none (first_run words (f first ∷ map f (others ++ back))))
      ∙ one_here 0 (length run) words (f first) (map f (others ++ back)) (full (f first) some) there

  -- the first run is found, at most behind the elements in front of any
  pub first_least : (front run back : List X) (words : List ℕ) → flat_map f run ≡ words → Begins run → Ends run
      → MatchOption (first_run words (map f (front ++ (run ++ back)))) ⊥ (StartsBy (length front))
  first_least [] run back words says (first, others, is, some) ends =
      let found = here_by run back first others words is some
      (subst (λ (w : List ℕ). run_count w (map f (run ++ back)) ≡ Some (length run)) says (count_run run back ends)) in
      subst (λ (o : Option Run). MatchOption o ⊥ (StartsBy 0)) (sym found) (omega arith)
  first_least (x ∷ front) run back words says begins ends =
      subst (λ (o : Option Run). MatchOption o ⊥ (StartsBy (suc (length front))))
      (sym (first_more words (f x) (map f (front ++ (run ++ back)))))
      (least_or (run_here words (f x) (map f (front ++ (run ++ back))))
      (option_map later (first_run words (map f (front ++ (run ++ back))))) (suc (length front))
      (starts_here words (f x) (map f (front ++ (run ++ back))) (suc (length front)))
      (least_later (first_run words (map f (front ++ (run ++ back)))) (length front)
      (first_least front run back words says begins ends)))

  -- what is found is a run
  pub record IsRunOf (words : List ℕ) (run : List X) : Type 0 where
    pub says : flat_map f run ≡ words
    pub begins : Begins run
    pub ends : Ends run

  abbrev pub RunAt : List ℕ → List X → Run → Type 0
  RunAt words xs run = IsRunOf words (take run.count (drop run.start xs))

  sound_count : (w : ℕ) (words : List ℕ) (x : X) (xs : List X) (o : Option ℕ) → f x ≢ []
      → run_count (w ∷ words) (map f (x ∷ xs)) ≡ o
      → IfSome (option_map (λ c. record { start = 0; count = c }) o) (RunAt (w ∷ words) (x ∷ xs))
  sound_count w words x xs None some e = tt
  sound_count w words x xs (Some n) some e = record {
    says = count_sound (w ∷ words) (x ∷ xs) n e;
    begins = count_begins w words x xs n some e;
    ends = count_ends w words (x ∷ xs) n e;
  }

  sound_here : (w : ℕ) (words : List ℕ) (x : X) (xs : List X) (t : Bool) → is_empty (f x) ≡ t
      → IfSome (cond t None
      (option_map (λ c. record { start = 0; count = c }) (run_count (w ∷ words) (map f (x ∷ xs)))))
      (RunAt (w ∷ words) (x ∷ xs))
  sound_here w words x xs true e = tt
  sound_here w words x xs false e =
      sound_count w words x xs (run_count (w ∷ words) (map f (x ∷ xs))) (full_some (f x) e) refl

  sound_later : (words : List ℕ) (x : X) (xs : List X) (o : Option Run) → IfSome o (RunAt words xs)
      → IfSome (option_map later o) (RunAt words (x ∷ xs))
  sound_later words x xs None h = tt
  sound_later words x xs (Some run) h = h

  sound_or : (words : List ℕ) (xs : List X) (o other : Option Run) → IfSome o (RunAt words xs)
      → IfSome other (RunAt words xs) → IfSome (option_or o other) (RunAt words xs)
  sound_or words xs None other h k = k
  sound_or words xs (Some run) other h k = h

  pub first_sound : (w : ℕ) (words : List ℕ) (xs : List X)
      → IfSome (first_run (w ∷ words) (map f xs)) (RunAt (w ∷ words) xs)
  first_sound w words [] =
      subst (λ (o : Option Run). IfSome o (RunAt (w ∷ words) [])) (sym (first_nowhere (w ∷ words))) tt
  first_sound w words (x ∷ xs) =
      subst (λ (o : Option Run). IfSome o (RunAt (w ∷ words) (x ∷ xs))) (sym (first_more (w ∷ words) (f x) (map f xs)))
      (sound_or (w ∷ words) (x ∷ xs) (run_here (w ∷ words) (f x) (map f xs))
      (option_map later (first_run (w ∷ words) (map f xs)))
      (sound_here w words x xs (is_empty (f x)) refl)
      (sound_later (w ∷ words) x xs (first_run (w ∷ words) (map f xs)) (first_sound w words xs)))

  -- ---- elements with words have a run

  abbrev pub Core : List X → Type 0
  Core xs = (front : List X) × (run : List X) × (back : List X) × (xs ≡ front ++ (run ++ back))
      × (flat_map f run ≡ flat_map f xs) × Begins run × Ends run

  abbrev Front : List X → Type 0
  Front xs = (front : List X) × (first : X) × (others : List X) × (xs ≡ front ++ (first ∷ others))
      × (flat_map f (first ∷ others) ≡ flat_map f xs) × (f first ≢ [])

  front_step : (x : X) (xs : List X) (row : List ℕ) → f x ≡ row → (f x ++ flat_map f xs) ≢ []
      → (flat_map f xs ≢ [] → Front xs) → Front (x ∷ xs)
  front_step x xs [] is some ih =
      let e : f x ++ flat_map f xs ≡ flat_map f xs = ap (λ (r : List ℕ). r ++ flat_map f xs) is in
      let rest = ih (λ nil. some (e ∙ nil)) in
      (x ∷ rest.0, rest.1, rest.2, ap (λ (ys : List X). x ∷ ys) rest.3, rest.4 ∙ sym e, rest.5)
  front_step x xs (b ∷ row) is some ih =
      ([], x, xs, refl, refl, λ nil. let bad : (b ∷ row) ≡ [] = sym is ∙ nil in let none : ⊥ = cc in none)

  front_of : (xs : List X) → flat_map f xs ≢ [] → Front xs
  front_of [] some = absurd (some refl)
  front_of (x ∷ xs) some = front_step x xs (f x) refl some (λ more. front_of xs more)

  abbrev Back : List X → Type 0
  Back xs = (others : List X) × (last : X) × (back : List X) × (xs ≡ (others ++ last ∷ []) ++ back)
      × (flat_map f (others ++ last ∷ []) ≡ flat_map f xs) × (f last ≢ [])

  back_step : (x : X) (xs : List X) (behind : List ℕ) → flat_map f xs ≡ behind → (f x ++ flat_map f xs) ≢ []
      → (flat_map f xs ≢ [] → Back xs) → Back (x ∷ xs)
  back_step x xs [] is some ih =
      let e : f x ++ flat_map f xs ≡ f x = ap (λ (r : List ℕ). f x ++ r) is ∙ append-nil (f x) in
      ([], x, xs, refl, append-nil (f x) ∙ sym e, λ nil. some (e ∙ nil))
  back_step x xs (b ∷ behind) is some ih =
      let rest = ih (λ nil. let bad : (b ∷ behind) ≡ [] = sym is ∙ nil in let none : ⊥ = cc in none) in (
        x ∷ rest.0,
        rest.1,
        rest.2,
        ap (λ (ys : List X). x ∷ ys) rest.3,
        ap (λ (r : List ℕ). f x ++ r) rest.4,
        rest.5,
      )

  back_of : (xs : List X) → flat_map f xs ≢ [] → Back xs
  back_of [] some = absurd (some refl)
  back_of (x ∷ xs) some = back_step x xs (flat_map f xs) refl some (λ more. back_of xs more)

  begins_of : (others : List X) (last : X) (back : List X) (first : X) (rest : List X)
      → (first ∷ rest) ≡ (others ++ last ∷ []) ++ back → f first ≢ [] → Begins (others ++ last ∷ [])
  begins_of [] last back first rest e some =
      let same : first ≡ last = cc in
      (last, [], refl, subst (λ (x : X). f x ≢ []) same some)
  begins_of (o ∷ others) last back first rest e some =
      let same : first ≡ o = cc in
      (o, others ++ last ∷ [], refl, subst (λ (x : X). f x ≢ []) same some)

  pub core_of : (xs : List X) → flat_map f xs ≢ [] → Core xs
  core_of xs some =
      let front = front_of xs some in
      let back = back_of (front.1 ∷ front.2) (λ nil. some (sym front.4 ∙ nil)) in (
        front.0,
        back.0 ++ back.1 ∷ [],
        back.2,
        front.3 ∙ ap (λ (ys : List X). front.0 ++ ys) back.3,
        back.4 ∙ front.4,
        begins_of back.0 back.1 back.2 front.1 front.2 back.3 front.5,
        (back.0, back.1, refl, back.5),
      )

-- ---- lists cut by a run

pub cut_joined : {X : Type 0} (xs : List X) (s n : ℕ) → xs ≡ take s xs ++ (take n (drop s xs) ++ drop (s + n) xs)
cut_joined xs s n =
    sym (take-append-drop s xs)
    ∙ ap (λ ys. take s xs ++ ys)
    (sym (take-append-drop n (drop s xs)) ∙ ap (λ ys. take n (drop s xs) ++ ys) (drop-drop n s xs))
