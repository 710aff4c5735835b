-- The first run of contents as a relation, and what contents with a text and without it hold.
use Rattle.std.proofs.Common.{◌≡◌, ◌≢◌, ℕ, ◌+◌, ◌≤◌, Bool, true, false, List, [], ◌∷◌, ◌++◌, length, length-take, take}
use Rattle.std.proofs.Common.{drop, Option, None, Some, refl, sym, ap, subst, ◌∙◌, arith, map, cond, append_assoc}
use Rattle.std.specs.Prelude.{◌||◌, ◌&&◌, is_some, IfSome, MatchOption}
use Rattle.std.specs.List.{list_all}
use Rattle.std.specs.Option.{option_map_or}
use Rattle.reuse_text.specs.Text.{is_empty}
use Rattle.reuse_words.specs.declared.runs.Run.{Run}
use Rattle.reuse_words.specs.Words.{words_in, words_of}
use Rattle.reuse_words.specs.Runs.{first_run, run_of, holds_text, without_run, without_text, separated, with_text}
use Rattle.reuse_words.specs.Runs.{IsCut, IsFirstRun}
use Rattle.reuse_words.specs.Information.{with_texts}
use Rattle.reuse_words.proofs.RowLemmas.{StartsBy, RunAt, first_least, first_sound, core_of, cut_joined}

-- ---- the first run of contents, by the words that are sought

pub run_is : (punct : List ℕ) (text contents : List (List ℕ))
    → run_of punct text contents
    ≡ cond (is_empty (words_of punct text)) None (first_run (words_of punct text) (map (words_in punct) contents))
unfolding run_of
run_is punct text contents = refl

-- a cut at a run that is found
cut_at : (punct words : List ℕ) (contents : List (List ℕ)) (run : Run) → RunAt (words_in punct) words contents run
    → IsCut punct words contents (take run.start contents) (take run.count (drop run.start contents))
    (drop (run.start + run.count) contents)
cut_at punct words contents run at = record {
  joined = cut_joined contents run.start run.count;
  is_run = record { says = at.says; begins = at.begins; ends = at.ends };
}

-- any cut is found, or one in front of it
least_cut : (punct words : List ℕ) (contents front run back : List (List ℕ)) → IsCut punct words contents front run back
    → MatchOption (first_run words (map (words_in punct) contents)) ⊥ (StartsBy (length front))
least_cut punct words contents front run back cut =
    subst (λ (c : List (List ℕ)). MatchOption (first_run words (map (words_in punct) c)) ⊥ (StartsBy (length front)))
    (sym cut.joined)
    (first_least (words_in punct) front run back words cut.is_run.says cut.is_run.begins cut.is_run.ends)

found_least : (o : Option Run) (run : Run) (n : ℕ) → o ≡ Some run → MatchOption o ⊥ (StartsBy n) → run.start ≤ n
found_least None run n e h = absurd h
found_least (Some other) run n e h =
    let same : other.start ≡ run.start = ap (λ (o : Option Run). option_map_or (λ r. r.start) o 0) e in omega arith

take_short : (n : ℕ) (xs : List (List ℕ)) → length (take n xs) ≤ n
take_short n xs = omega (arith, length-take n xs)

found_first : (punct words : List ℕ) (contents : List (List ℕ)) (run : Run)
    → cond (is_empty words) None (first_run words (map (words_in punct) contents)) ≡ Some run
    → IsFirstRun punct words contents (take run.start contents) (take run.count (drop run.start contents))
    (drop (run.start + run.count) contents)
found_first punct [] contents run e = absurd (let none : ⊥ = cc in none)
found_first punct (w ∷ words) contents run e = record {
  cut = cut_at punct (w ∷ words) contents run
      (subst (λ (o : Option Run). IfSome o (RunAt (words_in punct) (w ∷ words) contents)) e
      (first_sound (words_in punct) w words contents));
  least = λ before other behind cut.
      let low = found_least (first_run (w ∷ words) (map (words_in punct) contents)) run (length before) e
      (least_cut punct (w ∷ words) contents before other behind cut) in
      omega (arith, take_short run.start contents, low);
}

pub runs_found : (punct : List ℕ) (text contents : List (List ℕ)) (run : Run) → run_of punct text contents ≡ Some run
    → IsFirstRun punct (words_of punct text) contents (take run.start contents)
    (take run.count (drop run.start contents)) (drop (run.start + run.count) contents)
runs_found punct text contents run e =
    found_first punct (words_of punct text) contents run (sym (run_is punct text contents) ∙ e)

none_least : (o : Option Run) (n : ℕ) → o ≡ None → MatchOption o ⊥ (StartsBy n) → ⊥
none_least None n e h = h
none_least (Some run) n e h = let none : ⊥ = cc in none

unfound : (punct words : List ℕ) (contents : List (List ℕ)) → words ≢ []
    → cond (is_empty words) None (first_run words (map (words_in punct) contents)) ≡ None
    → (front run back : List (List ℕ)) → IsCut punct words contents front run back → ⊥
unfound punct [] contents some e front run back cut = some refl
unfound punct (w ∷ words) contents some e front run back cut =
    none_least (first_run (w ∷ words) (map (words_in punct) contents)) (length front) e
    (least_cut punct (w ∷ words) contents front run back cut)

pub none_found : (punct : List ℕ) (text contents : List (List ℕ)) → words_of punct text ≢ []
    → run_of punct text contents ≡ None
    → (front run back : List (List ℕ)) → IsCut punct (words_of punct text) contents front run back → ⊥
none_found punct text contents some e =
    unfound punct (words_of punct text) contents some (sym (run_is punct text contents) ∙ e)

-- ---- contents with a text hold it

pub some_least : (o : Option Run) (n : ℕ) → MatchOption o ⊥ (StartsBy n) → is_some o ≡ true
some_least None n h = absurd h
some_least (Some run) n h = refl

-- contents that end with a text
behind_found : (punct : List ℕ) (text contents : List (List ℕ)) (words : List ℕ) → words_of punct text ≡ words
    → (is_empty words || is_some (cond (is_empty words) None
    (first_run words (map (words_in punct) (contents ++ text))))) ≡ true
behind_found punct text contents [] is = refl
behind_found punct text contents (w ∷ words) is =
    let core = core_of (words_in punct) text
    (λ nil. let bad : (w ∷ words) ≡ [] = sym is ∙ nil in let none : ⊥ = cc in none) in
    let joined : contents ++ text ≡ (contents ++ core.0) ++ (core.1 ++ core.2) =
    ap (λ (ys : List (List ℕ)). contents ++ ys) core.3 ∙ sym (append_assoc contents core.0 (core.1 ++ core.2)) in
    subst (λ (c : List (List ℕ)). is_some (first_run (w ∷ words) (map (words_in punct) c)) ≡ true) (sym joined)
    (some_least (first_run (w ∷ words) (map (words_in punct) ((contents ++ core.0) ++ (core.1 ++ core.2))))
    (length (contents ++ core.0))
    (first_least (words_in punct) (contents ++ core.0) core.1 core.2 (w ∷ words) (core.4 ∙ is) core.5 core.6))

pub text_behind_held : (punct : List ℕ) (text contents : List (List ℕ))
    → holds_text punct text (contents ++ text) ≡ true
text_behind_held punct text contents =
    ap (λ (o : Option Run). is_empty (words_of punct text) || is_some o) (run_is punct text (contents ++ text))
    ∙ behind_found punct text contents (words_of punct text) refl

held_by : (punct : List ℕ) (text contents : List (List ℕ)) (t : Bool) → holds_text punct text contents ≡ t
    → holds_text punct text (cond t contents (separated contents ++ text)) ≡ true
held_by punct text contents true is = is
held_by punct text contents false is = text_behind_held punct text (separated contents)

pub text_held : (punct : List ℕ) (text contents : List (List ℕ))
    → holds_text punct text (with_text punct text contents) ≡ true
text_held punct text contents = held_by punct text contents (holds_text punct text contents) refl

pub held_stays : (punct : List ℕ) (text contents : List (List ℕ)) → holds_text punct text contents ≡ true
    → with_text punct text contents ≡ contents
held_stays punct text contents is = ap (λ (t : Bool). cond t contents (separated contents ++ text)) is

-- ---- contents without a text

pub found_without : (punct : List ℕ) (text contents : List (List ℕ)) (run : Run) → run_of punct text contents ≡ Some run
    → without_text punct text contents ≡ take run.start contents ++ drop (run.start + run.count) contents
found_without punct text contents run e = ap (λ (o : Option Run). option_map_or (without_run contents) o contents) e

pub unfound_stays : (punct : List ℕ) (text contents : List (List ℕ)) → run_of punct text contents ≡ None
    → without_text punct text contents ≡ contents
unfound_stays punct text contents e = ap (λ (o : Option Run). option_map_or (without_run contents) o contents) e

-- ---- texts stay held

run_kept : (punct words : List ℕ) (contents others : List (List ℕ))
    → ((run : Run) → RunAt (words_in punct) words contents run → (front : List (List ℕ)) × (back : List (List ℕ))
    × (others ≡ front ++ (take run.count (drop run.start contents) ++ back)))
    → (is_empty words || is_some (cond (is_empty words) None (first_run words (map (words_in punct) contents)))) ≡ true
    → (is_empty words || is_some (cond (is_empty words) None (first_run words (map (words_in punct) others)))) ≡ true
run_kept punct [] contents others stands e = refl
run_kept punct (w ∷ words) contents others stands e =
    by_run (first_run (w ∷ words) (map (words_in punct) contents)) refl e
  where
    by_run : (o : Option Run) → first_run (w ∷ words) (map (words_in punct) contents) ≡ o → is_some o ≡ true
        → is_some (first_run (w ∷ words) (map (words_in punct) others)) ≡ true
    by_run None is e = absurd (let none : ⊥ = cc in none)
    by_run (Some run) is e =
        let at = subst (λ (o : Option Run). IfSome o (RunAt (words_in punct) (w ∷ words) contents)) is
        (first_sound (words_in punct) w words contents) in
        let here = take run.count (drop run.start contents) in
        let there = stands run at in
        subst (λ (c : List (List ℕ)). is_some (first_run (w ∷ words) (map (words_in punct) c)) ≡ true) (sym there.2)
        (some_least (first_run (w ∷ words) (map (words_in punct) (there.0 ++ (here ++ there.1)))) (length there.0)
        (first_least (words_in punct) there.0 here there.1 (w ∷ words) at.says at.begins at.ends))

-- a text that contents hold is held by others in which each run that is the text stands
pub held_among : (punct : List ℕ) (text contents others : List (List ℕ))
    → ((run : Run) → RunAt (words_in punct) (words_of punct text) contents run
    → (front : List (List ℕ)) × (back : List (List ℕ))
    × (others ≡ front ++ (take run.count (drop run.start contents) ++ back)))
    → holds_text punct text contents ≡ true → holds_text punct text others ≡ true
held_among punct text contents others stands e =
    ap (λ (o : Option Run). is_empty (words_of punct text) || is_some o) (run_is punct text others)
    ∙ run_kept punct (words_of punct text) contents others stands
    (sym (ap (λ (o : Option Run). is_empty (words_of punct text) || is_some o) (run_is punct text contents)) ∙ e)

held_append : (punct : List ℕ) (text contents more : List (List ℕ)) → holds_text punct text contents ≡ true
    → holds_text punct text (contents ++ more) ≡ true
held_append punct text contents more e = held_among punct text contents (contents ++ more)
    (λ run at. let front = take run.start contents in
    let here = take run.count (drop run.start contents) in
    let back = drop (run.start + run.count) contents in (
      front,
      back ++ more,
      ap (λ (c : List (List ℕ)). c ++ more) (cut_joined contents run.start run.count)
          ∙ append_assoc front (here ++ back) more
          ∙ ap (λ (c : List (List ℕ)). front ++ c) (append_assoc here back more),
    )) e

held_separated : (punct : List ℕ) (text contents more : List (List ℕ)) → holds_text punct text contents ≡ true
    → holds_text punct text (separated contents ++ more) ≡ true
held_separated punct text [] more e = held_append punct text [] more e
held_separated punct text (c ∷ contents) more e =
    held_append punct text ((c ∷ contents) ++ [] ∷ []) more (held_append punct text (c ∷ contents) ([] ∷ []) e)

held_with : (punct : List ℕ) (text other contents : List (List ℕ)) (t : Bool) → holds_text punct text contents ≡ true
    → holds_text punct text (cond t contents (separated contents ++ other)) ≡ true
held_with punct text other contents true e = e
held_with punct text other contents false e = held_separated punct text contents other e

held_with_texts : (punct : List ℕ) (text : List (List ℕ)) (texts : List (List (List ℕ))) (contents : List (List ℕ))
    → holds_text punct text contents ≡ true → holds_text punct text (with_texts punct texts contents) ≡ true
held_with_texts punct text [] contents e = e
held_with_texts punct text (other ∷ texts) contents e =
    held_with_texts punct text texts (with_text punct other contents)
    (held_with punct text other contents (holds_text punct other contents) e)

pub all_held : (punct : List ℕ) (texts : List (List (List ℕ))) (contents : List (List ℕ))
    → list_all (λ text. holds_text punct text (with_texts punct texts contents)) texts ≡ true
all_held punct [] contents = refl
all_held punct (text ∷ texts) contents =
    ap (λ (t : Bool). t && list_all (λ other. holds_text punct other
    (with_texts punct texts (with_text punct text contents))) texts)
    (held_with_texts punct text texts (with_text punct text contents) (text_held punct text contents))
    ∙ all_held punct texts (with_text punct text contents)

both_held : (a b : Bool) → (a && b) ≡ true → (a ≡ true) × (b ≡ true)
both_held true b e = (refl, e)
both_held false b e = absurd (let none : ⊥ = cc in none)

pub all_stay : (punct : List ℕ) (texts : List (List (List ℕ))) (contents : List (List ℕ))
    → list_all (λ text. holds_text punct text contents) texts ≡ true → with_texts punct texts contents ≡ contents
all_stay punct [] contents e = refl
all_stay punct (text ∷ texts) contents e =
    let parts = both_held (holds_text punct text contents)
    (list_all (λ other. holds_text punct other contents) texts) e in
    ap (with_texts punct texts) (held_stays punct text contents parts.0) ∙ all_stay punct texts contents parts.1
