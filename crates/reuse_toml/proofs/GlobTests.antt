-- The test of a glob decides whether it matches.
use Rattle.std.proofs.Common.{◌≡◌, ◌==◌, ◌||◌, ◌↔◌, ℕ, Bool, true, false, cond, List, [], ◌∷◌, ◌++◌, length, refl, sym}
use Rattle.std.proofs.Common.{ap, ◌∙◌, arith}
use Rattle.std.specs.List.{list_any}
use Rattle.std.proofs.lemmas.Bool.{eqb-true, false≢true}
use Rattle.std.proofs.lemmas.Bool.Decides.{nat_tests}
use Rattle.std.proofs.lemmas.List.{nil_from_length}
use Rattle.reuse_toml.specs.declared.glob.GlobPiece.{GlobPiece}
use Rattle.reuse_toml.specs.declared.glob.GlobPiece.TheVariants.{Literal, RunInPart, AnyRun}
use Rattle.reuse_toml.specs.GlobMatch.{HasNoSlash, GlobMatches, tails, tails_in_part, matches_glob}
use Rattle.reuse_toml.proofs.ReadGlobLemmas.{both_parts, both_true}

is_same : (c d : ℕ) → c ≡ d → (c == d) ≡ true
is_same c d e = grind (arith, nat_tests)

is_zero : (n : ℕ) → (n == 0) ≡ true → n ≡ 0
is_zero n e = grind (arith, nat_tests)

-- the test of a run without `/`, and of any run, by a test of what stands behind it
module _ (test : List ℕ → Bool) where
  pub run_from_test : (path : List ℕ) → list_any test (tails path) ≡ true
      → (run rest : List ℕ) × (path ≡ run ++ rest) × (test rest ≡ true)
  run_from_test [] e = ([], [], refl, or_false (test []) e)
    where
      or_false : (b : Bool) → (b || false) ≡ true → b ≡ true
      or_false true h = refl
      or_false false h = absurd (false≢true h)
  run_from_test (c ∷ path) e = of_test (test (c ∷ path)) refl (run_from_test path)
    where
      of_test : (b : Bool) → test (c ∷ path) ≡ b
          → (list_any test (tails path) ≡ true → (run rest : List ℕ) × (path ≡ run ++ rest) × (test rest ≡ true))
          → (run rest : List ℕ) × (c ∷ path ≡ run ++ rest) × (test rest ≡ true)
      of_test true here later = ([], c ∷ path, refl, here)
      of_test false here later =
          let found = later (sym (ap (λ b. b || list_any test (tails path)) here) ∙ e) in
          (c ∷ found.0, found.1, ap (λ l. c ∷ l) found.2, found.3)

  pub test_from_run : (run rest : List ℕ) → test rest ≡ true → list_any test (tails (run ++ rest)) ≡ true
  test_from_run [] [] e = ap (λ b. b || false) e
  test_from_run [] (c ∷ rest) e = ap (λ b. b || list_any test (tails rest)) e
  test_from_run (c ∷ run) rest e = or_true (test (c ∷ run ++ rest)) _ (test_from_run run rest e)
    where
      or_true : (a b : Bool) → b ≡ true → (a || b) ≡ true
      or_true true b h = refl
      or_true false b h = h

  pub part_from_test : (path : List ℕ) → list_any test (tails_in_part path) ≡ true
      → (run rest : List ℕ) × (path ≡ run ++ rest) × HasNoSlash run × (test rest ≡ true)
  part_from_test [] e = ([], [], refl, tt, or_false (test []) e)
    where
      or_false : (b : Bool) → (b || false) ≡ true → b ≡ true
      or_false true h = refl
      or_false false h = absurd (false≢true h)
  part_from_test (c ∷ path) e = of_test (test (c ∷ path)) refl (c == 47) refl (part_from_test path)
    where
      of_test : (b : Bool) → test (c ∷ path) ≡ b → (s : Bool) → (c == 47) ≡ s
          → (list_any test (tails_in_part path) ≡ true
          → (run rest : List ℕ) × (path ≡ run ++ rest) × HasNoSlash run × (test rest ≡ true))
          → (run rest : List ℕ) × (c ∷ path ≡ run ++ rest) × HasNoSlash run × (test rest ≡ true)
      of_test true here s slash later = ([], c ∷ path, refl, tt, here)
      of_test false here true slash later =
          absurd (false≢true (sym (ap (λ b. b || list_any test (cond (c == 47) [] (tails_in_part path))) here
          ∙ ap (λ s. list_any test (cond s [] (tails_in_part path))) slash) ∙ e))
      of_test false here false slash later =
          let found = later (sym (ap (λ b. b || list_any test (cond (c == 47) [] (tails_in_part path))) here
          ∙ ap (λ s. list_any test (cond s [] (tails_in_part path))) slash) ∙ e) in (
            c ∷ found.0,
            found.1,
            ap (λ l. c ∷ l) found.2,
            (λ is. false≢true (sym slash ∙ is_same c 47 is), found.3),
            found.4,
          )

  pub test_from_part : (run rest : List ℕ) → HasNoSlash run → test rest ≡ true
      → list_any test (tails_in_part (run ++ rest)) ≡ true
  test_from_part [] [] bare e = ap (λ b. b || false) e
  test_from_part [] (c ∷ rest) bare e = ap (λ b. b || list_any test (cond (c == 47) [] (tails_in_part rest))) e
  test_from_part (c ∷ run) rest bare e =
      or_true (test (c ∷ run ++ rest)) _ (by_slash (c == 47) refl (test_from_part run rest bare.1 e))
    where
      or_true : (a b : Bool) → b ≡ true → (a || b) ≡ true
      or_true true b h = refl
      or_true false b h = h

      by_slash : (s : Bool) → (c == 47) ≡ s → list_any test (tails_in_part (run ++ rest)) ≡ true
          → list_any test (cond (c == 47) [] (tails_in_part (run ++ rest))) ≡ true
      by_slash true slash later = absurd (bare.0 (eqb-true c 47 slash))
      by_slash false slash later = ap (λ s. list_any test (cond s [] (tails_in_part (run ++ rest)))) slash ∙ later

pub match_from_test : (glob : List GlobPiece) (path : List ℕ) → matches_glob glob path ≡ true → GlobMatches glob path
match_from_test [] path e = nil_from_length path (is_zero (length path) e)
match_from_test (Literal c ∷ pieces) [] e = absurd (false≢true e)
match_from_test (Literal c ∷ pieces) (d ∷ path) e =
    let parts = both_parts (c == d) (matches_glob pieces path) e in
    (path, ap (λ (x : ℕ). x ∷ path) (sym (eqb-true c d parts.0)), match_from_test pieces path parts.1)
match_from_test (RunInPart ∷ pieces) path e =
    let found = part_from_test (matches_glob pieces) path e in
    (found.0, found.1, found.2, found.3, match_from_test pieces found.1 found.4)
match_from_test (AnyRun ∷ pieces) path e =
    let found = run_from_test (matches_glob pieces) path e in
    (found.0, found.1, found.2, match_from_test pieces found.1 found.3)

pub test_from_match : (glob : List GlobPiece) (path : List ℕ) → GlobMatches glob path → matches_glob glob path ≡ true
test_from_match [] path m = ap (λ (l : List ℕ). length l == 0) m
test_from_match (Literal c ∷ pieces) path m =
    ap (matches_glob (Literal c ∷ pieces)) m.1
    ∙ both_true (c == c) (matches_glob pieces m.0) (is_same c c refl) (test_from_match pieces m.0 m.2)
test_from_match (RunInPart ∷ pieces) path m =
    ap (λ l. list_any (matches_glob pieces) (tails_in_part l)) m.2
    ∙ test_from_part (matches_glob pieces) m.0 m.1 m.3 (test_from_match pieces m.1 m.4)
test_from_match (AnyRun ∷ pieces) path m =
    ap (λ l. list_any (matches_glob pieces) (tails l)) m.2
    ∙ test_from_run (matches_glob pieces) m.0 m.1 (test_from_match pieces m.1 m.3)

-- a test that is true where the glob matches is the test of the glob
pub glob_test_is : (glob : List GlobPiece) (path : List ℕ) (b : Bool) → (b ≡ true) ↔ GlobMatches glob path
    → b ≡ matches_glob glob path
glob_test_is glob path true h = sym (test_from_match glob path (h.0 refl))
glob_test_is glob path false h = by_test (matches_glob glob path) refl
  where
    by_test : (t : Bool) → matches_glob glob path ≡ t → false ≡ matches_glob glob path
    by_test true e = absurd (false≢true (h.1 (match_from_test glob path e)))
    by_test false e = sym e

pub glob_decided : (glob : List GlobPiece) (path : List ℕ) → (matches_glob glob path ≡ true) ↔ GlobMatches glob path
glob_decided glob path = (match_from_test glob path, test_from_match glob path)
