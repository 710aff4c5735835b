-- Steps of a match of a glob.
use Rattle.std.proofs.Common.{◌≡◌, ℕ, ◌↔◌, List, [], ◌∷◌, ◌++◌, length, refl, sym, ap, subst, ◌∙◌, append_assoc, ◌≢◌}
use Rattle.std.specs.Str.{chars}
use Rattle.std.proofs.lemmas.List.{nil_from_length}
use Rattle.reuse_toml.specs.declared.glob.GlobPiece.{GlobPiece}
use Rattle.reuse_toml.specs.declared.glob.GlobPiece.TheVariants.{Literal, RunInPart, AnyRun}
use Rattle.reuse_toml.specs.declared.glob.GlobFit.{GlobFit}
use Rattle.reuse_toml.specs.declared.glob.GlobFit.TheVariants.{Whole, Mismatch, PartRun, Run}
use Rattle.reuse_toml.specs.GlobMatch.{HasNoSlash, GlobMatches}
use Rattle.reuse_toml.specs.Steps.GlobMatching.{IsGlobWalk, IsGlobFit, IsGlobFitAfterRun, IsPastPart}
use Rattle.reuse_toml.proofs.RunLemmas.{joined, no_run, run_shorter, runs_join}

HasNoSlash-append : (xs ys : List ℕ) → HasNoSlash xs → HasNoSlash ys → HasNoSlash (xs ++ ys)
HasNoSlash-append [] ys p q = q
HasNoSlash-append (x ∷ xs) ys p q = (p.0, HasNoSlash-append xs ys p.1 q)

-- a run before some character has, behind the same character, a run one character on
after_same : (run rest tail : List ℕ) (c : ℕ) → c ∷ rest ≡ run ++ c ∷ tail
    → (shorter : List ℕ) × (rest ≡ shorter ++ tail) × (HasNoSlash run → HasNoSlash shorter)
after_same [] rest tail c e = ([], cc, λ p. tt)
after_same (x ∷ xs) rest tail c e =
    let h : rest ≡ xs ++ c ∷ tail = cc in
    let f : c ≡ x = cc in (
      xs ++ c ∷ [],
      h ∙ sym (append_assoc xs (c ∷ []) tail),
      λ p. HasNoSlash-append xs (c ∷ []) p.1 (λ g. p.0 (sym f ∙ g), tt),
    )

-- behind a literal
glob_literal_same : (c : ℕ) (left : List GlobPiece) (rest : List ℕ)
    → GlobMatches (Literal c ∷ left) (c ∷ rest) ↔ GlobMatches left rest
glob_literal_same c left rest =
    (λ m. let f = m.1 in let e : m.0 ≡ rest = cc in subst (GlobMatches left) e m.2, λ m. (rest, refl, m))

glob_literal_later : (c : ℕ) (left : List GlobPiece) (rest : List ℕ)
    → GlobMatches (AnyRun ∷ Literal c ∷ left) (c ∷ rest) → GlobMatches (AnyRun ∷ left) rest
glob_literal_later c left rest m =
    let s = after_same m.0 rest m.3.0 c (m.2 ∙ ap (λ r. m.0 ++ r) m.3.1) in
    (s.0, m.3.0, s.1, m.3.2)

glob_literal_later_in_part : (c : ℕ) (left : List GlobPiece) (rest : List ℕ)
    → GlobMatches (RunInPart ∷ Literal c ∷ left) (c ∷ rest) → GlobMatches (RunInPart ∷ left) rest
glob_literal_later_in_part c left rest m =
    let s = after_same m.0 rest m.4.0 c (m.2 ∙ ap (λ r. m.0 ++ r) m.4.1) in
    (s.0, m.4.0, s.1, s.2 m.3, m.4.2)

-- a walk begins
pub IsGlobWalk-start : (pieces : List GlobPiece) (path : List ℕ) → IsGlobWalk pieces path pieces path
IsGlobWalk-start pieces path = record { same = (λ m. m, λ m. m); earliest = λ m. m; earliest_in_part = λ m. m }

IsGlobWalk-literal : (pieces : List GlobPiece) (path : List ℕ) (c : ℕ) (left : List GlobPiece) (rest : List ℕ)
    → IsGlobWalk pieces path (Literal c ∷ left) (c ∷ rest) → IsGlobWalk pieces path left rest
IsGlobWalk-literal pieces path c left rest w =
    record {
      same = (λ m. (glob_literal_same c left rest).0 (w.same.0 m), λ m. w.same.1 ((glob_literal_same c left rest).1 m));
      earliest = λ m. glob_literal_later c left rest (w.earliest m);
      earliest_in_part = λ m. glob_literal_later_in_part c left rest (w.earliest_in_part m);
    }

-- a walk goes on over one literal
pub IsGlobWalk-step : (pieces : List GlobPiece) (path : List ℕ) (piece : GlobPiece) (others left : List GlobPiece)
    (w c : ℕ) (rest tail : List ℕ) → left ≡ piece ∷ others → piece ≡ Literal w → w ≡ c → rest ≡ c ∷ tail
    → IsGlobWalk pieces path left rest → IsGlobWalk pieces path others tail
IsGlobWalk-step pieces path piece others left w c rest tail shape literal same e walk =
    let e1 : left ≡ Literal c ∷ others = cc in
    let P : List GlobPiece → Type 0 = λ ps. IsGlobWalk pieces path ps rest in
    let Q : List ℕ → Type 0 = λ r. IsGlobWalk pieces path (Literal c ∷ others) r in
    IsGlobWalk-literal pieces path c others tail (subst Q e (subst P e1 walk))

-- a walk stands at a run
pub IsGlobWalk-at : (pieces : List GlobPiece) (path : List ℕ) (piece run : GlobPiece) (others left : List GlobPiece)
    (rest : List ℕ) → left ≡ piece ∷ others → piece ≡ run → IsGlobWalk pieces path left rest
    → IsGlobWalk pieces path (run ∷ others) rest
IsGlobWalk-at pieces path piece run others left rest shape is walk =
    let e1 : left ≡ run ∷ others = cc in
    let P : List GlobPiece → Type 0 = λ ps. IsGlobWalk pieces path ps rest in
    subst P e1 walk

-- a walk ends at the last piece
pub IsGlobWalk-end : (pieces : List GlobPiece) (path : List ℕ) (left : List GlobPiece) (rest : List ℕ) → length left ≡ 0
    → IsGlobWalk pieces path left rest → GlobMatches pieces path ↔ (rest ≡ [])
IsGlobWalk-end pieces path left rest e walk =
    let P : List GlobPiece → Type 0 = λ ps. IsGlobWalk pieces path ps rest in
    (subst P (nil_from_length left e) walk).same

-- a walk stops where the literal is not the next character
pub IsGlobWalk-stop : (pieces : List GlobPiece) (path : List ℕ) (piece : GlobPiece) (others left : List GlobPiece)
    (w : ℕ) (rest : List ℕ) → left ≡ piece ∷ others → piece ≡ Literal w → ((tail : List ℕ) → rest ≡ w ∷ tail → ⊥)
    → IsGlobWalk pieces path left rest → ¬ GlobMatches pieces path
IsGlobWalk-stop pieces path piece others left w rest shape literal not walk = λ m.
    let e1 : left ≡ Literal w ∷ others = cc in
    let P : List GlobPiece → Type 0 = λ ps. IsGlobWalk pieces path ps rest in
    let found : GlobMatches (Literal w ∷ others) rest = (subst P e1 walk).same.0 m in
    not found.0 found.1

-- a run of nothing
glob_no_run_in_part : (left : List GlobPiece) (path : List ℕ) → GlobMatches left path
    → GlobMatches (RunInPart ∷ left) path
glob_no_run_in_part left path m = ([], path, refl, tt, m)

-- two runs are one
any_part : (left : List GlobPiece) (path : List ℕ) → GlobMatches (AnyRun ∷ RunInPart ∷ left) path
    → GlobMatches (AnyRun ∷ left) path
any_part left path m = (m.0 ++ m.3.0, m.3.1, joined path m.0 m.1 m.3.0 m.3.1 m.2 m.3.2, m.3.4)

part_any : (left : List GlobPiece) (path : List ℕ) → GlobMatches (RunInPart ∷ AnyRun ∷ left) path
    → GlobMatches (AnyRun ∷ left) path
part_any left path m = (m.0 ++ m.4.0, m.4.1, joined path m.0 m.1 m.4.0 m.4.1 m.2 m.4.2, m.4.3)

part_part : (left : List GlobPiece) (path : List ℕ) → GlobMatches (RunInPart ∷ RunInPart ∷ left) path
    → GlobMatches (RunInPart ∷ left) path
part_part left path m =
    (m.0 ++ m.4.0, m.4.1, joined path m.0 m.1 m.4.0 m.4.1 m.2 m.4.2, HasNoSlash-append m.0 m.4.0 m.3 m.4.3, m.4.4)

-- a run of one character more
part_run_shorter : (left : List GlobPiece) (c : ℕ) (rest : List ℕ) → ¬ GlobMatches left (c ∷ rest)
    → GlobMatches (RunInPart ∷ left) (c ∷ rest) → (c ≢ 47) × GlobMatches (RunInPart ∷ left) rest
part_run_shorter left c rest not m = by_run m.0 m.1 m.2 m.3 m.4
  where
    by_run : (run tail : List ℕ) → c ∷ rest ≡ run ++ tail → HasNoSlash run → GlobMatches left tail
        → (c ≢ 47) × GlobMatches (RunInPart ∷ left) rest
    by_run [] tail e p m = absurd (not (subst (GlobMatches left) (sym e) m))
    by_run (x ∷ xs) tail e p m = let f : c ≡ x = cc in (λ g. p.0 (sym f ∙ g), (xs, tail, cc, p.1, m))

part_run_longer : (left : List GlobPiece) (c : ℕ) (rest : List ℕ) → c ≢ 47 → GlobMatches (RunInPart ∷ left) rest
    → GlobMatches (RunInPart ∷ left) (c ∷ rest)
part_run_longer left c rest p m = (c ∷ m.0, m.1, ap (λ r. c ∷ r) m.2, (p, m.3), m.4)

part_run_empty : (left : List GlobPiece) → ¬ GlobMatches left [] → ¬ GlobMatches (RunInPart ∷ left) []
part_run_empty left not m = by_run m.0 m.1 m.2 m.4
  where
    by_run : (run tail : List ℕ) → [] ≡ run ++ tail → GlobMatches left tail → ⊥
    by_run [] tail e m = not (subst (GlobMatches left) (sym e) m)
    by_run (x ∷ xs) tail e m = cc

-- the run of a `*` is at least as long as what was passed
pub record IsPartSearch (pieces : List GlobPiece) (path rest : List ℕ) : Type 0 where
  pub same : GlobMatches (RunInPart ∷ pieces) path ↔ GlobMatches (RunInPart ∷ pieces) rest
  pub earliest : GlobMatches (AnyRun ∷ pieces) path → GlobMatches (AnyRun ∷ pieces) rest

pub IsPartSearch-start : (pieces : List GlobPiece) (path : List ℕ) → IsPartSearch pieces path path
IsPartSearch-start pieces path = record { same = (λ m. m, λ m. m); earliest = λ m. m }

pub IsPartSearch-next : (pieces : List GlobPiece) (path rest tail : List ℕ) (c : ℕ) → rest ≡ c ∷ tail → c ≢ 47
    → ¬ GlobMatches pieces rest → IsPartSearch pieces path rest → IsPartSearch pieces path tail
IsPartSearch-next pieces path rest tail c e p not found =
    let not' : ¬ GlobMatches pieces (c ∷ tail) = λ m. not (subst (GlobMatches pieces) (sym e) m) in
    let s = subst (IsPartSearch pieces path) e found in
    record {
      same = (
        λ m. (part_run_shorter pieces c tail not' (s.same.0 m)).1,
        λ m. s.same.1 (part_run_longer pieces c tail p m),
      );
      earliest = λ m. (run_shorter (GlobMatches pieces) c tail not').0 (s.earliest m);
    }

pub IsPartSearch-end : (pieces : List GlobPiece) (path rest : List ℕ) → rest ≡ [] → ¬ GlobMatches pieces rest
    → IsPartSearch pieces path rest → ¬ GlobMatches (RunInPart ∷ pieces) path
IsPartSearch-end pieces path rest e not found = λ m.
    part_run_empty pieces (λ n. not (subst (GlobMatches pieces) (sym e) n))
    ((subst (IsPartSearch pieces path) e found).same.0 m)

pub IsPartSearch-slash : (pieces : List GlobPiece) (path rest tail : List ℕ) (c : ℕ) → rest ≡ c ∷ tail → c ≡ 47
    → ¬ GlobMatches pieces rest → IsPartSearch pieces path rest → ¬ GlobMatches (RunInPart ∷ pieces) path
IsPartSearch-slash pieces path rest tail c e p not found = λ m.
    let not' : ¬ GlobMatches pieces (c ∷ tail) = λ n. not (subst (GlobMatches pieces) (sym e) n) in
    (part_run_shorter pieces c tail not' ((subst (IsPartSearch pieces path) e found).same.0 m)).0 p

-- a search that ends at a walk to a run, which takes in what the `*` has passed
IsPartSearch-walk : (pieces : List GlobPiece) (path rest : List ℕ) (left : List GlobPiece) (text : List ℕ)
    → (GlobMatches (RunInPart ∷ left) text → GlobMatches left text) → IsPartSearch pieces path rest
    → IsGlobWalk pieces rest left text → IsGlobWalk (RunInPart ∷ pieces) path left text
IsPartSearch-walk pieces path rest left text taken_in search w =
    record {
      same = (
        λ m. taken_in (w.earliest_in_part (search.same.0 m)),
        λ m. search.same.1 (glob_no_run_in_part pieces rest (w.same.1 m)),
      );
      earliest = λ m. w.earliest (search.earliest (any_part pieces path m));
      earliest_in_part = λ m. w.earliest_in_part (search.same.0 (part_part pieces path m));
    }

pub IsPartSearch-found : (pieces : List GlobPiece) (path rest : List ℕ) (fit : GlobFit) → (fit ≡ Mismatch → ⊥)
    → IsPartSearch pieces path rest → IsGlobFit pieces rest fit → IsGlobFit (RunInPart ∷ pieces) path fit
IsPartSearch-found pieces path rest Whole found search fits = search.same.1 (glob_no_run_in_part pieces rest fits)
IsPartSearch-found pieces path rest Mismatch found search fits = absurd (found refl)
IsPartSearch-found pieces path rest (PartRun left text) found search fits =
    IsPartSearch-walk pieces path rest (RunInPart ∷ left.now) (chars text.now)
    (part_part left.now (chars text.now)) search fits
IsPartSearch-found pieces path rest (Run left text) found search fits =
    IsPartSearch-walk pieces path rest (AnyRun ∷ left.now) (chars text.now)
    (part_any left.now (chars text.now)) search fits

-- one fit after another
IsGlobWalk-then : (pieces : List GlobPiece) (path : List ℕ) (left : List GlobPiece) (rest : List ℕ)
    (more : List GlobPiece) (text : List ℕ) → IsGlobWalk pieces path left rest → IsGlobWalk left rest more text
    → IsGlobWalk pieces path more text
IsGlobWalk-then pieces path left rest more text w v =
    record {
      same = (λ m. v.same.0 (w.same.0 m), λ m. w.same.1 (v.same.1 m));
      earliest = λ m. v.earliest (w.earliest m);
      earliest_in_part = λ m. v.earliest_in_part (w.earliest_in_part m);
    }

pub IsGlobFit-then : (pieces : List GlobPiece) (path : List ℕ) (left : List GlobPiece) (rest : List ℕ) (fit : GlobFit)
    → IsGlobWalk pieces path left rest → IsGlobFit left rest fit → IsGlobFit pieces path fit
IsGlobFit-then pieces path left rest Whole w fits = w.same.1 fits
IsGlobFit-then pieces path left rest Mismatch w fits = λ m. fits (w.same.0 m)
IsGlobFit-then pieces path left rest (PartRun more text) w fits =
    IsGlobWalk-then pieces path left rest (RunInPart ∷ more.now) (chars text.now) w fits
IsGlobFit-then pieces path left rest (Run more text) w fits =
    IsGlobWalk-then pieces path left rest (AnyRun ∷ more.now) (chars text.now) w fits

-- no `*` is left where the fit is not at one
pub IsPastPart-from : (fit : GlobFit) → ((x : _) (y : _) → fit ≡ PartRun x y → ⊥) → IsPastPart fit
IsPastPart-from Whole not = tt
IsPastPart-from Mismatch not = tt
IsPastPart-from (PartRun x y) not = not x y refl
IsPastPart-from (Run x y) not = tt

-- a search for the pieces after a `**` ends
pub glob_after_found : (pieces : List GlobPiece) (path rest : List ℕ) (fit : GlobFit) → (fit ≡ Mismatch → ⊥)
    → IsPastPart fit → GlobMatches (AnyRun ∷ pieces) path ↔ GlobMatches (AnyRun ∷ pieces) rest
    → IsGlobFit pieces rest fit → IsGlobFitAfterRun pieces path fit
glob_after_found pieces path rest Whole found past same fits = same.1 (no_run (GlobMatches pieces) rest fits)
glob_after_found pieces path rest Mismatch found past same fits = absurd (found refl)
glob_after_found pieces path rest (PartRun left text) found past same fits = past
glob_after_found pieces path rest (Run left text) found past same fits =
    let w : IsGlobWalk pieces rest (AnyRun ∷ left.now) (chars text.now) = fits in (
      λ m. runs_join (GlobMatches left.now) (chars text.now) (w.earliest (same.0 m)),
      λ m. same.1 (no_run (GlobMatches pieces) rest (w.same.1 m)),
    )

-- the fit decides the fact, or leaves it to the pieces after a `**`
abbrev pub GlobFitDecides : Type 0 → GlobFit → Type 0
GlobFitDecides P Whole = P
GlobFitDecides P Mismatch = ¬ P
GlobFitDecides P (PartRun left rest) = ⊥
GlobFitDecides P (Run left rest) = P ↔ GlobMatches (AnyRun ∷ left.now) (chars rest.now)

pub GlobFitDecides-front : (pieces : List GlobPiece) (path : List ℕ) (fit : GlobFit) → IsPastPart fit
    → IsGlobFit pieces path fit → GlobFitDecides (GlobMatches pieces path) fit
GlobFitDecides-front pieces path Whole past fits = fits
GlobFitDecides-front pieces path Mismatch past fits = fits
GlobFitDecides-front pieces path (PartRun left text) past fits = past
GlobFitDecides-front pieces path (Run left text) past fits =
    let w : IsGlobWalk pieces path (AnyRun ∷ left.now) (chars text.now) = fits in w.same

pub GlobFitDecides-then : (P : Type 0) (left : List GlobPiece) (rest : List ℕ) (fit : GlobFit)
    → P ↔ GlobMatches (AnyRun ∷ left) rest → IsGlobFitAfterRun left rest fit → GlobFitDecides P fit
GlobFitDecides-then P left rest Whole same fits = same.1 fits
GlobFitDecides-then P left rest Mismatch same fits = λ p. fits (same.0 p)
GlobFitDecides-then P left rest (PartRun more text) same fits = fits
GlobFitDecides-then P left rest (Run more text) same fits = (λ p. fits.0 (same.0 p), λ m. same.1 (fits.1 m))
