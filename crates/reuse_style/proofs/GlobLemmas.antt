-- Steps of reading a glob, and of fitting it to a text.
use Rattle.std.proofs.Common.{◌≡◌, ℕ, Bool, true, false, cond, List, [], ◌∷◌, ◌++◌, Option, Some, None}
use Rattle.std.proofs.Common.{refl, sym, ap, ◌∙◌, subst, append_assoc, length}
use Rattle.std.proofs.Math.Dec.{eqb-suc-zero}
use Rattle.std.proofs.lemmas.List.{nil_from_length}
use Rattle.std.specs.Prelude.{◌&&◌, ◌||◌, ◌==◌}
use Rattle.std.specs.List.{list_any}
use Rattle.std.specs.Option.{option_map}
use Rattle.reuse_text.specs.Text.{is_empty}
use Rattle.reuse_style.specs.declared.glob.GlobPiece.{GlobPiece}
use Rattle.reuse_style.specs.declared.glob.GlobPiece.TheVariants.{Byte, AnyRun}
use Rattle.reuse_style.specs.declared.glob.Letters.{Letters}
use Rattle.reuse_style.specs.declared.glob.Front.{Front}
use Rattle.reuse_style.specs.declared.glob.Front.TheVariants.{Whole, Mismatch, Run}
use Rattle.reuse_style.specs.Globs.{read_glob, onto_glob, single_piece, is_same, tails, glob_fits}
use Rattle.reuse_style.specs.GlobSteps.{Decides, IsEarliest}

-- ---- reading

-- a byte that is no backslash
pub plain_read : (b : ℕ) (tail : List ℕ) → (b == 92) ≡ false
    → read_glob (b ∷ tail) ≡ onto_glob (single_piece b) (read_glob tail)
unfolding read_glob
plain_read b [] e = ap (λ (t : Bool). cond t None (Some (single_piece b ∷ []))) e
plain_read b (c ∷ bytes) e =
    ap (λ (t : Bool). cond t (cond ((c == 42) || (c == 92)) (onto_glob (Byte c) (read_glob bytes)) None)
    (onto_glob (single_piece b) (read_glob (c ∷ bytes)))) e

-- a backslash at the end, before a byte that it makes literal, and before another
pub lone_read : (b : ℕ) → (b == 92) ≡ true → read_glob (b ∷ []) ≡ None
unfolding read_glob
lone_read b e = ap (λ (t : Bool). cond t None (Some (single_piece b ∷ []))) e

pub escaped_read : (b c : ℕ) (bytes : List ℕ) → (b == 92) ≡ true → ((c == 42) || (c == 92)) ≡ true
    → read_glob (b ∷ c ∷ bytes) ≡ onto_glob (Byte c) (read_glob bytes)
unfolding read_glob
escaped_read b c bytes e f =
    ap (λ (t : Bool). cond t (cond ((c == 42) || (c == 92)) (onto_glob (Byte c) (read_glob bytes)) None)
    (onto_glob (single_piece b) (read_glob (c ∷ bytes)))) e
    ∙ ap (λ (t : Bool). cond t (onto_glob (Byte c) (read_glob bytes)) None) f

pub stray_read : (b c : ℕ) (bytes : List ℕ) → (b == 92) ≡ true → ((c == 42) || (c == 92)) ≡ false
    → read_glob (b ∷ c ∷ bytes) ≡ None
unfolding read_glob
stray_read b c bytes e f =
    ap (λ (t : Bool). cond t (cond ((c == 42) || (c == 92)) (onto_glob (Byte c) (read_glob bytes)) None)
    (onto_glob (single_piece b) (read_glob (c ∷ bytes)))) e
    ∙ ap (λ (t : Bool). cond t (onto_glob (Byte c) (read_glob bytes)) None) f

-- what is read is the pieces that were read, and what stands behind them
abbrev pub behind : List GlobPiece → Option (List GlobPiece) → Option (List GlobPiece)
behind pieces more = option_map (λ others. pieces ++ others) more

pub behind_none : (more : Option (List GlobPiece)) → more ≡ behind [] more
behind_none None = refl
behind_none (Some more) = refl

pub behind_more : (pieces : List GlobPiece) (piece : GlobPiece) (more : Option (List GlobPiece))
    → behind pieces (onto_glob piece more) ≡ behind (pieces ++ piece ∷ []) more
behind_more pieces piece None = refl
behind_more pieces piece (Some more) = ap Some (sym (append_assoc pieces (piece ∷ []) more))

pub behind_step : (text rest tail left : List ℕ) (b : ℕ) (old new : List GlobPiece) (piece : GlobPiece)
    → read_glob text ≡ behind old (read_glob rest) → rest ≡ b ∷ tail
    → read_glob (b ∷ tail) ≡ onto_glob piece (read_glob left) → new ≡ old ++ piece ∷ []
    → read_glob text ≡ behind new (read_glob left)
behind_step text rest tail left b old new piece so at read pushed =
    so ∙ ap (λ t. behind old (read_glob t)) at ∙ ap (behind old) read ∙ behind_more old piece (read_glob left)
    ∙ ap (λ ps. behind ps (read_glob left)) (sym pushed)

pub behind_stop : (text rest tail : List ℕ) (b : ℕ) (old : List GlobPiece)
    → read_glob text ≡ behind old (read_glob rest) → rest ≡ b ∷ tail → read_glob (b ∷ tail) ≡ None
    → read_glob text ≡ None
behind_stop text rest tail b old so at none = so ∙ ap (λ t. behind old (read_glob t)) at ∙ ap (behind old) none

pub behind_end : (text rest : List ℕ) (old : List GlobPiece) → read_glob text ≡ behind old (read_glob rest)
    → length rest ≡ 0 → read_glob text ≡ Some old
unfolding read_glob
behind_end text rest old so none =
    so ∙ ap (λ t. behind old (read_glob t)) (nil_from_length rest none) ∙ ap Some (by old)
  where
    by : (xs : List GlobPiece) → xs ++ [] ≡ xs
    by [] = refl
    by (x ∷ xs) = ap (λ ys. x ∷ ys) (by xs)

-- ---- fitting

-- two tests that hold each where the other does are one
both_ways : (a b : Bool) → (a ≡ true → b ≡ true) → (b ≡ true → a ≡ true) → a ≡ b
both_ways true b to from = sym (to refl)
both_ways false true to from = from refl
both_ways false false to from = refl

step : (x f r s : Bool) → ((x && f) || r) ≡ true → (r ≡ true → s ≡ true) → (f || s) ≡ true
step x true r s e on = refl
step true false r s e on = on e
step false false r s e on = on e

module _ (letters : Letters) where
  -- behind a run, what fits later fits behind an earlier byte, too
  later : (b c : ℕ) (pieces : List GlobPiece) (text : List ℕ)
      → glob_fits letters (AnyRun ∷ Byte b ∷ pieces) (c ∷ text) ≡ true
      → glob_fits letters (AnyRun ∷ pieces) text ≡ true
  unfolding glob_fits
  later b c pieces [] e = step (is_same letters b c) (glob_fits letters pieces []) false false e (λ f. f)
  later b c pieces (d ∷ text) e =
      step (is_same letters b c) (glob_fits letters pieces (d ∷ text))
      (list_any (glob_fits letters (Byte b ∷ pieces)) (tails (d ∷ text)))
      (list_any (glob_fits letters pieces) (tails text)) e (λ f. later b d pieces text f)

  -- two runs are one
  joined_runs : (pieces : List GlobPiece) (text : List ℕ)
      → glob_fits letters (AnyRun ∷ AnyRun ∷ pieces) text ≡ true → glob_fits letters (AnyRun ∷ pieces) text ≡ true
  unfolding glob_fits
  joined_runs pieces [] e = by (glob_fits letters pieces []) e
    where
      by : (f : Bool) → ((f || false) || false) ≡ true → (f || false) ≡ true
      by true g = refl
      by false g = g
  joined_runs pieces (d ∷ text) e =
      by (glob_fits letters pieces (d ∷ text)) (list_any (glob_fits letters pieces) (tails text))
      (list_any (glob_fits letters (AnyRun ∷ pieces)) (tails text)) e (λ f. joined_runs pieces text f)
    where
      by : (f s r : Bool) → ((f || s) || r) ≡ true → (r ≡ true → s ≡ true) → (f || s) ≡ true
      by true s r g on = refl
      by false true r g on = refl
      by false false r g on = on g

  -- a run of nothing
  no_run : (pieces : List GlobPiece) (text : List ℕ) → glob_fits letters pieces text ≡ true
      → glob_fits letters (AnyRun ∷ pieces) text ≡ true
  unfolding glob_fits
  no_run pieces [] e = ap (λ (b : Bool). b || false) e
  no_run pieces (c ∷ text) e = ap (λ (b : Bool). b || list_any (glob_fits letters pieces) (tails text)) e

  -- a run of one byte more, where the pieces don't fit here
  pub longer_run : (pieces : List GlobPiece) (text rest tail : List ℕ) (c : ℕ)
      → glob_fits letters (AnyRun ∷ pieces) text ≡ glob_fits letters (AnyRun ∷ pieces) rest → rest ≡ c ∷ tail
      → glob_fits letters pieces rest ≡ false
      → glob_fits letters (AnyRun ∷ pieces) text ≡ glob_fits letters (AnyRun ∷ pieces) tail
  unfolding glob_fits
  longer_run pieces text rest tail c so at not =
      so ∙ ap (λ (t : List ℕ). glob_fits letters (AnyRun ∷ pieces) t) at
      ∙ ap (λ (b : Bool). b || list_any (glob_fits letters pieces) (tails tail))
      (ap (glob_fits letters pieces) (sym at) ∙ not)

  pub no_longer_run : (pieces : List GlobPiece) (text rest : List ℕ)
      → glob_fits letters (AnyRun ∷ pieces) text ≡ glob_fits letters (AnyRun ∷ pieces) rest → length rest ≡ 0
      → glob_fits letters pieces rest ≡ false → glob_fits letters (AnyRun ∷ pieces) text ≡ false
  unfolding glob_fits
  no_longer_run pieces text rest so none not =
      let at = nil_from_length rest none in
      so ∙ ap (λ (t : List ℕ). glob_fits letters (AnyRun ∷ pieces) t) at
      ∙ ap (λ (b : Bool). b || false) (ap (glob_fits letters pieces) (sym at) ∙ not)

  -- a walk: these pieces and this text are left of those, and no later start leaves more to a run
  pub record Walk (pieces : List GlobPiece) (text : List ℕ) (left : List GlobPiece) (rest : List ℕ) : Type 0 where
    pub same : glob_fits letters pieces text ≡ glob_fits letters left rest
    pub earliest : glob_fits letters (AnyRun ∷ pieces) text ≡ true → glob_fits letters (AnyRun ∷ left) rest ≡ true

  pub walk_start : (pieces : List GlobPiece) (text : List ℕ) → Walk pieces text pieces text
  walk_start pieces text = record { same = refl; earliest = λ e. e }

  -- over one byte
  walk_on : (pieces : List GlobPiece) (text : List ℕ) (b c : ℕ) (left : List GlobPiece) (rest : List ℕ)
      → is_same letters b c ≡ true → Walk pieces text (Byte b ∷ left) (c ∷ rest) → Walk pieces text left rest
  unfolding glob_fits
  walk_on pieces text b c left rest same walk = record {
    same = walk.same ∙ ap (λ (t : Bool). t && glob_fits letters left rest) same;
    earliest = λ e. later b c left rest (walk.earliest e);
  }

  pub walk_step : (pieces : List GlobPiece) (text : List ℕ) (piece : GlobPiece) (others left : List GlobPiece)
      (b c : ℕ) (rest tail : List ℕ) → left ≡ piece ∷ others → piece ≡ Byte b → rest ≡ c ∷ tail
      → is_same letters b c ≡ true → Walk pieces text left rest → Walk pieces text others tail
  walk_step pieces text piece others left b c rest tail shape is at same walk =
      let shape' : left ≡ Byte b ∷ others = cc in
      let P : List GlobPiece → Type 0 = λ ps. Walk pieces text ps rest in
      let Q : List ℕ → Type 0 = λ r. Walk pieces text (Byte b ∷ others) r in
      walk_on pieces text b c others tail same (subst Q at (subst P shape' walk))

  -- at a run
  walk_at : (pieces : List GlobPiece) (text : List ℕ) (piece : GlobPiece) (others left : List GlobPiece)
      (rest : List ℕ) → left ≡ piece ∷ others → piece ≡ AnyRun → Walk pieces text left rest
      → Walk pieces text (AnyRun ∷ others) rest
  walk_at pieces text piece others left rest shape is walk =
      let shape' : left ≡ AnyRun ∷ others = cc in
      let P : List GlobPiece → Type 0 = λ ps. Walk pieces text ps rest in
      subst P shape' walk

  pub run_same : (pieces : List GlobPiece) (text : List ℕ) (piece : GlobPiece) (others left : List GlobPiece)
      (rest : List ℕ) → left ≡ piece ∷ others → piece ≡ AnyRun → Walk pieces text left rest
      → glob_fits letters pieces text ≡ glob_fits letters (AnyRun ∷ others) rest
  run_same pieces text piece others left rest shape is walk =
      let at = walk_at pieces text piece others left rest shape is walk in at.same

  pub run_earliest : (pieces : List GlobPiece) (text : List ℕ) (piece : GlobPiece) (others left : List GlobPiece)
      (rest : List ℕ) → left ≡ piece ∷ others → piece ≡ AnyRun → Walk pieces text left rest
      → glob_fits letters (AnyRun ∷ pieces) text ≡ true → glob_fits letters (AnyRun ∷ others) rest ≡ true
  run_earliest pieces text piece others left rest shape is walk e =
      let at = walk_at pieces text piece others left rest shape is walk in
      joined_runs others rest (at.earliest e)

  -- where the text ends before a byte, and where the byte isn't the next
  pub walk_short : (pieces : List GlobPiece) (text : List ℕ) (piece : GlobPiece) (others left : List GlobPiece)
      (b : ℕ) (rest : List ℕ) → left ≡ piece ∷ others → piece ≡ Byte b → length rest ≡ 0 → Walk pieces text left rest
      → glob_fits letters pieces text ≡ false
  unfolding glob_fits
  walk_short pieces text piece others left b rest shape is none walk =
      let at = nil_from_length rest none in
      let shape' : left ≡ Byte b ∷ others = cc in
      walk.same ∙ ap (λ (ps : List GlobPiece). glob_fits letters ps rest) shape'
      ∙ ap (λ (r : List ℕ). glob_fits letters (Byte b ∷ others) r) at

  pub walk_stop : (pieces : List GlobPiece) (text : List ℕ) (piece : GlobPiece) (others left : List GlobPiece)
      (b c : ℕ) (rest tail : List ℕ) → left ≡ piece ∷ others → piece ≡ Byte b → rest ≡ c ∷ tail
      → is_same letters b c ≡ false → Walk pieces text left rest → glob_fits letters pieces text ≡ false
  unfolding glob_fits
  walk_stop pieces text piece others left b c rest tail shape is at differs walk =
      let shape' : left ≡ Byte b ∷ others = cc in
      walk.same ∙ ap (λ (ps : List GlobPiece). glob_fits letters ps rest) shape'
      ∙ ap (λ (r : List ℕ). glob_fits letters (Byte b ∷ others) r) at
      ∙ ap (λ (t : Bool). t && glob_fits letters others tail) differs

  -- where no piece is left
  pub walk_end : (pieces : List GlobPiece) (text : List ℕ) (left : List GlobPiece) (rest : List ℕ) (b : Bool)
      → length left ≡ 0 → b ≡ (length rest == 0) → Walk pieces text left rest → glob_fits letters pieces text ≡ b
  unfolding glob_fits
  walk_end pieces text left rest b none empty walk =
      walk.same ∙ ap (λ (ps : List GlobPiece). glob_fits letters ps rest) (nil_from_length left none)
      ∙ by rest ∙ sym empty
    where
      by : (xs : List ℕ) → is_empty xs ≡ (length xs == 0)
      by [] = refl
      by (x ∷ xs) = sym (eqb-suc-zero (length xs))

  -- the pieces behind a run fit up to the next run, or the whole text
  pub found_run : (pieces : List GlobPiece) (text rest : List ℕ) (front : Front) → (front ≡ Mismatch → ⊥)
      → Decides letters (glob_fits letters pieces rest) front → IsEarliest letters pieces rest front
      → glob_fits letters (AnyRun ∷ pieces) text ≡ glob_fits letters (AnyRun ∷ pieces) rest
      → Decides letters (glob_fits letters (AnyRun ∷ pieces) text) front
  found_run pieces text rest Whole found decides earliest so = so ∙ no_run pieces rest decides
  found_run pieces text rest Mismatch found decides earliest so = absurd (found refl)
  found_run pieces text rest (Run left more) found decides earliest so =
      so ∙ both_ways (glob_fits letters (AnyRun ∷ pieces) rest) (glob_fits letters (AnyRun ∷ left.now) more.now)
      earliest (λ e. no_run pieces rest (decides ∙ e))

  -- a glob is decided by what a run leaves
  pub decided_by : (fits : Bool) (left : List GlobPiece) (rest : List ℕ) (front : Front)
      → fits ≡ glob_fits letters (AnyRun ∷ left) rest
      → Decides letters (glob_fits letters (AnyRun ∷ left) rest) front → Decides letters fits front
  decided_by fits left rest front so decides = subst (λ (b : Bool). Decides letters b front) (sym so) decides
