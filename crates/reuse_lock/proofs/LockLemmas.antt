-- The folders above a path, and the calls by which they are locked.
use Rattle.std.proofs.Common.{◌≡◌, ◌⊎◌, inl, inr, ⊎_elim, ℕ, ◌<◌, ◌≤◌, ◌+◌, List, [], ◌∷◌, ◌++◌, length, length-append}
use Rattle.std.proofs.Common.{get_or, take, drop, take-append-drop, Option, None, Some, Bor, MatchOption, Result, Ok}
use Rattle.std.proofs.Common.{Err, refl, sym, ap, subst, arith, ◌∙◌}
use Rattle.std.proofs.Math.Seq.{get_or-append_seam}
use Rattle.std.proofs.lemmas.Str.Pattern.{NoCharPasses-char, drop_at_char}
use Rattle.std.specs.Prelude.{IfSome, OnOk}
use Rattle.std.specs.Str.Pattern.{RFindsChar}
use Rattle.reuse_lock.specs.LockCall.{LockCall}
use Rattle.reuse_lock.specs.LockCall.LockCall.{PathCall}
use Rattle.reuse_lock.specs.Locks.{folder_of, AreKept, AreLockedAbove, AreLockedAt, HasNoSlash, IsAbove, IsCutAtLast}
use Rattle.reuse_lock.specs.Locks.{IsGranted, IsLocked, WasAsked}
use Rattle.reuse_lock.specs.declared.record.LockMode.{LockMode}
use Rattle.reuse_lock.specs.declared.record.LockMode.TheVariants.{Exclusive, Shared}

-- ---- the last slash

abbrev tail_of : List ℕ → List ℕ
tail_of [] = []
tail_of (byte ∷ bytes) = bytes

-- a cut at a slash is that at the last one, or one before it
at_or_before : (front rest above last : List ℕ) → front ++ 47 ∷ rest ≡ above ++ 47 ∷ last → HasNoSlash last
    → (front ≡ above) ⊎ ((behind : List ℕ) × (above ≡ front ++ 47 ∷ behind))
at_or_before [] rest [] last e free = inl refl
at_or_before [] rest (byte ∷ above) last e free =
    inr (above, ap (λ b. b ∷ above) (sym (ap (λ bytes. get_or bytes 0 0) e)))
at_or_before (byte ∷ front) rest [] last e free =
    let same : front ++ 47 ∷ rest ≡ last = ap tail_of e in
    absurd
    (free (length front) (subst (λ l. length front < length l) same (omega (arith, length-append front (47 ∷ rest))))
    (subst (λ l. get_or l (length front) 0 ≡ 47) same (get_or-append_seam front 47 rest 0)))
at_or_before (byte ∷ front) rest (other ∷ above) last e free =
    let first : byte ≡ other = ap (λ bytes. get_or bytes 0 0) e in
    ⊎_elim (λ (same : front ≡ above). inl (ap (λ b. b ∷ front) first ∙ ap (λ l. other ∷ l) same))
    (λ (before : (behind : List ℕ) × (above ≡ front ++ 47 ∷ behind)).
    inr (before.0, ap (λ l. other ∷ l) before.1 ∙ ap (λ b. b ∷ (front ++ 47 ∷ before.0)) (sym first)))
    (at_or_before front rest above last (ap tail_of e) free)

-- takes the clause of `rsplit_once` at a slash
pub cut_at_last : (text : List ℕ) (r : Option (Bor (List ℕ) × Bor (List ℕ)))
    → MatchOption r (RFindsChar 47 text None)
    (λ x. (i : ℕ) × (j : ℕ) × RFindsChar 47 text (Some (i, j)) × (x.0.now ≡ take i text) × (x.1.now ≡ drop j text)
    × (i ≤ j) × (length x.0.now ≡ i) × (length x.1.now + j ≡ length text))
    → MatchOption r (HasNoSlash text) (λ x. IsCutAtLast text x.0.now)
cut_at_last text None none = λ i short. NoCharPasses-char 47 text i none (omega arith) short
cut_at_last text (Some x) h =
    let i = h.0 in
    let j = h.1 in
    let cut : text ≡ take i text ++ 47 ∷ drop j text =
    sym (take-append-drop i text) ∙ ap (λ l. take i text ++ l) (drop_at_char 47 text i j h.2.1 (omega arith)) in (
      drop j text,
      cut ∙ ap (λ l. l ++ 47 ∷ drop j text) (sym h.3),
      λ n short. NoCharPasses-char 47 (drop j text) n h.2.0 (omega arith) short,
    )

-- ---- what is asked

pub on_ok : {T E P Q : Type 0} (result : Result T E) → (P → Q) → OnOk result P → OnOk result Q
on_ok (Ok value) also is = also is
on_ok (Err error) also is = tt

-- a lock that was granted is so after more calls
granted_still : (folder : List ℕ) (mode : LockMode) (before after : List LockCall) → AreKept before after
    → IsGranted folder mode before → IsGranted folder mode after
granted_still folder mode before after kept was = (was.0, was.1, kept _ was.2)

-- a folder is locked at each slash before the last one, and then at that
pub locked_at : (path front : List ℕ) (before after : List LockCall) → IsCutAtLast path front → AreLockedAt front before
    → AreKept before after → IsGranted (folder_of front) Shared after
    → AreLockedAt path after
locked_at path front before after cut above kept last other rest e = ⊎_elim
    (λ (same : other ≡ front). subst (λ f. IsGranted (folder_of f) Shared after) (sym same) last)
    (λ (earlier : (behind : List ℕ) × (front ≡ other ++ 47 ∷ behind)). granted_still _ Shared before after kept
    (above other earlier.0 earlier.1))
    (at_or_before other rest front cut.0 (sym e ∙ cut.1) cut.2)

-- where there is no slash there is none
pub locked_at_none : (path : List ℕ) (calls : List LockCall) → HasNoSlash path → AreLockedAt path calls
locked_at_none path calls free front rest e =
    absurd
    (free (length front) (subst (λ l. length front < length l) (sym e) (omega (arith, length-append front (47 ∷ rest))))
    (subst (λ l. get_or l (length front) 0 ≡ 47) (sym e) (get_or-append_seam front 47 rest 0)))

pub locked_above : (path : List ℕ) (calls : List LockCall) → AreLockedAt path calls → (folder : List ℕ)
    → IsAbove path folder → IsGranted folder Shared calls
locked_above path calls at folder above =
    subst (λ f. IsGranted f Shared calls) (sym above.4) (at above.1 above.2 above.3)

-- where the root lies was reported
pub reported_above : (root path : List ℕ) (reported : Option (List ℕ)) (earlier before after : List LockCall)
    → before ≡ PathCall root reported ∷ earlier → reported ≡ Some path → AreKept before after
    → ((folder : List ℕ) → IsAbove path folder → IsGranted folder Shared after) → AreLockedAbove root after
reported_above root path reported earlier before after noted e kept above = (
  reported,
  kept (PathCall root reported) (subst (WasAsked (PathCall root reported)) (sym noted) (inl refl)),
  subst (λ t. IfSome t (λ path. (folder : List ℕ) → IsAbove path folder → IsGranted folder Shared after)) (sym e) above,
)

above_still : (reported : Option (List ℕ)) (before after : List LockCall) → AreKept before after
    → IfSome reported (λ path. (folder : List ℕ) → IsAbove path folder → IsGranted folder Shared before)
    → IfSome reported (λ path. (folder : List ℕ) → IsAbove path folder → IsGranted folder Shared after)
above_still None before after kept above = tt
above_still (Some path) before after kept above =
    λ folder is. granted_still folder Shared before after kept (above folder is)

pub all_locked : (root : List ℕ) (before after : List LockCall) → AreLockedAbove root before → AreKept before after
    → IsGranted root Exclusive after → IsLocked root after
all_locked root before after above kept itself = record {
  reported = above.0;
  asked = kept _ above.1;
  above = above_still above.0 before after kept above.2;
  itself = itself;
}
