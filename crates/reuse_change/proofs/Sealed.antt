-- What a seal says of the files at the two ends of a change.
use Rattle.std.specs.Option.{option_map}
use Rattle.std.proofs.Common.{◌≡◌, ◌↔◌, IsTrue, ℕ, List, Option, Some, None, length, sym, ap, subst, ◌∙◌, ◌++◌}
use Rattle.sha2.specs.Sha256.{sha256}
use Rattle.reuse_text.specs.Text.{spliced}
use Rattle.reuse_change.specs.declared.change.Change.{Change}
use Rattle.reuse_change.specs.declared.change.Change.TheVariants.{Make, Drop, Splice}
use Rattle.reuse_change.specs.declared.digest.Seal.{Seal}
use Rattle.reuse_change.specs.Digest.{IsDigestOf, IsSealOf}
use Rattle.reuse_change.specs.Change.{digest_before, digest_after, inverse_of, is_sealed, HoldsPart, AppliesByRange}
use Rattle.reuse_change.specs.Change.{Applies, IsBefore, IsAfter}
use Rattle.reuse_change.proofs.Cuts.{cuts}
use Rattle.reuse_change.proofs.Applying.{applies_once_by_range, applies_back, inverse_before, inverse_after}
use Rattle.reuse_change.proofs.Applying.{is_sealed-inverse}

-- a change that leads from the file by range and length leads from it where the digests are those of the files
pub sealed_before : (change : Change) (before after : Option (List ℕ)) (P : Type 0) → AppliesByRange change before after
    → P ↔ (IsDigestOf (digest_before change) before × IsDigestOf (digest_after change) after)
    → P ↔ IsBefore change before
sealed_before change before after P range h = (
  λ p. let d = h.0 p in (after, record { range = range; from = d.0; to = d.1 }),
  λ b. h.1 (
    b.1.from,
    subst (IsDigestOf (digest_after change)) (applies_once_by_range change before b.0 after b.1.range range) b.1.to,
  ),
)

-- a seal is that of its two digests
pub seal_digests : (seal : Option Seal) (before after : List ℕ) →
    IsSealOf seal before after ↔ (IsDigestOf (option_map (λ s. s.before) seal) (Some before)
    × IsDigestOf (option_map (λ s. s.after) seal) (Some after))
seal_digests None before after = (λ h. (tt, tt), λ h. tt)
seal_digests (Some seal) before after = (
  λ h. (ap (λ s. Some s.before) h, ap (λ s. Some s.after) h),
  λ h. let from = h.0 in let to = h.1 in let first : sha256 before ≡ seal.before = cc in
      let second : sha256 after ≡ seal.after = cc in λ i. record {
        before = first i;
        after = second i;
      },
)

module _ (path : List ℕ) (at : ℕ) (old new : List ℕ) (rest : ℕ) (seal : Option Seal) (file : List ℕ) where
  -- what a splice makes of a file that holds its part
  pub splices : HoldsPart (Some file) old at rest
      → AppliesByRange (Splice path at old new rest seal) (Some file) (Some (spliced file at (length old) new))
  splices h =
      let c = cuts file h.0 old h.1 at rest h.2 in
      let front = ap (λ f. Some (f ++ new ++ _)) c.before in
      let back = ap (λ b. Some (h.0 ++ new ++ b)) c.behind in
      (h.0, h.1, h.2, record { whole = front ∙ back; before = h.2.before; behind = h.2.behind })

  pub splice_sealed_before : (P : Type 0) → HoldsPart (Some file) old at rest
      → P ↔ IsSealOf seal file (spliced file at (length old) new)
      → P ↔ IsBefore (Splice path at old new rest seal) (Some file)
  splice_sealed_before P held h =
      let d = seal_digests seal file (spliced file at (length old) new) in
      sealed_before (Splice path at old new rest seal) (Some file) _ P (splices held)
      (λ p. d.0 (h.0 p), λ x. h.1 (d.1 x))

-- what the way back can be made of is after the change
pub sealed_after : (change : Change) (file : Option (List ℕ)) (P : Type 0) → P ↔ IsBefore (inverse_of change) file
    → P ↔ IsAfter change file
sealed_after change file P back = let ends = inverse_before change file in
    (λ p. ends.0 (back.0 p), λ a. back.1 (ends.1 a))

-- a file after a sealed change has the digest of the file that the change led to
pub same_after : (change : Change) (before after file : Option (List ℕ)) → Applies change before after
    → IsTrue (is_sealed change) → IsAfter change file → option_map sha256 file ≡ option_map sha256 after
same_after (Make path new digest) before after file h sealed a = ap (option_map sha256) (a.1.range.1 ∙ sym h.range.1)
same_after (Drop path old digest) before after file h sealed a = ap (option_map sha256) (a.1.range.1 ∙ sym h.range.1)
same_after (Splice path at old new rest None) before after file h sealed a = absurd (cc)
same_after (Splice path at old new rest (Some seal)) before after file h sealed a = a.1.to ∙ sym h.to

-- and one before it the digest of the file that it led from
pub same_before : (change : Change) (before after file : Option (List ℕ)) → Applies change before after
    → IsTrue (is_sealed change) → IsBefore change file → option_map sha256 file ≡ option_map sha256 before
same_before change before after file h sealed b =
    same_after (inverse_of change) after before file (applies_back change before after h)
    (subst IsTrue (sym (is_sealed-inverse change)) sealed) ((inverse_after change file).1 b)
