-- Where a file stands to a change by range and length, and what changes and their inverses do.
use Rattle.std.specs.Option.{option_copied}
use Rattle.std.proofs.Common.{Bor, Bool, true, false, not, is_some, IsTrue, ◌≡◌, ◌↔◌, ℕ, List, Option, Some, None, refl}
use Rattle.std.proofs.Common.{sym, ap, subst, ◌∙◌, ◌++◌}
use Rattle.std.specs.FinMap.{get}
use Rattle.reuse_change.specs.declared.change.Change.{Change}
use Rattle.reuse_change.specs.declared.change.Change.TheVariants.{Make, Drop, Splice}
use Rattle.reuse_change.specs.declared.digest.Seal.{Seal}
use Rattle.reuse_change.specs.Digest.{IsDigestOf}
use Rattle.reuse_change.specs.Files.{Files}
use Rattle.reuse_change.specs.Change.{path_of, inverse_of, is_sealed, digest_before, digest_after, IsProper, HoldsPart}
use Rattle.reuse_change.specs.Change.{AppliesByRange, Applies, IsBefore, IsAfter, IsBeforeByRange, IsAfterByRange}
use Rattle.reuse_change.specs.Change.{Leads}
use Rattle.reuse_change.proofs.Cuts.{cuts, one_part}

module _ (path new : List ℕ) (digest file : Option (List ℕ)) (P : Type 0) where
  pub make_before : P ↔ (file ≡ None) → P ↔ IsBeforeByRange (Make path new digest) file
  make_before h = (λ p. (Some new, (h.0 p, refl)), λ b. h.1 b.1.0)

  pub make_after : P ↔ (file ≡ Some new) → P ↔ IsAfterByRange (Make path new digest) file
  make_after h = (λ p. (None, (refl, h.0 p)), λ a. h.1 a.1.1)

  pub drop_before : P ↔ (file ≡ Some new) → P ↔ IsBeforeByRange (Drop path new digest) file
  drop_before h = (λ p. (None, (h.0 p, refl)), λ b. h.1 b.1.0)

  pub drop_after : P ↔ (file ≡ None) → P ↔ IsAfterByRange (Drop path new digest) file
  drop_after h = (λ p. (Some new, (refl, h.0 p)), λ a. h.1 a.1.1)

module _ (path : List ℕ) (at : ℕ) (old new : List ℕ) (rest : ℕ) (seal : Option Seal) (file : Option (List ℕ))
    (P : Type 0) where
  pub splice_before : P ↔ HoldsPart file old at rest → P ↔ IsBeforeByRange (Splice path at old new rest seal) file
  splice_before h = (
    λ p. let k = h.0 p in
        (Some (k.0 ++ new ++ k.1), (k.0, k.1, k.2, record { whole = refl; before = k.2.before; behind = k.2.behind })),
    λ b. h.1 (b.1.0, b.1.1, b.1.2),
  )

  pub splice_after : P ↔ HoldsPart file new at rest → P ↔ IsAfterByRange (Splice path at old new rest seal) file
  splice_after h = (
    λ p. let k = h.0 p in
        (Some (k.0 ++ old ++ k.1), (k.0, k.1, record { whole = refl; before = k.2.before; behind = k.2.behind }, k.2)),
    λ b. h.1 (b.1.0, b.1.1, b.1.3),
  )

-- ---- inverses

-- the inverse of the inverse is the change
pub inverse_twice : (change : Change) → inverse_of (inverse_of change) ≡ change
inverse_twice (Make path new after) = refl
inverse_twice (Drop path old before) = refl
inverse_twice (Splice path at old new rest None) = refl
inverse_twice (Splice path at old new rest (Some seal)) = refl

-- an inverse is of the same path
pub path_of-inverse : (change : Change) → path_of (inverse_of change) ≡ path_of change
path_of-inverse (Make path new after) = refl
path_of-inverse (Drop path old before) = refl
path_of-inverse (Splice path at old new rest seal) = refl

-- an inverse records of the file before it what the change records of the file after it, and the reverse
pub digest_before-inverse : (change : Change) → digest_before (inverse_of change) ≡ digest_after change
digest_before-inverse (Make path new after) = refl
digest_before-inverse (Drop path old before) = refl
digest_before-inverse (Splice path at old new rest None) = refl
digest_before-inverse (Splice path at old new rest (Some seal)) = refl

pub digest_after-inverse : (change : Change) → digest_after (inverse_of change) ≡ digest_before change
digest_after-inverse (Make path new after) = refl
digest_after-inverse (Drop path old before) = refl
digest_after-inverse (Splice path at old new rest None) = refl
digest_after-inverse (Splice path at old new rest (Some seal)) = refl

-- an inverse is sealed where the change is
pub is_sealed-inverse : (change : Change) → is_sealed (inverse_of change) ≡ is_sealed change
is_sealed-inverse (Make path new after) = refl
is_sealed-inverse (Drop path old before) = refl
is_sealed-inverse (Splice path at old new rest None) = refl
is_sealed-inverse (Splice path at old new rest (Some seal)) = refl

-- an inverse leads back
pub applies_back_by_range : (change : Change) (before after : Option (List ℕ)) → AppliesByRange change before after
    → AppliesByRange (inverse_of change) after before
applies_back_by_range (Make path new digest) before after h = (h.1, h.0)
applies_back_by_range (Drop path old digest) before after h = (h.1, h.0)
applies_back_by_range (Splice path at old new rest seal) before after h = (h.0, h.1, h.3, h.2)

pub applies_back : (change : Change) (before after : Option (List ℕ)) → Applies change before after
    → Applies (inverse_of change) after before
applies_back change before after h = record {
  range = applies_back_by_range change before after h.range;
  from = subst (λ digest. IsDigestOf digest after) (sym (digest_before-inverse change)) h.to;
  to = subst (λ digest. IsDigestOf digest before) (sym (digest_after-inverse change)) h.from;
}

applies_back_again : (change : Change) (before after : Option (List ℕ)) → Applies (inverse_of change) after before
    → Applies change before after
applies_back_again change before after h =
    subst (λ c. Applies c before after) (inverse_twice change) (applies_back (inverse_of change) after before h)

-- the inverse's Before is the change's After, and the reverse
pub inverse_before : (change : Change) (file : Option (List ℕ))
    → IsBefore (inverse_of change) file ↔ IsAfter change file
inverse_before change file =
    (λ b. (b.0, applies_back_again change b.0 file b.1), λ a. (a.0, applies_back change a.0 file a.1))

pub inverse_after : (change : Change) (file : Option (List ℕ)) → IsAfter (inverse_of change) file ↔ IsBefore change file
inverse_after change file =
    (λ a. (a.0, applies_back_again change file a.0 a.1), λ b. (b.0, applies_back change file b.0 b.1))

-- an inverse leads back from files to files
pub leads_back : (change : Change) (before after : Files) → Leads change before after
    → Leads (inverse_of change) after before
leads_back change before after h = record {
  here = subst (λ p. Applies (inverse_of change) (get after p) (get before p)) (sym (path_of-inverse change))
      (applies_back change _ _ h.here);
  elsewhere = λ path other. sym (h.elsewhere path (λ e. other (e ∙ sym (path_of-inverse change))));
}

-- ---- one end each

-- a change leads from a file to one file
pub applies_once_by_range : (change : Change) (before after other : Option (List ℕ))
    → AppliesByRange change before after → AppliesByRange change before other → after ≡ other
applies_once_by_range (Make path new digest) before after other h k = h.1 ∙ sym k.1
applies_once_by_range (Drop path old digest) before after other h k = h.1 ∙ sym k.1
applies_once_by_range (Splice path at old new rest seal) None after other h k = let e = h.2.whole in absurd (cc)
applies_once_by_range (Splice path at old new rest seal) (Some file) after other h k =
    let c = cuts file h.0 old h.1 at rest h.2 in
    let d = cuts file k.0 old k.1 at rest k.2 in
    let front : h.0 ≡ k.0 = sym c.before ∙ d.before in
    let back : h.1 ≡ k.1 = sym c.behind ∙ d.behind in
    h.3.whole ∙ ap (λ f. Some (f ++ new ++ h.1)) front ∙ ap (λ b. Some (k.0 ++ new ++ b)) back ∙ sym k.3.whole

pub applies_once : (change : Change) (before after other : Option (List ℕ)) → Applies change before after
    → Applies change before other → after ≡ other
applies_once change before after other h k = applies_once_by_range change before after other h.range k.range

-- where a file is before a change, range and length alone say what it leads to, and the reverse
pub applies_by_range : (change : Change) (before after : Option (List ℕ)) → IsBefore change before
    → AppliesByRange change before after → Applies change before after
applies_by_range change before after b h =
    subst (Applies change before) (applies_once_by_range change before b.0 after b.1.range h) b.1

pub applied_by_range : (change : Change) (before after : Option (List ℕ)) → IsAfter change after
    → AppliesByRange change before after → Applies change before after
applied_by_range change before after a h =
    applies_back_again change before after (applies_by_range (inverse_of change) after before
    ((inverse_before change after).1 a) (applies_back_by_range change before after h))

at_both : (file : Option (List ℕ)) (old new : List ℕ) (at rest : ℕ) → HoldsPart file old at rest
    → HoldsPart file new at rest → old ≡ new
at_both None old new at rest h k = let e = h.2.whole in absurd (cc)
at_both (Some file) old new at rest h k = one_part file old new at rest h k

-- no file is at both
pub not_both_by_range : (change : Change) (file : Option (List ℕ)) → IsProper change → IsBeforeByRange change file
    → IsAfterByRange change file → ⊥
not_both_by_range (Make path new digest) file proper b a = let x = b.1.0 in let y = a.1.1 in
    let e : None ≡ Some new = sym x ∙ y in absurd (cc)
not_both_by_range (Drop path old digest) file proper b a = let x = b.1.0 in let y = a.1.1 in
    let e : Some old ≡ None = sym x ∙ y in absurd (cc)
not_both_by_range (Splice path at old new rest seal) file proper b a =
    proper (at_both file old new at rest (b.1.0, b.1.1, b.1.2) (a.1.0, a.1.1, a.1.3))

pub not_both : (change : Change) (file : Option (List ℕ)) → IsProper change → IsBefore change file
    → IsAfter change file → ⊥
not_both change file proper b a = not_both_by_range change file proper (b.0, b.1.range) (a.0, a.1.range)

-- a file after a change that is before it by range and length is before it: such a change changes nothing
pub before_too : (change : Change) (file : Option (List ℕ)) → IsBeforeByRange change file → IsAfter change file
    → IsBefore change file
before_too (Make path new digest) file b a =
    absurd (not_both_by_range (Make path new digest) file tt b (a.0, a.1.range))
before_too (Drop path old digest) file b a =
    absurd (not_both_by_range (Drop path old digest) file tt b (a.0, a.1.range))
before_too (Splice path at old new rest seal) file b a =
    let r = a.1.range in
    let part : old ≡ new = at_both file old new at rest (b.1.0, b.1.1, b.1.2) (r.0, r.1, r.3) in
    let same : a.0 ≡ file = r.2.whole ∙ ap (λ p. Some (r.0 ++ p ++ r.1)) part ∙ sym r.3.whole in
    (file, subst (λ f. Applies (Splice path at old new rest seal) f file) same a.1)

-- nothing is there exactly where the test says so
pub is_absent : (file : Option (Bor (List ℕ))) (absent : Bool) → is_some file ≡ not absent
    → IsTrue absent ↔ (option_copied file ≡ None)
is_absent (Some bytes) true e = absurd (cc)
is_absent (Some bytes) false e = (λ h. absurd (cc), λ h. absurd (cc))
is_absent None true e = (λ h. refl, λ h. refl)
is_absent None false e = absurd (cc)
