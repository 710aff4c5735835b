-- Stores that are alike, as one that hands each call on and the one inside it: what is asked of one is asked of both.
use Rattle.std.proofs.Common.{◌≡◌, ◌∙◌, ◌⊎◌, inl, inr, ℕ, List, Option, Some, None, Result, Ok, Err, sym, subst}
use Rattle.std.proofs.Common.{ap, arith, OnOk, IfErr}
use Rattle.std.proofs.lemmas.Result.{on_ok_weaker}
use Rattle.std.specs.FinMap.{insert, remove}
use Rattle.std.specs.Result.{MatchResult}
use Rattle.reuse_change.specs.Files.{Files, Clashes}
use Rattle.reuse_change.specs.Parts.{joined}
use Rattle.reuse_change.specs.declared.parts.Pieces.{Pieces}
use Rattle.reuse_store.specs.Asked.{IsLater, IsPut, IsRemoval, IsWrite}
use Rattle.reuse_store.specs.Store.{Puts, PutFails, RemoveFails}
use Rattle.reuse_store.specs.declared.fault.StoreFault.{StoreFault}
use Rattle.reuse_store.specs.declared.fault.StoreFault.TheVariants.{Clash}
use Rattle.reuse_store.specs.declared.store.Store.{Ghosts}

-- the one holds what the other holds, a loss of power leaves the same, and they count and are honest alike
pub record IsSameStore {W S : Type 0} (outer : Ghosts W) (inner : Ghosts S) (whole : W) (inside : S) : Type 0 where
  pub files : outer.files whole ≡ inner.files inside
  pub failures : outer.failures whole ≡ inner.failures inside
  pub written : outer.written whole ≡ inner.written inside
  pub mutations : outer.mutations whole ≡ inner.mutations inside
  pub gives : inner.honest inside → outer.honest whole
  pub takes : outer.honest whole → inner.honest inside
  pub gives_left : (left : Files) → inner.crash_states inside left → outer.crash_states whole left
  pub takes_left : (left : Files) → outer.crash_states whole left → inner.crash_states inside left

-- what a put keeps, where the one is honest if the other is
kept_inside : (Clashing Was Is : Type 0) (answer : Result (Unit {0}) StoreFault) → (Was → Is)
    → MatchResult answer (λ done. ¬ Clashing → Was) (λ fault. fault ≡ Clash → Clashing → Was)
    → MatchResult answer (λ done. ¬ Clashing → Is) (λ fault. fault ≡ Clash → Clashing → Is)
kept_inside Clashing Was Is (Ok done) turned kept = λ free. turned (kept free)
kept_inside Clashing Was Is (Err fault) turned kept = λ is clashes. turned (kept is clashes)

module _ {W S : Type 0} (outer : Ghosts W) (inner : Ghosts S) (before after : W) (old new : S)
    (b : IsSameStore outer inner before old) (a : IsSameStore outer inner after new) where
  later : IsLater outer before after → IsLater inner old new
  later l =
      record {
        was_honest = λ honest. b.takes (l.was_honest (a.gives honest));
        failures = omega (arith, l.failures, b.failures, a.failures);
        written = omega (arith, l.written, b.written, a.written);
        mutations = omega (arith, l.mutations, b.mutations, a.mutations);
      }

  -- a loss of power leaves the inside as it leaves the whole
  left_inside : (made : Files → Files)
      → ((left : Files) → outer.crash_states after left
      → outer.crash_states before left ⊎ ((kept : Files) × outer.crash_states before kept × (left ≡ made kept)))
      → (left : Files) → inner.crash_states new left
      → inner.crash_states old left ⊎ ((kept : Files) × inner.crash_states old kept × (left ≡ made kept))
  left_inside made may left is = elim (may left (a.gives_left left is)) [
    | inl was ↦ inl (b.takes_left left was)
    | inr was ↦ inr (was.0, b.takes_left was.0 was.1, was.2)
  ]

  put : (path bytes : List ℕ) (answer : Result (Unit {0}) StoreFault) → IsPut outer path bytes before after answer
      → IsPut inner path bytes old new answer
  put path bytes answer p =
      record {
        kept = λ honest.
            subst (λ f. MatchResult answer (λ _. ¬ (Clashes f path) → inner.honest new)
            (λ fault. fault ≡ Clash → Clashes f path → inner.honest new)) b.files
            (kept_inside (Clashes (outer.files before) path) (outer.honest after) (inner.honest new) answer a.takes
            (p.kept (b.gives honest)));
        ok = λ honest.
            subst (λ f. OnOk answer (Puts path bytes f (inner.files new))) b.files
            (subst (λ f. OnOk answer (Puts path bytes (outer.files before) f)) a.files (p.ok (a.gives honest)));
        err = λ honest.
            subst (λ f. IfErr answer (λ fault. PutFails fault path bytes f (inner.files new))) b.files
            (subst (λ f. IfErr answer (λ fault. PutFails fault path bytes (outer.files before) f)) a.files
            (p.err (a.gives honest)));
        may = left_inside (λ f. insert f path bytes) p.may;
        device = λ e. let rose = p.device e in omega (arith, rose, b.failures, a.failures);
        written = omega (arith, p.written, b.written, a.written);
        mutations = omega (arith, p.mutations, b.mutations, a.mutations);
      }

  removal : (path : List ℕ) (answer : Result (Unit {0}) StoreFault) → IsRemoval outer path before after answer
      → IsRemoval inner path old new answer
  removal path answer r =
      record {
        kept = λ honest. on_ok_weaker answer a.takes (r.kept (b.gives honest));
        ok = λ honest.
            on_ok_weaker answer
            (λ (gone : outer.files after ≡ remove (outer.files before) path).
            sym a.files ∙ gone ∙ ap (λ f. remove f path) b.files) (r.ok (a.gives honest));
        err = λ honest.
            subst (λ f. IfErr answer (λ fault. RemoveFails fault path f (inner.files new))) b.files
            (subst (λ f. IfErr answer (λ fault. RemoveFails fault path (outer.files before) f)) a.files
            (r.err (a.gives honest)));
        may = left_inside (λ f. remove f path) r.may;
        device = λ e. let rose = r.device e in omega (arith, rose, b.failures, a.failures);
        written = omega (arith, r.written, b.written, a.written);
        mutations = omega (arith, r.mutations, b.mutations, a.mutations);
      }

  pub same_write : (path : List ℕ) (file : Option Pieces) (answer : Result (Unit {0}) StoreFault)
      → IsWrite outer path file before after answer → IsWrite inner path file old new answer
  same_write path None answer write = (removal path answer write.0, later write.1)
  same_write path (Some parts) answer write = (put path (joined parts) answer write.0, later write.1)
