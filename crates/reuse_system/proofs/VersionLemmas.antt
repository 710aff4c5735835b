-- Versions of files whose parts are the same are the same.
use Rattle.std.proofs.Common.{◌≡◌, Bool, true, false, ◌&&◌, ◌==◌, refl, ap, ap₂, true≢false, sym, ◌∙◌, eq-eqb}
use Rattle.std.proofs.lemmas.Bool.{eqb-true}
use Rattle.std.proofs.lemmas.Bool.Decides.{Decides-int_eq}
use Rattle.std.specs.Ordering.{int_eq}
use Rattle.reuse_system.specs.declared.place.FileVersion.{FileVersion}
use Rattle.reuse_system.specs.declared.place.Identity.{Identity}
use Rattle.reuse_system.specs.declared.place.Stamp.{Stamp}

both : (a b : Bool) → (a && b) ≡ true → (a ≡ true) × (b ≡ true)
both true b e = (refl, e)
both false b e = absurd (true≢false (sym e))

same_stamp : (a b : Stamp) → (int_eq a.seconds b.seconds && int_eq a.nanos b.nanos) ≡ true → a ≡ b
same_stamp a b e =
    let parts = both _ _ e in
    let seconds = (Decides-int_eq a.seconds b.seconds).0 parts.0 in
    let nanos = (Decides-int_eq a.nanos b.nanos).0 parts.1 in
    ap₂ (λ s n. let one : Stamp = record { seconds = s; nanos = n } in one) seconds nanos

same_identity : (a b : Identity) → ((a.device == b.device) && (a.number == b.number)) ≡ true → a ≡ b
same_identity a b e =
    let parts = both _ _ e in
    ap₂ (λ d n. let one : Identity = record { device = d; number = n } in one) (eqb-true a.device b.device parts.0)
    (eqb-true a.number b.number parts.1)

pub same_version : (a b : FileVersion)
    → (((a.identity.device == b.identity.device) && (a.identity.number == b.identity.number))
    && ((a.len == b.len) && ((int_eq a.written.seconds b.written.seconds && int_eq a.written.nanos b.written.nanos)
    && (int_eq a.changed.seconds b.changed.seconds && int_eq a.changed.nanos b.changed.nanos)))) ≡ true
    → a ≡ b
same_version a b e =
    let one = both _ _ e in
    let two = both _ _ one.1 in
    let three = both _ _ two.1 in
    ap₂ (λ (x : Identity) (y : FileVersion).
    let one : FileVersion = record { identity = x; len = y.len; written = y.written; changed = y.changed } in one)
    (same_identity a.identity b.identity one.0)
    (ap₂ (λ n (y : FileVersion).
    let one : FileVersion = record { identity = a.identity; len = n; written = y.written; changed = y.changed } in one)
    (eqb-true a.len b.len two.0)
    (ap₂ (λ (s : Stamp) (t : Stamp).
    let one : FileVersion = record { identity = a.identity; len = a.len; written = s; changed = t } in one)
    (same_stamp a.written b.written three.0) (same_stamp a.changed b.changed three.1)))

abbrev is_same_stamp : Stamp → Stamp → Bool
is_same_stamp a b = int_eq a.seconds b.seconds && int_eq a.nanos b.nanos

abbrev is_same : FileVersion → FileVersion → Bool
is_same a b =
    ((a.identity.device == b.identity.device) && (a.identity.number == b.identity.number))
    && ((a.len == b.len) && (is_same_stamp a.written b.written && is_same_stamp a.changed b.changed))

both_true : (a b : Bool) → a ≡ true → b ≡ true → (a && b) ≡ true
both_true a b e f = ap₂ (λ x y. x && y) e f

own_stamp : (a : Stamp) → is_same_stamp a a ≡ true
own_stamp a =
    both_true _ _ ((Decides-int_eq a.seconds a.seconds).1 refl) ((Decides-int_eq a.nanos a.nanos).1 refl)

own_version : (a : FileVersion) → is_same a a ≡ true
own_version a =
    both_true _ _
    (both_true _ _ (eq-eqb a.identity.device a.identity.device refl) (eq-eqb a.identity.number a.identity.number refl))
    (both_true _ _ (eq-eqb a.len a.len refl) (both_true _ _ (own_stamp a.written) (own_stamp a.changed)))

pub same_if_version : (a b : FileVersion) → a ≡ b → is_same a b ≡ true
same_if_version a b e = ap (λ other. is_same a other) (sym e) ∙ own_version a
