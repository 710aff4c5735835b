-- A file as a front, a part and a back.
use Rattle.std.proofs.Common.{◌≡◌, ℕ, ◌+◌, ◌-◌, List, ◌++◌, length, take, drop, Some, refl, sym, ap, ◌∙◌, arith}
use Rattle.std.proofs.Common.{append_assoc, length-append, length-take, length-drop, drop-drop}
use Rattle.std.proofs.lemmas.List.{take-append-drop, take_at, drop_at}
use Rattle.std.specs.List.{slice_range}
use Rattle.reuse_change.specs.Change.{HoldsBetween, HoldsPart}

-- where a front has this length, the part and the back are these cuts of the file
pub record Cuts (file front part back : List ℕ) (at rest : ℕ) : Type 0 where
  pub whole : file ≡ front ++ part ++ back
  pub total : length file ≡ at + length part + rest
  pub before : take at file ≡ front
  pub between : slice_range file at (at + length part) ≡ part
  pub behind : drop (at + length part) file ≡ back

range_at : (front part back : List ℕ) (at : ℕ) → length front ≡ at
    → slice_range (front ++ part ++ back) at (at + length part) ≡ part
range_at front part back at e =
    let n : at + length part - at ≡ length part = omega arith in
    ap (λ k. take k (drop at (front ++ part ++ back))) n
    ∙ ap (take (length part)) (ap (drop at) (append_assoc front part back) ∙ drop_at front (part ++ back) at e)
    ∙ take_at part back (length part) refl

-- what holds the part is cut so
pub cuts : (file front part back : List ℕ) (at rest : ℕ) → HoldsBetween (Some file) front part back at rest
    → Cuts file front part back at rest
cuts file front part back at rest h =
    let whole : file ≡ front ++ part ++ back = let e = h.whole in cc in
    record {
      whole = whole;
      total = ap length whole ∙ length-append (front ++ part) back
          ∙ omega (arith, length-append front part, h.before, h.behind);
      before = ap (take at) (whole ∙ append_assoc front part back) ∙ take_at front (part ++ back) at h.before;
      between = ap (λ f. slice_range f at (at + length part)) whole ∙ range_at front part back at h.before;
      behind = ap (drop (at + length part)) whole
          ∙ drop_at (front ++ part) back (at + length part) (omega (arith, length-append front part, h.before));
    }

-- a file of this length with the part in its range holds the part
pub holds_part : (file part : List ℕ) (at rest : ℕ) → length file ≡ at + length part + rest
    → slice_range file at (at + length part) ≡ part → HoldsPart (Some file) part at rest
holds_part file part at rest total between =
    let n : at + length part - at ≡ length part = omega arith in
    let middle : take (length part) (drop at file) ≡ part = ap (λ k. take k (drop at file)) (sym n) ∙ between in
    let whole : take at file ++ part ++ drop (at + length part) file ≡ file =
    ap (λ p. take at file ++ p ++ drop (at + length part) file) (sym middle)
    ∙ append_assoc (take at file) _ _
    ∙ ap (λ q. take at file ++ (take (length part) (drop at file) ++ q)) (sym (drop-drop (length part) at file))
    ∙ ap (λ q. take at file ++ q) (take-append-drop (length part) (drop at file))
    ∙ take-append-drop at file in (
      take at file,
      drop (at + length part) file,
      record {
        whole = ap (λ f. Some f) (sym whole);
        before = omega (arith, length-take at file, total);
        behind = omega (arith, length-drop (at + length part) file, total);
      },
    )

-- two parts between ends of equal lengths are equal
pub one_part : (file : List ℕ) (old new : List ℕ) (at rest : ℕ) → HoldsPart (Some file) old at rest
    → HoldsPart (Some file) new at rest → old ≡ new
one_part file old new at rest h k =
    let c = cuts file h.0 old h.1 at rest h.2 in
    let d = cuts file k.0 new k.1 at rest k.2 in
    let n : length old ≡ length new = omega (arith, c.total, d.total) in
    sym c.between ∙ ap (λ m. slice_range file at (at + m)) n ∙ d.between
