-- Whether bytes hold a text, as a search finds it.
use Rattle.std.proofs.Common.{◌≡◌, ℕ, zero, suc, ◌+◌, ◌<◌, Bool, true, false, nat_eq, List, [], ◌∷◌, length, Option}
use Rattle.std.proofs.Common.{None, Some, is_some, refl, sym, ap, ◌∙◌, inl, inr, arith}
use Rattle.std.specs.Prelude.{slice_index, ◌&&◌, ◌||◌}
use Rattle.std.specs.List.{starts_with}
use Rattle.std.proofs.lemmas.Bool.{eqb-true, eq-eqb, false≢true}
use Rattle.std.proofs.lemmas.Bool.{cases_Bool as truth}
use Rattle.memchr.specs.Find.{FindsNeedle, Nowhere, OccursAt}
use Rattle.reuse_notice.specs.Adding.{holds}

-- ---- a text at the front

both_true : (a b : Bool) → a ≡ true → b ≡ true → (a && b) ≡ true
both_true true b p q = q
both_true false b p q = p

parts_true : (a b : Bool) → (a && b) ≡ true → (a ≡ true) × (b ≡ true)
parts_true true b p = (refl, p)
parts_true false b p = absurd (false≢true p)

read_next : (part text : List ℕ) (y x j : ℕ) → y ≡ x → OccursAt text part 0 → j < suc (length part)
    → slice_index (x ∷ text) j ≡ slice_index (y ∷ part) j
read_next part text y x zero e o low = sym e
read_next part text y x (suc j) e o low = let z : 0 + j ≡ j = omega arith in rw z at (o.reads j (omega arith))

front_occurs : (part text : List ℕ) → starts_with nat_eq text part ≡ true → OccursAt text part 0
front_occurs [] text h = record { fits = omega arith; reads = λ j low. absurd (omega arith) }
front_occurs (y ∷ part) [] h = absurd (false≢true h)
front_occurs (y ∷ part) (x ∷ text) h =
    let parts = parts_true (nat_eq y x) (starts_with nat_eq text part) h in
    let rest = front_occurs part text parts.1 in
    record {
      fits = omega (arith, rest.fits);
      reads =
          λ j low. let z : 0 + j ≡ j = omega arith in rw z (read_next part text y x j (eqb-true y x parts.0) rest low);
    }

occurs_front : (part text : List ℕ) → OccursAt text part 0 → starts_with nat_eq text part ≡ true
occurs_front [] text o = refl
occurs_front (y ∷ part) [] o = absurd (omega (arith, o.fits))
occurs_front (y ∷ part) (x ∷ text) o =
    both_true (nat_eq y x) _ (eq-eqb y x (sym (o.reads 0 (omega arith))))
    (occurs_front part text (record {
      fits = omega (arith, o.fits);
      reads = λ j low. let z : 0 + j ≡ j = omega arith in let z' : 0 + suc j ≡ suc j = omega arith in
          rw z (rw z' at (o.reads (suc j) (omega arith)));
    }))

-- ---- a text anywhere

occurs_next : (part text : List ℕ) (b k : ℕ) → OccursAt text part k → OccursAt (b ∷ text) part (suc k)
occurs_next part text b k o = record {
  fits = omega (arith, o.fits);
  reads = λ j low. let e : suc k + j ≡ suc (k + j) = omega arith in rw e (o.reads j low);
}

occurs_before : (part text : List ℕ) (b k : ℕ) → OccursAt (b ∷ text) part (suc k) → OccursAt text part k
occurs_before part text b k o = record {
  fits = omega (arith, o.fits);
  reads = λ j low. let e : suc k + j ≡ suc (k + j) = omega arith in rw e at (o.reads j low);
}

or_right : (a b : Bool) → b ≡ true → (a || b) ≡ true
or_right true b p = refl
or_right false b p = p

held : (part text : List ℕ) (k : ℕ) → OccursAt text part k → holds part text ≡ true
held part [] zero o = occurs_front part [] o
held part [] (suc k) o = absurd (omega (arith, o.fits))
held part (b ∷ text) zero o = ap (λ t. t || holds part text) (occurs_front part (b ∷ text) o)
held part (b ∷ text) (suc k) o =
    or_right (starts_with nat_eq (b ∷ text) part) (holds part text) (held part text k (occurs_before part text b k o))

no_front : (part text : List ℕ) → Nowhere (OccursAt text part) 0 (length text + 1)
    → starts_with nat_eq text part ≡ false
no_front part text none = elim (truth (starts_with nat_eq text part)) [
  | inl is ↦ absurd (none 0 (omega arith) (omega arith) (front_occurs part text is))
  | inr isnt ↦ isnt
]

unheld : (part text : List ℕ) → Nowhere (OccursAt text part) 0 (length text + 1) → holds part text ≡ false
unheld part [] none = no_front part [] none
unheld part (b ∷ text) none =
    ap (λ t. t || holds part text) (no_front part (b ∷ text) none)
    ∙ unheld part text (λ k from to o. none (suc k) (omega arith) (omega arith) (occurs_next part text b k o))

pub found : (part text : List ℕ) (r : Option ℕ) → FindsNeedle text part 0 r → is_some r ≡ holds part text
found part text None f = sym (unheld part text f)
found part text (Some k) f = sym (held part text k f.1)
