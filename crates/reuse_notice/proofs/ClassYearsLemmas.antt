-- The years of a class run from the lowest of its notices to the highest.
use Rattle.std.proofs.Common.{◌≡◌, ℕ, ◌≤◌, List, [], ◌∷◌, map, Option, Some, None, refl, sym, ap, ◌∙◌, arith, inl, inr}
use Rattle.std.proofs.Common.{◌⊎◌}
use Rattle.std.specs.Prelude.{fold, nat_lt, min, max}
use Rattle.std.proofs.lemmas.Bool.{ltb-true, ltb-false}
use Rattle.reuse_notice.specs.declared.tags.Years.{Years}
use Rattle.reuse_notice.specs.Tags.{NoticeText}
use Rattle.reuse_notice.specs.Merging.{class_years, joined_years}
use Rattle.reuse_notice.proofs.BlankLemmas.{truth}
use Rattle.reuse_notice.proofs.KeepingLemmas.{Among}

-- some of the years are these
abbrev pub Has : List (Option Years) → Years → Type 0
Has [] years = ⊥
Has (y ∷ ys) years = (y ≡ Some years) ⊎ Has ys years

pub record IsSpanOf (ys : List (Option Years)) (span : Years) : Type 0 where
  pub lowest : (years : Years) × Has ys years × (years.low ≡ span.low)
  pub highest : (years : Years) × Has ys years × (years.high ≡ span.high)
  pub within : (years : Years) → Has ys years → (span.low ≤ years.low) × (years.high ≤ span.high)

abbrev pub AreTogether : List (Option Years) → Option Years → Type 0
AreTogether ys None = (years : Years) → ¬ Has ys years
AreTogether ys (Some span) = IsSpanOf ys span

one_together : (y : Option Years) → AreTogether (y ∷ []) y
one_together None = λ years h. none years h
  where
    none : (years : Years) → ¬ Has (None ∷ []) years
    none years (inl e) = cc e
    none years (inr h) = h
one_together (Some y) = record { lowest = (y, inl refl, refl); highest = (y, inl refl, refl); within = within }
  where
    within : (years : Years) → Has (Some y ∷ []) years → (y.low ≤ years.low) × (years.high ≤ y.high)
    within years (inl e) = let same : y ≡ years = cc e in (let low = ap (λ (z : Years). z.low) same in
        let high = ap (λ (z : Years). z.high) same in (omega (arith, low), omega (arith, high)))
    within years (inr h) = absurd h

-- lists with the same years
same_together : (xs ys : List (Option Years)) (o : Option Years) → ((w : Years) → Has xs w → Has ys w)
    → ((w : Years) → Has ys w → Has xs w) → AreTogether xs o → AreTogether ys o
same_together xs ys None f g h = λ w k. h w (g w k)
same_together xs ys (Some s) f g h = record {
  lowest = (h.lowest.0, f h.lowest.0 h.lowest.1, h.lowest.2);
  highest = (h.highest.0, f h.highest.0 h.highest.1, h.highest.2);
  within = λ w k. h.within w (g w k);
}

-- the lower of two numbers is one of them, and the higher too
lower_is : (m n : ℕ) → (min m n ≡ m) ⊎ (min m n ≡ n)
lower_is m n = elim (truth (nat_lt m n)) [
  | inl t ↦ (let low = ltb-true m n t in inl (omega (arith, low)))
  | inr f ↦ (let low = ltb-false m n f in inr (omega (arith, low)))
]

higher_is : (m n : ℕ) → (max m n ≡ m) ⊎ (max m n ≡ n)
higher_is m n = elim (truth (nat_lt m n)) [
  | inl t ↦ (let low = ltb-true m n t in inr (omega (arith, low)))
  | inr f ↦ (let low = ltb-false m n f in inl (omega (arith, low)))
]

module _ (a b : Years) (ys : List (Option Years)) where
  joint : Years
  joint = record { low = min a.low b.low; high = max a.high b.high }

  abbrev all : List (Option Years)
  all = Some a ∷ Some b ∷ ys

  joint_is : (w : Years) → Some joint ≡ Some w → joint ≡ w
  joint_is w e = cc e

  joint_low : joint.low ≡ min a.low b.low
  unfolding joint
  joint_low = refl

  joint_high : joint.high ≡ max a.high b.high
  unfolding joint
  joint_high = refl

  lower : (a.low ≡ joint.low) ⊎ (b.low ≡ joint.low)
  lower = elim (lower_is a.low b.low) [ inl m ↦ inl (sym m ∙ sym joint_low) | inr m ↦ inr (sym m ∙ sym joint_low) ]

  higher : (a.high ≡ joint.high) ⊎ (b.high ≡ joint.high)
  higher = elim (higher_is a.high b.high) [
    | inl m ↦ inl (sym m ∙ sym joint_high)
    | inr m ↦ inr (sym m ∙ sym joint_high)
  ]

  -- an end that one of the two shares with the joint years is an end of one of all
  end_of : (end : Years → ℕ) → (end a ≡ end joint) ⊎ (end b ≡ end joint) → (w : Years) → Has (Some joint ∷ ys) w
      → (v : Years) × Has all v × (end v ≡ end w)
  end_of end shared w (inl e) = let same = ap end (joint_is w e) in elim shared [
    | inl m ↦ (a, inl refl, m ∙ same)
    | inr m ↦ (b, inr (inl refl), m ∙ same)
  ]
  end_of end shared w (inr h) = (w, inr (inr h), refl)

  -- each is within one of the others
  within_joint : (span w : Years) → ((v : Years) → Has (Some joint ∷ ys) v → (span.low ≤ v.low) × (v.high ≤ span.high))
      → Has all w → (span.low ≤ w.low) × (w.high ≤ span.high)
  within_joint span w f h = by h
    where
      part : (c : Years) → joint.low ≤ c.low → c.high ≤ joint.high → Some c ≡ Some w
          → (span.low ≤ w.low) × (w.high ≤ span.high)
      part c low high e =
          let g = f joint (inl refl) in
          let same : c ≡ w = cc e in
          let lows = ap (λ (z : Years). z.low) same in
          let highs = ap (λ (z : Years). z.high) same in
          (omega (arith, g.0, low, lows), omega (arith, g.1, high, highs))

      by : Has all w → (span.low ≤ w.low) × (w.high ≤ span.high)
      by (inl e) = part a (omega (arith, joint_low)) (omega (arith, joint_high)) e
      by (inr (inl e)) = part b (omega (arith, joint_low)) (omega (arith, joint_high)) e
      by (inr (inr h)) = f w (inr h)

  apart : (o : Option Years) → AreTogether (Some joint ∷ ys) o → AreTogether all o
  apart None h = absurd (h joint (inl refl))
  apart (Some span) h =
      let low = end_of (λ z. z.low) lower h.lowest.0 h.lowest.1 in
      let high = end_of (λ z. z.high) higher h.highest.0 h.highest.1 in
      record {
        lowest = (low.0, low.1, low.2 ∙ h.lowest.2);
        highest = (high.0, high.1, high.2 ∙ h.highest.2);
        within = λ w k. within_joint span w h.within k;
      }

apart_joined : (a b : Years) (ys : List (Option Years)) (o : Option Years)
    → AreTogether (joined_years (Some a) (Some b) ∷ ys) o → AreTogether (Some a ∷ Some b ∷ ys) o
unfolding joint
apart_joined a b ys o h = apart a b ys o h

-- the first two of some years, joined, and the others
two_together : (x y : Option Years) (ys : List (Option Years)) (o : Option Years)
    → AreTogether (joined_years x y ∷ ys) o → AreTogether (x ∷ y ∷ ys) o
two_together None y ys o h = same_together (y ∷ ys) (None ∷ y ∷ ys) o (λ w k. inr k) (λ w k. behind w k) h
  where
    behind : (w : Years) → Has (None ∷ y ∷ ys) w → Has (y ∷ ys) w
    behind w (inl e) = absurd (cc e)
    behind w (inr k) = k
two_together (Some a) None ys o h =
    same_together (Some a ∷ ys) (Some a ∷ None ∷ ys) o (λ w k. between w k) (λ w k. beside w k) h
  where
    between : (w : Years) → Has (Some a ∷ ys) w → Has (Some a ∷ None ∷ ys) w
    between w (inl e) = inl e
    between w (inr k) = inr (inr k)

    beside : (w : Years) → Has (Some a ∷ None ∷ ys) w → Has (Some a ∷ ys) w
    beside w (inl e) = inl e
    beside w (inr (inl e)) = absurd (cc e)
    beside w (inr (inr k)) = inr k
two_together (Some a) (Some b) ys o h = apart_joined a b ys o h

folded_together : (acc : Option Years) (ys : List (Option Years)) → AreTogether (acc ∷ ys) (fold joined_years acc ys)
folded_together acc [] = one_together acc
folded_together acc (y ∷ ys) =
    two_together acc y ys (fold joined_years (joined_years acc y) ys) (folded_together (joined_years acc y) ys)

pub class_together : (ns : List NoticeText) → AreTogether (map (λ n. n.years) ns) (class_years ns)
class_together ns = same_together (None ∷ map (λ n. n.years) ns) (map (λ n. n.years) ns) (class_years ns)
    (λ w k. behind w k) (λ w k. inr k) (folded_together None (map (λ n. n.years) ns))
  where
    behind : (w : Years) → Has (None ∷ map (λ n. n.years) ns) w → Has (map (λ n. n.years) ns) w
    behind w (inl e) = absurd (cc e)
    behind w (inr k) = k

pub has_notice : (ns : List NoticeText) (w : Years) → Has (map (λ n. n.years) ns) w
    → (m : NoticeText) × (Among m ns) × (m.years ≡ Some w)
has_notice [] w h = absurd h
has_notice (n ∷ ns) w (inl e) = (n, inl refl, e)
has_notice (n ∷ ns) w (inr h) = let k = has_notice ns w h in (k.0, inr k.1, k.2)

pub notice_has : (ns : List NoticeText) (w : Years) (m : NoticeText) → Among m ns → m.years ≡ Some w
    → Has (map (λ n. n.years) ns) w
notice_has [] w m h e = absurd h
notice_has (n ∷ ns) w m (inl s) e = inl (ap (λ (k : NoticeText). k.years) (sym s) ∙ e)
notice_has (n ∷ ns) w m (inr h) e = inr (notice_has ns w m h e)
