-- The texts that a tag begins with, as one pass over a file finds them.
use Rattle.std.proofs.Common.{◌≡◌, ℕ, ◌+◌, ◌≤◌, Bool, true, false, List, length, lit<, codes, refl, sym, arith}
use Rattle.std.specs.Prelude.{◌||◌, drop}
use Rattle.memchr.specs.Find.{Nowhere, OccursAt, Passes, is_byte3}
use Rattle.reuse_notice.specs.Prefixes.{copyright_sign}
use Rattle.reuse_style.specs.Search.{holds}
use Rattle.reuse_header.specs.Tagged.{begins_with_lead, holds_lead}
use Rattle.reuse_style.proofs.PlaceLemmas.{held_where_it_stands, not_held_nowhere, nowhere_by, nowhere_past, stands_at}

-- none of the three texts stands before the place
pub record NoLeadBefore (file : List ℕ) (place : ℕ) : Type 0 where
  pub spdx : Nowhere (OccursAt file (codes "SPDX-")) 0 place
  pub copyright : Nowhere (OccursAt file (codes "Copyright")) 0 place
  pub sign : Nowhere (OccursAt file copyright_sign) 0 place

-- the byte that one of them begins with
abbrev pub is_lead_byte : ℕ → Bool
is_lead_byte = is_byte3 83 67 194

record AllFalse (a b c : Bool) : Type 0 where
  first : a ≡ false
  second : b ≡ false
  third : c ≡ false

all_false : (a b c : Bool) → (a || b || c) ≡ false → AllFalse a b c
all_false false false false h = record { first = refl; second = refl; third = refl }
all_false false false true h = absurd (cc)
all_false false true c h = absurd (cc)
all_false true b c h = absurd (cc)

one_true : (a b c : Bool) (A : Type 0) → (a ≡ true → A) → (b ≡ true → A) → (c ≡ true → A) → (a || b || c) ≡ true → A
one_true true b c A first second third h = first refl
one_true false true c A first second third h = second refl
one_true false false true A first second third h = third refl
one_true false false false A first second third h = absurd (cc)

or_first : (a b c : Bool) → a ≡ true → (a || b || c) ≡ true
or_first true b c h = refl
or_first false b c h = absurd (cc)

or_second : (a b c : Bool) → b ≡ true → (a || b || c) ≡ true
or_second true b c h = refl
or_second false true c h = refl
or_second false false c h = absurd (cc)

or_third : (a b c : Bool) → c ≡ true → (a || b || c) ≡ true
or_third true b c h = refl
or_third false true c h = refl
or_third false false true h = refl
or_third false false false h = absurd (cc)

pub none_yet : (file : List ℕ) → NoLeadBefore file 0
none_yet file = record {
  spdx = λ k from to. absurd (omega arith);
  copyright = λ k from to. absurd (omega arith);
  sign = λ k from to. absurd (omega arith);
}

pub none_up_to : (file : List ℕ) (start more : ℕ) → NoLeadBefore file start
    → Nowhere (Passes is_lead_byte (drop start file)) 0 more → NoLeadBefore file (start + more)
none_up_to file start more before lacking = record {
  spdx = nowhere_by (codes "SPDX-") file is_lead_byte start more (lit< tt) refl before.spdx lacking;
  copyright = nowhere_by (codes "Copyright") file is_lead_byte start more (lit< tt) refl before.copyright lacking;
  sign = nowhere_by copyright_sign file is_lead_byte start more (lit< tt) refl before.sign lacking;
}

pub none_past : (file : List ℕ) (place : ℕ) → NoLeadBefore file place → begins_with_lead (drop place file) ≡ false
    → NoLeadBefore file (place + 1)
none_past file place before h =
    let apart = all_false _ _ _ h in
    record {
      spdx = nowhere_past (codes "SPDX-") file place before.spdx apart.first;
      copyright = nowhere_past (codes "Copyright") file place before.copyright apart.second;
      sign = nowhere_past copyright_sign file place before.sign apart.third;
    }

three_false : (a b c : Bool) → a ≡ false → b ≡ false → c ≡ false → (a || b || c) ≡ false
three_false false false false p q r = refl
three_false false false true p q r = absurd (cc)
three_false false true c p q r = absurd (cc)
three_false true b c p q r = absurd (cc)

pub none_at_all : (file : List ℕ) → NoLeadBefore file (length file) → false ≡ holds_lead file
none_at_all file none =
    sym (three_false _ _ _ (not_held_nowhere (codes "SPDX-") file (lit< tt) none.spdx) (not_held_nowhere
    (codes "Copyright") file (lit< tt) none.copyright) (not_held_nowhere copyright_sign file (lit< tt) none.sign))

pub lead_here : (file : List ℕ) (place : ℕ) → place ≤ length file → begins_with_lead (drop place file) ≡ true
    → true ≡ holds_lead file
lead_here file place within h =
    sym (one_true _ _ _ (holds_lead file ≡ true)
    (λ is. or_first (holds (codes "SPDX-") file) (holds (codes "Copyright") file) (holds copyright_sign file)
    (held_where_it_stands (codes "SPDX-") file place (stands_at (codes "SPDX-") file place within is)))
    (λ is. or_second (holds (codes "SPDX-") file) (holds (codes "Copyright") file) (holds copyright_sign file)
    (held_where_it_stands (codes "Copyright") file place (stands_at (codes "Copyright") file place within is)))
    (λ is. or_third (holds (codes "SPDX-") file) (holds (codes "Copyright") file) (holds copyright_sign file)
    (held_where_it_stands copyright_sign file place (stands_at copyright_sign file place within is)))
    h)
