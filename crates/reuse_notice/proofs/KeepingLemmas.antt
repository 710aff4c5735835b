-- A merge keeps the holder and the years of each notice.
use Rattle.std.proofs.Common.{◌≡◌, ℕ, Bool, true, false, cond, List, [], ◌∷◌, length, map, Option, Some, None, refl}
use Rattle.std.proofs.Common.{sym, ap, ◌∙◌, subst, arith, inl, inr, ◌⊎◌, ◌==◌}
use Rattle.std.specs.Prelude.{Contains, fold, nat_lt, unwrap_or, ◌&&◌}
use Rattle.std.specs.Option.{option_and_then}
use Rattle.std.specs.List.{cons_option}
use Rattle.std.specs.Str.{bytes_eq}
use Rattle.std.proofs.lemmas.Bool.{eqb-true}
use Rattle.std.proofs.lemmas.Slice.Eq.{bytes_eq-Decides}
use Rattle.reuse_notice.specs.declared.prefixes.Prefix.{Prefix}
use Rattle.reuse_notice.specs.declared.tags.Years.{Years}
use Rattle.reuse_notice.specs.Prefixes.{prefix_text}
use Rattle.reuse_notice.specs.Tags.{NoticeText, notice_of}
use Rattle.reuse_notice.specs.Adding.{notice_written}
use Rattle.reuse_notice.specs.Merging.{with_holder, member, class_of, class_text, class_prefix, class_years}
use Rattle.reuse_notice.specs.Merging.{joined_years, same_years, says, settled, merged_as, merged}
use Rattle.reuse_notice.specs.Keeping.{Include, IsKeptBy}
use Rattle.reuse_notice.proofs.PlainLemmas.{and-parts}
use Rattle.reuse_notice.proofs.SetLemmas.{In, In-from_contains, Contains-from_in, set_of-has}

-- ---- years

include-left : (a b own : Option Years) → Include a own → Include (joined_years a b) own
include-left a b None h = tt
include-left None b (Some own) h = absurd h
include-left (Some a) None (Some own) h = h
include-left (Some a) (Some b) (Some own) h = (omega arith, omega arith)

include-right : (a b : Option Years) → Include (joined_years a b) b
include-right a None = tt
include-right None (Some b) = (omega arith, omega arith)
include-right (Some a) (Some b) = (omega arith, omega arith)

-- a notice is one of a class
abbrev pub Among : NoticeText → List NoticeText → Type 0
Among n [] = ⊥
Among n (m ∷ class) = (n ≡ m) ⊎ Among n class

include-all : (class : List NoticeText) (a own : Option Years) → Include a own
    → Include (fold joined_years a (map (λ n. n.years) class)) own
include-all [] a own h = h
include-all (n ∷ class) a own h = include-all class (joined_years a n.years) own (include-left a n.years own h)

pub include-one : (class : List NoticeText) (a : Option Years) (n : NoticeText) → Among n class
    → Include (fold joined_years a (map (λ m. m.years) class)) n.years
include-one [] a n h = absurd h
include-one (m ∷ class) a n (inl e) =
    include-all class (joined_years a m.years) n.years
    (subst (λ y. Include (joined_years a m.years) y) (sym (ap (λ k. k.years) e)) (include-right a m.years))
include-one (m ∷ class) a n (inr h) = include-one class (joined_years a m.years) n h

-- the same years include the same
include-same : (a b own : Option Years) → same_years a b ≡ true → Include b own → Include a own
include-same a b None e h = tt
include-same None None (Some own) e h = h
include-same None (Some b) (Some own) e h = absurd (cc e)
include-same (Some a) None (Some own) e h = absurd (cc e)
include-same (Some a) (Some b) (Some own) e h =
    let p = and-parts (a.low == b.low) (a.high == b.high) e in
    let low : a.low ≡ b.low = eqb-true a.low b.low p.0 in
    let high : a.high ≡ b.high = eqb-true a.high b.high p.1 in
    (omega arith, omega arith)

-- ---- a notice and its class

-- a notice of a holder is in the holder's class
pub among-class : (holder text : List ℕ) (n : NoticeText) (xs : List (List ℕ)) → notice_of text ≡ Some n
    → n.holder ≡ holder → In text xs → Among n (class_of xs holder)
among-class holder text n [] is of h = absurd h
among-class holder text n (x ∷ xs) is of (inl e) =
    let found : member holder x ≡ Some n =
    ap (member holder) (sym e) ∙ ap (option_and_then (with_holder holder)) is
    ∙ ap (λ b. cond b (Some n) None) ((bytes_eq-Decides n.holder holder).1 of) in
    subst (λ o. Among n (cons_option o (class_of xs holder))) (sym found) (inl refl)
among-class holder text n (x ∷ xs) is of (inr h) = behind (member holder x) (among-class holder text n xs is of h)
  where
    behind : (o : Option NoticeText) → Among n (class_of xs holder) → Among n (cons_option o (class_of xs holder))
    behind None k = k
    behind (Some m) k = inr k

said : (prefix : Prefix) (years : Option Years) (holder : List ℕ) (o : Option NoticeText)
    → says prefix years holder o ≡ true
    → (m : NoticeText) × (o ≡ Some m) × (m.holder ≡ holder) × (same_years m.years years ≡ true)
said prefix years holder None e = absurd (cc e)
said prefix years holder (Some m) e =
    let p = and-parts (bytes_eq (prefix_text m.prefix) (prefix_text prefix) && same_years m.years years)
    (bytes_eq m.holder holder) e in
    let q = and-parts (bytes_eq (prefix_text m.prefix) (prefix_text prefix)) (same_years m.years years) p.0 in
    (m, refl, (bytes_eq-Decides m.holder holder).0 p.1, q.1)

-- a class's text is a notice of the holder with the years of the class
kept-class : (command : List (List ℕ)) (class : List NoticeText) (text t : List ℕ) (n : NoticeText)
    → notice_of text ≡ Some n → Among n class → class_text command class n.holder ≡ Some t → IsKeptBy text t
kept-class command class text t n is among e = few (nat_lt (length class) 2) e
  where
    prefix : Prefix
    prefix = class_prefix command class

    written : List ℕ
    written = notice_written prefix (class_years class) n.holder

    back : (b : Bool) → says prefix (class_years class) n.holder (notice_of written) ≡ b
        → cond b (Some written) None ≡ Some t → IsKeptBy text t
    back false s f = absurd (cc f)
    back true s f =
        let m = said prefix (class_years class) n.holder (notice_of written) s in
        let same : written ≡ t = cc f in
        record {
          was = n;
          is = m.0;
          read_was = is;
          read_is = ap notice_of (sym same) ∙ m.1;
          holder = m.2;
          years = include-same m.0.years (class_years class) n.years m.3 (include-one class None n among);
        }

    few : (b : Bool) → cond b None (settled prefix (class_years class) n.holder) ≡ Some t → IsKeptBy text t
    few true f = absurd (cc f)
    few false f = back (says prefix (class_years class) n.holder (notice_of written)) refl f

pub In-map : (f : List ℕ → List ℕ) (xs : List (List ℕ)) (t : List ℕ) → In t xs → In (f t) (map f xs)
In-map f [] t h = absurd h
In-map f (x ∷ xs) t (inl e) = inl (ap f e)
In-map f (x ∷ xs) t (inr h) = inr (In-map f xs t h)

pub kept-notice : (command notices : List (List ℕ)) (text : List ℕ) → Contains notices text
    → (Contains (merged command notices) text)
    ⊎ ((other : List ℕ) × (Contains (merged command notices) other) × IsKeptBy text other)
kept-notice command notices text c = read (notice_of text) refl
  where
    stands : (t : List ℕ) → merged_as command notices text ≡ t → Contains (merged command notices) t
    stands t e =
        subst (Contains (merged command notices)) e
        (Contains-from_in (merged command notices) (merged_as command notices text)
        (set_of-has (map (merged_as command notices) notices) (merged_as command notices text)
        (In-map (merged_as command notices) notices text (In-from_contains notices text c))))

    becomes : Option NoticeText → List ℕ
    becomes o = unwrap_or (option_and_then (λ n. class_text command (class_of notices n.holder) n.holder) o) text

    class : (n : NoticeText) (o : Option (List ℕ)) → notice_of text ≡ Some n
        → class_text command (class_of notices n.holder) n.holder ≡ o
        → (Contains (merged command notices) text)
        ⊎ ((other : List ℕ) × (Contains (merged command notices) other) × IsKeptBy text other)
    class n None is e = inl (stands text (ap becomes is ∙ ap (λ p. unwrap_or p text) e))
    class n (Some t) is e =
        inr (
          t,
          stands t (ap becomes is ∙ ap (λ p. unwrap_or p text) e),
          kept-class command (class_of notices n.holder) text t n is
              (among-class n.holder text n notices is refl (In-from_contains notices text c)) e,
        )

    read : (o : Option NoticeText) → notice_of text ≡ o → (Contains (merged command notices) text)
        ⊎ ((other : List ℕ) × (Contains (merged command notices) other) × IsKeptBy text other)
    read None is = inl (stands text (ap becomes is))
    read (Some n) is = class n (class_text command (class_of notices n.holder) n.holder) is refl
