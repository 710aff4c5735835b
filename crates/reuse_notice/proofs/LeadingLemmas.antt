-- What a merge makes of the notices of one holder.
use Rattle.std.proofs.Common.{◌≡◌, ℕ, Bool, true, false, cond, List, [], ◌∷◌, length, map, Option, Some, None, refl}
use Rattle.std.proofs.Common.{sym, ap, ◌∙◌, subst, arith, inl, inr, ◌⊎◌}
use Rattle.std.specs.Prelude.{Contains, find, unwrap_or, nat_lt}
use Rattle.std.specs.Option.{option_map, option_and_then}
use Rattle.std.specs.List.{cons_option}
use Rattle.std.specs.declared.cmp.Ordering.TheVariants.{Less}
use Rattle.std.proofs.lemmas.Bool.{ltb-true}
use Rattle.reuse_notice.specs.declared.tags.Years.{Years}
use Rattle.reuse_notice.specs.Sets.{byte_order, IsSorted}
use Rattle.reuse_notice.specs.Tags.{NoticeText, notice_of}
use Rattle.reuse_notice.specs.Adding.{notice_written}
use Rattle.reuse_notice.specs.Merging.{member, class_of, class_text, class_prefix, class_years, first_prefix, says}
use Rattle.reuse_notice.specs.Merging.{settled, merged_as}
use Rattle.reuse_notice.specs.MergeSteps.{is_among}
use Rattle.reuse_notice.specs.Leading.{IsNoticeOf, IsCommanded, IsLeast, Leads, HasYears, AreYearsOf, IsMergedNotice}
use Rattle.reuse_notice.specs.Leading.{StaysAsItIs}
use Rattle.reuse_notice.proofs.BlankLemmas.{truth}
use Rattle.reuse_notice.proofs.SetLemmas.{In, In-from_contains, Contains-from_in, above, not_itself, sorted-head}
use Rattle.reuse_notice.proofs.SetLemmas.{sorted-tail}
use Rattle.reuse_notice.proofs.KeepingLemmas.{Among, among-class}
use Rattle.reuse_notice.proofs.ClassYearsLemmas.{Has, AreTogether, class_together, has_notice, notice_has}
use Rattle.reuse_notice.proofs.ClassLemmas.{among_yes, among_in, text_kept, named}

-- ---- the notices of a class

-- a notice of a class is that of a text of the holder
record IsIn (texts : List (List ℕ)) (holder : List ℕ) (n : NoticeText) : Type 0 where
  stands : In n.text texts
  read : notice_of n.text ≡ Some n
  of : n.holder ≡ holder

in_more : (x : List ℕ) (texts : List (List ℕ)) (holder : List ℕ) (n : NoticeText) → IsIn texts holder n
    → IsIn (x ∷ texts) holder n
in_more x texts holder n i = record { stands = inr i.stands; read = i.read; of = i.of }

in_first : (x : List ℕ) (texts : List (List ℕ)) (holder : List ℕ) (n : NoticeText) → member holder x ≡ Some n
    → IsIn (x ∷ texts) holder n
in_first x texts holder n e =
    let h = named holder x n e in
    let same = text_kept x n h.0 in
    record { stands = inl same; read = ap notice_of same ∙ h.0; of = h.1 }

class_in : (holder : List ℕ) (texts : List (List ℕ)) (n : NoticeText) → Among n (class_of texts holder)
    → IsIn texts holder n
class_in holder [] n h = absurd h
class_in holder (x ∷ texts) n h = by (λ k. class_in holder texts n k) (member holder x) refl h
  where
    by : (Among n (class_of texts holder) → IsIn texts holder n) → (o : Option NoticeText) → member holder x ≡ o
        → Among n (cons_option o (class_of texts holder)) → IsIn (x ∷ texts) holder n
    by rest None e k = in_more x texts holder n (rest k)
    by rest (Some m) e (inl k) = subst (IsIn (x ∷ texts) holder) (sym k) (in_first x texts holder m e)
    by rest (Some m) e (inr k) = in_more x texts holder n (rest k)

-- ---- the first that passes is the byte-least

module _ (test : NoticeText → Bool) where
  record IsFirst (class : List NoticeText) (n : NoticeText) : Type 0 where
    among : Among n class
    passes : test n ≡ true
    least : (m : NoticeText) → Among m class → test m ≡ true → (m ≡ n) ⊎ (byte_order n.text m.text ≡ Less)

  first_here : (k : NoticeText) (class : List NoticeText) → test k ≡ true
      → ((m : NoticeText) → Among m class → byte_order k.text m.text ≡ Less) → IsFirst (k ∷ class) k
  first_here k class t low = record { among = inl refl; passes = t; least = least }
    where
      least : (m : NoticeText) → Among m (k ∷ class) → test m ≡ true → (m ≡ k) ⊎ (byte_order k.text m.text ≡ Less)
      least m (inl e) p = inl e
      least m (inr h) p = inr (low m h)

  first_behind : (k : NoticeText) (class : List NoticeText) (n : NoticeText) → test k ≡ false → IsFirst class n
      → IsFirst (k ∷ class) n
  first_behind k class n f first = record { among = inr first.among; passes = first.passes; least = least }
    where
      least : (m : NoticeText) → Among m (k ∷ class) → test m ≡ true → (m ≡ n) ⊎ (byte_order n.text m.text ≡ Less)
      least m (inl e) p = absurd (let g = sym f ∙ ap test (sym e) ∙ p in cc g)
      least m (inr h) p = first.least m h p

  found_first : (holder : List ℕ) (texts : List (List ℕ)) → IsSorted texts → (n : NoticeText)
      → find test (class_of texts holder) ≡ Some n → IsFirst (class_of texts holder) n
  found_first holder [] sorted n e = absurd (cc e)
  found_first holder (x ∷ texts) sorted n e =
      by (λ f. found_first holder texts (sorted-tail x texts sorted) n f) (member holder x) refl e
    where
      low : (k : NoticeText) → k.text ≡ x → (m : NoticeText) → Among m (class_of texts holder)
          → byte_order k.text m.text ≡ Less
      low k is m h = ap (λ (y : List ℕ). byte_order y m.text) is
          ∙ above x texts (sorted-head x texts sorted) m.text (class_in holder texts m h).stands

      by : (find test (class_of texts holder) ≡ Some n → IsFirst (class_of texts holder) n) → (o : Option NoticeText)
          → member holder x ≡ o
          → find test (cons_option o (class_of texts holder)) ≡ Some n
          → IsFirst (cons_option o (class_of texts holder)) n
      by rest None is e = rest e
      by rest (Some k) is e = elim (truth (test k)) [
        | inl t ↦ (let e' = rw t at e in
            let same : k ≡ n = cc e' in
            subst (IsFirst (k ∷ class_of texts holder)) same
            (first_here k (class_of texts holder) t (low k (text_kept x k (named holder x k is).0))))
        | inr f ↦ (let e' = rw f at e in first_behind k (class_of texts holder) n f (rest e'))
      ]

  found_none : (class : List NoticeText) → find test class ≡ None → (m : NoticeText) → Among m class → test m ≡ false
  found_none [] e m h = absurd h
  found_none (k ∷ class) e m h = elim (truth (test k)) [
    | inl t ↦ (let e' = rw t at e in absurd (cc e'))
    | inr f ↦ (let e' = rw f at e in by f (λ i. found_none class e' m i) h)
  ]
    where
      by : test k ≡ false → (Among m class → test m ≡ false) → Among m (k ∷ class) → test m ≡ false
      by f rest (inl s) = ap test s ∙ f
      by f rest (inr h) = rest h

-- ---- the notice that leads

module _ (command notices : List (List ℕ)) (holder : List ℕ) where
  abbrev commanded : NoticeText → Bool
  commanded n = is_among command n.text

  abbrev class : List NoticeText
  class = class_of notices holder

  -- a text of the holder in the class
  of_text : (text : List ℕ) → Contains notices text → IsNoticeOf holder text
      → (m : NoticeText) × (Among m class) × (m.text ≡ text)
  of_text text c (m, read, of) =
      (m, among-class holder text m notices read of (In-from_contains notices text c), text_kept text m read)

  of_class : (n : NoticeText) → Among n class → (Contains notices n.text) × IsNoticeOf holder n.text
  of_class n h = let i = class_in holder notices n h in (Contains-from_in notices n.text i.stands, (n, i.read, i.of))

  least_of : (test : NoticeText → Bool) (IsMeant : List ℕ → Type 0) (n : NoticeText) → IsFirst test class n
      → IsMeant n.text
      → ((text : List ℕ) → IsMeant text → IsNoticeOf holder text) → ((m : NoticeText) → IsMeant m.text → test m ≡ true)
      → IsLeast IsMeant notices n.text
  least_of test IsMeant n first meant holds tested = record {
    stands = (of_class n first.among).0;
    meant = meant;
    least = least;
  }
    where
      least : (other : List ℕ) → Contains notices other → IsMeant other
          → (other ≡ n.text) ⊎ (byte_order n.text other ≡ Less)
      least other c is =
          let m = of_text other c (holds other is) in
          elim (first.least m.0 m.1 (tested m.0 (subst IsMeant (sym m.2) is))) [
            | inl same ↦ inl (sym m.2 ∙ ap (λ (k : NoticeText). k.text) same)
            | inr low ↦ inr (ap (byte_order n.text) (sym m.2) ∙ low)
          ]

  -- a notice that leads, with the prefix of the class
  record IsLeading (n : NoticeText) : Type 0 where
    leads : Leads command notices holder n.text
    read : notice_of n.text ≡ Some n
    prefix : class_prefix command class ≡ n.prefix

  first_of : (m : NoticeText) (ns : List NoticeText) → Among m ns
      → (n : NoticeText) × (find (λ (k : NoticeText). true) ns ≡ Some n) × (first_prefix ns ≡ n.prefix)
  first_of m [] h = absurd h
  first_of m (n ∷ ns) h = (n, refl, refl)

  leading : IsSorted notices → (m : NoticeText) → Among m class → (n : NoticeText) × IsLeading n
  leading sorted m h = by (find commanded class) refl
    where
      by : (o : Option NoticeText) → find commanded class ≡ o → (n : NoticeText) × IsLeading n
      by (Some n) e =
          let first = found_first commanded holder notices sorted n e in
          let i = class_in holder notices n first.among in (
            n,
            record {
              leads = inl (least_of commanded (IsCommanded command holder) n first
                  ((n, i.read, i.of), Contains-from_in command n.text (among_in command n.text first.passes))
                  (λ text is. is.0) (λ k is. among_yes command k.text (In-from_contains command k.text is.1)));
              read = i.read;
              prefix = ap (λ (o : Option NoticeText). unwrap_or (option_map (λ (k : NoticeText). k.prefix) o)
                  (first_prefix class)) e;
            },
          )
      by None e =
          let f = first_of m class h in
          let n = f.0 in
          let first = found_first (λ (k : NoticeText). true) holder notices sorted n f.1 in
          let i = class_in holder notices n first.among in (
            n,
            record {
              leads = inr (
                (λ other c is. (let k = of_text other c is.0 in
                    let no = found_none commanded class e k.0 k.1 in
                    let yes = among_yes command k.0.text
                    (In-from_contains command k.0.text (subst (Contains command) (sym k.2) is.1)) in
                    let clash = sym no ∙ yes in cc clash)),
                least_of (λ (k : NoticeText). true) (IsNoticeOf holder) n first (n, i.read, i.of)
                    (λ text is. is) (λ k is. refl),
              );
              read = i.read;
              prefix = ap (λ (o : Option NoticeText). unwrap_or (option_map (λ (k : NoticeText). k.prefix) o)
                  (first_prefix class)) e ∙ f.2;
            },
          )

-- ---- the years

module _ (notices : List (List ℕ)) (holder : List ℕ) where
  has_years : (w : Years) → Has (map (λ n. n.years) (class_of notices holder)) w → HasYears notices holder w
  has_years w h =
      let m = has_notice (class_of notices holder) w h in
      let i = class_in holder notices m.0 m.1 in
      record {
        text = m.0.text;
        notice = m.0;
        stands = Contains-from_in notices m.0.text i.stands;
        read = i.read;
        of = i.of;
        has = m.2;
      }

  years_had : (w : Years) → HasYears notices holder w → Has (map (λ n. n.years) (class_of notices holder)) w
  years_had w h = notice_has (class_of notices holder) w h.notice
      (among-class holder h.text h.notice notices h.read h.of (In-from_contains notices h.text h.stands)) h.has

  years_of : (o : Option Years) → AreTogether (map (λ n. n.years) (class_of notices holder)) o
      → AreYearsOf notices holder o
  years_of None h = λ w k. h w (years_had w k)
  years_of (Some span) h = record {
    lowest = (h.lowest.0, has_years h.lowest.0 h.lowest.1, h.lowest.2);
    highest = (h.highest.0, has_years h.highest.0 h.highest.1, h.highest.2);
    within = λ w k. h.within w (years_had w k);
  }

-- ---- the notice that is written

alone : (ns : List NoticeText) (m k : NoticeText) → nat_lt (length ns) 2 ≡ true → Among m ns → Among k ns → k ≡ m
alone [] m k few h i = absurd h
alone (n ∷ []) m k few (inl e) (inl f) = f ∙ sym e
alone (n ∷ []) m k few (inl e) (inr i) = absurd i
alone (n ∷ []) m k few (inr h) i = absurd h
alone (n ∷ o ∷ ns) m k few h i = absurd (let low = ltb-true (length (n ∷ o ∷ ns)) 2 few in omega (arith, low))

-- a class of two or more has two texts
several : (holder : List ℕ) (texts : List (List ℕ)) → IsSorted texts → nat_lt (length (class_of texts holder)) 2 ≡ false
    → (text : List ℕ)
    → ((other : List ℕ) → In other texts → IsNoticeOf holder other → other ≡ text) → ⊥
several holder [] sorted e text one = cc e
several holder (x ∷ texts) sorted e text one =
    by (λ few. several holder texts (sorted-tail x texts sorted) few text (λ other h of. one other (inr h) of))
    (member holder x) refl e
  where
    behind : (k m : NoticeText) (ms : List NoticeText) → member holder x ≡ Some k → class_of texts holder ≡ m ∷ ms → ⊥
    behind k m ms is more =
        let of = named holder x k is in
        let i = class_in holder texts m (subst (Among m) (sym more) (inl refl)) in
        let up = above x texts (sorted-head x texts sorted) m.text i.stands in
        not_itself text (ap (λ y. byte_order y text) (sym (one x (inl refl) (k, of.0, of.1)))
        ∙ ap (byte_order x) (sym (one m.text (inr i.stands) (m, i.read, i.of))) ∙ up)

    two : (k : NoticeText) (ms : List NoticeText) → member holder x ≡ Some k → class_of texts holder ≡ ms
        → nat_lt (length (k ∷ ms)) 2 ≡ false → ⊥
    two k [] is more few = cc few
    two k (m ∷ ms) is more few = behind k m ms is more

    by : (nat_lt (length (class_of texts holder)) 2 ≡ false → ⊥) → (o : Option NoticeText) → member holder x ≡ o
        → nat_lt (length (cons_option o (class_of texts holder))) 2 ≡ false → ⊥
    by rest None is few = rest few
    by rest (Some k) is few = two k (class_of texts holder) is refl few

pub others_stay : (command notices : List (List ℕ)) (text : List ℕ) → notice_of text ≡ None
    → merged_as command notices text ≡ text
others_stay command notices text e =
    ap (λ o. unwrap_or (option_and_then (λ n. class_text command (class_of notices n.holder) n.holder) o) text) e

pub merged_one : (command notices : List (List ℕ)) (text : List ℕ) (notice : NoticeText) → IsSorted notices
    → Contains notices text → notice_of text ≡ Some notice
    → (written : List ℕ) × (merged_notice : IsMergedNotice command notices notice.holder written)
    × (((merged_as command notices text ≡ written)
    × ¬ StaysAsItIs command notices notice.holder text written merged_notice)
    ⊎ ((merged_as command notices text ≡ text) × StaysAsItIs command notices notice.holder text written merged_notice))
merged_one command notices text notice sorted c is =
    (written, merged, by_few (nat_lt (length ns) 2) refl)
  where
    holder : List ℕ
    holder = notice.holder

    ns : List NoticeText
    ns = class_of notices holder

    among : Among notice ns
    among = among-class holder text notice notices is refl (In-from_contains notices text c)

    lead : (n : NoticeText) × IsLeading command notices holder n
    lead = leading command notices holder sorted notice among

    years : Option Years
    years = class_years ns

    written : List ℕ
    written = notice_written lead.0.prefix years holder

    merged : IsMergedNotice command notices holder written
    merged = record {
      leading = lead.0.text;
      notice = lead.0;
      years = years;
      leads = lead.1.leads;
      read = lead.1.read;
      years_are = years_of notices holder years (class_together ns);
      written = refl;
    }

    as_class : merged_as command notices text ≡ unwrap_or (class_text command ns holder) text
    as_class =
        ap (λ o. unwrap_or (option_and_then (λ n. class_text command (class_of notices n.holder) n.holder) o) text) is

    as_written : unwrap_or (settled (class_prefix command ns) years holder) text ≡ unwrap_or
        (settled lead.0.prefix years holder) text
    as_written = ap (λ p. unwrap_or (settled p years holder) text) lead.1.prefix

    Goal : Type 0
    Goal =
        ((merged_as command notices text ≡ written) × ¬ StaysAsItIs command notices holder text written merged)
        ⊎ ((merged_as command notices text ≡ text) × StaysAsItIs command notices holder text written merged)

    by_reading : (few : nat_lt (length ns) 2 ≡ false) (b : Bool)
        → says lead.0.prefix years holder (notice_of written) ≡ b → Goal
    by_reading few b says_is = by b says_is
      where
        so : merged_as command notices text ≡ unwrap_or
            (cond (says lead.0.prefix years holder (notice_of written)) (Some written) None) text
        so = as_class
            ∙ ap (λ f. unwrap_or (cond f None (settled (class_prefix command ns) years holder)) text) few ∙ as_written

        stays_not : says lead.0.prefix years holder (notice_of written) ≡ true
            → ¬ StaysAsItIs command notices holder text written merged
        stays_not e (inl one) =
            several holder notices sorted few text (λ other h is. one other (Contains-from_in notices other h) is)
        stays_not e (inr f) = let clash = sym e ∙ f in cc clash

        by : (b : Bool) → says lead.0.prefix years holder (notice_of written) ≡ b → Goal
        by true e = inl (so ∙ ap (λ f. unwrap_or (cond f (Some written) None) text) e, stays_not e)
        by false e = inr (so ∙ ap (λ f. unwrap_or (cond f (Some written) None) text) e, inr e)

    by_few : (b : Bool) → nat_lt (length ns) 2 ≡ b → Goal
    by_few true e =
        inr (
          as_class ∙ ap (λ f. unwrap_or (cond f None (settled (class_prefix command ns) years holder)) text) e,
          inl (λ other k of. (let m = of_text command notices holder other k of in
              sym m.2 ∙ ap (λ (x : NoticeText). x.text) (alone ns notice m.0 e among m.1) ∙ text_kept text notice is)),
        )
    by_few false e = by_reading e (says lead.0.prefix years holder (notice_of written)) refl
