-- Additions that were joined and merged change nothing a second time.
use Rattle.std.proofs.Common.{◌≡◌, ℕ, Bool, true, false, cond, List, ◌++◌, length, map, Option, Some, None, refl, sym}
use Rattle.std.proofs.Common.{ap, ◌∙◌, subst, inl, inr, ◌⊎◌}
use Rattle.std.specs.Prelude.{find, nat_lt, unwrap_or, is_some}
use Rattle.std.specs.Option.{option_and_then}
use Rattle.reuse_notice.specs.declared.infos.Info.{Info}
use Rattle.reuse_notice.specs.declared.adding.Additions.{Additions}
use Rattle.reuse_notice.specs.Tags.{NoticeText, notice_of}
use Rattle.reuse_notice.specs.Sets.{IsSorted, set_of}
use Rattle.reuse_notice.specs.Merging.{member, class_of, class_text, class_prefix, class_years, settled, merged_as}
use Rattle.reuse_notice.specs.Merging.{merged}
use Rattle.reuse_notice.specs.MergeSteps.{is_among}
use Rattle.reuse_notice.specs.Infos.{union_of, merged_of}
use Rattle.reuse_notice.specs.Keeping.{Include}
use Rattle.reuse_notice.proofs.SetLemmas.{In, same_sets, sorted-set_of, In-set_of, set_of-has}
use Rattle.reuse_notice.proofs.KeepingLemmas.{Among, include-one, among-class, In-map}
use Rattle.reuse_notice.proofs.ClassLemmas.{In-append, In-left, In-right, In-from_map, same_filters, among_yes}
use Rattle.reuse_notice.proofs.ClassLemmas.{text_kept, names, held, named, some_member, class-named, from_class}
use Rattle.reuse_notice.proofs.ClassLemmas.{commanded, same-commanded, not_found, Include-itself, Include-both}
use Rattle.reuse_notice.proofs.ClassLemmas.{fold-within, first_of, one_of_few, prefix_or, IsClassText, class_text-is}

-- ---- a merge of what was merged

module _ (command notices : List (List ℕ)) (sorted : IsSorted notices)
    (has : (t : List ℕ) → In t command → In t notices) where
  once : List (List ℕ)
  once = merged command notices

  joined : List (List ℕ)
  joined = set_of (once ++ command)

  text_by : List (List ℕ) → List ℕ → Option NoticeText → List ℕ
  text_by texts text o = unwrap_or (option_and_then (λ n. class_text command (class_of texts n.holder) n.holder) o) text

  becomes_none : (texts : List (List ℕ)) (text : List ℕ) → notice_of text ≡ None → merged_as command texts text ≡ text
  unfolding text_by
  becomes_none texts text e = ap (text_by texts text) e

  becomes_some : (texts : List (List ℕ)) (text : List ℕ) (n : NoticeText) → notice_of text ≡ Some n
      → merged_as command texts text ≡ unwrap_or (class_text command (class_of texts n.holder) n.holder) text
  unfolding text_by
  becomes_some texts text n e = ap (text_by texts text) e

  in_once : (text t : List ℕ) → In text notices → merged_as command notices text ≡ t → In t once
  unfolding once
  in_once text t h e =
      subst (λ x. In x (merged command notices)) e (set_of-has (map (merged_as command notices) notices)
      (merged_as command notices text) (In-map (merged_as command notices) notices text h))

  from_once : (text : List ℕ) → In text once → (s : List ℕ) × (In s notices) × (text ≡ merged_as command notices s)
  unfolding once
  from_once text h =
      In-from_map (merged_as command notices) notices text (In-set_of (map (merged_as command notices) notices) text h)

  in_joined : (text : List ℕ) → In text once → In text joined
  unfolding joined
  in_joined text h = set_of-has (once ++ command) text (In-left once command text h)

  command_joined : (text : List ℕ) → In text command → In text joined
  unfolding joined
  command_joined text h = set_of-has (once ++ command) text (In-right once command text h)

  from_joined : (text : List ℕ) → In text joined → In text once ⊎ In text command
  unfolding joined
  from_joined text h = In-append once command text (In-set_of (once ++ command) text h)

  joined_sorted : IsSorted joined
  unfolding joined
  joined_sorted = sorted-set_of (once ++ command)

  class : List ℕ → List NoticeText
  class holder = class_of notices holder

  later : List ℕ → List NoticeText
  later holder = class_of joined holder

  -- a notice that was merged is the text of its class, or stayed
  merged_notice : (text : List ℕ) (n : NoticeText) → In text once → notice_of text ≡ Some n
      → (class_text command (class n.holder) n.holder ≡ Some text)
      ⊎ ((class_text command (class n.holder) n.holder ≡ None) × In text notices)
  unfolding class
  merged_notice text n h is = let from = from_once text h in by from.0 from.1 from.2 (notice_of from.0) refl
    where
      by_class : (s : List ℕ) → In s notices → (m : NoticeText) → notice_of s ≡ Some m → (o : Option (List ℕ))
          → class_text command (class_of notices m.holder) m.holder ≡ o → text ≡ unwrap_or o s
          → (class_text command (class_of notices n.holder) n.holder ≡ Some text)
          ⊎ ((class_text command (class_of notices n.holder) n.holder ≡ None) × In text notices)
      by_class s stood m read None e same =
          let one : n ≡ m = let both = sym is ∙ ap notice_of same ∙ read in cc both in
          inr (
            ap (λ (k : NoticeText). class_text command (class_of notices k.holder) k.holder) one ∙ e,
            subst (λ x. In x notices) (sym same) stood,
          )
      by_class s stood m read (Some t) e same =
          let c = class_text-is command (class_of notices m.holder) m.holder t e in
          let one : n ≡ c.0 = let both = sym is ∙ ap notice_of same ∙ c.1.reads in cc both in
          let of : n.holder ≡ m.holder = ap (λ (k : NoticeText). k.holder) one ∙ c.1.of in
          inl (ap (λ h. class_text command (class_of notices h) h) of ∙ e ∙ ap (λ (x : List ℕ). Some x) (sym same))

      by : (s : List ℕ) → In s notices → text ≡ merged_as command notices s → (o : Option NoticeText) → notice_of s ≡ o
          → (class_text command (class_of notices n.holder) n.holder ≡ Some text)
          ⊎ ((class_text command (class_of notices n.holder) n.holder ≡ None) × In text notices)
      by s stood same None read =
          absurd (let both = sym is ∙ ap notice_of (same ∙ becomes_none notices s read) ∙ read in cc both)
      by s stood same (Some m) read = by_class s stood m read
          (class_text command (class_of notices m.holder) m.holder) refl (same ∙ becomes_some notices s m read)

  -- what a second merge makes of a text: one that was there, and itself if it was
  Stays : List ℕ → List ℕ → Type 0
  Stays text t = (In t once) × (In text once → t ≡ text)

  -- ---- a class that stays whole

  whole_later : (holder : List ℕ) → class_text command (class holder) holder ≡ None → (text : List ℕ)
      → names holder text ≡ true → In text joined → In text notices
  unfolding class
  whole_later holder e text name h =
      let m = some_member holder text name in
      let r = named holder text m.0 m.1 in
      by_origin m.0 r.0 r.1 (from_joined text h)
    where
      by_origin : (n : NoticeText) → notice_of text ≡ Some n → n.holder ≡ holder → In text once ⊎ In text command
          → In text notices
      by_origin n is of (inr k) = has text k
      by_origin n is of (inl k) = elim (merged_notice text n k is) [
        | inl some ↦
            absurd (let both = sym some ∙ ap (λ h. class_text command (class_of notices h) h) of ∙ e in cc both)
        | inr whole ↦ whole.1
      ]

  whole_once : (holder : List ℕ) → class_text command (class holder) holder ≡ None → (text : List ℕ)
      → names holder text ≡ true → In text notices → In text once
  unfolding class
  whole_once holder e text name h =
      let m = some_member holder text name in
      let r = named holder text m.0 m.1 in
      in_once text text h (becomes_some notices text m.0 r.0
      ∙ ap (λ o. unwrap_or o text) (ap (λ h. class_text command (class_of notices h) h) r.1 ∙ e))

  whole_same : (holder : List ℕ) → class_text command (class holder) holder ≡ None → later holder ≡ class holder
  unfolding class later
  whole_same holder e =
      class-named holder joined
      ∙ ap (λ xs. class_of xs holder) (same_filters (names holder) joined notices joined_sorted sorted
      (whole_later holder e) (λ t name h. in_joined t (whole_once holder e t name h)))
      ∙ sym (class-named holder notices)

  stays_whole : (text : List ℕ) (n : NoticeText) → In text joined → notice_of text ≡ Some n
      → class_text command (class n.holder) n.holder ≡ None → Stays text (merged_as command joined text)
  unfolding class later Stays
  stays_whole text n h is e =
      let same : merged_as command joined text ≡ text =
      becomes_some joined text n is ∙ ap (λ c. unwrap_or (class_text command c n.holder) text) (whole_same n.holder e)
      ∙ ap (λ o. unwrap_or o text) e in
      let name : names n.holder text ≡ true =
      ap (λ (o : Option NoticeText). is_some o) (held n.holder text n is refl) in (
        subst (λ x. In x once) (sym same) (whole_once n.holder e text name (whole_later n.holder e text name h)),
        λ k. same,
      )

  -- ---- a class that became one notice

  module _ (holder text : List ℕ) (notice : NoticeText)
      (e : class_text command (class_of notices holder) holder ≡ Some text)
      (c : IsClassText command (class_of notices holder) holder text notice) (here : In text once) where
    later_text : (t : List ℕ) → In t joined → (n : NoticeText) → member holder t ≡ Some n → (t ≡ text) ⊎ In t command
    unfolding class
    later_text t h n is = elim (from_joined t h) [
      | inr k ↦ inr k
      | inl k ↦ (let r = named holder t n is in elim (merged_notice t n k r.0) [
        | inl some ↦ inl (let both = sym some ∙ ap (λ h. class_text command (class_of notices h) h) r.1 ∙ e in cc both)
        | inr whole ↦
            absurd (let both = sym whole.0 ∙ ap (λ h. class_text command (class_of notices h) h) r.1 ∙ e in cc both)
      ])
    ]

    notice_later : Among notice (class_of joined holder)
    notice_later = among-class holder text notice joined c.reads c.of (in_joined text here)

    within_years : (n : NoticeText) → Among n (class_of joined holder)
        → Include (class_years (class_of notices holder)) n.years
    within_years n h = let from = from_class holder joined n h in by from.0 from.2 (later_text from.0 from.1 n from.2)
      where
        by : (t : List ℕ) → member holder t ≡ Some n → (t ≡ text) ⊎ In t command
            → Include (class_years (class_of notices holder)) n.years
        by t is (inl same) =
            let one : n ≡ notice = let both = sym (named holder t n is).0 ∙ ap notice_of same ∙ c.reads in cc both in
            subst (λ y. Include (class_years (class_of notices holder)) y) (sym
            (ap (λ (k : NoticeText). k.years) one ∙ c.years)) (Include-itself (class_years (class_of notices holder)))
        by t is (inr k) = let r = named holder t n is in
            include-one (class_of notices holder) None n (among-class holder t n notices r.0 r.1 (has t k))

    years_again : class_years (class_of joined holder) ≡ class_years (class_of notices holder)
    years_again =
        Include-both (class_years (class_of joined holder)) (class_years (class_of notices holder))
        (subst (λ y. Include (class_years (class_of joined holder)) y) c.years
        (include-one (class_of joined holder) None notice notice_later))
        (fold-within (class_years (class_of notices holder)) None (class_of joined holder) tt within_years)

    prefix_again_later : class_prefix command (class_of joined holder) ≡ class_prefix command (class_of notices holder)
    prefix_again_later = by (find (commanded command) (class_of joined holder)) refl
      where
        same : find (commanded command) (class_of joined holder) ≡ find (commanded command) (class_of notices holder)
        same = same-commanded command holder joined notices joined_sorted sorted command_joined has

        by : (o : Option NoticeText) → find (commanded command) (class_of joined holder) ≡ o
            → class_prefix command (class_of joined holder) ≡ class_prefix command (class_of notices holder)
        by (Some n) is =
            ap (prefix_or (class_of joined holder)) is ∙ sym (ap (prefix_or (class_of notices holder)) (sym same ∙ is))
        by None is = ap (prefix_or (class_of joined holder)) is
            ∙ first_of (class_of joined holder) notice notice_later alone ∙ c.prefix
          where
            alone : (n : NoticeText) → Among n (class_of joined holder) → n ≡ notice
            alone n h = let from = from_class holder joined n h in
                by_text from.0 from.2 (later_text from.0 from.1 n from.2)
              where
                by_text : (t : List ℕ) → member holder t ≡ Some n → (t ≡ text) ⊎ In t command → n ≡ notice
                by_text t at (inl one) = let both = sym (named holder t n at).0 ∙ ap notice_of one ∙ c.reads in cc both
                by_text t at (inr k) =
                    absurd (not_found command (class_of joined holder) n is h
                    (ap (is_among command) (text_kept t n (named holder t n at).0) ∙ among_yes command t k))

    -- the class has the same text again, unless it is that text alone
    text_again : class_text command (class_of joined holder) holder ≡ cond
        (nat_lt (length (class_of joined holder)) 2) None (Some text)
    text_again =
        ap (λ p. cond (nat_lt (length (class_of joined holder)) 2) None
        (settled p (class_years (class_of joined holder)) holder)) prefix_again_later
        ∙ ap (λ y. cond (nat_lt (length (class_of joined holder)) 2) None
        (settled (class_prefix command (class_of notices holder)) y holder)) years_again
        ∙ ap (λ o. cond (nat_lt (length (class_of joined holder)) 2) None o) c.settles

    stays_one : (t : List ℕ) (n : NoticeText) → In t joined → notice_of t ≡ Some n → n.holder ≡ holder
        → Stays t (merged_as command joined t)
    unfolding Stays class
    stays_one t n h is of = by (nat_lt (length (class_of joined holder)) 2) refl
      where
        becomes : merged_as command joined t ≡ unwrap_or
            (cond (nat_lt (length (class_of joined holder)) 2) None (Some text)) t
        becomes = becomes_some joined t n is ∙ ap (λ h. unwrap_or (class_text command (class_of joined h) h) t) of
            ∙ ap (λ o. unwrap_or o t) text_again

        among : Among n (class_of joined holder)
        among = among-class holder t n joined is of h

        one : In t once → t ≡ text
        one k = elim (merged_notice t n k is) [
          | inl some ↦ (let both = sym some ∙ ap (λ h. class_text command (class_of notices h) h) of ∙ e in cc both)
          | inr whole ↦
              absurd (let both = sym whole.0 ∙ ap (λ h. class_text command (class_of notices h) h) of ∙ e in cc both)
        ]

        by : (few : Bool) → nat_lt (length (class_of joined holder)) 2 ≡ few
            → (In (merged_as command joined t) once) × (In t once → merged_as command joined t ≡ t)
        by true f =
            let same : merged_as command joined t ≡ t = becomes ∙ ap (λ b. unwrap_or (cond b None (Some text)) t) f in
            let is_text : t ≡ text = sym (text_kept t n is) ∙ ap (λ (k : NoticeText). k.text)
            (one_of_few (class_of joined holder) n notice f among notice_later) ∙ text_kept text notice c.reads in
            (subst (λ x. In x once) (sym (same ∙ is_text)) here, λ k. same)
        by false f =
            let same : merged_as command joined t ≡ text =
            becomes ∙ ap (λ b. unwrap_or (cond b None (Some text)) t) f in
            (subst (λ x. In x once) (sym same) here, λ k. same ∙ sym (one k))

  -- ---- all texts

  stays : (t : List ℕ) → In t joined → Stays t (merged_as command joined t)
  unfolding Stays class
  stays t h = by (notice_of t) refl
    where
      by_class : (n : NoticeText) → notice_of t ≡ Some n → (o : Option (List ℕ))
          → class_text command (class_of notices n.holder) n.holder ≡ o → Stays t (merged_as command joined t)
      by_class n is None e = stays_whole t n h is e
      by_class n is (Some text) e =
          let c = class_text-is command (class_of notices n.holder) n.holder text e in
          stays_one n.holder text c.0 e c.1 (here (from_joined t h)) t n h is refl
        where
          here : In t once ⊎ In t command → In text once
          here (inr k) = in_once t text (has t k) (becomes_some notices t n is ∙ ap (λ o. unwrap_or o t) e)
          here (inl k) = elim (merged_notice t n k is) [
            | inl some ↦ (let same : t ≡ text = let both = sym some ∙ e in cc both in subst (λ x. In x once) same k)
            | inr whole ↦ absurd (let both = sym whole.0 ∙ e in cc both)
          ]

      by : (o : Option NoticeText) → notice_of t ≡ o
          → (In (merged_as command joined t) once) × (In t once → merged_as command joined t ≡ t)
      by (Some n) is = by_class n is (class_text command (class_of notices n.holder) n.holder) refl
      by None is =
          let same = becomes_none joined t is in
          (subst (λ x. In x once) (sym same) (there (from_joined t h)), λ k. same)
        where
          there : In t once ⊎ In t command → In t once
          there (inl k) = k
          there (inr k) = in_once t t (has t k) (becomes_none notices t is)

  merged_again : merged command (set_of (merged command notices ++ command)) ≡ merged command notices
  unfolding once joined Stays
  merged_again =
      same_sets (merged command joined) once (sorted-set_of (map (merged_as command joined) joined))
      (sorted-set_of (map (merged_as command notices) notices))
      (λ t h. let from = In-from_map (merged_as command joined) joined t
      (In-set_of (map (merged_as command joined) joined) t h) in
      subst (λ x. In x once) (sym from.2) (stays from.0 from.1).0)
      (λ t h. let same = (stays t (in_joined t h)).1 h in
      subst (λ x. In x (merged command joined)) same (set_of-has (map (merged_as command joined) joined)
      (merged_as command joined t) (In-map (merged_as command joined) joined t (in_joined t h))))

-- ---- the laws

set_again : (xs ys : List (List ℕ)) → set_of (set_of (xs ++ ys) ++ ys) ≡ set_of (xs ++ ys)
set_again xs ys =
    same_sets (set_of (set_of (xs ++ ys) ++ ys)) (set_of (xs ++ ys)) (sorted-set_of (set_of (xs ++ ys) ++ ys))
    (sorted-set_of (xs ++ ys))
    (λ t h. by t (In-append (set_of (xs ++ ys)) ys t (In-set_of (set_of (xs ++ ys) ++ ys) t h)))
    (λ t h. set_of-has (set_of (xs ++ ys) ++ ys) t (In-left (set_of (xs ++ ys)) ys t h))
  where
    by : (t : List ℕ) → In t (set_of (xs ++ ys)) ⊎ In t ys → In t (set_of (xs ++ ys))
    by t (inl h) = h
    by t (inr h) = set_of-has (xs ++ ys) t (In-right xs ys t h)

pub union_again : (info : Info) (additions : Additions)
    → union_of (union_of info additions) additions ≡ union_of info additions
union_again info additions =
    λ i. record {
      notices = set_again info.notices additions.notices i;
      contributors = set_again info.contributors additions.contributors i;
      licences = set_again info.licences additions.licences i;
      free = info.free;
    }

pub merge_again : (info : Info) (additions : Additions)
    → merged_of (union_of (merged_of (union_of info additions) additions) additions) additions ≡ merged_of
    (union_of info additions) additions
merge_again info additions =
    λ i. record {
      notices = merged_again additions.notices (set_of (info.notices ++ additions.notices))
          (sorted-set_of (info.notices ++ additions.notices))
          (λ t h. set_of-has (info.notices ++ additions.notices) t (In-right info.notices additions.notices t h)) i;
      contributors = set_again info.contributors additions.contributors i;
      licences = set_again info.licences additions.licences i;
      free = info.free;
    }
