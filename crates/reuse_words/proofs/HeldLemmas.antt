-- Contents without blank ones at their outer ends hold the texts that they held.
use Rattle.std.proofs.Common.{◌≡◌, ◌≢◌, ℕ, ◌+◌, Bool, true, false, List, [], ◌∷◌, ◌++◌, take, drop, Option}
use Rattle.std.proofs.Common.{None, Some, refl, sym, ap, subst, ◌∙◌, inl, inr, cond, append_assoc}
use Rattle.std.specs.Prelude.{◌||◌, ◌&&◌, is_some}
use Rattle.std.specs.Option.{is_none}
use Rattle.std.specs.List.{list_all, list_any}
use Rattle.reuse_notice.specs.declared.infos.Info.{Info}
use Rattle.reuse_notice.specs.Tags.{TagText, is_filler, tag_of, drop_front, drop_end, trimmed}
use Rattle.reuse_notice.specs.Contents.{is_blank_content, free_of}
use Rattle.reuse_notice.proofs.BlankLemmas.{truth, drop_front-yes, drop_front-no}
use Rattle.reuse_header.specs.Tagged.{has_tag}
use Rattle.reuse_words.specs.Words.{spaced_words, words_in}
use Rattle.reuse_words.specs.Runs.{holds_text}
use Rattle.reuse_words.specs.Information.{with_texts, info_with}
use Rattle.reuse_words.proofs.RowLemmas.{cut_joined}
use Rattle.reuse_words.proofs.RunLawLemmas.{held_among, all_held}
use Rattle.reuse_words.proofs.FreeLemmas.{kept_all}

-- ---- contents with words aren't blank

nothing_left : (test : ℕ → Bool) (bytes : List ℕ) → list_all test bytes ≡ true → drop_front test bytes ≡ []
unfolding drop_front
nothing_left test [] e = refl
nothing_left test (b ∷ bytes) e = elim (truth (test b)) [
  | inl t ↦ rw t (nothing_left test bytes (rw t at e))
  | inr f ↦ absurd (let bad : false ≡ true = rw f at e in let none : ⊥ = cc in none)
]

no_words : spaced_words [] ≡ []
unfolding spaced_words
no_words = refl

not_blank : (punct content : List ℕ) → words_in punct content ≢ [] → is_blank_content punct content ≡ false
not_blank punct content some = elim (truth (is_blank_content punct content)) [
  | inl t ↦ absurd (some (ap spaced_words (nothing_left (is_filler punct) content t) ∙ no_words))
  | inr f ↦ f
]

-- ---- what trimming keeps

module _ {X : Type 0} (test : X → Bool) where
  front_keeps : (xs : List X) (x : X) (rest : List X) → test x ≡ false
      → (ys : List X) × (drop_front test (xs ++ x ∷ rest) ≡ ys ++ x ∷ rest)
  front_keeps [] x rest fails = ([], drop_front-no test x rest fails)
  front_keeps (y ∷ xs) x rest fails = elim (truth (test y)) [
    | inl t ↦ (let more = front_keeps xs x rest fails in
        (more.0, drop_front-yes test y (xs ++ x ∷ rest) t ∙ more.1))
    | inr f ↦ (y ∷ xs, drop_front-no test y (xs ++ x ∷ rest) f)
  ]

  not_all : (xs : List X) (x : X) (back : List X) → test x ≡ false → list_all test (xs ++ x ∷ back) ≡ false
  not_all [] x back fails = ap (λ (t : Bool). t && list_all test back) fails
  not_all (y ∷ xs) x back fails = elim (truth (test y)) [
    | inl t ↦ ap (λ (b : Bool). b && list_all test (xs ++ x ∷ back)) t ∙ not_all xs x back fails
    | inr f ↦ ap (λ (b : Bool). b && list_all test (xs ++ x ∷ back)) f
  ]

  end_keeps : (xs : List X) (x : X) (back : List X) → test x ≡ false
      → (zs : List X) × (drop_end test (xs ++ x ∷ back) ≡ xs ++ x ∷ zs)
  unfolding drop_end
  end_keeps [] x back fails = (
    drop_end test back,
    ap (λ (t : Bool). cond t [] (x ∷ drop_end test back)) (not_all [] x back fails),
  )
  end_keeps (y ∷ xs) x back fails =
      let more = end_keeps xs x back fails in (
        more.0,
        ap (λ (t : Bool). cond t [] (y ∷ drop_end test (xs ++ x ∷ back))) (not_all (y ∷ xs) x back fails)
            ∙ ap (λ (ys : List X). y ∷ ys) more.1,
      )

  -- a part that begins and ends with what stays
  part_kept : (front run back : List X) (first : X) (others : List X) (before : List X) (last : X)
      → run ≡ first ∷ others → test first ≡ false → run ≡ before ++ last ∷ [] → test last ≡ false
      → (ys : List X) × (zs : List X) × (trimmed test (front ++ (run ++ back)) ≡ ys ++ (run ++ zs))
  part_kept front run back first others before last begins fails ends stops =
      let left = front_keeps front first (others ++ back) fails in
      let start : drop_front test (front ++ (run ++ back)) ≡ left.0 ++ (run ++ back) =
      ap (λ (r : List X). drop_front test (front ++ (r ++ back))) begins ∙ left.1
      ∙ ap (λ (r : List X). left.0 ++ (r ++ back)) (sym begins) in
      let whole : left.0 ++ (run ++ back) ≡ (left.0 ++ before) ++ (last ∷ back) =
      ap (λ (r : List X). left.0 ++ (r ++ back)) ends
      ∙ ap (λ (r : List X). left.0 ++ r) (append_assoc before (last ∷ []) back)
      ∙ sym (append_assoc left.0 before (last ∷ back)) in
      let right = end_keeps (left.0 ++ before) last back stops in
      let again : (left.0 ++ before) ++ (last ∷ right.0) ≡ left.0 ++ (run ++ right.0) =
      append_assoc left.0 before (last ∷ right.0)
      ∙ ap (λ (r : List X). left.0 ++ r) (sym (append_assoc before (last ∷ []) right.0))
      ∙ ap (λ (r : List X). left.0 ++ (r ++ right.0)) (sym ends) in
      (left.0, right.0, ap (drop_end test) (start ∙ whole) ∙ right.1 ∙ again)

-- ---- texts stay held

held_trimmed : (punct : List ℕ) (text contents : List (List ℕ)) → holds_text punct text contents ≡ true
    → holds_text punct text (trimmed (is_blank_content punct) contents) ≡ true
held_trimmed punct text contents e = held_among punct text contents (trimmed (is_blank_content punct) contents)
    (λ run at. let front = take run.start contents in
    let here = take run.count (drop run.start contents) in
    let back = drop (run.start + run.count) contents in
    let kept = part_kept (is_blank_content punct) front here back at.begins.0 at.begins.1 at.ends.0 at.ends.1
    at.begins.2 (not_blank punct at.begins.0 at.begins.3) at.ends.2 (not_blank punct at.ends.1 at.ends.3) in
    (kept.0, kept.1, ap (trimmed (is_blank_content punct)) (cut_joined contents run.start run.count) ∙ kept.2)) e

-- contents without a tag are free
is_free : (o : Option TagText) → is_some o ≡ false → is_none o ≡ true
is_free None e = refl
is_free (Some tag) e = absurd (let none : ⊥ = cc in none)

free_content : (punct content : List ℕ) → has_tag punct content ≡ false → is_none (tag_of punct content) ≡ true
unfolding has_tag
free_content punct content e = is_free (tag_of punct content) e

neither : (a b : Bool) → (a || b) ≡ false → (a ≡ false) × (b ≡ false)
neither false b e = (refl, e)
neither true b e = absurd (let none : ⊥ = cc in none)

free_contents : (punct : List ℕ) (contents : List (List ℕ)) → list_any (has_tag punct) contents ≡ false
    → list_all (λ c. is_none (tag_of punct c)) contents ≡ true
free_contents punct [] e = refl
free_contents punct (c ∷ contents) e =
    let parts = neither (has_tag punct c) (list_any (has_tag punct) contents) e in
    ap (λ (t : Bool). t && list_all (λ x. is_none (tag_of punct x)) contents) (free_content punct c parts.0)
    ∙ free_contents punct contents parts.1

held_free : (punct : List ℕ) (text contents : List (List ℕ)) → list_any (has_tag punct) contents ≡ false
    → holds_text punct text contents ≡ true → holds_text punct text (free_of punct contents) ≡ true
held_free punct text contents none e =
    subst (λ (c : List (List ℕ)). holds_text punct text (trimmed (is_blank_content punct) c) ≡ true)
    (sym (kept_all (λ c. is_none (tag_of punct c)) contents (free_contents punct contents none)))
    (held_trimmed punct text contents e)

all_free : (punct : List ℕ) (texts : List (List (List ℕ))) (contents : List (List ℕ))
    → list_any (has_tag punct) contents ≡ false
    → list_all (λ text. holds_text punct text contents) texts ≡ true
    → list_all (λ text. holds_text punct text (free_of punct contents)) texts ≡ true
all_free punct [] contents none e = refl
all_free punct (text ∷ texts) contents none e = elim (truth (holds_text punct text contents)) [
  | inl t ↦ (let rest : list_all (λ other. holds_text punct other contents) texts ≡ true =
      sym (ap (λ (b : Bool). b && list_all (λ other. holds_text punct other contents) texts) t) ∙ e in
      ap (λ (b : Bool). b && list_all (λ other. holds_text punct other (free_of punct contents)) texts)
      (held_free punct text contents none t) ∙ all_free punct texts contents none rest)
  | inr f ↦ absurd (let bad : false ≡ true =
      sym (ap (λ (b : Bool). b && list_all (λ other. holds_text punct other contents) texts) f) ∙ e in
      let none : ⊥ = cc in none)
]

pub information_holds : (punct : List ℕ) (texts : List (List (List ℕ))) (info : Info)
    → list_any (has_tag punct) (with_texts punct texts info.free) ≡ false
    → list_all (λ text. holds_text punct text (info_with punct texts info).free) texts ≡ true
information_holds punct texts info none =
    all_free punct texts (with_texts punct texts info.free) none (all_held punct texts info.free)
