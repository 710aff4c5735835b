-- Free contents: none of them is a tag, and what is read of them is they again.
use Rattle.std.proofs.Common.{◌≡◌, ℕ, Bool, true, false, List, [], ◌∷◌, Option, None, Some}
use Rattle.std.proofs.Common.{refl, sym, ap, ◌∙◌, inl, inr, cond}
use Rattle.std.specs.Prelude.{◌||◌, filter, is_some}
use Rattle.std.specs.Option.{is_none}
use Rattle.std.specs.List.{list_all, list_any}
use Rattle.reuse_notice.specs.declared.infos.Info.{Info}
use Rattle.reuse_notice.specs.declared.adding.Additions.{Additions}
use Rattle.reuse_notice.specs.Tags.{TagText, tag_of, drop_front, drop_end, trimmed}
use Rattle.reuse_notice.specs.Contents.{is_blank_content, untagged, free_of}
use Rattle.reuse_notice.proofs.BlankLemmas.{truth, drop_end-twice}
use Rattle.reuse_header.specs.Tagged.{has_tag}
use Rattle.reuse_header.specs.Writing.{new_info}
use Rattle.reuse_words.specs.Information.{with_free}

module _ {X : Type 0} (test : X → Bool) where
  -- trimming once more changes nothing
  front_kept : (xs : List X) → drop_front test (drop_end test (drop_front test xs)) ≡ drop_end test (drop_front test xs)
  unfolding drop_front drop_end
  front_kept [] = refl
  front_kept (x ∷ xs) = elim (truth (test x)) [
    | inl e ↦ rw e (front_kept xs)
    | inr e ↦ rw e (rw e (rw e refl))
  ]

  pub trimmed_twice : (xs : List X) → trimmed test (trimmed test xs) ≡ trimmed test xs
  trimmed_twice xs = ap (drop_end test) (front_kept xs) ∙ drop_end-twice test (drop_front test xs)

module _ {X : Type 0} (keeps : X → Bool) where
  -- all that is kept passes
  all_kept : (xs : List X) → list_all keeps (filter keeps xs) ≡ true
  all_kept [] = refl
  all_kept (x ∷ xs) = elim (truth (keeps x)) [
    | inl e ↦ rw e (rw e (all_kept xs))
    | inr e ↦ rw e (all_kept xs)
  ]

  both : (x : X) (xs : List X) → list_all keeps (x ∷ xs) ≡ true → (keeps x ≡ true) × (list_all keeps xs ≡ true)
  both x xs e = elim (truth (keeps x)) [
    | inl t ↦ (t, rw t at e)
    | inr f ↦ absurd (let bad : false ≡ true = rw f at e in let none : ⊥ = cc in none)
  ]

  pub kept_all : (xs : List X) → list_all keeps xs ≡ true → filter keeps xs ≡ xs
  kept_all [] e = refl
  kept_all (x ∷ xs) e = let parts = both x xs e in
      ap (λ (t : Bool). cond t (x ∷ filter keeps xs) (filter keeps xs)) parts.0
      ∙ ap (λ (ys : List X). x ∷ ys) (kept_all xs parts.1)

  all_front : (test : X → Bool) (xs : List X) → list_all keeps xs ≡ true → list_all keeps (drop_front test xs) ≡ true
  unfolding drop_front
  all_front test [] e = refl
  all_front test (x ∷ xs) e = elim (truth (test x)) [
    | inl t ↦ rw t (all_front test xs (both x xs e).1)
    | inr f ↦ rw f e
  ]

  all_end : (test : X → Bool) (xs : List X) → list_all keeps xs ≡ true → list_all keeps (drop_end test xs) ≡ true
  unfolding drop_end
  all_end test [] e = refl
  all_end test (x ∷ xs) e = elim (truth (list_all test (x ∷ xs))) [
    | inl t ↦ rw t refl
    | inr f ↦ rw f (rw (both x xs e).0 (all_end test xs (both x xs e).1))
  ]

-- ---- free contents

all_free : (punct : List ℕ) (contents : List (List ℕ))
    → list_all (λ c. is_none (tag_of punct c)) (free_of punct contents) ≡ true
all_free punct contents =
    all_end (λ c. is_none (tag_of punct c)) (is_blank_content punct)
    (drop_front (is_blank_content punct) (untagged punct contents))
    (all_front (λ c. is_none (tag_of punct c)) (is_blank_content punct) (untagged punct contents)
    (all_kept (λ c. is_none (tag_of punct c)) contents))

pub free_twice : (punct : List ℕ) (contents : List (List ℕ))
    → free_of punct (free_of punct contents) ≡ free_of punct contents
free_twice punct contents =
    ap (trimmed (is_blank_content punct))
    (kept_all (λ c. is_none (tag_of punct c)) (free_of punct contents) (all_free punct contents))
    ∙ trimmed_twice (is_blank_content punct) (untagged punct contents)

-- no tag is among contents of which each is free
not_tagged : (o : Option TagText) → is_none o ≡ true → is_some o ≡ false
not_tagged None e = refl
not_tagged (Some tag) e = absurd (let none : ⊥ = cc in none)

untagged_content : (punct content : List ℕ) → is_none (tag_of punct content) ≡ true → has_tag punct content ≡ false
unfolding has_tag
untagged_content punct content e = not_tagged (tag_of punct content) e

none_tagged : (punct : List ℕ) (contents : List (List ℕ)) → list_all (λ c. is_none (tag_of punct c)) contents ≡ true
    → list_any (has_tag punct) contents ≡ false
none_tagged punct [] e = refl
none_tagged punct (c ∷ contents) e =
    let parts = both (λ x. is_none (tag_of punct x)) c contents e in
    ap (λ (t : Bool). t || list_any (has_tag punct) contents) (untagged_content punct c parts.0)
    ∙ none_tagged punct contents parts.1

pub free_untagged : (punct : List ℕ) (contents : List (List ℕ))
    → list_any (has_tag punct) (free_of punct contents) ≡ false
free_untagged punct contents = none_tagged punct (free_of punct contents) (all_free punct contents)

-- ---- information with the same free contents

same_free : (punct : List ℕ) (info : Info) (contents : List (List ℕ)) → info.free ≡ free_of punct contents
    → with_free punct info info.free ≡ info
same_free punct info contents e =
    ap (λ (free : List (List ℕ)). record {
      notices = info.notices;
      contributors = info.contributors;
      licences = info.licences;
      free = free;
    }) (ap (free_of punct) e ∙ free_twice punct contents ∙ sym e)

new_free : (punct : List ℕ) (contents : List (List ℕ)) (merge : Bool) (additions : Additions)
    → (new_info punct contents merge additions).free ≡ free_of punct contents
unfolding new_info
new_free punct contents true additions = refl
new_free punct contents false additions = refl

pub new_same : (punct : List ℕ) (contents : List (List ℕ)) (merge : Bool) (additions : Additions)
    → with_free punct (new_info punct contents merge additions) (new_info punct contents merge additions).free
    ≡ new_info punct contents merge additions
new_same punct contents merge additions =
    same_free punct (new_info punct contents merge additions) contents (new_free punct contents merge additions)
