-- The information that the contents of a written block are read as.
use Rattle.std.proofs.Common.{◌≡◌, ℕ, suc, ◌<◌, Bool, true, false, List, [], ◌∷◌, ◌++◌, length, map, Option, None, Some}
use Rattle.std.proofs.Common.{refl, sym, ap, ◌∙◌, inl, inr, arith}
use Rattle.std.specs.Prelude.{All, Contains, filter, filter_map, ◌↔◌, slice_index_or}
use Rattle.std.specs.List.{list_all}
use Rattle.std.specs.Option.{is_none}
use Rattle.std.proofs.lemmas.Bool.{false≢true}
use Rattle.std.proofs.lemmas.List.{append-nil, map-append}
use Rattle.std.proofs.lemmas.List.Elements.{filter_map-append, filter-append}
use Rattle.reuse_notice.specs.declared.infos.Info.{Info}
use Rattle.reuse_notice.specs.Tags.{TagText, a_notice, a_contributor, a_licence, drop_front, drop_end, trimmed, tag_of}
use Rattle.reuse_notice.specs.Contents.{notice_text, contributor_value, licence_value, is_blank_content, untagged}
use Rattle.reuse_notice.specs.Contents.{free_of}
use Rattle.reuse_notice.specs.Infos.{info_of}
use Rattle.reuse_notice.specs.Sets.{set_of, IsSorted}
use Rattle.reuse_header.specs.Marks.{LineMarks}
use Rattle.reuse_header.specs.Blocks.{without_returns}
use Rattle.reuse_header.specs.Writing.{contributor_text, licence_text, joined, set_off, separator_of, holder_lines}
use Rattle.reuse_header.specs.Writing.{licence_lines, free_lines, inner_lines}
use Rattle.reuse_header.specs.Reading.{IsSayable}
use Rattle.std.proofs.lemmas.Bool.{cases_Bool as truth}
use Rattle.reuse_header.proofs.MarkLemmas.{IsReader}
use Rattle.reuse_header.proofs.ContentsLemmas.{tag_of-led, tag_of-returns}

-- ---- what the contents say

each_some : (G : List ℕ → Option (List ℕ)) (texts : List (List ℕ)) → All (λ t. G t ≡ Some t) texts
    → filter_map G texts ≡ texts
each_some G [] h = refl
each_some G (t ∷ texts) h = let e : G t ≡ Some t = h 0 t (omega arith) in
    rw (e, each_some G texts (λ k d low. h (suc k) d (omega arith))) refl

each_none : {X : Type 0} (G : List ℕ → Option X) (texts : List (List ℕ)) → All (λ t. G t ≡ None) texts
    → filter_map G texts ≡ []
each_none G [] h = refl
each_none G (t ∷ texts) h = let e : G t ≡ None = h 0 t (omega arith) in
    rw (e, each_none G texts (λ k d low. h (suc k) d (omega arith))) refl

each_out : (p : List ℕ → Bool) (texts : List (List ℕ)) → All (λ t. p t ≡ false) texts → filter p texts ≡ []
each_out p [] h = refl
each_out p (t ∷ texts) h = let e : p t ≡ false = h 0 t (omega arith) in
    rw (e, each_out p texts (λ k d low. h (suc k) d (omega arith))) refl

each_in : (p : List ℕ → Bool) (texts : List (List ℕ)) → All (λ t. p t ≡ true) texts → filter p texts ≡ texts
each_in p [] h = refl
each_in p (t ∷ texts) h = let e : p t ≡ true = h 0 t (omega arith) in
    rw (e, each_in p texts (λ k d low. h (suc k) d (omega arith))) refl

map-same : (f : List ℕ → List ℕ) (texts : List (List ℕ)) → All (λ t. f t ≡ t) texts → map f texts ≡ texts
map-same f [] h = refl
map-same f (t ∷ texts) h = let e : f t ≡ t = h 0 t (omega arith) in
    rw (e, map-same f texts (λ k d low. h (suc k) d (omega arith))) refl

-- what the lines say, by some reading of a line
module _ (G : List ℕ → Option (List ℕ)) where
  said-append : (xs ys : List (List ℕ)) → filter_map G (xs ++ ys) ≡ filter_map G xs ++ filter_map G ys
  said-append xs ys = filter_map-append G xs ys

  said-map : (h : List ℕ → List ℕ) (texts : List (List ℕ))
      → filter_map G (map h texts) ≡ filter_map (λ t. G (h t)) texts
  said-map h [] = refl
  said-map h (t ∷ texts) = let e = said-map h texts in rw e refl

  said-behind : (line : List ℕ) (lines : List (List ℕ)) → G line ≡ None
      → filter_map G (line ∷ lines) ≡ filter_map G lines
  said-behind line lines e = rw e refl

  said-joined : (separator : List ℕ) (xs ys : List (List ℕ)) → G separator ≡ None
      → filter_map G (joined separator xs ys) ≡ filter_map G xs ++ filter_map G ys
  said-joined separator [] ys e = refl
  said-joined separator (x ∷ xs) [] e = said-append (x ∷ xs) []
  said-joined separator (x ∷ xs) (y ∷ ys) e = said-append (x ∷ xs) (separator ∷ y ∷ ys)
      ∙ ap (λ (zs : List (List ℕ)). filter_map G (x ∷ xs) ++ zs) (said-behind separator (y ∷ ys) e)

  said-set_off : (separator : List ℕ) (xs : List (List ℕ)) → G separator ≡ None
      → filter_map G (set_off separator xs) ≡ filter_map G xs
  said-set_off separator [] e = refl
  said-set_off separator (x ∷ xs) e = said-behind separator (x ∷ xs) e

  -- what the lines of a block say, of each kind of its texts
  said_inner : (marks : LineMarks) (info : Info) → G (separator_of marks) ≡ None
      → filter_map G (inner_lines marks info) ≡
      ((filter_map (λ t. G (marks.lead ++ t)) info.notices ++ filter_map
      (λ v. G (marks.lead ++ contributor_text v)) info.contributors)
      ++ filter_map (λ v. G (marks.lead ++ licence_text v)) info.licences) ++ filter_map
      (λ c. G (marks.mark ++ c)) info.free
  unfolding inner_lines
  said_inner marks info e =
      said-append (joined (separator_of marks) (holder_lines marks info) (licence_lines marks info))
      (set_off (separator_of marks) (free_lines marks info))
      ∙ ap (λ (xs : List (List ℕ)). xs ++ filter_map G (set_off (separator_of marks) (free_lines marks info)))
      (said-joined (separator_of marks) (holder_lines marks info) (licence_lines marks info) e
      ∙ ap (λ (xs : List (List ℕ)). xs ++ filter_map G (licence_lines marks info))
      (said-append (map (λ t. marks.lead ++ t) info.notices)
      (map (λ v. marks.lead ++ contributor_text v) info.contributors)
      ∙ ap (λ (xs : List (List ℕ)). xs ++ filter_map G (map (λ v. marks.lead ++ contributor_text v) info.contributors))
      (said-map (λ t. marks.lead ++ t) info.notices)
      ∙ ap (λ (xs : List (List ℕ)). filter_map (λ t. G (marks.lead ++ t)) info.notices ++ xs)
      (said-map (λ v. marks.lead ++ contributor_text v) info.contributors))
      ∙ ap (λ (xs : List (List ℕ)). (filter_map (λ t. G (marks.lead ++ t)) info.notices ++ filter_map
      (λ v. G (marks.lead ++ contributor_text v)) info.contributors) ++ xs)
      (said-map (λ v. marks.lead ++ licence_text v) info.licences))
      ∙ ap (λ (xs : List (List ℕ)). ((filter_map (λ t. G (marks.lead ++ t)) info.notices ++ filter_map
      (λ v. G (marks.lead ++ contributor_text v)) info.contributors)
      ++ filter_map (λ v. G (marks.lead ++ licence_text v)) info.licences) ++ xs)
      (said-set_off (separator_of marks) (free_lines marks info) e ∙ said-map (λ c. marks.mark ++ c) info.free)

-- the tags of texts that read as one kind
notice_only : (tag : Option TagText) (text : List ℕ) → notice_text tag ≡ Some text
    → (contributor_value tag ≡ None) × (licence_value tag ≡ None) × (is_none tag ≡ false)
notice_only None text e = absurd (let none : ⊥ = cc in none)
notice_only (Some (a_notice n)) text e = (refl, refl, refl)
notice_only (Some (a_contributor v)) text e = absurd (let none : ⊥ = cc in none)
notice_only (Some (a_licence v)) text e = absurd (let none : ⊥ = cc in none)

contributor_only : (tag : Option TagText) (text : List ℕ) → contributor_value tag ≡ Some text
    → (notice_text tag ≡ None) × (licence_value tag ≡ None) × (is_none tag ≡ false)
contributor_only None text e = absurd (let none : ⊥ = cc in none)
contributor_only (Some (a_notice n)) text e = absurd (let none : ⊥ = cc in none)
contributor_only (Some (a_contributor v)) text e = (refl, refl, refl)
contributor_only (Some (a_licence v)) text e = absurd (let none : ⊥ = cc in none)

licence_only : (tag : Option TagText) (text : List ℕ) → licence_value tag ≡ Some text
    → (notice_text tag ≡ None) × (contributor_value tag ≡ None) × (is_none tag ≡ false)
licence_only None text e = absurd (let none : ⊥ = cc in none)
licence_only (Some (a_notice n)) text e = absurd (let none : ⊥ = cc in none)
licence_only (Some (a_contributor v)) text e = absurd (let none : ⊥ = cc in none)
licence_only (Some (a_licence v)) text e = (refl, refl, refl)

-- ---- the information in the contents

joined_four : {a a' b b' l l' f : List (List ℕ)} → a ≡ a' → b ≡ b' → l ≡ l' → f ≡ []
    → ((a ++ b) ++ l) ++ f ≡ ((a' ++ b') ++ l') ++ []
joined_four p q r s = cc

filter_map-map : (f : List ℕ → Option (List ℕ)) (g : List ℕ → List ℕ) (xs : List (List ℕ))
    → filter_map f (map g xs) ≡ filter_map (λ x. f (g x)) xs
filter_map-map f g [] = refl
filter_map-map f g (x ∷ xs) = let e = filter_map-map f g xs in rw e refl

each_same : (G H : List ℕ → Option (List ℕ)) (texts : List (List ℕ)) → ((t : List ℕ) → G t ≡ H t)
    → filter_map G texts ≡ filter_map H texts
each_same G H [] e = refl
each_same G H (t ∷ texts) e = let h = e t in rw (h, each_same G H texts e) refl

-- the tag of a line's content, where the line is a lead and a text, or a mark and a free content
module _ (punct : List ℕ) (inner : List ℕ → List ℕ) (marks : LineMarks) (r : IsReader punct inner marks) where
  tag_led : (text : List ℕ) → tag_of punct (inner (marks.lead ++ text)) ≡ tag_of punct text
  tag_led text =
      ap (tag_of punct) (r.lead text) ∙ tag_of-returns punct (r.rest ++ text)
      ∙ tag_of-led punct r.rest text r.rest_blank

  free_same : (content : List ℕ) → without_returns content ≡ content → inner (marks.mark ++ content) ≡ content
  free_same content e = r.mark content ∙ e

  separator_none : tag_of punct (inner (separator_of marks)) ≡ None
  separator_none = r.separator_tag

  separator_filler : is_blank_content punct (inner (separator_of marks)) ≡ true
  separator_filler = r.separator_blank

  -- what the contents say, by a reading of tags
  read_inner : (value : Option TagText → Option (List ℕ)) → value None ≡ None → (info : Info) (a b l : List (List ℕ))
      → filter_map (λ t. value (tag_of punct t)) info.notices ≡ a
      → filter_map (λ v. value (tag_of punct (contributor_text v))) info.contributors ≡ b
      → filter_map (λ v. value (tag_of punct (licence_text v))) info.licences ≡ l
      → All (λ content. (tag_of punct content ≡ None) × (without_returns content ≡ content)) info.free
      → filter_map (λ c. value (tag_of punct c)) (map inner (inner_lines marks info)) ≡ ((a ++ b) ++ l) ++ []
  read_inner value none info a b l ea eb el free =
      let G = λ (line : List ℕ). value (tag_of punct (inner line)) in
      filter_map-map (λ (c : List ℕ). value (tag_of punct c)) inner (inner_lines marks info)
      ∙ said_inner G marks info (ap value separator_none ∙ none)
      ∙ joined_four
      (each_same (λ (t : List ℕ). G (marks.lead ++ t)) (λ (t : List ℕ). value (tag_of punct t)) info.notices
      (λ t. ap value (tag_led t)) ∙ ea)
      (each_same (λ (v : List ℕ). G (marks.lead ++ contributor_text v)) (λ (v : List ℕ). value
      (tag_of punct (contributor_text v))) info.contributors (λ v. ap value (tag_led (contributor_text v))) ∙ eb)
      (each_same (λ (v : List ℕ). G (marks.lead ++ licence_text v)) (λ (v : List ℕ). value
      (tag_of punct (licence_text v))) info.licences (λ v. ap value (tag_led (licence_text v))) ∙ el)
      (each_none (λ (c : List ℕ). G (marks.mark ++ c)) info.free
      (λ k d low.
      (let h = free k d low in ap (λ (c : List ℕ). value (tag_of punct c)) (free_same _ h.1) ∙ ap value h.0 ∙ none)))

  -- the free contents
  kept : List (List ℕ) → List (List ℕ)
  kept lines = untagged punct (map inner lines)

  kept-append : (xs ys : List (List ℕ)) → kept (xs ++ ys) ≡ kept xs ++ kept ys
  unfolding kept
  kept-append xs ys = ap (untagged punct) (map-append inner xs ys)
      ∙ filter-append (λ c. is_none (tag_of punct c)) (map inner xs) (map inner ys)

  kept-out : (h : List ℕ → List ℕ) (texts : List (List ℕ)) → ((k : ℕ) (d : List ℕ) → k < length texts
      → is_none (tag_of punct (inner (h (slice_index_or texts k d)))) ≡ false)
      → kept (map h texts) ≡ []
  unfolding kept
  kept-out h [] out = refl
  kept-out h (t ∷ texts) out =
      let e : is_none (tag_of punct (inner (h t))) ≡ false = out 0 t (omega arith) in
      rw (e, kept-out h texts (λ k d low. out (suc k) d (omega arith))) refl

  kept-in : (texts : List (List ℕ))
      → All (λ content. (tag_of punct content ≡ None) × (without_returns content ≡ content)) texts
      → kept (map (λ c. marks.mark ++ c) texts) ≡ texts
  unfolding kept
  kept-in [] free = refl
  kept-in (t ∷ texts) free =
      let h = free 0 t (omega arith) in
      let same = free_same t h.1 in
      let e : is_none (tag_of punct (inner (marks.mark ++ t))) ≡ true =
      ap (λ (c : List ℕ). is_none (tag_of punct c)) same ∙ ap (λ (o : Option TagText). is_none o) h.0 in
      rw (e, kept-in texts (λ k d low. free (suc k) d (omega arith)), same) refl

  kept-separator : (lines : List (List ℕ)) → kept (separator_of marks ∷ lines) ≡ inner (separator_of marks) ∷ kept lines
  unfolding kept
  kept-separator lines = let e : is_none (tag_of punct (inner (separator_of marks))) ≡ true = ap
      (λ (o : Option TagText). is_none o) separator_none in rw e refl

  -- blank contents, and then others
  BlankThen : List (List ℕ) → List (List ℕ) → Type 0
  BlankThen all others =
      (blank : List (List ℕ)) × (all ≡ blank ++ others) × (list_all (is_blank_content punct) blank ≡ true)

  one_blank : list_all (is_blank_content punct) (inner (separator_of marks) ∷ []) ≡ true
  one_blank = let e = separator_filler in rw e refl

  kept-joined : (xs ys : List (List ℕ)) → kept xs ≡ [] → kept ys ≡ []
      → BlankThen (kept (joined (separator_of marks) xs ys)) []
  unfolding BlankThen
  kept-joined [] ys ex ey = ([], ey, refl)
  kept-joined (x ∷ xs) [] ex ey =
      ([], kept-append (x ∷ xs) [] ∙ ap (λ (zs : List (List ℕ)). zs ++ kept []) ex ∙ ey, refl)
  kept-joined (x ∷ xs) (y ∷ ys) ex ey = (
    inner (separator_of marks) ∷ [],
    kept-append (x ∷ xs) (separator_of marks ∷ y ∷ ys)
        ∙ ap (λ (zs : List (List ℕ)). zs ++ kept (separator_of marks ∷ y ∷ ys)) ex ∙ kept-separator (y ∷ ys)
        ∙ ap (λ (zs : List (List ℕ)). inner (separator_of marks) ∷ zs) ey,
    one_blank,
  )

  kept-set_off : (xs : List (List ℕ)) → BlankThen (kept (set_off (separator_of marks) xs)) (kept xs)
  unfolding BlankThen
  kept-set_off [] = ([], refl, refl)
  kept-set_off (x ∷ xs) = (inner (separator_of marks) ∷ [], kept-separator (x ∷ xs), one_blank)

blank_front : (punct : List ℕ) (blank others : List (List ℕ)) → list_all (is_blank_content punct) blank ≡ true
    → drop_front (is_blank_content punct) (blank ++ others) ≡ drop_front (is_blank_content punct) others
unfolding drop_front
blank_front punct [] others h = refl
blank_front punct (c ∷ blank) others h = elim (truth (is_blank_content punct c)) [
  | inl e ↦ (let k = rw e at h in rw e (blank_front punct blank others k))
  | inr e ↦ (let k = rw e at h in absurd (false≢true k))
]

the_info : List (List ℕ) → List (List ℕ) → List (List ℕ) → List (List ℕ) → Info
the_info notices contributors licences free = record {
  notices = notices;
  contributors = contributors;
  licences = licences;
  free = free;
}

info_same : (info : Info) (n c l f : List (List ℕ)) → n ≡ info.notices → c ≡ info.contributors → l ≡ info.licences
    → f ≡ info.free → record {
      notices = n;
      contributors = c;
      licences = l;
      free = f;
    } ≡ info
unfolding the_info
info_same info n c l f p q r s =
    let e : the_info n c l f ≡ the_info info.notices info.contributors info.licences info.free = cc in e

set_same : ((texts other : List (List ℕ)) → IsSorted other
    → ((text : List ℕ) → (Contains other text) ↔ (Contains texts text)) → other ≡ set_of texts)
    → (texts : List (List ℕ)) → IsSorted texts → set_of texts ≡ texts
set_same only texts sorted = sym (only texts texts sorted (λ text. (λ h. h, λ h. h)))

all_nil : (xs : List (List ℕ)) → ((xs ++ []) ++ []) ++ [] ≡ xs
all_nil xs = append-nil ((xs ++ []) ++ []) ∙ append-nil (xs ++ []) ∙ append-nil xs

free_kept : (punct : List ℕ) (inner : List ℕ → List ℕ) (marks : LineMarks) (info : Info)
    (r : IsReader punct inner marks) → IsSayable punct info
    → trimmed (is_blank_content punct) (kept punct inner marks r (inner_lines marks info)) ≡ info.free
unfolding inner_lines BlankThen
free_kept punct inner marks info r s =
    let out_n = kept-out punct inner marks r (λ (t : List ℕ). marks.lead ++ t) info.notices (λ k d low. (ap
    (λ (o : Option TagText). is_none o) (tag_led punct inner marks r _) ∙ (notice_only _ _ (s.notices k d low)).2)) in
    let out_c = kept-out punct inner marks r (λ (v : List ℕ). marks.lead ++ contributor_text v) info.contributors
    (λ k d low. (ap (λ (o : Option TagText). is_none o) (tag_led punct inner marks r _)
    ∙ (contributor_only _ _ (s.contributors k d low)).2)) in
    let out_l =
    kept-out punct inner marks r (λ (v : List ℕ). marks.lead ++ licence_text v) info.licences (λ k d low. (ap
    (λ (o : Option TagText). is_none o) (tag_led punct inner marks r _) ∙ (licence_only _ _ (s.licences k d low)).2)) in
    let out_h = kept-append punct inner marks r (map (λ t. marks.lead ++ t) info.notices)
    (map (λ v. marks.lead ++ contributor_text v) info.contributors)
    ∙ ap (λ (zs : List (List ℕ)). zs ++ kept punct inner marks r
    (map (λ v. marks.lead ++ contributor_text v) info.contributors)) out_n ∙ out_c in
    let front = kept-joined punct inner marks r (holder_lines marks info) (licence_lines marks info) out_h out_l in
    let back = kept-set_off punct inner marks r (free_lines marks info) in
    let free_in = kept-in punct inner marks r info.free s.free in
    let all : kept punct inner marks r (inner_lines marks info) ≡ front.0 ++ (back.0 ++ info.free) =
    kept-append punct inner marks r (joined (separator_of marks) (holder_lines marks info) (licence_lines marks info))
    (set_off (separator_of marks) (free_lines marks info))
    ∙ ap (λ (zs : List (List ℕ)). zs ++ kept punct inner marks r (set_off (separator_of marks) (free_lines marks info)))
    (front.1 ∙ append-nil front.0)
    ∙ ap (λ (zs : List (List ℕ)). front.0 ++ zs) (back.1 ∙ ap (λ (zs : List (List ℕ)). back.0 ++ zs) free_in) in
    ap (λ (zs : List (List ℕ)). trimmed (is_blank_content punct) zs) all
    ∙ ap (λ (zs : List (List ℕ)). drop_end (is_blank_content punct) zs)
    (blank_front punct front.0 (back.0 ++ info.free) front.2 ∙ blank_front punct back.0 info.free back.2)
    ∙ s.free_ends

-- the free contents are those that were written
free_back : (punct : List ℕ) (inner : List ℕ → List ℕ) (marks : LineMarks) (info : Info) → IsReader punct inner marks
    → IsSayable punct info
    → free_of punct (map inner (inner_lines marks info)) ≡ info.free
unfolding kept
free_back punct inner marks info r s = free_kept punct inner marks info r s

pub reads_back : ((texts other : List (List ℕ)) → IsSorted other
    → ((text : List ℕ) → (Contains other text) ↔ (Contains texts text)) → other ≡ set_of texts)
    → (punct : List ℕ) (inner : List ℕ → List ℕ) (marks : LineMarks) (info : Info) → IsReader punct inner marks
    → IsSayable punct info
    → info_of punct (map inner (inner_lines marks info)) ≡ info
reads_back only punct inner marks info r s =
    let contents = map inner (inner_lines marks info) in
    let no_notice_c = each_none (λ (v : List ℕ). notice_text (tag_of punct (contributor_text v))) info.contributors
    (λ k d low. (contributor_only _ _ (s.contributors k d low)).0) in
    let no_notice_l = each_none (λ (v : List ℕ). notice_text (tag_of punct (licence_text v))) info.licences
    (λ k d low. (licence_only _ _ (s.licences k d low)).0) in
    let no_contributor_n = each_none (λ (t : List ℕ). contributor_value (tag_of punct t)) info.notices
    (λ k d low. (notice_only _ _ (s.notices k d low)).0) in
    let no_contributor_l = each_none (λ (v : List ℕ). contributor_value (tag_of punct (licence_text v))) info.licences
    (λ k d low. (licence_only _ _ (s.licences k d low)).1) in
    let no_licence_n = each_none (λ (t : List ℕ). licence_value (tag_of punct t)) info.notices
    (λ k d low. (notice_only _ _ (s.notices k d low)).1) in
    let no_licence_c = each_none (λ (v : List ℕ). licence_value (tag_of punct (contributor_text v))) info.contributors
    (λ k d low. (contributor_only _ _ (s.contributors k d low)).1) in
    let notices : filter_map (λ c. notice_text (tag_of punct c)) contents ≡ info.notices =
    read_inner punct inner marks r notice_text refl info info.notices [] []
    (each_some (λ (t : List ℕ). notice_text (tag_of punct t)) info.notices s.notices) no_notice_c no_notice_l s.free
    ∙ all_nil info.notices in
    let contributors : filter_map (λ c. contributor_value (tag_of punct c)) contents ≡ info.contributors =
    read_inner punct inner marks r contributor_value refl info [] info.contributors [] no_contributor_n
    (each_some (λ (v : List ℕ). contributor_value (tag_of punct (contributor_text v))) info.contributors s.contributors)
    no_contributor_l s.free
    ∙ append-nil (info.contributors ++ []) ∙ append-nil info.contributors in
    let licences : filter_map (λ c. licence_value (tag_of punct c)) contents ≡ info.licences =
    read_inner punct inner marks r licence_value refl info [] [] info.licences no_licence_n no_licence_c
    (each_some (λ (v : List ℕ). licence_value (tag_of punct (licence_text v))) info.licences s.licences) s.free
    ∙ append-nil info.licences in
    let free = free_back punct inner marks info r s in
    info_same info _ _ _ _
    (ap set_of notices ∙ set_same only info.notices s.notices_sorted)
    (ap set_of contributors ∙ set_same only info.contributors s.contributors_sorted)
    (ap set_of licences ∙ set_same only info.licences s.licences_sorted)
    free
