-- Information that was amended once stays when it is amended again.
use Rattle.std.proofs.Common.{◌≡◌, ◌≢◌, ℕ, Bool, true, false, cond, List, [], ◌∷◌, ◌++◌, map, length, drop, Option}
use Rattle.std.proofs.Common.{Some, None, refl, sym, ap, subst, ◌∙◌, inl, inr}
use Rattle.std.specs.Prelude.{Contains, filter_map, not, ◌&&◌, unwrap_or, codes}
use Rattle.std.specs.Option.{option_map, option_map_or, option_and_then}
use Rattle.std.specs.List.{AllByRecursion, cons_option}
use Rattle.std.specs.Str.{bytes_eq}
use Rattle.std.proofs.lemmas.Bool.{false≢true, and_parts}
use Rattle.std.proofs.lemmas.Slice.Eq.{bytes_eq-Decides}
use Rattle.std.proofs.Math.Seq.{drop-append_seam}
use Rattle.reuse_amend.specs.declared.replacements.Replacement.{Replacement}
use Rattle.reuse_amend.specs.declared.amendments.Amendments.{Amendments}
use Rattle.reuse_notice.specs.declared.infos.Info.{Info}
use Rattle.reuse_notice.specs.declared.prefixes.Prefix.{Prefix}
use Rattle.reuse_notice.specs.Prefixes.{prefix_text}
use Rattle.reuse_notice.specs.Tags.{all_blank}
use Rattle.reuse_notice.specs.MergeSteps.{is_among}
use Rattle.reuse_notice.specs.Sets.{set_of}
use Rattle.reuse_notice.specs.TextLists.{without}
use Rattle.reuse_amend.specs.NoticeParts.{Parts, parts_text, parts_of}
use Rattle.reuse_amend.specs.Amending
use Rattle.reuse_amend.specs.Settled.{NoTextComesBack, BringNothingBack, ReadsAsAmended, HasFourDigits}
use Rattle.reuse_amend.proofs.UnnamedLemmas.{other_text, own_text, are_amended}
use Rattle.reuse_notice.proofs.SetLemmas.{In, Contains-from_in, In-set_of, sorted-set_of, set_of-sorted}
use Rattle.reuse_amend.proofs.SettledLemmas.{licence_again}
use Rattle.reuse_amend.proofs.WrittenLemmas.{chosen_short}
use Rattle.reuse_amend.proofs.UntilLemmas.{until_again}

-- ---- whole texts

-- a text that became another one is it no more
text_made : (text : List ℕ) (s : Replacement) → s.new ≢ s.old → Amending.text_replaced text s ≢ s.old
text_made text s other = by (bytes_eq text s.old) refl
  where
    by : (t : Bool) → bytes_eq text s.old ≡ t → cond t s.new text ≢ s.old
    by true e = other
    by false e = λ same. false≢true (sym e ∙ ap (λ x. bytes_eq x s.old) same ∙ own_text s.old)

-- and no later one makes it that again
text_still : (text old : List ℕ) (r : Replacement) → r.new ≢ old → text ≢ old → Amending.text_replaced text r ≢ old
text_still text old r other left = by (bytes_eq text r.old)
  where
    by : (t : Bool) → cond t r.new text ≢ old
    by true = other
    by false = left

text_by_later : (text old : List ℕ) (rs : List Replacement) → AllByRecursion (λ s. s.new ≢ old) rs → text ≢ old
    → Amending.text_amended rs text ≢ old
text_by_later text old [] none left = left
text_by_later text old (r ∷ rs) none left =
    text_by_later (Amending.text_replaced text r) old rs none.1 (text_still text old r none.0 left)

text_by_all : (text : List ℕ) (rs : List Replacement) → NoTextComesBack rs
    → AllByRecursion (λ s. Amending.text_amended rs text ≢ s.old) rs
text_by_all text [] back = tt
text_by_all text (r ∷ rs) back = (
  text_by_later (Amending.text_replaced text r) r.old rs back.0.1 (text_made text r back.0.0),
  text_by_all
      (Amending.text_replaced text r) rs back.1,
)

texts_stay : (text : List ℕ) (rs : List Replacement) → AllByRecursion (λ s. text ≢ s.old) rs
    → Amending.text_amended rs text ≡ text
texts_stay text [] h = refl
texts_stay text (r ∷ rs) h =
    ap (λ b. Amending.text_amended rs (cond b r.new text)) (other_text text r.old h.0) ∙ texts_stay text rs h.1

pub text_again : (rs : List Replacement) (text : List ℕ) → NoTextComesBack rs
    → Amending.text_amended rs (Amending.text_amended rs text) ≡ Amending.text_amended rs text
text_again rs text back = texts_stay (Amending.text_amended rs text) rs (text_by_all text rs back)

-- ---- notices

-- a prefix that was set is there
prefix_again : (o : Option Prefix) (was : Prefix) → unwrap_or o (unwrap_or o was) ≡ unwrap_or o was
prefix_again None was = refl
prefix_again (Some prefix) was = refl

-- a front of the prefix
front_again : (p q : Parts) (o : Option Prefix) → q.prefix ≡ unwrap_or o p.prefix
    → q.front ≡ option_map_or (Amending.front_with p) o p.front
    → option_map_or (Amending.front_with q) o q.front ≡ q.front
front_again p q None prefix front = refl
front_again p q (Some r) prefix front =
    ap (λ t. cond t q.front (prefix_text r ++ codes " ")) is
  where
    blank : (t : Bool) → Amending.is_front r p ≡ t → all_blank
        (drop (length (prefix_text r)) (cond t p.front (prefix_text r ++ codes " "))) ≡ true
    blank true e =
        let two = and_parts (bytes_eq (prefix_text p.prefix) (prefix_text r))
        (all_blank (drop (length (prefix_text p.prefix)) p.front)) e in
        let same : prefix_text p.prefix ≡ prefix_text r = (bytes_eq-Decides (prefix_text p.prefix)
        (prefix_text r)).0 two.0 in
        ap (λ t. all_blank (drop (length t) p.front)) (sym same) ∙ two.1
    blank false e = ap all_blank (drop-append_seam (prefix_text r) (codes " "))

    is : Amending.is_front r q ≡ true
    is =
        ap (λ (x : Prefix). bytes_eq (prefix_text x) (prefix_text r) && all_blank
        (drop (length (prefix_text x)) q.front)) prefix
        ∙ ap (λ t. t && all_blank (drop (length (prefix_text r)) q.front)) (own_text (prefix_text r))
        ∙ ap (λ f. all_blank (drop (length (prefix_text r)) f)) front
        ∙ blank (Amending.is_front r p) refl

-- years that reach the year
years_again : (years : List ℕ) (o : Option ℕ) → HasFourDigits o
    → (let new = option_map_or (λ year. Amending.years_until year years) o years in option_map_or
    (λ year. Amending.years_until year new) o new ≡ new)
years_again years None short = refl
years_again years (Some year) short = until_again year years short

-- parts that were amended stay
parts_again : (a : Amendments) (p : Parts) (holder : List ℕ) → HasFourDigits a.until
    → Amending.parts_amended a (Amending.parts_amended a p holder) holder ≡ Amending.parts_amended a p holder
parts_again a p holder short =
    let o = Amending.if_concerned a holder a.prefix in
    ap (λ x. made x (option_map_or (Amending.front_with q) o q.front)
    (option_map_or (λ year. Amending.years_until year q.years) (Amending.if_concerned a holder a.until) q.years))
    (prefix_again o p.prefix)
    ∙ ap (λ x. made q.prefix x (option_map_or (λ year. Amending.years_until year q.years)
    (Amending.if_concerned a holder a.until) q.years)) (front_again p q o refl refl)
    ∙ ap (λ x. made q.prefix q.front x) (years_again p.years (Amending.if_concerned a holder a.until)
    (chosen_short a holder short))
  where
    q : Parts
    q = Amending.parts_amended a p holder

    made : Prefix → List ℕ → List ℕ → Parts
    made prefix front years = record {
      prefix = prefix;
      front = front;
      years = years;
      between = p.between;
      holder = holder;
      trailing = p.trailing;
      years_first = p.years_first;
    }

notice_again : (a : Amendments) (text new : List ℕ) → NoTextComesBack a.replaced_holders → HasFourDigits a.until
    → ReadsAsAmended a text
    → Amending.notice_amended a text ≡ Some new → Amending.notice_amended a new ≡ Some new
notice_again a text new back short reads e = by (parts_of text) refl e
  where
    by : (o : Option Parts) → parts_of text ≡ o
        → option_map_or (λ p. Amending.holder_amended a p (Amending.text_amended a.replaced_holders p.holder)) o
        (Some text) ≡ Some new
        → Amending.notice_amended a new ≡ Some new
    by None is e' = let same : text ≡ new = cc e' in subst (λ t. Amending.notice_amended a t ≡ Some new) same e
    by (Some p) is e' = stays (is_among a.removed_holders holder) refl e'
      where
        holder : List ℕ
        holder = Amending.text_amended a.replaced_holders p.holder

        stays : (t : Bool) → is_among a.removed_holders holder ≡ t
            → cond t None (Some (parts_text (Amending.parts_amended a p holder))) ≡ Some new
            → Amending.notice_amended a new ≡ Some new
        stays true removed e'' = absurd (cc e'')
        stays false removed e'' =
            let q = Amending.parts_amended a p holder in
            let same : parts_text q ≡ new = cc e'' in
            subst (λ t. Amending.notice_amended a t ≡ Some t) same
            (ap (λ o. option_map_or (λ m. Amending.holder_amended a m
            (Amending.text_amended a.replaced_holders m.holder)) o (Some (parts_text q))) (reads p is removed)
            ∙ ap (Amending.holder_amended a q) (text_again a.replaced_holders p.holder back)
            ∙ ap (λ b. cond b None (Some (parts_text (Amending.parts_amended a q holder)))) removed
            ∙ ap (λ m. Some (parts_text m)) (parts_again a p holder short))

-- ---- lists and sets

set_again : (xs : List (List ℕ)) → set_of (set_of xs) ≡ set_of xs
set_again xs = sym (set_of-sorted (set_of xs) (set_of xs) (sorted-set_of xs) (λ t h. h) (λ t h. h))

-- where what became of a text came from
each_from : (f : List ℕ → Option (List ℕ)) (xs ys : List (List ℕ)) (y : List ℕ) → Amending.each_made f xs ≡ Some ys
    → In y ys → (x : List ℕ) × (f x ≡ Some y)
unfolding Amending.each_made
each_from f [] ys y e h = let none : [] ≡ ys = cc e in absurd (subst (In y) (sym none) h)
each_from f (z ∷ xs) ys y e h =
    by (λ others rest. each_from f xs others y rest) (f z) refl (Amending.each_made f xs) refl e
  where
    first_or_later : ((others : List (List ℕ)) → Amending.each_made f xs ≡ Some others → In y others
        → (x : List ℕ) × (f x ≡ Some y))
        → (made : List ℕ) (others : List (List ℕ)) → f z ≡ Some made
        → Amending.each_made f xs ≡ Some others → In y (made ∷ others) → (x : List ℕ) × (f x ≡ Some y)
    first_or_later again made others first rest (inl same) = (z, first ∙ ap (λ t. Some t) (sym same))
    first_or_later again made others first rest (inr k) = again others rest k

    by : ((others : List (List ℕ)) → Amending.each_made f xs ≡ Some others → In y others
        → (x : List ℕ) × (f x ≡ Some y))
        → (o : Option (List ℕ)) → f z ≡ o → (os : Option (List (List ℕ))) → Amending.each_made f xs ≡ os
        → option_and_then (λ made. option_map (λ others. made ∷ others) os) o ≡ Some ys → (x : List ℕ) × (f x ≡ Some y)
    by again None first os rest e' = absurd (cc e')
    by again (Some made) first None rest e' = absurd (cc e')
    by again (Some made) first (Some others) rest e' =
        let same : made ∷ others ≡ ys = cc e' in first_or_later again made others first rest (subst (In y) (sym same) h)

each_stays : (f : List ℕ → Option (List ℕ)) (xs : List (List ℕ)) → ((x : List ℕ) → In x xs → f x ≡ Some x)
    → Amending.each_made f xs ≡ Some xs
unfolding Amending.each_made
each_stays f [] h = refl
each_stays f (x ∷ xs) h =
    ap (option_and_then (λ made. option_map (λ others. made ∷ others) (Amending.each_made f xs))) (h x (inl refl))
    ∙ ap (option_map (λ others. x ∷ others)) (each_stays f xs (λ y k. h y (inr k)))

without_from : (removed xs : List (List ℕ)) (x : List ℕ) → In x (without removed xs)
    → (In x xs) × (is_among removed x ≡ false)
without_from removed [] x h = absurd h
without_from removed (z ∷ xs) x h = by (is_among removed z) refl (without_from removed xs x) h
  where
    by : (b : Bool) → is_among removed z ≡ b → (In x (without removed xs) → (In x xs) × (is_among removed x ≡ false))
        → In x (cond (not b) (z ∷ without removed xs) (without removed xs))
        → (In x (z ∷ xs)) × (is_among removed x ≡ false)
    by true is again k = let m = again k in (inr m.0, m.1)
    by false is again (inl e) = (inl e, ap (is_among removed) e ∙ is)
    by false is again (inr k) = let m = again k in (inr m.0, m.1)

without_stays : (removed xs : List (List ℕ)) → ((x : List ℕ) → In x xs → is_among removed x ≡ false)
    → without removed xs ≡ xs
without_stays removed [] h = refl
without_stays removed (x ∷ xs) h =
    ap (λ b. cond (not b) (x ∷ without removed xs) (without removed xs)) (h x (inl refl))
    ∙ ap (λ ys. x ∷ ys) (without_stays removed xs (λ y k. h y (inr k)))

map_from : (f : List ℕ → List ℕ) (xs : List (List ℕ)) (y : List ℕ) → In y (map f xs) → (x : List ℕ) × (f x ≡ y)
map_from f [] y h = absurd h
map_from f (x ∷ xs) y (inl e) = (x, sym e)
map_from f (x ∷ xs) y (inr h) = map_from f xs y h

map_stays : (f : List ℕ → List ℕ) (xs : List (List ℕ)) → ((x : List ℕ) → In x xs → f x ≡ x) → map f xs ≡ xs
map_stays f [] h = refl
map_stays f (x ∷ xs) h =
    ap (λ y. y ∷ map f xs) (h x (inl refl)) ∙ ap (λ ys. x ∷ ys) (map_stays f xs (λ y k. h y (inr k)))

filter_map_from : (f : List ℕ → Option (List ℕ)) (xs : List (List ℕ)) (y : List ℕ) → In y (filter_map f xs)
    → (x : List ℕ) × (In x xs) × (f x ≡ Some y)
filter_map_from f [] y h = absurd h
filter_map_from f (x ∷ xs) y h = by (f x) refl (filter_map_from f xs y) h
  where
    by : (o : Option (List ℕ)) → f x ≡ o → (In y (filter_map f xs) → (z : List ℕ) × (In z xs) × (f z ≡ Some y))
        → In y (cons_option o (filter_map f xs)) → (z : List ℕ) × (In z (x ∷ xs)) × (f z ≡ Some y)
    by None is again k = let m = again k in (m.0, inr m.1, m.2)
    by (Some w) is again (inl e) = (x, inl refl, is ∙ ap (λ t. Some t) (sym e))
    by (Some w) is again (inr k) = let m = again k in (m.0, inr m.1, m.2)

filter_map_stays : (f : List ℕ → Option (List ℕ)) (xs : List (List ℕ)) → ((x : List ℕ) → In x xs → f x ≡ Some x)
    → filter_map f xs ≡ xs
filter_map_stays f [] h = refl
filter_map_stays f (x ∷ xs) h =
    ap (λ o. cons_option o (filter_map f xs)) (h x (inl refl))
    ∙ ap (λ ys. x ∷ ys) (filter_map_stays f xs (λ y k. h y (inr k)))

-- ---- the information

licences_again : (a : Amendments) (xs ys : List (List ℕ)) → BringNothingBack a
    → Amending.each_made (Amending.licence_amended a.replaced_licences) xs ≡ Some ys
    → Amending.licences_amended a (set_of (without a.removed_licences ys))
    ≡ Some (set_of (without a.removed_licences ys))
licences_again a xs ys back made =
    let zs = set_of (without a.removed_licences ys) in
    ap (option_map (λ texts. set_of (without a.removed_licences texts)))
    (each_stays (Amending.licence_amended a.replaced_licences) zs (λ z h. stays z (found z h).0))
    ∙ ap (λ texts. Some (set_of texts)) (without_stays a.removed_licences zs (λ z h. (found z h).1))
    ∙ ap (λ texts. Some texts) (set_again (without a.removed_licences ys))
  where
    found : (z : List ℕ) → In z (set_of (without a.removed_licences ys))
        → (In z ys) × (is_among a.removed_licences z ≡ false)
    found z h = without_from a.removed_licences ys z (In-set_of (without a.removed_licences ys) z h)

    stays : (z : List ℕ) → In z ys → Amending.licence_amended a.replaced_licences z ≡ Some z
    stays z h =
        let from = each_from (Amending.licence_amended a.replaced_licences) xs ys z made h in
        licence_again a.replaced_licences from.0 z back.licences from.1

contributors_again : (a : Amendments) (xs : List (List ℕ)) → BringNothingBack a
    → Amending.contributors_amended a (Amending.contributors_amended a xs) ≡ Amending.contributors_amended a xs
contributors_again a xs back =
    let zs = Amending.contributors_amended a xs in
    ap (λ texts. set_of (without a.removed_contributors texts))
    (map_stays (Amending.text_amended a.replaced_contributors) zs (λ z h. stays z (found z h).0))
    ∙ ap set_of (without_stays a.removed_contributors zs (λ z h. (found z h).1))
    ∙ set_again (without a.removed_contributors (map (Amending.text_amended a.replaced_contributors) xs))
  where
    found : (z : List ℕ) → In z (Amending.contributors_amended a xs)
        → (In z (map (Amending.text_amended a.replaced_contributors) xs)) × (is_among a.removed_contributors z ≡ false)
    found z h =
        let made = map (Amending.text_amended a.replaced_contributors) xs in
        without_from a.removed_contributors made z (In-set_of (without a.removed_contributors made) z h)

    stays : (z : List ℕ) → In z (map (Amending.text_amended a.replaced_contributors) xs)
        → Amending.text_amended a.replaced_contributors z ≡ z
    stays z h =
        let from = map_from (Amending.text_amended a.replaced_contributors) xs z h in
        subst (λ t. Amending.text_amended a.replaced_contributors t ≡ t) from.1
        (text_again a.replaced_contributors from.0 back.contributors)

notices_again : (a : Amendments) (xs : List (List ℕ)) → BringNothingBack a → HasFourDigits a.until
    → ((text : List ℕ) → Contains xs text → ReadsAsAmended a text)
    → Amending.notices_amended a (Amending.notices_amended a xs) ≡ Amending.notices_amended a xs
notices_again a xs back short reads =
    ap set_of (filter_map_stays (Amending.notice_amended a) (Amending.notices_amended a xs) stays)
    ∙ set_again (filter_map (Amending.notice_amended a) xs)
  where
    stays : (z : List ℕ) → In z (Amending.notices_amended a xs) → Amending.notice_amended a z ≡ Some z
    stays z h =
        let from =
        filter_map_from (Amending.notice_amended a) xs z (In-set_of (filter_map (Amending.notice_amended a) xs) z h) in
        notice_again a from.0 z back.holders short (reads from.0 (Contains-from_in xs from.0 from.1)) from.2

pub amended_again : (a : Amendments) (info new : Info) → BringNothingBack a → HasFourDigits a.until
    → ((text : List ℕ) → Contains info.notices text → ReadsAsAmended a text) → Amending.amended a info ≡ Some new
    → Amending.amended a new ≡ Some new
amended_again a info new back short reads e =
    let parts = are_amended a info new e in
    let licences : Amending.licences_amended a new.licences ≡ Some new.licences =
    subst (λ xs. Amending.licences_amended a xs ≡ Some xs) (sym parts.new_licences)
    (licences_again a info.licences parts.licences back parts.made) in
    let contributors : Amending.contributors_amended a new.contributors ≡ new.contributors =
    subst (λ xs. Amending.contributors_amended a xs ≡ xs) (sym parts.new_contributors)
    (contributors_again a info.contributors back) in
    let notices : Amending.notices_amended a new.notices ≡ new.notices =
    subst (λ xs. Amending.notices_amended a xs ≡ xs) (sym parts.new_notices)
    (notices_again a info.notices back short reads) in
    ap (option_map (together (Amending.notices_amended a new.notices)
    (Amending.contributors_amended a new.contributors))) licences
    ∙ ap (λ xs. Some (together xs (Amending.contributors_amended a new.contributors) new.licences)) notices
    ∙ ap (λ xs. Some (together new.notices xs new.licences)) contributors
  where
    together : List (List ℕ) → List (List ℕ) → List (List ℕ) → Info
    together notices contributors licences =
        record { notices = notices; contributors = contributors; licences = licences; free = new.free }
