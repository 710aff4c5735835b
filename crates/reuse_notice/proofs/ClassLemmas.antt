-- Members of lists of texts, and the notices of one holder: their class, its years, prefix and text.
use Rattle.std.proofs.Common.{◌≡◌, ℕ, Bool, true, false, cond, List, [], ◌∷◌, ◌++◌, length, map, Option, Some, None}
use Rattle.std.proofs.Common.{refl, sym, ap, ◌∙◌, arith, inl, inr, ◌⊎◌, ◌==◌}
use Rattle.std.specs.Prelude.{filter, find, fold, nat_lt, unwrap_or, is_some, ◌&&◌, ◌||◌}
use Rattle.std.specs.Option.{option_map, option_and_then}
use Rattle.std.specs.List.{cons_option}
use Rattle.std.specs.Str.{bytes_eq}
use Rattle.std.proofs.lemmas.Bool.{eqb-true, le-ltb}
use Rattle.std.proofs.lemmas.List.Kept.{IsStrictlySortedBy-filter}
use Rattle.std.proofs.lemmas.Slice.Eq.{bytes_eq-Decides}
use Rattle.reuse_notice.specs.declared.prefixes.Prefix.{Prefix}
use Rattle.reuse_notice.specs.declared.prefixes.Prefix.TheVariants.{Spdx, SpdxC, SpdxSymbol, SpdxString, SpdxStringC}
use Rattle.reuse_notice.specs.declared.prefixes.Prefix.TheVariants.{SpdxStringSymbol, String, StringC, StringSymbol}
use Rattle.reuse_notice.specs.declared.prefixes.Prefix.TheVariants.{Symbol}
use Rattle.reuse_notice.specs.declared.tags.Years.{Years}
use Rattle.reuse_notice.specs.Prefixes.{prefix_text}
use Rattle.reuse_notice.specs.Tags.{NoticeText, prefix_of, notice_behind, notice_of}
use Rattle.reuse_notice.specs.Adding.{notice_written}
use Rattle.reuse_notice.specs.Sets.{byte_order, IsSorted}
use Rattle.reuse_notice.specs.Merging.{with_holder, member, class_of, class_text, class_prefix, class_years}
use Rattle.reuse_notice.specs.Merging.{first_prefix, joined_years, same_years, says, settled}
use Rattle.reuse_notice.specs.MergeSteps.{is_among}
use Rattle.reuse_notice.specs.Keeping.{Include}
use Rattle.reuse_notice.proofs.PlainLemmas.{and-parts}
use Rattle.reuse_notice.proofs.SetLemmas.{In, same_sets}
use Rattle.reuse_notice.proofs.KeepingLemmas.{Among}

-- ---- members of lists

pub In-append : (xs ys : List (List ℕ)) (t : List ℕ) → In t (xs ++ ys) → In t xs ⊎ In t ys
In-append [] ys t h = inr h
In-append (x ∷ xs) ys t (inl e) = inl (inl e)
In-append (x ∷ xs) ys t (inr h) = elim (In-append xs ys t h) [ inl k ↦ inl (inr k) | inr k ↦ inr k ]

pub In-left : (xs ys : List (List ℕ)) (t : List ℕ) → In t xs → In t (xs ++ ys)
In-left [] ys t h = absurd h
In-left (x ∷ xs) ys t (inl e) = inl e
In-left (x ∷ xs) ys t (inr h) = inr (In-left xs ys t h)

pub In-right : (xs ys : List (List ℕ)) (t : List ℕ) → In t ys → In t (xs ++ ys)
In-right [] ys t h = h
In-right (x ∷ xs) ys t h = inr (In-right xs ys t h)

pub In-from_map : (f : List ℕ → List ℕ) (xs : List (List ℕ)) (t : List ℕ) → In t (map f xs)
    → (s : List ℕ) × (In s xs) × (t ≡ f s)
In-from_map f [] t h = absurd h
In-from_map f (x ∷ xs) t (inl e) = (x, inl refl, e)
In-from_map f (x ∷ xs) t (inr h) = let r = In-from_map f xs t h in (r.0, inr r.1, r.2)

In-from_filter : (p : List ℕ → Bool) (xs : List (List ℕ)) (t : List ℕ) → In t (filter p xs) → (In t xs) × (p t ≡ true)
In-from_filter p [] t h = absurd h
In-from_filter p (x ∷ xs) t h = by (p x) refl h (λ k. In-from_filter p xs t k)
  where
    by : (b : Bool) → p x ≡ b → In t (cond b (x ∷ filter p xs) (filter p xs))
        → (In t (filter p xs) → (In t xs) × (p t ≡ true)) → (In t (x ∷ xs)) × (p t ≡ true)
    by true e (inl s) more = (inl s, ap p s ∙ e)
    by true e (inr k) more = let r = more k in (inr r.0, r.1)
    by false e k more = let r = more k in (inr r.0, r.1)

In-filter : (p : List ℕ → Bool) (xs : List (List ℕ)) (t : List ℕ) → In t xs → p t ≡ true → In t (filter p xs)
In-filter p [] t h e = absurd h
In-filter p (x ∷ xs) t (inl s) e = first (p x) (ap p (sym s) ∙ e)
  where
    first : (b : Bool) → b ≡ true → In t (cond b (x ∷ filter p xs) (filter p xs))
    first true is = inl s
    first false is = absurd (cc is)
In-filter p (x ∷ xs) t (inr h) e = behind (p x) (In-filter p xs t h e)
  where
    behind : (b : Bool) → In t (filter p xs) → In t (cond b (x ∷ filter p xs) (filter p xs))
    behind true k = inr k
    behind false k = k

-- the texts of two sets that pass a test, where they are the same
pub same_filters : (p : List ℕ → Bool) (xs ys : List (List ℕ)) → IsSorted xs → IsSorted ys
    → ((t : List ℕ) → p t ≡ true → In t xs → In t ys) → ((t : List ℕ) → p t ≡ true → In t ys → In t xs)
    → filter p xs ≡ filter p ys
same_filters p xs ys sx sy f g =
    same_sets (filter p xs) (filter p ys) (IsStrictlySortedBy-filter byte_order p xs sx)
    (IsStrictlySortedBy-filter byte_order p ys sy)
    (λ t h. let k = In-from_filter p xs t h in In-filter p ys t (f t k.1 k.0) k.1)
    (λ t h. let k = In-from_filter p ys t h in In-filter p xs t (g t k.1 k.0) k.1)

pub among_yes : (texts : List (List ℕ)) (t : List ℕ) → In t texts → is_among texts t ≡ true
among_yes [] t h = absurd h
among_yes (x ∷ texts) t (inl e) = here (bytes_eq x t) ((bytes_eq-Decides x t).1 (sym e))
  where
    here : (b : Bool) → b ≡ true → (b || is_among texts t) ≡ true
    here true is = refl
    here false is = absurd (cc is)
among_yes (x ∷ texts) t (inr h) = behind (bytes_eq x t) (among_yes texts t h)
  where
    behind : (b : Bool) → is_among texts t ≡ true → (b || is_among texts t) ≡ true
    behind true e = refl
    behind false e = e

pub among_in : (texts : List (List ℕ)) (t : List ℕ) → is_among texts t ≡ true → In t texts
among_in [] t e = absurd (cc e)
among_in (x ∷ texts) t e = by (bytes_eq x t) refl e (λ f. among_in texts t f)
  where
    by : (b : Bool) → bytes_eq x t ≡ b → (b || is_among texts t) ≡ true → (is_among texts t ≡ true → In t texts)
        → In t (x ∷ texts)
    by true is e more = inl (sym ((bytes_eq-Decides x t).0 is))
    by false is e more = inr (more e)

-- ---- notices and their classes

pub text_kept : (text : List ℕ) (n : NoticeText) → notice_of text ≡ Some n → n.text ≡ text
text_kept text n e = by (prefix_of text) e
  where
    by : (o : Option Prefix) → option_map (notice_behind text) o ≡ Some n → n.text ≡ text
    by None e = absurd (cc e)
    by (Some p) e = let same : notice_behind text p ≡ n = cc e in sym (ap (λ (m : NoticeText). m.text) same)

-- a text names a holder
abbrev pub names : List ℕ → List ℕ → Bool
names holder text = is_some (member holder text)

pub held : (holder text : List ℕ) (n : NoticeText) → notice_of text ≡ Some n → n.holder ≡ holder
    → member holder text ≡ Some n
held holder text n is of = ap (option_and_then (with_holder holder)) is
    ∙ ap (λ b. cond b (Some n) None) ((bytes_eq-Decides n.holder holder).1 of)

pub named : (holder text : List ℕ) (n : NoticeText) → member holder text ≡ Some n
    → (notice_of text ≡ Some n) × (n.holder ≡ holder)
named holder text n e = by (notice_of text) refl e
  where
    by_holder : (m : NoticeText) → notice_of text ≡ Some m → (b : Bool) → bytes_eq m.holder holder ≡ b
        → cond b (Some m) None ≡ Some n → (notice_of text ≡ Some n) × (n.holder ≡ holder)
    by_holder m is false t e = absurd (cc e)
    by_holder m is true t e =
        let same : m ≡ n = cc e in
        (is ∙ e, sym (ap (λ (k : NoticeText). k.holder) same) ∙ (bytes_eq-Decides m.holder holder).0 t)

    by : (o : Option NoticeText) → notice_of text ≡ o → option_and_then (with_holder holder) o ≡ Some n
        → (notice_of text ≡ Some n) × (n.holder ≡ holder)
    by None is e = absurd (cc e)
    by (Some m) is e = by_holder m is (bytes_eq m.holder holder) refl e

pub some_member : (holder text : List ℕ) → names holder text ≡ true → (n : NoticeText) × (member holder text ≡ Some n)
some_member holder text e = by (member holder text) refl e
  where
    by : (o : Option NoticeText) → member holder text ≡ o → is_some o ≡ true
        → (n : NoticeText) × (member holder text ≡ Some n)
    by None is e = absurd (cc e)
    by (Some n) is e = (n, is)

-- a class has only the texts that name its holder
pub class-named : (holder : List ℕ) (xs : List (List ℕ))
    → class_of xs holder ≡ class_of (filter (names holder) xs) holder
class-named holder [] = refl
class-named holder (x ∷ xs) = by (member holder x) refl (class-named holder xs)
  where
    by : (o : Option NoticeText) → member holder x ≡ o → class_of xs holder ≡ class_of (filter (names holder) xs) holder
        → cons_option o (class_of xs holder) ≡ class_of
        (cond (is_some o) (x ∷ filter (names holder) xs) (filter (names holder) xs)) holder
    by None e more = more
    by (Some n) e more = ap (λ (ns : List NoticeText). n ∷ ns) more
        ∙ sym (ap (λ o. cons_option o (class_of (filter (names holder) xs) holder)) e)

-- and each notice of it is one of these texts
pub from_class : (holder : List ℕ) (xs : List (List ℕ)) (n : NoticeText) → Among n (class_of xs holder)
    → (t : List ℕ) × (In t xs) × (member holder t ≡ Some n)
from_class holder [] n h = absurd h
from_class holder (x ∷ xs) n h = by (member holder x) refl h (λ k. from_class holder xs n k)
  where
    by : (o : Option NoticeText) → member holder x ≡ o → Among n (cons_option o (class_of xs holder))
        → (Among n (class_of xs holder) → (t : List ℕ) × (In t xs) × (member holder t ≡ Some n))
        → (t : List ℕ) × (In t (x ∷ xs)) × (member holder t ≡ Some n)
    by None e h more = let r = more h in (r.0, inr r.1, r.2)
    by (Some m) e (inl s) more = (x, inl refl, e ∙ ap (λ (k : NoticeText). Some k) (sym s))
    by (Some m) e (inr h) more = let r = more h in (r.0, inr r.1, r.2)

-- the first notice of the command is found among the command's texts alone
abbrev pub commanded : List (List ℕ) → NoticeText → Bool
commanded command n = is_among command n.text

find-commanded : (command : List (List ℕ)) (holder : List ℕ) (xs : List (List ℕ))
    → find (commanded command) (class_of xs holder) ≡ find (commanded command)
    (class_of (filter (is_among command) xs) holder)
find-commanded command holder [] = refl
find-commanded command holder (x ∷ xs) =
    by (member holder x) refl (is_among command x) refl (find-commanded command holder xs)
  where
    rest : List NoticeText
    rest = class_of (filter (is_among command) xs) holder

    by : (o : Option NoticeText) → member holder x ≡ o → (b : Bool) → is_among command x ≡ b
        → find (commanded command) (class_of xs holder) ≡ find (commanded command) rest
        → find (commanded command) (cons_option o (class_of xs holder)) ≡ find (commanded command)
        (class_of (cond b (x ∷ filter (is_among command) xs) (filter (is_among command) xs)) holder)
    by None e true c more = more ∙ sym (ap (λ o. find (commanded command) (cons_option o rest)) e)
    by None e false c more = more
    by (Some n) e true c more =
        let t : commanded command n ≡ true = ap (is_among command) (text_kept x n (named holder x n e).0) ∙ c in
        ap (λ b. cond b (Some n) (find (commanded command) (class_of xs holder))) t
        ∙ sym (ap (λ b. cond b (Some n) (find (commanded command) rest)) t)
        ∙ sym (ap (λ o. find (commanded command) (cons_option o rest)) e)
    by (Some n) e false c more =
        let t : commanded command n ≡ false = ap (is_among command) (text_kept x n (named holder x n e).0) ∙ c in
        ap (λ b. cond b (Some n) (find (commanded command) (class_of xs holder))) t ∙ more

-- in each set that has the command's texts it is the same
pub same-commanded : (command : List (List ℕ)) (holder : List ℕ) (xs ys : List (List ℕ)) → IsSorted xs → IsSorted ys
    → ((t : List ℕ) → In t command → In t xs) → ((t : List ℕ) → In t command → In t ys)
    → find (commanded command) (class_of xs holder) ≡ find (commanded command) (class_of ys holder)
same-commanded command holder xs ys sx sy f g =
    find-commanded command holder xs
    ∙ ap (λ zs. find (commanded command) (class_of zs holder)) (same_filters (is_among command) xs ys sx sy
    (λ t e h. g t (among_in command t e)) (λ t e h. f t (among_in command t e)))
    ∙ sym (find-commanded command holder ys)

pub not_found : (command : List (List ℕ)) (class : List NoticeText) (n : NoticeText)
    → find (commanded command) class ≡ None → Among n class → commanded command n ≡ true → ⊥
not_found command [] n e h t = h
not_found command (m ∷ class) n e h t = by (commanded command m) refl e h (λ f k. not_found command class n f k t)
  where
    by : (b : Bool) → commanded command m ≡ b → cond b (Some m) (find (commanded command) class) ≡ None
        → Among n (m ∷ class) → (find (commanded command) class ≡ None → Among n class → ⊥) → ⊥
    by true is e h more = cc e
    by false is e (inl s) more = let clash = sym t ∙ ap (commanded command) s ∙ is in cc clash
    by false is e (inr k) more = more e k

-- ---- years

pub Include-itself : (a : Option Years) → Include a a
Include-itself None = tt
Include-itself (Some a) = (omega arith, omega arith)

pub Include-both : (a b : Option Years) → Include a b → Include b a → a ≡ b
Include-both None None h k = refl
Include-both None (Some b) h k = absurd h
Include-both (Some a) None h k = absurd k
Include-both (Some a) (Some b) h k =
    let low : a.low ≡ b.low = omega (arith, h.0, k.0) in
    let high : a.high ≡ b.high = omega (arith, h.1, k.1) in
    same low high
  where
    same : a.low ≡ b.low → a.high ≡ b.high → Some a ≡ Some b
    same p q = λ i. Some (record { low = p i; high = q i })

joined-within : (years a b : Option Years) → Include years a → Include years b → Include years (joined_years a b)
joined-within years None b h k = k
joined-within years (Some a) None h k = h
joined-within None (Some a) (Some b) h k = absurd h
joined-within (Some years) (Some a) (Some b) h k = (omega (arith, h.0, k.0), omega (arith, h.1, k.1))

pub fold-within : (years a : Option Years) (class : List NoticeText) → Include years a
    → ((n : NoticeText) → Among n class → Include years n.years)
    → Include years (fold joined_years a (map (λ n. n.years) class))
fold-within years a [] h each = h
fold-within years a (n ∷ class) h each = fold-within years (joined_years a n.years) class
    (joined-within years a n.years h (each n (inl refl))) (λ m k. each m (inr k))

same_years-is : (a b : Option Years) → same_years a b ≡ true → a ≡ b
same_years-is None None e = refl
same_years-is None (Some b) e = absurd (cc e)
same_years-is (Some a) None e = absurd (cc e)
same_years-is (Some a) (Some b) e =
    let p = and-parts (a.low == b.low) (a.high == b.high) e in
    same (eqb-true a.low b.low p.0) (eqb-true a.high b.high p.1)
  where
    same : a.low ≡ b.low → a.high ≡ b.high → Some a ≡ Some b
    same p q = λ i. Some (record { low = p i; high = q i })

-- ---- prefixes

prefix_by : ℕ → Prefix
prefix_by n =
    cond (n == 23) Spdx (cond (n == 27) SpdxC
    (cond (n == 26) SpdxSymbol (cond (n == 33) SpdxString (cond (n == 37) SpdxStringC (cond (n == 36) SpdxStringSymbol
    (cond (n == 9) String (cond (n == 13) StringC (cond (n == 12) StringSymbol Symbol))))))))

prefix_again : (p : Prefix) → prefix_by (length (prefix_text p)) ≡ p
unfolding prefix_by
prefix_again Spdx = refl
prefix_again SpdxC = refl
prefix_again SpdxSymbol = refl
prefix_again SpdxString = refl
prefix_again SpdxStringC = refl
prefix_again SpdxStringSymbol = refl
prefix_again String = refl
prefix_again StringC = refl
prefix_again StringSymbol = refl
prefix_again Symbol = refl

same_prefix : (p q : Prefix) → prefix_text p ≡ prefix_text q → p ≡ q
same_prefix p q e = sym (prefix_again p) ∙ ap (λ (text : List ℕ). prefix_by (length text)) e ∙ prefix_again q

pub first_of : (class : List NoticeText) (m : NoticeText) → Among m class → ((n : NoticeText) → Among n class → n ≡ m)
    → first_prefix class ≡ m.prefix
first_of [] m h each = absurd h
first_of (n ∷ class) m h each = ap (λ (k : NoticeText). k.prefix) (each n (inl refl))

pub one_of_few : (class : List NoticeText) (a b : NoticeText) → nat_lt (length class) 2 ≡ true → Among a class
    → Among b class → a ≡ b
one_of_few [] a b e h k = absurd h
one_of_few (n ∷ []) a b e (inl s) (inl t) = s ∙ sym t
one_of_few (n ∷ []) a b e (inl s) (inr k) = absurd k
one_of_few (n ∷ []) a b e (inr h) k = absurd h
one_of_few (n ∷ m ∷ class) a b e h k =
    absurd (let clash = sym e ∙ le-ltb (length (n ∷ m ∷ class)) 2 (omega arith) in cc clash)

-- the prefix of a notice, or else of the first of a class
abbrev pub prefix_or : List NoticeText → Option NoticeText → Prefix
prefix_or class o = unwrap_or (option_map (λ n. n.prefix) o) (first_prefix class)

-- ---- the text of a class

pub record IsClassText (command : List (List ℕ)) (class : List NoticeText) (holder text : List ℕ)
    (notice : NoticeText) : Type 0 where
  pub settles : settled (class_prefix command class) (class_years class) holder ≡ Some text
  pub written : text ≡ notice_written (class_prefix command class) (class_years class) holder
  pub reads : notice_of text ≡ Some notice
  pub prefix : notice.prefix ≡ class_prefix command class
  pub years : notice.years ≡ class_years class
  pub of : notice.holder ≡ holder

pub class_text-is : (command : List (List ℕ)) (class : List NoticeText) (holder text : List ℕ)
    → class_text command class holder ≡ Some text → (n : NoticeText) × IsClassText command class holder text n
class_text-is command class holder text e = few (nat_lt (length class) 2) e
  where
    prefix : Prefix
    prefix = class_prefix command class

    years : Option Years
    years = class_years class

    written : List ℕ
    written = notice_written prefix years holder

    said : written ≡ text → settled prefix years holder ≡ Some text → (o : Option NoticeText) → notice_of written ≡ o
        → says prefix years holder o ≡ true → (n : NoticeText) × IsClassText command class holder text n
    said same settles None is e = absurd (cc e)
    said same settles (Some n) is e =
        let p = and-parts (bytes_eq (prefix_text n.prefix) (prefix_text prefix) && same_years n.years years)
        (bytes_eq n.holder holder) e in
        let q = and-parts (bytes_eq (prefix_text n.prefix) (prefix_text prefix)) (same_years n.years years) p.0 in (
          n,
          record {
            settles = settles;
            written = sym same;
            reads = ap notice_of (sym same) ∙ is;
            prefix = same_prefix n.prefix prefix ((bytes_eq-Decides (prefix_text n.prefix) (prefix_text prefix)).0 q.0);
            years = same_years-is n.years years q.1;
            of = (bytes_eq-Decides n.holder holder).0 p.1;
          },
        )

    back : settled prefix years holder ≡ Some text → (b : Bool) → says prefix years holder (notice_of written) ≡ b
        → cond b (Some written) None ≡ Some text → (n : NoticeText) × IsClassText command class holder text n
    back settles false s f = absurd (cc f)
    back settles true s f = let same : written ≡ text = cc f in said same settles (notice_of written) refl s

    few : (b : Bool) → cond b None (settled prefix years holder) ≡ Some text
        → (n : NoticeText) × IsClassText command class holder text n
    few true f = absurd (cc f)
    few false f = back f (says prefix years holder (notice_of written)) refl f
