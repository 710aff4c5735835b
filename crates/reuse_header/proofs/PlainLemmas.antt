-- The texts of additions read as what they are.
use Rattle.std.proofs.Common.{◌≡◌, ℕ, Bool, true, false, List, [], ◌∷◌, ◌++◌, length, length-append, append_assoc, map}
use Rattle.std.proofs.Common.{Option, None, Some, refl, sym, ap, ◌∙◌, inl, inr, arith}
use Rattle.std.specs.Prelude.{not, ◌||◌, ◌==◌, All}
use Rattle.std.specs.List.{list_all, list_any}
use Rattle.std.specs.Option.{option_map, option_or}
use Rattle.std.proofs.lemmas.Bool.{false≢true, eqb-true}
use Rattle.reuse_notice.specs.declared.prefixes.Prefix.{Prefix}
use Rattle.reuse_notice.specs.declared.prefixes.Prefix.TheVariants.{Spdx, SpdxC, SpdxSymbol, SpdxString, SpdxStringC}
use Rattle.reuse_notice.specs.declared.prefixes.Prefix.TheVariants.{SpdxStringSymbol, String, StringC, StringSymbol}
use Rattle.reuse_notice.specs.declared.prefixes.Prefix.TheVariants.{Symbol}
use Rattle.reuse_notice.specs.declared.tags.Years.{Years}
use Rattle.reuse_notice.specs.Prefixes.{prefix_text}
use Rattle.reuse_notice.specs.Tags.{a_notice, a_contributor, a_licence, is_blank, all_blank, is_filler, drop_front}
use Rattle.reuse_notice.specs.Tags.{drop_end, trimmed, stripped, value_after, licence_lead, contributor_lead}
use Rattle.reuse_notice.specs.Tags.{leaves_value, prefix_of, notice_behind, tag_in, tag_of}
use Rattle.reuse_notice.specs.Contents.{notice_text}
use Rattle.reuse_notice.specs.Adding.{Arguments, is_space, is_control, notice_written, years_text, chosen_years}
use Rattle.reuse_notice.specs.Adding.{additions_of}
use Rattle.reuse_notice.specs.Plain.{IsPlain, ArePlain}
use Rattle.reuse_amend.proofs.ShapedLemmas.{BeginsNotice, begins_leaves}
use Rattle.reuse_style.specs.declared.style.Style.{Style}
use Rattle.reuse_style.proofs.GoodLemmas.{no_punctuation}
use Rattle.reuse_style.specs.Styles.{punctuation_of}
use Rattle.reuse_header.specs.Reading.{AreSayable}
use Rattle.std.proofs.lemmas.Bool.{cases_Bool as truth}
use Rattle.reuse_header.proofs.SayableLemmas.{IsValue, Each, all_of_each, each_of_all, each_front, end_behind}
use Rattle.reuse_header.proofs.SayableLemmas.{value_whole, contributor_again, licence_again}
use Rattle.reuse_notice.proofs.BlankLemmas.{drop_end-twice, drop_end-all}

-- ---- plain texts have spaces alone as blank bytes

Same : ℕ → Type 0
Same b = is_blank b ≡ is_space b

printable_same : (b : ℕ) → is_control b ≡ false → Same b
unfolding Same
printable_same b e = by_cases (b == 9) refl (b == 13) refl
  where
    nine : b ≡ 9 → ⊥
    nine same = false≢true (sym e ∙ ap is_control same)

    thirteen : b ≡ 13 → ⊥
    thirteen same = false≢true (sym e ∙ ap is_control same)

    by_cases : (nine_too : Bool) → (b == 9) ≡ nine_too → (thirteen_too : Bool) → (b == 13) ≡ thirteen_too
        → is_blank b ≡ is_space b
    by_cases true p r q = absurd (nine (eqb-true b 9 p))
    by_cases false p true q = absurd (thirteen (eqb-true b 13 q))
    by_cases false p false q = rw (p, q) (or_false (b == 32))
      where
        or_false : (a : Bool) → ((a || false) || false) ≡ a
        or_false true = refl
        or_false false = refl

all_same : (xs : List ℕ) → list_any is_control xs ≡ false → Each Same xs
unfolding Each
all_same [] e = tt
all_same (x ∷ xs) e = elim (truth (is_control x)) [
  | inl c ↦ (let h = rw c at e in absurd (false≢true (sym h)))
  | inr c ↦ (let h = rw c at e in (printable_same x c, all_same xs h))
]

list_all-same : (xs : List ℕ) → Each Same xs → list_all is_blank xs ≡ list_all is_space xs
unfolding Each Same
list_all-same [] h = refl
list_all-same (x ∷ xs) h = let a = h.0 in let b = list_all-same xs h.1 in rw (a, b) refl

front-same : (xs : List ℕ) → Each Same xs → drop_front is_blank xs ≡ drop_front is_space xs
unfolding Each Same drop_front
front-same [] h = refl
front-same (x ∷ xs) h = let a = h.0 in let b = front-same xs h.1 in rw (a, b) refl

end-same : (xs : List ℕ) → Each Same xs → drop_end is_blank xs ≡ drop_end is_space xs
unfolding Each drop_end
end-same [] h = refl
end-same (x ∷ xs) h = let a = list_all-same (x ∷ xs) h in let b = end-same xs h.1 in rw (a, b) refl

plain_trimmed : (text : List ℕ) → IsPlain text → trimmed is_blank text ≡ text
plain_trimmed text plain =
    let same = all_same text plain.printable in
    ap (drop_end is_blank) (front-same text same)
    ∙ end-same (drop_front is_space text) (each_front Same is_space text same) ∙ plain.trimmed

nothing_left : (xs : List ℕ) → list_all is_blank xs ≡ true → drop_front is_blank xs ≡ []
unfolding drop_front
nothing_left [] h = refl
nothing_left (x ∷ xs) h = elim (truth (is_blank x)) [
  | inl e ↦ (let k = rw e at h in rw e (nothing_left xs k))
  | inr e ↦ (let k = rw e at h in absurd (false≢true k))
]

end_of_none : drop_end is_blank [] ≡ []
unfolding drop_end
end_of_none = refl

pub plain_value : (text : List ℕ) → IsPlain text → IsValue text
plain_value text plain = record {
  some = elim (truth (all_blank text)) [
    | inl e ↦ absurd
        (plain.some (sym (plain_trimmed text plain) ∙ ap (drop_end is_blank) (nothing_left text e) ∙ end_of_none))
    | inr e ↦ e
  ];
  trim = plain_trimmed text plain;
}

-- ---- notices

record PrefixFacts (prefix : Prefix) (rest : List ℕ) : Type 0 where
  pub no_licence : value_after licence_lead (prefix_text prefix ++ 32 ∷ rest) ≡ None
  pub no_contributor : value_after contributor_lead (prefix_text prefix ++ 32 ∷ rest) ≡ None
  pub leaves : leaves_value (prefix_text prefix ++ 32 ∷ rest) prefix ≡ not (all_blank (32 ∷ rest))
  pub whole : drop_end is_blank (prefix_text prefix) ≡ prefix_text prefix

facts : (prefix : Prefix) (rest : List ℕ) → PrefixFacts prefix rest
unfolding drop_end
facts Spdx rest = record { no_licence = refl; no_contributor = refl; leaves = refl; whole = refl }
facts SpdxC rest = record { no_licence = refl; no_contributor = refl; leaves = refl; whole = refl }
facts SpdxSymbol rest = record { no_licence = refl; no_contributor = refl; leaves = refl; whole = refl }
facts SpdxString rest = record { no_licence = refl; no_contributor = refl; leaves = refl; whole = refl }
facts SpdxStringC rest = record { no_licence = refl; no_contributor = refl; leaves = refl; whole = refl }
facts SpdxStringSymbol rest = record { no_licence = refl; no_contributor = refl; leaves = refl; whole = refl }
facts String rest = record { no_licence = refl; no_contributor = refl; leaves = refl; whole = refl }
facts StringC rest = record { no_licence = refl; no_contributor = refl; leaves = refl; whole = refl }
facts StringSymbol rest = record { no_licence = refl; no_contributor = refl; leaves = refl; whole = refl }
facts Symbol rest = record { no_licence = refl; no_contributor = refl; leaves = refl; whole = refl }

-- letters that the prefixes begin with, none of which is punctuation
pub record NoFillers (punct : List ℕ) : Type 0 where
  pub s : is_filler punct 83 ≡ false
  pub c : is_filler punct 67 ≡ false
  pub sign : is_filler punct 194 ≡ false

-- they are punctuation of no style, nor of neighbours
pub letters : (style : Style) → NoFillers (punctuation_of style)
letters style = record {
  s = no_punctuation style 83 refl;
  c = no_punctuation style 67 refl;
  sign = no_punctuation style 194 refl;
}

pub no_letters : NoFillers []
no_letters = record { s = refl; c = refl; sign = refl }

first_stays : (punct : List ℕ) → NoFillers punct → (prefix : Prefix) (rest : List ℕ)
    → drop_front (is_filler punct) (prefix_text prefix ++ rest) ≡ prefix_text prefix ++ rest
unfolding drop_front
first_stays punct letters Spdx rest = let e = letters.s in rw e refl
first_stays punct letters SpdxC rest = let e = letters.s in rw e refl
first_stays punct letters SpdxSymbol rest = let e = letters.s in rw e refl
first_stays punct letters SpdxString rest = let e = letters.s in rw e refl
first_stays punct letters SpdxStringC rest = let e = letters.s in rw e refl
first_stays punct letters SpdxStringSymbol rest = let e = letters.s in rw e refl
first_stays punct letters String rest = let e = letters.c in rw e refl
first_stays punct letters StringC rest = let e = letters.c in rw e refl
first_stays punct letters StringSymbol rest = let e = letters.c in rw e refl
first_stays punct letters Symbol rest = let e = letters.sign in rw e refl

-- the text of a notice, which ends in no blank byte, reads as that notice
said_by : (text : List ℕ) (prefix : Prefix) → value_after licence_lead text ≡ None
    → value_after contributor_lead text ≡ None → leaves_value text prefix ≡ true
    → ((text : List ℕ) (prefix : Prefix) → prefix_of text ≡ None → leaves_value text prefix ≡ false)
    → notice_text (tag_in text) ≡ Some text
said_by text prefix a b leaves none =
    ap (λ (o : Option (List ℕ)). notice_text (option_or (option_map a_licence o) (option_or (option_map a_contributor
    (value_after contributor_lead text)) (option_map a_notice (option_map (notice_behind text) (prefix_of text)))))) a
    ∙ ap (λ (o : Option (List ℕ)). notice_text
    (option_or (option_map a_contributor o) (option_map a_notice (option_map (notice_behind text) (prefix_of text))))) b
    ∙ by_prefix (prefix_of text) refl
  where
    by_prefix : (found : Option Prefix) → prefix_of text ≡ found
        → notice_text (option_map a_notice (option_map (notice_behind text) found)) ≡ Some text
    by_prefix None e = absurd (false≢true (sym (none text prefix e) ∙ leaves))
    by_prefix (Some q) e = refl

not_longer : (a b : List ℕ) (x : ℕ) → a ≡ a ++ x ∷ b → ⊥
not_longer a b x e = let n = ap length e in let m = length-append a (x ∷ b) in omega (arith, n, m)

notice_reads : (punct : List ℕ) → NoFillers punct
    → ((text : List ℕ) (prefix : Prefix) → prefix_of text ≡ None → leaves_value text prefix ≡ false)
    → (prefix : Prefix) (rest : List ℕ)
    → drop_end is_blank (prefix_text prefix ++ 32 ∷ rest) ≡ prefix_text prefix ++ 32 ∷ rest
    → notice_text (tag_of punct (prefix_text prefix ++ 32 ∷ rest)) ≡ Some (prefix_text prefix ++ 32 ∷ rest)
notice_reads punct letters none prefix rest ends =
    let f = facts prefix rest in
    let some : all_blank (32 ∷ rest) ≡ false = elim (truth (all_blank (32 ∷ rest))) [
      | inl e ↦ absurd (not_longer (prefix_text prefix) rest 32
          (sym f.whole ∙ sym (drop_end-all is_blank (prefix_text prefix) (32 ∷ rest) e) ∙ ends))
      | inr e ↦ e
    ] in
    let whole : stripped punct (prefix_text prefix ++ 32 ∷ rest) ≡ prefix_text prefix ++ 32 ∷ rest =
    ap (drop_end is_blank) (first_stays punct letters prefix (32 ∷ rest)) ∙ ends in
    ap (λ (t : List ℕ). notice_text (tag_in t)) whole
    ∙ said_by (prefix_text prefix ++ 32 ∷ rest) prefix f.no_licence f.no_contributor (f.leaves ∙ ap not some) none

-- what a notice says behind its prefix and a space
behind_prefix : (prefix : Prefix) (years : Option Years) (holder : List ℕ)
    → (rest : List ℕ) × (notice_written prefix years holder ≡ prefix_text prefix ++ 32 ∷ rest)
behind_prefix prefix None holder = (holder, refl)
behind_prefix prefix (Some years) holder =
    (years_text years ++ 32 ∷ holder, append_assoc (prefix_text prefix) (32 ∷ years_text years) (32 ∷ holder))

notice_said : (punct : List ℕ) → NoFillers punct
    → ((text : List ℕ) (prefix : Prefix) → prefix_of text ≡ None → leaves_value text prefix ≡ false)
    → (prefix : Prefix) (years : Option Years) (holder : List ℕ)
    → drop_end is_blank (notice_written prefix years holder) ≡ notice_written prefix years holder
    → notice_text (tag_of punct (notice_written prefix years holder)) ≡ Some (notice_written prefix years holder)
notice_said punct letters none prefix years holder ends =
    let b = behind_prefix prefix years holder in
    let said = notice_reads punct letters none prefix b.0 (ap (drop_end is_blank) (sym b.1) ∙ ends ∙ b.1) in
    ap (λ (x : List ℕ). notice_text (tag_of punct x)) b.1 ∙ said ∙ ap (λ (x : List ℕ). Some x) (sym b.1)

plain_notice : (punct : List ℕ) → NoFillers punct
    → ((text : List ℕ) (prefix : Prefix) → prefix_of text ≡ None → leaves_value text prefix ≡ false)
    → (prefix : Prefix) (years : Option Years) (holder : List ℕ) → IsPlain (notice_written prefix years holder)
    → notice_text (tag_of punct (notice_written prefix years holder)) ≡ Some (notice_written prefix years holder)
plain_notice punct letters none prefix years holder plain =
    let t = notice_written prefix years holder in
    notice_said punct letters none prefix years holder (ap (drop_end is_blank) (sym (plain_trimmed t plain))
    ∙ drop_end-twice is_blank (drop_front is_blank t) ∙ plain_trimmed t plain)

-- what a notice says before its holder
pub before_holder : (prefix : Prefix) (years : Option Years) (holder : List ℕ)
    → (front : List ℕ) × (notice_written prefix years holder ≡ front ++ holder)
before_holder prefix None holder =
    (prefix_text prefix ++ 32 ∷ [], sym (append_assoc (prefix_text prefix) (32 ∷ []) holder))
before_holder prefix (Some years) holder = (
  (prefix_text prefix ++ 32 ∷ years_text years) ++ 32 ∷ [],
  sym (append_assoc (prefix_text prefix ++ 32 ∷ years_text years) (32 ∷ []) holder),
)

-- a notice that is written of a holder
pub value_notice : (punct : List ℕ) → NoFillers punct
    → ((text : List ℕ) (prefix : Prefix) → prefix_of text ≡ None → leaves_value text prefix ≡ false)
    → (prefix : Prefix) (years : Option Years) (holder : List ℕ) → IsValue holder
    → notice_text (tag_of punct (notice_written prefix years holder)) ≡ Some (notice_written prefix years holder)
value_notice punct letters none prefix years holder is =
    let b = before_holder prefix years holder in
    let ends : drop_end is_blank (notice_written prefix years holder) ≡ notice_written prefix years holder =
    ap (drop_end is_blank) b.1 ∙ end_behind is_blank b.0 holder is.some
    ∙ ap (λ (xs : List ℕ). b.0 ++ xs) (value_whole holder is) ∙ sym b.1 in
    notice_said punct letters none prefix years holder ends

-- what begins as a notice, and ends in no blank byte, reads as that notice
no_lead : (prefix : Prefix) (rest : List ℕ) → (value_after licence_lead (prefix_text prefix ++ rest) ≡ None)
    × (value_after contributor_lead (prefix_text prefix ++ rest) ≡ None)
no_lead Spdx rest = (refl, refl)
no_lead SpdxC rest = (refl, refl)
no_lead SpdxSymbol rest = (refl, refl)
no_lead SpdxString rest = (refl, refl)
no_lead SpdxStringC rest = (refl, refl)
no_lead SpdxStringSymbol rest = (refl, refl)
no_lead String rest = (refl, refl)
no_lead StringC rest = (refl, refl)
no_lead StringSymbol rest = (refl, refl)
no_lead Symbol rest = (refl, refl)

pub begins_notice : (punct : List ℕ) → NoFillers punct
    → ((text : List ℕ) (prefix : Prefix) → prefix_of text ≡ None → leaves_value text prefix ≡ false)
    → (text : List ℕ) → BeginsNotice text → drop_end is_blank text ≡ text → notice_text (tag_of punct text) ≡ Some text
begins_notice punct fillers none text b ends =
    let leads = no_lead b.prefix b.rest in
    let whole : stripped punct text ≡ text =
    ap (λ (t : List ℕ). drop_end is_blank (drop_front (is_filler punct) t)) b.is
    ∙ ap (drop_end is_blank) (first_stays punct fillers b.prefix b.rest)
    ∙ ap (drop_end is_blank) (sym b.is) ∙ ends in
    ap (λ (t : List ℕ). notice_text (tag_in t)) whole
    ∙ said_by text b.prefix (ap (value_after licence_lead) b.is ∙ leads.0)
    (ap (value_after contributor_lead) b.is ∙ leads.1) (begins_leaves text b) none

each_notice : (punct : List ℕ) → NoFillers punct
    → ((text : List ℕ) (prefix : Prefix) → prefix_of text ≡ None → leaves_value text prefix ≡ false)
    → (prefix : Prefix) (years : Option Years) (holders : List (List ℕ))
    → Each IsPlain (map (notice_written prefix years) holders)
    → Each (λ t. notice_text (tag_of punct t) ≡ Some t) (map (notice_written prefix years) holders)
unfolding Each
each_notice punct letters none prefix years [] h = tt
each_notice punct letters none prefix years (holder ∷ holders) h =
    (plain_notice punct letters none prefix years holder h.0, each_notice punct letters none prefix years holders h.1)

each_value : (P : List ℕ → Type 0) (texts : List (List ℕ)) → ((v : List ℕ) → IsPlain v → P v)
    → All IsPlain texts → All P texts
each_value P texts h plain = λ k d low. h _ (plain k d low)

-- additions that a command makes are sayable
pub additions_sayable : ((text : List ℕ) (prefix : Prefix) → prefix_of text ≡ None → leaves_value text prefix ≡ false)
    → (punct : List ℕ) → NoFillers punct
    → (arguments : Arguments) → ArePlain (additions_of arguments) → AreSayable punct (additions_of arguments)
additions_sayable none punct letters arguments plain = record {
  notices = all_of_each (λ t. notice_text (tag_of punct t) ≡ Some t) _
      (each_notice punct letters none arguments.prefix
      (chosen_years arguments.years arguments.exclude arguments.current) arguments.copyrights
      (each_of_all IsPlain (additions_of arguments).notices plain.notices));
  contributors = each_value _ _ (λ v p. contributor_again punct v letters.s (plain_value v p)) plain.contributors;
  licences = each_value _ _ (λ v p. licence_again punct v letters.s (plain_value v p)) plain.licences;
}
