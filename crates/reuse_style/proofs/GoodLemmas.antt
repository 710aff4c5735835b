-- What good marks keep, as the laws of headers take it.
use Rattle.std.proofs.Common.{◌≡◌, ℕ, ◌+◌, ◌-◌, Bool, true, false, cond, nat_eq, List, [], ◌∷◌, ◌++◌, length, take}
use Rattle.std.proofs.Common.{drop, length-append, Option, None, Some, refl, sym, ap, ◌∙◌, inl, inr, arith}
use Rattle.std.specs.Prelude.{not, ◌&&◌, ◌||◌, ◌==◌, is_none, unwrap_or, option_and_then, flat_map, fold}
use Rattle.std.specs.List.{starts_with, ends_with, list_all, list_any}
use Rattle.std.specs.Option.{option_map, option_map_or, option_or}
use Rattle.std.specs.Char.{is_ascii_punctuation}
use Rattle.std.proofs.lemmas.Bool.{false≢true, and_parts, eqb-true, cases_Bool as truth}
use Rattle.std.proofs.lemmas.Bool.Decides.{Decides-eqb}
use Rattle.std.proofs.Math.Seq.{drop-append_seam}
use Rattle.std.proofs.lemmas.List.Folds.{list_all-append}
use Rattle.std.proofs.lemmas.Slice.Eq.{starts_is}
use lib.Pointwise.{pointwise}
use Rattle.reuse_text.specs.Text.{is_empty}
use Rattle.reuse_style.specs.declared.marks.MarksFault.TheVariants.{NotPlain, Empty, EndsInSpace, Lead, BeginAlike}
use Rattle.reuse_style.specs.declared.marks.MarksFault.TheVariants.{CloserInOpener, LastLine, Middle}
use Rattle.reuse_style.specs.Search.{place_of, holds}
use Rattle.reuse_style.specs.Marks.{GoodStyle, LineForm, BlockForm, CommentMarks, with_sign, punctuation_in, marks_in}
use Rattle.reuse_style.specs.Marks.{is_plain, mark_fault, first_mark_fault, is_filling, is_lead, closes, is_middle}
use Rattle.reuse_style.specs.Marks.{if_line, if_block, leads_follow, begin_apart, forms_fault, prefix_fault, is_good}
use Rattle.reuse_style.specs.Styles.{line_comment_of, block_comment_of, punctuation_of}

-- ---- what is kept

-- a mark is printable ASCII, and its last byte is no space
pub record IsMark (mark : List ℕ) : Type 0 where
  pub plain : list_all is_plain mark ≡ true
  pub front : List ℕ
  pub last : ℕ
  pub is : mark ≡ front ++ last ∷ []
  pub ends : (last == 32) ≡ false

-- a lead is what it follows, and fillings
pub record Follows (punct mark lead : List ℕ) : Type 0 where
  pub rest : List ℕ
  pub is : lead ≡ mark ++ rest
  pub filled : list_all (is_filling punct) rest ≡ true

pub record IsGoodLine (punct : List ℕ) (form : LineForm) : Type 0 where
  pub marker : IsMark form.marker
  pub lead : Follows punct form.marker form.lead

-- a middle is one sign behind spaces
pub record IsGoodMiddle (middle : List ℕ) : Type 0 where
  pub spaces : List ℕ
  pub sign : ℕ
  pub is : middle ≡ spaces ++ sign ∷ []
  pub blank : list_all (λ b. b == 32) spaces ≡ true
  pub signed : is_ascii_punctuation sign ≡ true

abbrev pub AreGoodMiddle : Option (List ℕ) → Type 0
AreGoodMiddle None = Unit {0}
AreGoodMiddle (Some middle) = IsMark middle × IsGoodMiddle middle

-- the closer stands in the last line behind fillings
pub record Closes (punct closer last_line : List ℕ) : Type 0 where
  pub place : ℕ
  pub found : place_of closer last_line ≡ Some place
  pub filled : list_all (is_filling punct) (take place last_line) ≡ true

pub record IsGoodBlock (punct : List ℕ) (form : BlockForm) : Type 0 where
  pub opener : IsMark form.opener
  pub middle : AreGoodMiddle form.middle
  pub closer : IsMark form.closer
  pub last_line : IsMark form.last_line
  pub lead : Follows punct (unwrap_or form.middle []) form.lead
  pub ends : Closes punct form.closer form.last_line

-- neither marker nor opener begins with the other
pub record AreApart (line : LineForm) (block : BlockForm) : Type 0 where
  pub marker : starts_with nat_eq line.marker block.opener ≡ false
  pub opener : starts_with nat_eq block.opener line.marker ≡ false

-- the same of forms, where there are any
abbrev pub IsLineGood : List ℕ → Option LineForm → Type 0
IsLineGood punct None = Unit {0}
IsLineGood punct (Some form) = IsGoodLine punct form

abbrev pub IsBlockGood : List ℕ → Option BlockForm → Type 0
IsBlockGood punct None = Unit {0}
IsBlockGood punct (Some form) = IsGoodBlock punct form

abbrev pub AreFormsApart : Option LineForm → Option BlockForm → Type 0
AreFormsApart None block = Unit {0}
AreFormsApart (Some line) None = Unit {0}
AreFormsApart (Some line) (Some block) = AreApart line block

-- ---- faults that there are none of

module _ {F : Type 0} where
  unbroken : (test : Bool) (fault : F) (rest : Option F) → cond test (Some fault) rest ≡ None
      → (test ≡ false) × (rest ≡ None)
  unbroken true fault rest e = absurd (let no : ⊥ = cc e in no)
  unbroken false fault rest e = (refl, e)

  kept : (test : Bool) (fault : F) (rest : Option F) → cond (not test) (Some fault) rest ≡ None
      → (test ≡ true) × (rest ≡ None)
  kept true fault rest e = (refl, e)
  kept false fault rest e = absurd (let no : ⊥ = cc e in no)

  both_none : (a b : Option F) → option_or a b ≡ None → (a ≡ None) × (b ≡ None)
  both_none None b e = (refl, e)
  both_none (Some x) b e = absurd (let no : ⊥ = cc e in no)

  none_is : (a : Option F) → is_none a ≡ true → a ≡ None
  none_is None e = refl
  none_is (Some x) e = absurd (false≢true e)

not_so : (b : Bool) → not b ≡ true → b ≡ false
not_so true e = absurd (false≢true e)
not_so false e = refl

-- ---- marks

split_last : (b : ℕ) (bytes : List ℕ) → (front : List ℕ) × (last : ℕ) × (b ∷ bytes ≡ front ++ last ∷ [])
split_last b [] = ([], b, refl)
split_last b (c ∷ bytes) = let rest = split_last c bytes in (b ∷ rest.0, rest.1, ap (λ (xs : List ℕ). b ∷ xs) rest.2)

ends_unspaced : (front : List ℕ) (last : ℕ) → ends_with nat_eq (front ++ last ∷ []) (32 ∷ []) ≡ false
    → (last == 32) ≡ false
ends_unspaced front last e =
    let n : length (front ++ last ∷ []) - 1 ≡ length front = omega (arith, length-append front (last ∷ [])) in
    let seam : drop (length (front ++ last ∷ []) - 1) (front ++ last ∷ []) ≡ last ∷ [] =
    ap (λ (k : ℕ). drop k (front ++ last ∷ [])) n ∙ drop-append_seam front (last ∷ []) in
    let tested : (nat_eq 32 last && true) ≡ false = ap (λ (xs : List ℕ). ends xs) (sym seam) ∙ e in
    elim (truth (last == 32)) [
      | inl is ↦ (let same : last ≡ 32 = eqb-true last 32 is in
          absurd (false≢true (sym tested ∙ ap (λ (k : ℕ). nat_eq 32 k && true) same)))
      | inr isnt ↦ isnt
    ]
  where
    ends : List ℕ → Bool
    ends xs = pointwise nat_eq (32 ∷ []) xs

mark_is : (mark : List ℕ) → mark_fault mark ≡ None → IsMark mark
mark_is mark e =
    let plain = kept (list_all is_plain mark) NotPlain _ e in
    let some = unbroken (is_empty mark) Empty _ plain.1 in
    let ends = unbroken (ends_with nat_eq mark (32 ∷ [])) EndsInSpace None some.1 in
    by mark plain.0 some.0 ends.0
  where
    by : (m : List ℕ) → list_all is_plain m ≡ true → is_empty m ≡ false
        → ends_with nat_eq m (32 ∷ []) ≡ false → IsMark m
    by [] plain some ends = absurd (false≢true (sym some))
    by (b ∷ bytes) plain some ends =
        let s = split_last b bytes in
        record {
          plain = plain;
          front = s.0;
          last = s.1;
          is = s.2;
          ends = ends_unspaced s.0 s.1 (ap (λ (xs : List ℕ). ends_with nat_eq xs (32 ∷ [])) (sym s.2) ∙ ends);
        }

follows : (punct mark lead : List ℕ) → is_lead punct mark lead ≡ true → Follows punct mark lead
follows punct mark lead e =
    let both = and_parts (starts_with nat_eq lead mark) (list_all (is_filling punct) (drop (length mark) lead)) e in
    record { rest = drop (length mark) lead; is = (starts_is Decides-eqb lead mark _ refl).0 both.0; filled = both.1 }

middle_is : (middle : List ℕ) → is_middle middle ≡ true → IsGoodMiddle middle
middle_is [] e = absurd (false≢true e)
middle_is (b ∷ []) e = record { spaces = []; sign = b; is = refl; blank = refl; signed = e }
middle_is (b ∷ c ∷ bytes) e =
    let both = and_parts (b == 32) (is_middle (c ∷ bytes)) e in
    let rest = middle_is (c ∷ bytes) both.1 in
    record {
      spaces = b ∷ rest.spaces;
      sign = rest.sign;
      is = ap (λ (xs : List ℕ). b ∷ xs) rest.is;
      blank = ap (λ (t : Bool). t && list_all (λ x. x == 32) rest.spaces) both.0 ∙ rest.blank;
      signed = rest.signed;
    }

closer_ends : (punct closer last_line : List ℕ) → closes punct closer last_line ≡ true → Closes punct closer last_line
closer_ends punct closer last_line e = by (place_of closer last_line) refl e
  where
    by : (found : Option ℕ) → place_of closer last_line ≡ found
        → option_map_or (λ place. list_all (is_filling punct) (take place last_line)
        && place + length closer == length last_line) found false ≡ true → Closes punct closer last_line
    by None is f = absurd (false≢true f)
    by (Some place) is f = record {
      place = place;
      found = is;
      filled = (and_parts (list_all (is_filling punct) (take place last_line)) _ f).0;
    }

middles_are : (middle : Option (List ℕ)) → option_and_then mark_fault middle ≡ None
    → option_map_or is_middle middle true ≡ true → AreGoodMiddle middle
middles_are None mark e = tt
middles_are (Some middle) mark e = (mark_is middle mark, middle_is middle e)

-- ---- forms

record NoFormsFault (punct : List ℕ) (marks : CommentMarks) : Type 0 where
  leads : leads_follow punct marks ≡ true
  apart : begin_apart marks ≡ true
  ends : if_block (λ block. closes punct block.closer block.last_line) marks ≡ true
  middle : if_block (λ block. option_map_or is_middle block.middle true) marks ≡ true

no_forms_fault : (punct : List ℕ) (marks : CommentMarks) → forms_fault punct marks ≡ None → NoFormsFault punct marks
unfolding forms_fault
no_forms_fault punct marks e =
    let a = kept (leads_follow punct marks) Lead _ e in
    let b = kept (begin_apart marks) BeginAlike _ a.1 in
    let c = kept (if_block (λ block. not (holds block.closer block.opener)) marks) CloserInOpener _ b.1 in
    let d = kept (if_block (λ block. closes punct block.closer block.last_line) marks) LastLine _ c.1 in
    let f = kept (if_block (λ block. option_map_or is_middle block.middle true) marks) Middle None d.1 in
    record { leads = a.0; apart = b.0; ends = d.0; middle = f.0 }

record NoMarkFault (marks : CommentMarks) : Type 0 where
  marker : option_and_then mark_fault (option_map (λ line. line.marker) marks.line) ≡ None
  opener : option_and_then mark_fault (option_map (λ block. block.opener) marks.block) ≡ None
  middle : option_and_then mark_fault (option_and_then (λ block. block.middle) marks.block) ≡ None
  closer : option_and_then mark_fault (option_map (λ block. block.closer) marks.block) ≡ None
  last_line : option_and_then mark_fault (option_map (λ block. block.last_line) marks.block) ≡ None

no_mark_fault : (marks : CommentMarks) → first_mark_fault (marks_in marks) ≡ None → NoMarkFault marks
unfolding first_mark_fault
no_mark_fault marks e =
    let a = both_none (option_and_then mark_fault (option_map (λ line. line.marker) marks.line)) _ e in
    let b = both_none (option_and_then mark_fault (option_map (λ block. block.opener) marks.block)) _ a.1 in
    let c = both_none (option_and_then mark_fault (option_and_then (λ block. block.middle) marks.block)) _ b.1 in
    let d = both_none (option_and_then mark_fault (option_map (λ block. block.closer) marks.block)) _ c.1 in
    let f = both_none (option_and_then mark_fault (option_map (λ block. block.last_line) marks.block)) None d.1 in
    record { marker = a.0; opener = b.0; middle = c.0; closer = d.0; last_line = f.0 }

no_faults : (marks : CommentMarks) → is_good marks ≡ true
    → NoMarkFault marks × NoFormsFault (punctuation_in marks) marks
unfolding is_good
no_faults marks e =
    let both = both_none (first_mark_fault (marks_in marks)) _ (none_is _ e) in
    let forms = both_none (forms_fault (punctuation_in marks) marks) (prefix_fault marks) both.1 in
    (no_mark_fault marks both.0, no_forms_fault (punctuation_in marks) marks forms.0)

line_by : (punct : List ℕ) (line : Option LineForm)
    → option_and_then mark_fault (option_map (λ form. form.marker) line) ≡ None
    → option_map_or (λ form. is_lead punct form.marker form.lead) line true ≡ true → IsLineGood punct line
line_by punct None mark lead = tt
line_by punct (Some form) mark lead = record {
  marker = mark_is form.marker mark;
  lead = follows punct form.marker form.lead lead;
}

block_by : (punct : List ℕ) (block : Option BlockForm)
    → option_and_then mark_fault (option_map (λ form. form.opener) block) ≡ None
    → option_and_then mark_fault (option_and_then (λ form. form.middle) block) ≡ None
    → option_and_then mark_fault (option_map (λ form. form.closer) block) ≡ None
    → option_and_then mark_fault (option_map (λ form. form.last_line) block) ≡ None
    → option_map_or (λ form. is_lead punct (unwrap_or form.middle []) form.lead) block true ≡ true
    → option_map_or (λ form. closes punct form.closer form.last_line) block true ≡ true
    → option_map_or (λ form. option_map_or is_middle form.middle true) block true ≡ true → IsBlockGood punct block
block_by punct None opener middle closer last_line lead ends short = tt
block_by punct (Some form) opener middle closer last_line lead ends short = record {
  opener = mark_is form.opener opener;
  middle = middles_are form.middle middle short;
  closer = mark_is form.closer closer;
  last_line = mark_is form.last_line last_line;
  lead = follows punct (unwrap_or form.middle []) form.lead lead;
  ends = closer_ends punct form.closer form.last_line ends;
}

apart_by : (line : Option LineForm) (block : Option BlockForm)
    → option_map_or (λ l. option_map_or (λ b. not (starts_with nat_eq l.marker b.opener) && not
    (starts_with nat_eq b.opener l.marker)) block true) line true ≡ true → AreFormsApart line block
apart_by None block e = tt
apart_by (Some line) None e = tt
apart_by (Some line) (Some block) e =
    let both = and_parts (not (starts_with nat_eq line.marker block.opener))
    (not (starts_with nat_eq block.opener line.marker)) e in
    record { marker = not_so _ both.0; opener = not_so _ both.1 }

-- ---- styles

module _ (style : GoodStyle) where
  leads_of : (option_map_or (λ form. is_lead (punctuation_of style) form.marker form.lead)
      (line_comment_of style) true ≡ true)
      × (option_map_or (λ form. is_lead (punctuation_of style) (unwrap_or form.middle []) form.lead)
      (block_comment_of style) true ≡ true)
  leads_of =
      and_parts (if_line (λ form. is_lead (punctuation_of style) form.marker form.lead) style.marks)
      (if_block (λ form. is_lead (punctuation_of style) (unwrap_or form.middle []) form.lead) style.marks)
      (no_faults style.marks style.good).1.leads

  pub line_good : IsLineGood (punctuation_of style) (line_comment_of style)
  line_good =
      line_by (punctuation_of style) (line_comment_of style) (no_faults style.marks style.good).0.marker leads_of.0

  pub block_good : IsBlockGood (punctuation_of style) (block_comment_of style)
  block_good =
      let both = no_faults style.marks style.good in
      block_by (punctuation_of style) (block_comment_of style) both.0.opener both.0.middle both.0.closer
      both.0.last_line leads_of.1 both.1.ends both.1.middle

  pub forms_apart : AreFormsApart (line_comment_of style) (block_comment_of style)
  forms_apart = apart_by (line_comment_of style) (block_comment_of style) (no_faults style.marks style.good).1.apart

-- ---- punctuation

signs_with : (signs : List ℕ) (b : ℕ) → list_all is_ascii_punctuation signs ≡ true
    → list_all is_ascii_punctuation (with_sign signs b) ≡ true
signs_with signs b e = by (is_ascii_punctuation b) (not (list_any (λ sign. sign == b) signs)) refl
  where
    by : (sign new : Bool) → is_ascii_punctuation b ≡ sign
        → list_all is_ascii_punctuation (cond (sign && new) (signs ++ b ∷ []) signs) ≡ true
    by true true is =
        list_all-append is_ascii_punctuation signs (b ∷ []) ∙ ap (λ (t : Bool). t && (is_ascii_punctuation b && true)) e
        ∙ ap (λ (t : Bool). t && true) is
    by true false is = e
    by false new is = e

all_signs : (signs bytes : List ℕ) → list_all is_ascii_punctuation signs ≡ true
    → list_all is_ascii_punctuation (fold with_sign signs bytes) ≡ true
all_signs signs [] e = e
all_signs signs (b ∷ bytes) e = all_signs (with_sign signs b) bytes (signs_with signs b e)

pub punctuation_is : (style : GoodStyle) → list_all is_ascii_punctuation (punctuation_of style) ≡ true
unfolding punctuation_in
punctuation_is style = all_signs [] (flat_map (λ mark. unwrap_or mark []) (marks_in style.marks)) refl

-- a byte that is no punctuation isn't that of a style
not_among : (signs : List ℕ) (b : ℕ) → list_all is_ascii_punctuation signs ≡ true → is_ascii_punctuation b ≡ false
    → list_any (λ sign. sign == b) signs ≡ false
not_among [] b e isnt = refl
not_among (sign ∷ signs) b e isnt =
    let both = and_parts (is_ascii_punctuation sign) (list_all is_ascii_punctuation signs) e in
    elim (truth (sign == b)) [
      | inl is ↦ (let same : sign ≡ b = eqb-true sign b is in
          absurd (false≢true (sym isnt ∙ ap is_ascii_punctuation (sym same) ∙ both.0)))
      | inr other ↦ ap (λ (t : Bool). t || list_any (λ s. s == b) signs) other ∙ not_among signs b both.1 isnt
    ]

pub no_punctuation : (style : GoodStyle) (b : ℕ) → is_ascii_punctuation b ≡ false
    → list_any (λ sign. sign == b) (punctuation_of style) ≡ false
no_punctuation style b isnt = not_among (punctuation_of style) b (punctuation_is style) isnt
