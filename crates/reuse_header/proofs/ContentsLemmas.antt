-- The contents that the lines of a written block are read as, and the tag of each.
use Rattle.std.proofs.Common.{◌≡◌, ℕ, suc, Bool, true, false, List, [], ◌∷◌, ◌++◌, length, length-append, take, drop}
use Rattle.std.proofs.Common.{append_assoc, map, nat_eq, Option, None, Some, refl, sym, ap, subst, ◌∙◌, inl, inr, arith}
use Rattle.std.specs.Prelude.{◌&&◌, ◌||◌, ◌==◌, unwrap_or, if◌then◌else◌}
use Rattle.std.specs.List.{list_all, list_any}
use Rattle.std.specs.Option.{option_map_or, option_to_list}
use Rattle.std.proofs.Math.Seq.{drop-length}
use Rattle.std.proofs.lemmas.Bool.{eqb-true}
use Rattle.std.proofs.lemmas.List.{append-nil}
use Rattle.reuse_notice.specs.declared.infos.Info.{Info}
use Rattle.reuse_notice.specs.Tags.{is_blank, is_filler, drop_front, drop_end, stripped, tag_in, tag_of}
use Rattle.reuse_style.specs.declared.style.Style.{Style}
use Rattle.reuse_style.specs.declared.marks.Form.{Form}
use Rattle.reuse_style.specs.declared.marks.Form.TheVariants.{Single, Multi}
use Rattle.reuse_header.specs.Ends.{is_return}
use Rattle.reuse_style.specs.Marks.{BlockForm}
use Rattle.reuse_style.specs.Styles.{punctuation_of, block_comment_of}
use Rattle.reuse_style.proofs.GoodLemmas.{IsGoodBlock}
use Rattle.reuse_header.specs.Marks.{LineMarks, marks_of}
use Rattle.reuse_header.specs.Blocks.{without_returns, without_middle, between_marks, single_content, multi_content}
use Rattle.reuse_header.specs.Blocks.{contents_from, contents_of}
use Rattle.reuse_header.specs.Writing.{neighbour_marks, inner_lines, block_lines}
use Rattle.std.proofs.lemmas.Bool.{cases_Bool as truth}
use Rattle.reuse_notice.proofs.BlankLemmas.{drop_end-all, dropped_end}
use Rattle.reuse_header.proofs.PartLemmas.{IsOfParts, of_middle}
use Rattle.reuse_header.proofs.MarkLemmas.{IsReader, or_true, first_or, all-weaker, all-front, all-back, all-ended}
use Rattle.reuse_header.proofs.MarkLemmas.{drop_front-all, drop_front-every, fillings_are_fillers, reads_line}
use Rattle.reuse_header.proofs.MarkLemmas.{reads_block}
use Rattle.reuse_header.proofs.FormLemmas.{of_line, of_block}

-- ---- the tag of a content

return_is_blank : (b : ℕ) → is_return b ≡ true → is_blank b ≡ true
return_is_blank b e = or_true (b == 32 || b == 9) (b == 13) e

blank_is_filler : (punct : List ℕ) (b : ℕ) → is_blank b ≡ true → is_filler punct b ≡ true
blank_is_filler punct b e = first_or (is_blank b) (list_any (λ p. nat_eq p b) punct) e

-- a tag is the same behind blank bytes and punctuation
pub tag_of-led : (punct lead text : List ℕ) → list_all (is_filler punct) lead ≡ true
    → tag_of punct (lead ++ text) ≡ tag_of punct text
tag_of-led punct lead text h =
    ap (λ (t : List ℕ). tag_in (drop_end is_blank t)) (drop_front-all (is_filler punct) lead text h)

-- and before blank bytes
stripped-blank : (punct content tail : List ℕ) → list_all is_blank tail ≡ true
    → stripped punct (content ++ tail) ≡ stripped punct content
unfolding drop_front
stripped-blank punct [] tail h =
    ap (drop_end is_blank) (drop_front-every (is_filler punct) tail
    (all-weaker is_blank (is_filler punct) (λ b e. blank_is_filler punct b e) tail h))
stripped-blank punct (c ∷ content) tail h = elim (truth (is_filler punct c)) [
  | inl e ↦ rw e (stripped-blank punct content tail h)
  | inr e ↦ rw e (drop_end-all is_blank (c ∷ content) tail h)
]

pub tag_of-returns : (punct content : List ℕ) → tag_of punct (without_returns content) ≡ tag_of punct content
tag_of-returns punct content =
    let d = dropped_end is_return content in
    let h = all-weaker is_return is_blank (λ b e. return_is_blank b e) d.0 d.2 in
    ap tag_in (sym (stripped-blank punct (without_returns content) d.0 h) ∙ ap (stripped punct) (sym d.1))

-- ---- how a form's lines are read

-- what a line between the first and the last says
pub inner_content : Style → Form → List ℕ → List ℕ
inner_content style Single line = single_content style line
inner_content style Multi line =
    without_returns (option_map_or (λ comment. between_marks comment false false line) (block_comment_of style) line)

pub the_reader : (style : Style) (form : Form) (marks : LineMarks) → marks_of style form ≡ Some marks
    → IsReader (punctuation_of style) (inner_content style form) marks
unfolding inner_content single_content between_marks
the_reader style Single marks e =
    of_line style marks (λ o m. IsReader (punctuation_of style)
    (λ line. without_returns (drop (option_map_or (λ form. length form.marker) o 0) line)) m) e
    (λ form is good. reads_line (punctuation_of style) form None None None good)
the_reader style Multi marks e =
    of_block style marks (λ o m. IsReader (punctuation_of style)
    (λ line. without_returns (option_map_or (λ form. between_marks form false false line) o line)) m) e
    (λ form is good.
    reads_block (punctuation_of style) form (Some form.opener) (Some form.last_line) (Some form.closer) good)

-- a neighbour's lines
pub neighbour_reader : IsReader [] (λ line. without_returns line) neighbour_marks
unfolding drop_front drop_end
neighbour_reader = record {
  rest = [];
  rest_blank = refl;
  lead = λ text. refl;
  mark = λ text. refl;
  separator_blank = refl;
  separator_tag = refl;
}

-- ---- the contents of a written block

not_last : (n : ℕ) → (suc n == 0) ≡ false
not_last n = elim (truth (suc n == 0)) [
  | inl e ↦ (let same = eqb-true (suc n) 0 e in absurd (omega (arith, same)))
  | inr e ↦ e
]

single_contents : (style : Style) (first : Bool) (lines rest : List (List ℕ))
    → contents_from style Single first (length lines) (lines ++ rest) ≡ map (inner_content style Single) lines
unfolding contents_from inner_content
single_contents style first [] rest = refl
single_contents style first (line ∷ lines) rest =
    ap (λ (cs : List (List ℕ)). single_content style line ∷ cs) (single_contents style false lines rest)

multi_contents : (style : Style) (lines : List (List ℕ)) (last : List ℕ) (rest : List (List ℕ))
    → multi_content style false true last ≡ None
    → contents_from style Multi false (suc (length lines)) (lines ++ last ∷ rest) ≡ map
    (inner_content style Multi) lines
unfolding contents_from inner_content multi_content
multi_contents style [] last rest e = ap (λ (o : Option (List ℕ)). option_to_list o ++ []) e
multi_contents style (line ∷ lines) last rest e =
    ap (λ (b : Bool). option_to_list (multi_content style false b line) ++ contents_from style Multi false
    (suc (length lines)) (lines ++ last ∷ rest)) (not_last (length lines))
    ∙ ap (λ (cs : List (List ℕ)). inner_content style Multi line ∷ cs) (multi_contents style lines last rest e)

-- the first and the last line of a form, which say nothing
Framed : Style → Form → LineMarks → Type 0
Framed style Single marks = (marks.first ≡ None) × (marks.last ≡ None)
Framed style Multi marks =
    (first : List ℕ) × (last : List ℕ) × (marks.first ≡ Some first) × (marks.last ≡ Some last)
    × (multi_content style true false first ≡ None) × (multi_content style false true last ≡ None)

-- what a line of a block says, as its comment reads it
read_by : List ℕ → Option BlockForm → Bool → Bool → List ℕ → Option (List ℕ)
read_by punct o is_first is_last line =
    let inner = without_returns (option_map_or (λ form. between_marks form is_first is_last line) o line) in
    if (is_first || is_last) && list_all (is_filler punct) inner then None else Some inner

-- the opener alone says nothing, nor does the last line
opener_says_nothing : (punct : List ℕ) (form : BlockForm) → read_by punct (Some form) true false form.opener ≡ None
unfolding read_by between_marks drop_end
opener_says_nothing punct form =
    ap (λ (rest : List ℕ). if list_all (is_filler punct) (without_returns rest) then None
    else Some (without_returns rest)) (drop-length form.opener)

all_of_parts : (test : ℕ → Bool) → IsOfParts (λ xs. list_all test xs ≡ true)
all_of_parts test = record { front = λ n xs e. all-front test n xs e; back = λ n xs e. all-back test n xs e }

last_says_nothing : (punct : List ℕ) (form : BlockForm) → IsGoodBlock punct form
    → read_by punct (Some form) false true form.last_line ≡ None
unfolding read_by between_marks
last_says_nothing punct form good =
    let ends = good.ends in
    let fillers = fillings_are_fillers punct (take ends.place form.last_line) ends.filled in
    let before = all-ended (is_filler punct) is_blank (take ends.place form.last_line) fillers in
    let inner = all-ended (is_filler punct) is_return _
    (of_middle (λ xs. list_all (is_filler punct) xs ≡ true) (all_of_parts (is_filler punct)) form.middle _ before) in
    let read = λ (o : Option ℕ). without_returns
    (without_middle form.middle (drop_end is_blank (take (unwrap_or o (length form.last_line)) form.last_line))) in
    ap (λ (o : Option ℕ). if list_all (is_filler punct) (read o) then None else Some (read o)) ends.found
    ∙ ap (λ (t : Bool). if t then None else Some (read (Some ends.place))) inner

nothing_read : (style : Style) (o : Option BlockForm) → block_comment_of style ≡ o
    → (is_first is_last : Bool) (line : List ℕ) → read_by (punctuation_of style) o is_first is_last line ≡ None
    → multi_content style is_first is_last line ≡ None
unfolding multi_content read_by
nothing_read style o is is_first is_last line none =
    subst (λ (p : Option BlockForm). read_by (punctuation_of style) p is_first is_last line ≡ None) (sym is) none

the_frame : (style : Style) (form : Form) (marks : LineMarks) → marks_of style form ≡ Some marks
    → Framed style form marks
unfolding Framed
the_frame style Single marks e =
    of_line style marks (λ o m. (m.first ≡ None) × (m.last ≡ None)) e (λ form is good. (refl, refl))
the_frame style Multi marks e =
    of_block style marks (λ o m. (first : List ℕ) × (last : List ℕ) × (m.first ≡ Some first) × (m.last ≡ Some last)
    × (multi_content style true false first ≡ None) × (multi_content style false true last ≡ None)) e
    (λ form is good. (
      form.opener,
      form.last_line,
      refl,
      refl,
      nothing_read style (Some form) is true false form.opener (opener_says_nothing (punctuation_of style) form),
      nothing_read style (Some form) is false true form.last_line
          (last_says_nothing (punctuation_of style) form good),
    ))

framed_contents : (style : Style) (first : List ℕ) (lines : List (List ℕ)) (last : List ℕ) (rest : List (List ℕ))
    → multi_content style true false first ≡ None → multi_content style false true last ≡ None
    → contents_from style Multi true (suc (suc (length lines))) (first ∷ (lines ++ last ∷ rest)) ≡ map
    (inner_content style Multi) lines
unfolding contents_from
framed_contents style first lines last rest a b =
    ap (λ (is_last : Bool). option_to_list (multi_content style true is_last first) ++ contents_from style Multi false
    (suc (length lines)) (lines ++ last ∷ rest)) (not_last (length lines))
    ∙ ap (λ (o : Option (List ℕ)). option_to_list o ++ contents_from style Multi false (suc (length lines))
    (lines ++ last ∷ rest)) a ∙ multi_contents style lines last rest b

-- a block's lines, of a form
with_frame : Option (List ℕ) → List (List ℕ) → Option (List ℕ) → List (List ℕ)
with_frame first lines last = option_to_list first ++ lines ++ option_to_list last

frame_contents : (style : Style) (form : Form) (marks : LineMarks) (lines rest : List (List ℕ))
    → Framed style form marks
    → contents_from style form true (length (with_frame marks.first lines marks.last))
    (with_frame marks.first lines marks.last ++ rest) ≡ map (inner_content style form) lines
unfolding Framed with_frame
frame_contents style Single marks lines rest (none, none') =
    ap (λ (o : Option (List ℕ)). contents_from style Single true (length (with_frame o lines marks.last))
    (with_frame o lines marks.last ++ rest)) none
    ∙ ap (λ (o : Option (List ℕ)). contents_from style Single true (length (with_frame None lines o))
    (with_frame None lines o ++ rest)) none'
    ∙ ap (λ (ls : List (List ℕ)). contents_from style Single true (length ls) (ls ++ rest)) (append-nil lines)
    ∙ single_contents style true lines rest
frame_contents style Multi marks lines rest (first, last, is_first, is_last, a, b) =
    let n : length (lines ++ last ∷ []) ≡ suc (length lines) = length-append lines (last ∷ []) ∙ (omega arith) in
    ap (λ (o : Option (List ℕ)). contents_from style Multi true (length (with_frame o lines marks.last))
    (with_frame o lines marks.last ++ rest)) is_first
    ∙ ap (λ (o : Option (List ℕ)). contents_from style Multi true (length (with_frame (Some first) lines o))
    (with_frame (Some first) lines o ++ rest)) is_last
    ∙ ap (λ (k : ℕ). contents_from style Multi true (suc k) (first ∷ ((lines ++ last ∷ []) ++ rest))) n
    ∙ ap (λ (ls : List (List ℕ)). contents_from style Multi true (suc (suc (length lines))) (first ∷ ls))
    (append_assoc lines (last ∷ []) rest)
    ∙ framed_contents style first lines last rest a b

pub block_contents : (style : Style) (form : Form) (marks : LineMarks) (info : Info) (rest : List (List ℕ))
    → marks_of style form ≡ Some marks
    → contents_of style (record { form = form; count = length (block_lines marks info) })
    (block_lines marks info ++ rest) ≡ map (inner_content style form) (inner_lines marks info)
unfolding block_lines with_frame
block_contents style form marks info rest e =
    frame_contents style form marks (inner_lines marks info) rest (the_frame style form marks e)
