-- What the lines of a comment block say is text, where they are.
use Rattle.std.proofs.Common.{◌≡◌, ℕ, zero, suc, ◌+◌, ◌<◌, ◌≤◌, Bool, true, false, cond, List, [], ◌∷◌, ◌++◌, length}
use Rattle.std.proofs.Common.{take, drop, Option, None, Some, refl, sym, ap, subst, ◌∙◌, arith}
use Rattle.std.specs.Prelude.{◌&&◌, ◌||◌, ◌==◌, nat_eq, unwrap_or, option_and_then, if◌then◌else◌}
use Rattle.std.specs.List.{list_all, starts_with, prefix_len}
use Rattle.std.specs.Option.{option_map, option_map_or, option_to_list}
use Rattle.std.proofs.Math.Seq.{take-length}
use Rattle.std.proofs.lemmas.Bool.{false≢true, eqb-true, and_parts}
use Rattle.std.proofs.lemmas.Bool.Decides.{Decides-eqb}
use Rattle.std.proofs.lemmas.List.{take-append-drop}
use Rattle.std.proofs.lemmas.Slice.Eq.{starts_is}
use Rattle.reuse_notice.specs.Tags.{is_blank, drop_front, drop_end}
use Rattle.reuse_notice.proofs.SoundLemmas.{IsSound, is_low, low_is, sound_to_low, sound_after, sound_front, sound_end}
use Rattle.reuse_header.specs.declared.blocks.BlockSize.{BlockSize}
use Rattle.reuse_style.specs.declared.style.Style.{Style}
use Rattle.reuse_style.specs.declared.marks.Form.TheVariants.{Single, Multi}
use Rattle.reuse_style.specs.Search.{place_of}
use Rattle.reuse_header.specs.Ends.{is_return, is_indent}
use Rattle.reuse_style.specs.Marks.{LineForm, BlockForm, is_plain}
use Rattle.reuse_style.specs.Styles.{line_comment_of, block_comment_of, punctuation_of}
use Rattle.reuse_style.proofs.GoodLemmas.{IsLineGood, IsBlockGood, AreGoodMiddle, line_good, block_good}
use Rattle.reuse_header.specs.Blocks.{count_to_closer, multi_count, multi_lines, marked_lines, block_of, block_at}
use Rattle.reuse_header.specs.Blocks.{without_middle, between_marks, is_blank_content, single_content, multi_content}
use Rattle.reuse_header.specs.Blocks.{without_returns, contents_from, contents_of}
use Rattle.reuse_header.proofs.SayableLemmas.{Each, each_both, of_picked}
use Rattle.reuse_header.proofs.LineSoundLemmas.{blank_low, return_low}
use Rattle.reuse_header.proofs.MarkLemmas.{plain_is_low, plain_sound, lead_plain}

-- ---- the marks of the styles

-- the marks of a line's comment
abbrev pub AreLineMarks : Option LineForm → Type 0
AreLineMarks None = Unit {0}
AreLineMarks (Some comment) = IsSound comment.marker × IsSound comment.lead

pub line_marks : (style : Style) → AreLineMarks (line_comment_of style)
line_marks style = by (line_comment_of style) (line_good style)
  where
    by : (o : Option LineForm) → IsLineGood (punctuation_of style) o → AreLineMarks o
    by None good = tt
    by (Some form) good = (
      plain_sound form.marker good.marker.plain,
      plain_sound form.lead (lead_plain style form.marker form.lead good.marker.plain good.lead),
    )

-- the marks of a block's comment, whose closer begins with an ASCII byte
pub record IsBlockMarks (comment : BlockForm) : Type 0 where
  pub opener : IsSound comment.opener
  pub middle : Each IsSound (option_to_list comment.middle)
  pub last_line : IsSound comment.last_line
  pub lead : IsSound comment.lead
  pub first : ℕ
  pub rest : List ℕ
  pub closer : comment.closer ≡ first ∷ rest
  pub low : first < 128

abbrev pub AreBlockMarks : Option BlockForm → Type 0
AreBlockMarks None = Unit {0}
AreBlockMarks (Some comment) = IsBlockMarks comment

pub block_marks : (style : Style) → AreBlockMarks (block_comment_of style)
unfolding Each
block_marks style = by (block_comment_of style) (block_good style)
  where
    middle_plain : (middle : Option (List ℕ)) → AreGoodMiddle middle → list_all is_plain (unwrap_or middle []) ≡ true
    middle_plain None good = refl
    middle_plain (Some middle) good = good.0.plain

    middle_sound : (middle : Option (List ℕ)) → AreGoodMiddle middle → Each IsSound (option_to_list middle)
    middle_sound None good = tt
    middle_sound (Some middle) good = (plain_sound middle good.0.plain, tt)

    -- a mark has a first byte
    first_of : (mark front : List ℕ) (last : ℕ) → mark ≡ front ++ last ∷ []
        → (first : ℕ) × (rest : List ℕ) × (mark ≡ first ∷ rest)
    first_of mark [] last e = (last, [], e)
    first_of mark (x ∷ front) last e = (x, front ++ last ∷ [], e)

    by : (o : Option BlockForm) → IsBlockGood (punctuation_of style) o → AreBlockMarks o
    by None good = tt
    by (Some form) good =
        let f = first_of form.closer good.closer.front good.closer.last good.closer.is in
        let low : is_plain f.0 ≡ true =
        (and_parts (is_plain f.0) (list_all is_plain f.1) (ap (list_all is_plain) (sym f.2) ∙ good.closer.plain)).0 in
        record {
          opener = plain_sound form.opener good.opener.plain;
          middle = middle_sound form.middle good.middle;
          last_line = plain_sound form.last_line good.last_line.plain;
          lead = plain_sound form.lead
              (lead_plain style (unwrap_or form.middle []) form.lead (middle_plain form.middle good.middle) good.lead);
          first = f.0;
          rest = f.1;
          closer = f.2;
          low = low_is f.0 (plain_is_low f.0 low);
        }

-- ---- the closer

-- where a text is first found, it stands
found_stands : (text bytes : List ℕ) (place : ℕ) → place_of text bytes ≡ Some place
    → starts_with nat_eq (drop place bytes) text ≡ true
unfolding place_of
found_stands text [] place e = by (starts_with nat_eq [] text) refl e
  where
    by : (b : Bool) → starts_with nat_eq [] text ≡ b → (if b then Some 0 else None) ≡ Some place
        → starts_with nat_eq (drop place []) text ≡ true
    by true is f = let at : 0 ≡ place = cc f in subst (λ (n : ℕ). starts_with nat_eq (drop n []) text ≡ true) at is
    by false is f = absurd (let none : ⊥ = cc f in none)
found_stands text (b ∷ bytes) place e =
    by (starts_with nat_eq (b ∷ bytes) text) refl e (λ n is. found_stands text bytes n is)
  where
    later : (o : Option ℕ) → place_of text bytes ≡ o → option_map (λ k. suc k) o ≡ Some place
        → ((n : ℕ) → place_of text bytes ≡ Some n → starts_with nat_eq (drop n bytes) text ≡ true)
        → starts_with nat_eq (drop place (b ∷ bytes)) text ≡ true
    later None is f there = absurd (let none : ⊥ = cc f in none)
    later (Some n) is f there = let at : suc n ≡ place = cc f in
        subst (λ (m : ℕ). starts_with nat_eq (drop m (b ∷ bytes)) text ≡ true) at (there n is)

    by : (t : Bool) → starts_with nat_eq (b ∷ bytes) text ≡ t
        → (if t then Some 0 else option_map (λ k. suc k) (place_of text bytes)) ≡ Some place
        → ((n : ℕ) → place_of text bytes ≡ Some n → starts_with nat_eq (drop n bytes) text ≡ true)
        → starts_with nat_eq (drop place (b ∷ bytes)) text ≡ true
    by true is f there = let at : 0 ≡ place = cc f in
        subst (λ (n : ℕ). starts_with nat_eq (drop n (b ∷ bytes)) text ≡ true) at is
    by false is f there = later (place_of text bytes) refl f there

-- what stands before a closer
before_closer : (comment : BlockForm) → IsBlockMarks comment → (bytes : List ℕ) → IsSound bytes
    → IsSound (take (unwrap_or (place_of comment.closer bytes) (length bytes)) bytes)
before_closer comment marks bytes s = by (place_of comment.closer bytes) refl
  where
    by : (o : Option ℕ) → place_of comment.closer bytes ≡ o → IsSound (take (unwrap_or o (length bytes)) bytes)
    by None e = subst IsSound (sym (take-length bytes)) s
    by (Some place) e =
        let behind : drop place bytes ≡ comment.closer ++ drop (length comment.closer) (drop place bytes) =
        (starts_is Decides-eqb (drop place bytes) comment.closer _ refl).0
        (found_stands comment.closer bytes place e) in
        let more = drop (length comment.closer) (drop place bytes) in
        let whole : bytes ≡ take place bytes ++ marks.first ∷ (marks.rest ++ more) =
        sym (take-append-drop place bytes)
        ∙ ap (λ (xs : List ℕ). take place bytes ++ xs) (behind ∙ ap (λ (xs : List ℕ). xs ++ more) marks.closer) in
        sound_to_low (take place bytes) (marks.rest ++ more) marks.first (subst IsSound whole s) marks.low

-- ---- the contents of lines

indent_low : (b : ℕ) → is_indent b ≡ true → is_low b ≡ true
indent_low b e = by (b == 32) (b == 9) refl refl e
  where
    by : (x y : Bool) → (b == 32) ≡ x → (b == 9) ≡ y → (x || y) ≡ true → is_low b ≡ true
    by true y p q h = ap is_low (eqb-true b 32 p)
    by false true p q h = ap is_low (eqb-true b 9 q)
    by false false p q h = absurd (false≢true h)

middle_dropped : (middle : Option (List ℕ)) (content : List ℕ) → Each IsSound (option_to_list middle) → IsSound content
    → IsSound (without_middle middle content)
unfolding Each without_middle
middle_dropped None content m s = s
middle_dropped (Some middle) content m s = by (starts_with nat_eq (drop_front is_indent content) sign) refl
  where
    sign : List ℕ
    sign = drop_front is_indent middle

    by : (b : Bool) → starts_with nat_eq (drop_front is_indent content) sign ≡ b
        → IsSound (cond b (drop (length sign) (drop_front is_indent content)) content)
    by true e = sound_after (drop_front is_indent content) sign e (sound_front is_indent indent_low middle m.0).utf8
        (sound_front is_indent indent_low content s)
    by false e = s

between_sound : (comment : BlockForm) → IsBlockMarks comment → (is_first is_last : Bool) (content : List ℕ)
    → (is_first ≡ true → starts_with nat_eq content comment.opener ≡ true) → IsSound content
    → IsSound (between_marks comment is_first is_last content)
unfolding between_marks
between_sound comment marks is_first is_last content begins s = behind _ (closed is_last _ (opened is_first refl))
  where
    opened : (first : Bool) → is_first ≡ first
        → IsSound (if first then drop (length comment.opener) content else content)
    opened true e = sound_after content comment.opener (begins e) marks.opener.utf8 s
    opened false e = s

    closed : (last : Bool) (bytes : List ℕ) → IsSound bytes → IsSound (if last
        then drop_end is_blank (take (unwrap_or (place_of comment.closer bytes) (length bytes)) bytes) else bytes)
    closed true bytes f = sound_end is_blank blank_low _ (before_closer comment marks bytes f)
    closed false bytes f = f

    behind : (bytes : List ℕ) → IsSound bytes
        → IsSound (if is_first then bytes else without_middle comment.middle bytes)
    behind bytes f = of_picked IsSound is_first bytes (without_middle comment.middle bytes) f
        (middle_dropped comment.middle bytes marks.middle f)

-- a line of a block begins with its marker, and the first line of a block over several lines with its opener
abbrev BeginsMarked : Option LineForm → List ℕ → Type 0
BeginsMarked None line = Unit {0}
BeginsMarked (Some comment) line = starts_with nat_eq line comment.marker ≡ true

abbrev BeginsOpened : Option BlockForm → List ℕ → Type 0
BeginsOpened None line = Unit {0}
BeginsOpened (Some comment) line = starts_with nat_eq line comment.opener ≡ true

single_sound : (style : Style) (line : List ℕ) → BeginsMarked (line_comment_of style) line → IsSound line
    → IsSound (single_content style line)
unfolding single_content
single_sound style line begins s =
    sound_end is_return return_low _ (by (line_comment_of style) (line_marks style) begins)
  where
    by : (o : Option LineForm) → AreLineMarks o → BeginsMarked o line
        → IsSound (drop (option_map_or (λ comment. length comment.marker) o 0) line)
    by None marks h = s
    by (Some comment) marks h = sound_after line comment.marker h marks.0.utf8 s

multi_sound : (style : Style) (is_first is_last : Bool) (line : List ℕ)
    → (is_first ≡ true → BeginsOpened (block_comment_of style) line) → IsSound line
    → Each IsSound (option_to_list (multi_content style is_first is_last line))
unfolding Each multi_content
multi_sound style is_first is_last line begins s = by_test ((is_first || is_last) && is_blank_content style inner) inner
    (sound_end is_return return_low _ (by (block_comment_of style) (block_marks style) begins))
  where
    inner : List ℕ
    inner = without_returns
        (option_map_or (λ comment. between_marks comment is_first is_last line) (block_comment_of style) line)

    by : (o : Option BlockForm) → AreBlockMarks o → (is_first ≡ true → BeginsOpened o line)
        → IsSound (option_map_or (λ comment. between_marks comment is_first is_last line) o line)
    by None marks h = s
    by (Some comment) marks h = between_sound comment marks is_first is_last line h s

    by_test : (blank : Bool) (content : List ℕ) → IsSound content
        → Each IsSound (option_to_list (if blank then None else Some content))
    by_test true content h = tt
    by_test false content h = (h, tt)

-- the lines of a run all begin with the marker
run_begins : (test : List ℕ → Bool) (line : List ℕ) (lines : List (List ℕ)) (count : ℕ)
    → suc count ≤ prefix_len test (line ∷ lines) → (test line ≡ true) × (count ≤ prefix_len test lines)
run_begins test line lines count low = by (test line) refl low
  where
    by : (b : Bool) → test line ≡ b → suc count ≤ cond b (1 + prefix_len test lines) 0
        → (test line ≡ true) × (count ≤ prefix_len test lines)
    by true e h = (e, omega arith)
    by false e h = absurd (omega arith)

run_sound : (style : Style) (comment : LineForm) → line_comment_of style ≡ Some comment → (is_first : Bool) (count : ℕ)
    (lines : List (List ℕ)) → count ≤ prefix_len (λ content. starts_with nat_eq content comment.marker) lines
    → Each IsSound lines → Each IsSound (contents_from style Single is_first count lines)
unfolding Each contents_from
run_sound style comment has is_first zero lines low h = tt
run_sound style comment has is_first (suc count) [] low h = tt
run_sound style comment has is_first (suc count) (line ∷ lines) low h =
    let begins = run_begins (λ content. starts_with nat_eq content comment.marker) line lines count low in (
      single_sound style line (subst (λ (o : Option LineForm). BeginsMarked o line) (sym has) begins.0) h.0,
      run_sound style comment has false count lines begins.1 h.1,
    )

behind_sound : (style : Style) (count : ℕ) (lines : List (List ℕ)) → Each IsSound lines
    → Each IsSound (contents_from style Multi false count lines)
unfolding Each contents_from
behind_sound style zero lines h = tt
behind_sound style (suc count) [] h = tt
behind_sound style (suc count) (line ∷ lines) h =
    each_both IsSound (option_to_list (multi_content style false (count == 0) line))
    (contents_from style Multi false count lines)
    (multi_sound style false (count == 0) line (λ e. absurd (false≢true e)) h.0) (behind_sound style count lines h.1)

-- a block over several lines begins with its opener
opened_there : (comment : BlockForm) (line : List ℕ) (lines : List (List ℕ)) (count : ℕ)
    → multi_count comment (line ∷ lines) ≡ Some count → starts_with nat_eq line comment.opener ≡ true
unfolding multi_count
opened_there comment line lines count e = by (starts_with nat_eq line comment.opener) refl e
  where
    by : (b : Bool) → starts_with nat_eq line comment.opener ≡ b
        → (if b then count_to_closer comment.closer (drop (length comment.opener) line ∷ lines) else None) ≡ Some count
        → starts_with nat_eq line comment.opener ≡ true
    by true is f = is
    by false is f = absurd (let none : ⊥ = cc f in none)

several_sound : (style : Style) (count size : ℕ) (lines : List (List ℕ)) → multi_lines style lines ≡ Some count
    → Each IsSound lines → Each IsSound (contents_from style Multi true size lines)
unfolding Each contents_from multi_lines
several_sound style count zero lines e h = tt
several_sound style count (suc size) [] e h = tt
several_sound style count (suc size) (line ∷ lines) e h =
    each_both IsSound (option_to_list (multi_content style true (size == 0) line))
    (contents_from style Multi false size lines)
    (multi_sound style true (size == 0) line (λ first. by (block_comment_of style) e) h.0)
    (behind_sound style size lines h.1)
  where
    by : (o : Option BlockForm) → option_and_then (λ comment. multi_count comment (line ∷ lines)) o ≡ Some count
        → BeginsOpened o line
    by None f = tt
    by (Some comment) f = opened_there comment line lines count f

marked_sound : (style : Style) (is_first : Bool) (count : ℕ) (lines : List (List ℕ))
    → suc count ≤ marked_lines style lines → Each IsSound lines
    → Each IsSound (contents_from style Single is_first (suc count) lines)
unfolding marked_lines
marked_sound style is_first count lines low h = by (line_comment_of style) refl low
  where
    by : (o : Option LineForm) → line_comment_of style ≡ o → suc count ≤ option_map_or
        (λ comment. prefix_len (λ content. starts_with nat_eq content comment.marker) lines) o 0
        → Each IsSound (contents_from style Single is_first (suc count) lines)
    by None is f = absurd (omega arith)
    by (Some comment) is f = run_sound style comment is is_first (suc count) lines f h

-- the contents of a block that begins at the first line
pub block_contents_sound : (style : Style) (lines : List (List ℕ)) (block : BlockSize)
    → block_at style lines ≡ Some block → Each IsSound lines → Each IsSound (contents_of style block lines)
unfolding block_at
block_contents_sound style lines block e h = by (multi_lines style lines) (marked_lines style lines) refl refl e
  where
    by : (multi : Option ℕ) (run : ℕ) → multi_lines style lines ≡ multi → marked_lines style lines ≡ run
        → block_of multi run ≡ Some block → Each IsSound (contents_of style block lines)
    by (Some count) run is was f =
        let same : ◌≡◌ {A = BlockSize} (record { form = Multi; count = count }) block = cc f in
        subst (λ (b : BlockSize). Each IsSound (contents_of style b lines)) same
        (several_sound style count count lines is h)
    by None zero is was f = absurd (let none : ⊥ = cc f in none)
    by None (suc run) is was f =
        let same : ◌≡◌ {A = BlockSize} (record { form = Single; count = suc run }) block = cc f in
        subst (λ (b : BlockSize). Each IsSound (contents_of style b lines)) same
        (marked_sound style true run lines (omega (arith, was)) h)
