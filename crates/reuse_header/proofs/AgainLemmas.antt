-- The written block as it is found in the new file.
use Rattle.std.proofs.Common.{◌≡◌, ℕ, zero, suc, ◌+◌, ◌<◌, ◌≤◌, Bool, true, false, List, [], ◌∷◌, ◌++◌, length}
use Rattle.std.proofs.Common.{length-append, append_assoc, take, drop, map, length-take, Option, None, Some, refl, sym}
use Rattle.std.proofs.Common.{ap, subst, ◌∙◌, inl, inr, arith}
use Rattle.std.specs.Prelude.{◌==◌, ◌&&◌, All}
use Rattle.std.specs.Option.{option_map, option_map_or, option_to_list}
use Rattle.std.proofs.lemmas.Bool.{false≢true, eqb-true}
use Rattle.std.proofs.Math.Seq.{drop-append_seam, take-append_seam}
use Rattle.std.proofs.lemmas.List.{take-append-drop, length-map, append-nil}
use Rattle.std.proofs.Common.{length-drop}
use Rattle.reuse_text.specs.declared.LineKind.{LineKind}
use Rattle.reuse_text.specs.Text.{TextLine, AreLines, IsLine, line_bytes, text_of, lines_of, placed, file_lines}
use Rattle.reuse_text.specs.Text.{after_mark, mark_len_of, ending_bytes}
use Rattle.reuse_style.specs.declared.style.Style.{Style}
use Rattle.reuse_style.specs.declared.marks.Form.{Form}
use Rattle.reuse_style.specs.declared.marks.Form.TheVariants.{Single, Multi}
use Rattle.reuse_header.specs.declared.blocks.BlockSize.{BlockSize}
use Rattle.reuse_style.specs.Marks.{LineForm, BlockForm}
use Rattle.reuse_style.specs.Styles.{line_comment_of, block_comment_of, punctuation_of}
use Rattle.reuse_style.proofs.GoodLemmas.{IsGoodLine}
use Rattle.reuse_header.specs.Marks.{LineMarks, marks_of_line, marks_of}
use Rattle.reuse_header.specs.Blocks.{multi_lines, marked_lines, block_of, block_at, contents_of}
use Rattle.reuse_header.specs.Body.{PlacedLines, is_barrier, open_contents, body_lines}
use Rattle.reuse_header.specs.Header.{Header, HeaderSpan, lines_inside, span_in, header_of}
use Rattle.reuse_header.specs.Split.{IsHeaderAt, begins_in, size_of, bytes_of}
use Rattle.reuse_header.specs.Annotation.{Edit, edited, text_start, text_end, stands_at}
use Rattle.reuse_notice.specs.declared.infos.Info.{Info}
use Rattle.reuse_notice.specs.Tags.{is_blank, drop_end}
use Rattle.reuse_header.specs.Writing.{ended_by, contributor_text, licence_text, joined, set_off, separator_of}
use Rattle.reuse_header.specs.Writing.{holder_lines, licence_lines, free_lines, inner_lines, block_lines}
use Rattle.std.proofs.lemmas.Bool.{cases_Bool as truth}
use Rattle.reuse_header.proofs.SplitLemmas.{begins_in-nil, begins_in-within}
use Rattle.reuse_header.proofs.CountLemmas.{block_at-within}
use Rattle.reuse_header.proofs.ClosingLemmas.{open_contents-drop}
use Rattle.reuse_header.proofs.CutLemmas.{before_body}
use Rattle.reuse_header.proofs.SayableLemmas.{Each, each_both}
use Rattle.reuse_header.proofs.FormLemmas.{of_line, of_block}
use Rattle.reuse_header.proofs.MarkLemmas.{whole_mark, no_multi_behind, no_run_behind}

-- ---- where the block stands

both : (a b : Bool) → (a && b) ≡ true → (a ≡ true) × (b ≡ true)
both true b e = (refl, e)
both false b e = absurd (false≢true e)

-- the header block of the new file is what stands from one place to the other
pub stands_there : (style : Style) (file : List ℕ) (start end : ℕ) → stands_at style file start end ≡ true
    → (span : HeaderSpan) × (option_map (span_in file) (header_of style file) ≡ Some span) × (span.start ≡ start)
    × (span.end ≡ end)
stands_there style file start end e = by_span (option_map (span_in file) (header_of style file)) refl e
  where
    by_span : (found : Option HeaderSpan) → option_map (span_in file) (header_of style file) ≡ found
        → option_map_or (λ span. span.start == start && span.end == end) found false ≡ true
        → (span : HeaderSpan) × (option_map (span_in file) (header_of style file) ≡ Some span) × (span.start ≡ start)
        × (span.end ≡ end)
    by_span None is e = absurd (false≢true e)
    by_span (Some span) is e =
        let h = both (span.start == start) (span.end == end) e in
        (span, is, eqb-true span.start start h.0, eqb-true span.end end h.1)

-- the bytes between two places of three texts that are joined
pub middle : (a b c a' b' c' : List ℕ) → a ++ (b ++ c) ≡ a' ++ (b' ++ c') → length a ≡ length a'
    → length b ≡ length b' → b ≡ b'
middle a b c a' b' c' e p q =
    let front = sym (drop-append_seam a (b ++ c)) ∙ ap (drop (length a)) e ∙ ap (λ (k : ℕ). drop k (a' ++ (b' ++ c'))) p
    ∙ drop-append_seam a' (b' ++ c') in
    sym (take-append_seam b c) ∙ ap (take (length b)) front ∙ ap (λ (k : ℕ). take k (b' ++ c')) q
    ∙ take-append_seam b' c'

-- ---- the lines of the block

bare : PlacedLines → List TextLine
bare lines = map (λ line. line.1) lines

bare-append : (xs ys : PlacedLines) → bare (xs ++ ys) ≡ bare xs ++ bare ys
unfolding bare
bare-append [] ys = refl
bare-append (x ∷ xs) ys = ap (λ (ls : List TextLine). x.1 ∷ ls) (bare-append xs ys)

bare-placed : (lines : List TextLine) (start : ℕ) → bare (placed start lines) ≡ lines
unfolding bare
bare-placed [] start = refl
bare-placed (line ∷ lines) start =
    ap (λ (ls : List TextLine). line ∷ ls) (bare-placed lines (start + length (line_bytes line)))

bare-bytes : (lines : PlacedLines) → text_of (bare lines) ≡ bytes_of lines
unfolding bare
bare-bytes [] = refl
bare-bytes (line ∷ lines) = ap (λ (bytes : List ℕ). line_bytes line.1 ++ bytes) (bare-bytes lines)

lines-behind : (xs ys : List TextLine) → AreLines (xs ++ ys) → AreLines ys
lines-behind [] ys a = a
lines-behind (x ∷ xs) ys a = lines-behind xs ys a.2

front_nil : (xs ys : List TextLine) → (xs ++ ys) ≡ [] → xs ≡ []
front_nil [] ys e = refl
front_nil (x ∷ xs) ys e = absurd (let none : ⊥ = cc in none)

lines-before : (xs ys : List TextLine) → AreLines (xs ++ ys) → AreLines xs
lines-before [] ys a = tt
lines-before (x ∷ xs) ys a = (a.0, λ e. front_nil xs ys (a.1 e), lines-before xs ys a.2)

-- lines that are all ended by a kind
unfoldable pub ended_lines : LineKind → List (List ℕ) → List TextLine
ended_lines kind contents = map (λ content. record { content = content; ending = Some kind }) contents

pub ended_lines-text : (kind : LineKind) (contents : List (List ℕ))
    → text_of (ended_lines kind contents) ≡ ended_by kind contents
unfolding ended_lines
ended_lines-text kind [] = refl
ended_lines-text kind (c ∷ contents) =
    ap (λ (bytes : List ℕ). (c ++ ending_bytes (Some kind)) ++ bytes) (ended_lines-text kind contents)

pub ended_lines-are : (kind : LineKind) (contents : List (List ℕ))
    → All (λ c. IsLine (record { content = c; ending = Some kind })) contents → AreLines (ended_lines kind contents)
unfolding ended_lines
ended_lines-are kind [] h = tt
ended_lines-are kind (c ∷ contents) h = (
  h 0 c (omega arith),
  λ e. absurd (let none : ⊥ = cc in none),
  ended_lines-are kind contents (λ k d low. h (suc k) d (omega arith)),
)

ended_lines-contents : (kind : LineKind) (contents : List (List ℕ))
    → map (λ (line : TextLine). line.content) (ended_lines kind contents) ≡ contents
unfolding ended_lines
ended_lines-contents kind [] = refl
ended_lines-contents kind (c ∷ contents) = ap (λ (cs : List (List ℕ)). c ∷ cs) (ended_lines-contents kind contents)

-- lines of a file whose bytes are those of some contents, each ended, have these contents
pub contents_again : ((text : List ℕ) → AreLines (lines_of text))
    → ((text : List ℕ) (lines : List TextLine) → AreLines lines → text_of lines ≡ text → lines ≡ lines_of text)
    → (file : List ℕ) (front block after : PlacedLines) (kind : LineKind) (contents : List (List ℕ))
    → file_lines file ≡ front ++ (block ++ after) → bytes_of block ≡ ended_by kind contents
    → All (λ c. IsLine (record { content = c; ending = Some kind })) contents
    → map (λ (line : ℕ × TextLine). line.1.content) block ≡ contents
unfolding bare
contents_again well only file front block after kind contents all same good =
    let ls = lines_of (after_mark file) in
    let parts : ls ≡ bare front ++ (bare block ++ bare after) =
    sym (bare-placed ls (mark_len_of file)) ∙ ap bare all ∙ bare-append front (block ++ after)
    ∙ ap (λ (xs : List TextLine). bare front ++ xs) (bare-append block after) in
    let are : AreLines (bare front ++ (bare block ++ bare after)) = subst AreLines parts (well (after_mark file)) in
    let block_are = lines-before (bare block) (bare after) (lines-behind (bare front) (bare block ++ bare after) are) in
    let a = only (bytes_of block) (bare block) block_are (bare-bytes block) in
    let b = only (ended_by kind contents) (ended_lines kind contents) (ended_lines-are kind contents good)
    (ended_lines-text kind contents) in
    map-map block ∙ ap (map (λ (line : TextLine). line.content)) (a ∙ ap lines_of same ∙ sym b)
    ∙ ended_lines-contents kind contents
  where
    map-map : (lines : PlacedLines)
        → map (λ (line : ℕ × TextLine). line.1.content) lines ≡ map (λ (line : TextLine). line.content) (bare lines)
    map-map [] = refl
    map-map (line ∷ lines) = ap (λ (cs : List (List ℕ)). line.1.content ∷ cs) (map-map lines)

-- the open contents at a place are those of the lines there
pub open-take : (lines : PlacedLines) (count : ℕ) → count ≤ length (open_contents lines)
    → take count (open_contents lines) ≡ map (λ (line : ℕ × TextLine). line.1.content) (take count lines)
open-take lines zero low = refl
open-take [] (suc count) low = refl
open-take (line ∷ lines) (suc count) low = elim (truth (is_barrier line.1.content)) [
  | inl e ↦ (let h = rw e at low in absurd (omega (arith, h)))
  | inr e ↦ (let h = rw e at low in
      rw e (ap (λ (cs : List (List ℕ)). line.1.content ∷ cs) (open-take lines count (omega (arith, h)))))
]

-- ---- the form of the block that is found

begins_in-at : (style : Style) (contents : List (List ℕ)) (inside line : ℕ) (block : BlockSize)
    → begins_in style inside contents line ≡ Some block → block_at style (drop line contents) ≡ Some block
unfolding begins_in
begins_in-at style [] inside line block e = absurd (none_found (sym (begins_in-nil style inside line) ∙ e))
  where
    none_found : None ≡ Some block → ⊥
    none_found e = cc
begins_in-at style (c ∷ contents) zero zero block e = e
begins_in-at style (c ∷ contents) zero (suc line) block e =
    begins_in-at style contents (lines_inside (block_at style (c ∷ contents))) line block e
begins_in-at style (c ∷ contents) (suc inside) zero block e = absurd (let none : ⊥ = cc in none)
begins_in-at style (c ∷ contents) (suc inside) (suc line) block e = begins_in-at style contents inside line block e

form_multi : (multi : Option ℕ) (run : ℕ) (size : BlockSize) → run ≡ 0 → block_of multi run ≡ Some size
    → size.form ≡ Multi
form_multi (Some count) run size none e = sym (ap (λ (b : BlockSize). b.form) (same_size _ size e))
  where
    same_size : (a b : BlockSize) → Some a ≡ Some b → a ≡ b
    same_size a b e = cc
form_multi None zero size none e = absurd (let no : ⊥ = cc in no)
form_multi None (suc n) size none e = absurd (omega (arith, none))

form_single : (multi : Option ℕ) (run : ℕ) (size : BlockSize) → multi ≡ None → block_of multi run ≡ Some size
    → size.form ≡ Single
form_single (Some count) run size none e = absurd (let no : ⊥ = cc in no)
form_single None zero size none e = absurd (let no : ⊥ = cc in no)
form_single None (suc n) size none e = sym (ap (λ (b : BlockSize). b.form) (same_size _ size e))
  where
    same_size : (a b : BlockSize) → Some a ≡ Some b → a ≡ b
    same_size a b e = cc

-- the marks of a form are those of its comments
record MarksOfLine (style : Style) (marks : LineMarks) : Type 0 where
  form : LineForm
  has : line_comment_of style ≡ Some form
  are : marks_of_line form ≡ marks
  good : IsGoodLine (punctuation_of style) form

line_marks : (style : Style) (marks : LineMarks) → marks_of style Single ≡ Some marks → MarksOfLine style marks
line_marks style marks e = of_line style marks (λ o m. MarksOfLine style m) e
    (λ form is good. record { form = form; has = is; are = refl; good = good })

opener_of : (style : Style) (marks : LineMarks) → marks_of style Multi ≡ Some marks
    → (form : BlockForm) × (block_comment_of style ≡ Some form) × (marks.first ≡ Some form.opener)
opener_of style marks e =
    of_block style marks
    (λ o m. (form : BlockForm) × (block_comment_of style ≡ Some form) × (m.first ≡ Some form.opener)) e
    (λ form is good. (form, is, refl))

single_form : (style : Style) (marks : LineMarks) (line : List ℕ) (lines : List (List ℕ)) (size : BlockSize)
    → marks_of style Single ≡ Some marks
    → block_at style ((marks.mark ++ line) ∷ lines) ≡ Some size → size.form ≡ Single
unfolding block_at
single_form style marks line lines size is e =
    let m = line_marks style marks is in
    let none = subst (λ (ms : LineMarks). multi_lines style ((ms.mark ++ line) ∷ lines) ≡ None) m.are
    (no_multi_behind style m.form line lines m.has) in
    form_single (multi_lines style ((marks.mark ++ line) ∷ lines))
    (marked_lines style ((marks.mark ++ line) ∷ lines)) size none e

multi_form : (style : Style) (form : BlockForm) (lines : List (List ℕ)) (size : BlockSize)
    → block_comment_of style ≡ Some form
    → block_at style (form.opener ∷ lines) ≡ Some size → size.form ≡ Multi
unfolding block_at
multi_form style form lines size has e =
    form_multi (multi_lines style (form.opener ∷ lines)) (marked_lines style (form.opener ∷ lines)) size
    (no_run_behind style form lines has) e

the_size : Form → ℕ → BlockSize
the_size form count = record { form = form; count = count }

-- ---- the parts of the new file

pub parts_again : (a f t b d : List ℕ) → (a ++ (f ++ (t ++ b))) ++ d ≡ (a ++ f) ++ (t ++ (b ++ d))
parts_again a f t b d = simp append_assoc

-- the bytes of the block that is found are those that were written
pub found_bytes : (style : Style) (file : List ℕ) (edit : Edit) (span : HeaderSpan) (before : PlacedLines) (h : Header)
    (front : List ℕ) → edit.start ≤ length file
    → span.start ≡ text_start edit → span.end ≡ text_end edit → IsHeaderAt style (edited file edit) span before h front
    → bytes_of h.block ≡ edit.text
found_bytes style file edit span before h front fits starts ends at =
    let a = take edit.start file ++ edit.front in
    let d = edit.back ++ drop (edit.start + edit.old_len) file in
    let n : length (take edit.start file) ≡ edit.start = simp length-take (omega (arith, fits)) in
    let size = length-append (take edit.start file) edit.front in
    middle front (bytes_of h.block) (bytes_of h.after) a edit.text d
    (sym at.bytes
    ∙ parts_again (take edit.start file) edit.front edit.text edit.back (drop (edit.start + edit.old_len) file))
    (omega (arith, at.start, starts, n, size)) (omega (arith, at.start, at.end, starts, ends))

-- the contents of the block that is found are read from the lines that were written
pub found_contents : ((text : List ℕ) → AreLines (lines_of text))
    → ((text : List ℕ) (lines : List TextLine) → AreLines lines → text_of lines ≡ text → lines ≡ lines_of text)
    → (style : Style) (file : List ℕ) (span : HeaderSpan) (before : PlacedLines) (h : Header) (front : List ℕ)
    (kind : LineKind) (contents : List (List ℕ)) → IsHeaderAt style file span before h front
    → bytes_of h.block ≡ ended_by kind contents
    → All (λ c. IsLine (record { content = c; ending = Some kind })) contents
    → (rest : List (List ℕ))
    × (block_at style (contents ++ rest) ≡ Some (record { form = h.form; count = length contents }))
    × (span.contents ≡ contents_of style (record { form = h.form; count = length contents }) (contents ++ rest))
unfolding the_size
found_contents well only style file span before h front kind contents at same good =
    let lines = body_lines style (file_lines file) in
    let cs = open_contents lines in
    let s = at.split in
    let within = begins_in-within style cs 0 (length before) (size_of h) s.begins_there in
    let pre = before_body style (file_lines file) in
    let all : file_lines file ≡ (pre.0 ++ before) ++ (h.block ++ h.after) =
    pre.1 ∙ ap (λ (xs : PlacedLines). pre.0 ++ xs) s.joined ∙ sym (append_assoc pre.0 before (h.block ++ h.after)) in
    let again = contents_again well only file (pre.0 ++ before) h.block h.after kind contents all same good in
    let few : length before ≤ length cs = omega (arith, within.1) in
    let behind : drop (length before) lines ≡ h.block ++ h.after =
    ap (drop (length before)) s.joined ∙ drop-append_seam before (h.block ++ h.after) in
    let opened : open_contents (h.block ++ h.after) ≡ drop (length before) cs =
    ap open_contents (sym behind) ∙ open_contents-drop lines (length before) few in
    let n = ap length opened ∙ length-drop (length before) cs in
    let low : length h.block ≤ length (open_contents (h.block ++ h.after)) = omega (arith, n, within.1) in
    let first : take (length h.block) (drop (length before) cs) ≡ contents =
    ap (take (length h.block)) (sym opened) ∙ open-take (h.block ++ h.after) (length h.block) low
    ∙ ap (map (λ (line : ℕ × TextLine). line.1.content)) (take-append_seam h.block h.after) ∙ again in
    let count : length h.block ≡ length contents =
    sym (length-map h.block (λ (line : ℕ × TextLine). line.1.content)) ∙ ap length again in
    let rest = drop (length h.block) (drop (length before) cs) in
    let whole : drop (length before) cs ≡ contents ++ rest =
    sym (take-append-drop (length h.block) (drop (length before) cs)) ∙ ap (λ (xs : List (List ℕ)). xs ++ rest) first in
    let size = ap (λ (k : ℕ). the_size h.form k) count in (
      rest,
      ap (block_at style) (sym whole) ∙ begins_in-at style cs 0 (length before) (size_of h) s.begins_there
          ∙ ap (λ (b : BlockSize). Some b) size,
      at.contents ∙ s.contents ∙ ap (contents_of style (size_of h)) whole
          ∙ ap (λ (b : BlockSize). contents_of style b (contents ++ rest)) size,
    )

-- ---- the first line of a block

module _ (P : List ℕ → Type 0) where
  each-map : (f : List ℕ → List ℕ) (xs : List (List ℕ)) → ((x : List ℕ) → P (f x)) → Each P (map f xs)
  unfolding Each
  each-map f [] h = tt
  each-map f (x ∷ xs) h = (h x, each-map f xs h)

  pub each-joined : (separator : List ℕ) (xs ys : List (List ℕ)) → P separator → Each P xs → Each P ys
      → Each P (joined separator xs ys)
  unfolding Each
  each-joined separator [] ys p a b = b
  each-joined separator (x ∷ xs) [] p a b = each_both P (x ∷ xs) [] a tt
  each-joined separator (x ∷ xs) (y ∷ ys) p a b = each_both P (x ∷ xs) (separator ∷ y ∷ ys) a (p, b)

  pub each-set_off : (separator : List ℕ) (xs : List (List ℕ)) → P separator → Each P xs → Each P (set_off separator xs)
  unfolding Each
  each-set_off separator [] p a = tt
  each-set_off separator (x ∷ xs) p a = (p, a)

  each-inner : (marks : LineMarks) (info : Info) → P (separator_of marks) → ((t : List ℕ) → P (marks.lead ++ t))
      → ((c : List ℕ) → P (marks.mark ++ c)) → Each P (inner_lines marks info)
  unfolding inner_lines
  each-inner marks info p led marked =
      each_both P (joined (separator_of marks) (holder_lines marks info) (licence_lines marks info))
      (set_off (separator_of marks) (free_lines marks info))
      (each-joined (separator_of marks) (holder_lines marks info) (licence_lines marks info) p
      (each_both P (map (λ t. marks.lead ++ t) info.notices)
      (map (λ v. marks.lead ++ contributor_text v) info.contributors)
      (each-map (λ t. marks.lead ++ t) info.notices (λ t. led t))
      (each-map (λ v. marks.lead ++ contributor_text v) info.contributors (λ v. led (contributor_text v))))
      (each-map (λ v. marks.lead ++ licence_text v) info.licences (λ v. led (licence_text v))))
      (each-set_off (separator_of marks) (free_lines marks info) p
      (each-map (λ c. marks.mark ++ c) info.free (λ c. marked c)))

-- a line that begins with the marker
Marked : LineMarks → List ℕ → Type 0
Marked marks line = (more : List ℕ) × (line ≡ marks.mark ++ more)

single_lines : (style : Style) (marks : LineMarks) (info : Info) → marks_of style Single ≡ Some marks
    → Each (Marked marks) (inner_lines marks info)
unfolding Marked
single_lines style marks info is =
    let m = line_marks style marks is in
    let follows = m.good.lead in
    let written : LineMarks = record {
      lead = m.form.lead;
      mark = m.form.marker;
      first = None;
      last = None;
      closer = None;
    } in
    let separated : separator_of written ≡ written.mark ++ drop_end is_blank follows.rest =
    ap (drop_end is_blank) follows.is ∙ whole_mark m.form.marker follows.rest m.good.marker in
    subst (λ (ms : LineMarks). Each (Marked ms) (inner_lines ms info)) m.are
    (each-inner (Marked written) written info (drop_end is_blank follows.rest, separated)
    (λ t. (follows.rest ++ t, ap (λ (l : List ℕ). l ++ t) follows.is ∙ append_assoc written.mark follows.rest t))
    (λ c. (c, refl)))

-- the form of the block that begins with written lines
pub form_again : (style : Style) (form : Form) (marks : LineMarks) (info : Info) (rest : List (List ℕ))
    (size : BlockSize) → marks_of style form ≡ Some marks
    → block_at style (block_lines marks info ++ rest) ≡ Some size → size.count ≡ length (block_lines marks info)
    → size.form ≡ form
unfolding block_lines Each Marked
form_again style Single marks info rest size is e n =
    let frame =
    subst (λ (ms : LineMarks). (ms.first ≡ None) × (ms.last ≡ None)) (line_marks style marks is).are (refl, refl) in
    let plain : block_lines marks info ≡ inner_lines marks info =
    ap (λ (o : Option (List ℕ)). option_to_list o ++ inner_lines marks info ++ option_to_list marks.last) frame.0
    ∙ ap (λ (o : Option (List ℕ)). inner_lines marks info ++ option_to_list o) frame.1
    ∙ append-nil (inner_lines marks info) in
    let some = (block_at-within style (block_lines marks info ++ rest) size e).0 in
    by_lines (inner_lines marks info) (single_lines style marks info is)
    (ap (λ (ls : List (List ℕ)). block_at style (ls ++ rest)) (sym plain) ∙ e)
    (let k = ap length plain in omega (arith, some, n, k))
  where
    first_line : (line : List ℕ) (lines : List (List ℕ)) (more : List ℕ) → line ≡ marks.mark ++ more
        → block_at style (line ∷ (lines ++ rest)) ≡ Some size → size.form ≡ Single
    first_line line lines more begins e = single_form style marks more (lines ++ rest) size is
        (ap (λ (l : List ℕ). block_at style (l ∷ (lines ++ rest))) (sym begins) ∙ e)

    by_lines : (lines : List (List ℕ)) → Each (Marked marks) lines → block_at style (lines ++ rest) ≡ Some size
        → 0 < length lines → size.form ≡ Single
    by_lines [] h e some = absurd (omega arith)
    by_lines (line ∷ lines) h e some = first_line line lines h.0.0 h.0.1 e
form_again style Multi marks info rest size is e n =
    let opens = opener_of style marks is in
    let lines = (inner_lines marks info ++ option_to_list marks.last) ++ rest in
    let begun : block_at style (opens.0.opener ∷ lines) ≡ Some size =
    ap (λ (o : Option (List ℕ)). block_at style
    ((option_to_list o ++ inner_lines marks info ++ option_to_list marks.last) ++ rest)) (sym opens.2) ∙ e in
    multi_form style opens.0 lines size opens.1 begun
