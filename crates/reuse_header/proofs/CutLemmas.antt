-- The bytes of a file, cut at the header block.
use Rattle.std.proofs.Common.{◌≡◌, ℕ, ◌+◌, ◌<◌, ◌≤◌, nat_eq, List, [], ◌∷◌, ◌++◌, length, length-append}
use Rattle.std.proofs.Common.{append_assoc, take, Option, None, Some, refl, sym, ap, subst, ◌∙◌, inl, inr, arith}
use Rattle.std.specs.Prelude.{MatchOption}
use Rattle.std.specs.List.{starts_with}
use Rattle.std.specs.Option.{option_map}
use Rattle.std.proofs.lemmas.List.{take-append-drop}
use Rattle.std.proofs.Common.{length-take}
use Rattle.reuse_text.specs.Text.{TextLine, line_bytes, text_of, lines_of, placed, file_lines, after_mark, mark_len_of}
use Rattle.reuse_text.specs.Text.{byte_order_mark}
use Rattle.reuse_style.specs.declared.style.Style.{Style}
use Rattle.reuse_header.specs.declared.finder.Block.{Block}
use Rattle.reuse_header.specs.Body.{PlacedLines, body_lines, open_contents}
use Rattle.reuse_header.specs.Body.{place_in}
use Rattle.reuse_header.specs.Header.{Header, HeaderSpan, span_in, header_of}
use Rattle.reuse_header.specs.Split.{IsSplit, IsHeaderBlock, HasNoHeader, bytes_of, size_of}
use Rattle.reuse_header.specs.Found.{block_view}
use Rattle.reuse_header.specs.Annotation.{prefix_lines}
use Rattle.std.proofs.lemmas.Bool.{cases_Bool as truth}
use Rattle.reuse_style.proofs.PlaceLemmas.{front_occurs}
use Rattle.reuse_header.proofs.SplitLemmas.{begins_in-within, split_found, split_only}
use Rattle.reuse_header.proofs.PrefixLemmas.{prefix_body}

-- ---- the bytes of lines

pub bytes_of-append : (xs ys : PlacedLines) → bytes_of (xs ++ ys) ≡ bytes_of xs ++ bytes_of ys
bytes_of-append [] ys = refl
bytes_of-append (x ∷ xs) ys =
    ap (λ (bytes : List ℕ). line_bytes x.1 ++ bytes) (bytes_of-append xs ys)
    ∙ sym (append_assoc (line_bytes x.1) (bytes_of xs) (bytes_of ys))

pub bytes_of-placed : (lines : List TextLine) (start : ℕ) → bytes_of (placed start lines) ≡ text_of lines
bytes_of-placed [] start = refl
bytes_of-placed (line ∷ lines) start =
    ap (λ (bytes : List ℕ). line_bytes line ++ bytes) (bytes_of-placed lines (start + length (line_bytes line)))

same_line : (a b : ℕ × TextLine) (xs ys : PlacedLines) → (a ∷ xs) ≡ (b ∷ ys) → (a ≡ b) × (xs ≡ ys)
same_line a b xs ys e = (cc, cc)

-- the place of the first line behind some lines
pub place_behind : (file : List ℕ) (lines : List TextLine) (start : ℕ) (front back : PlacedLines)
    → placed start lines ≡ front ++ back → length file ≡ start + length (text_of lines)
    → place_in file back ≡ start + length (bytes_of front)
place_behind file lines start (x ∷ front) back e whole =
    behind lines e whole (λ ls n f w. place_behind file ls n front back f w)
  where
    behind : (lines : List TextLine) → placed start lines ≡ x ∷ (front ++ back)
        → length file ≡ start + length (text_of lines)
        → ((ls : List TextLine) (n : ℕ) → placed n ls ≡ front ++ back → length file ≡ n + length (text_of ls)
        → place_in file back ≡ n + length (bytes_of front))
        → place_in file back ≡ start + length (line_bytes x.1 ++ bytes_of front)
    behind [] e whole ih = absurd (let none : ⊥ = cc in none)
    behind (line ∷ lines) e whole ih =
        let both = same_line (start, line) x (placed (start + length (line_bytes line)) lines) (front ++ back) e in
        let n = length-append (line_bytes line) (text_of lines) in
        let there = ih lines (start + length (line_bytes line)) both.1 (omega (arith, whole, n)) in
        let m = length-append (line_bytes x.1) (bytes_of front) in
        let same = ap (λ (l : ℕ × TextLine). length (line_bytes l.1)) both.0 in
        there ∙ (omega (arith, m, same))
place_behind file [] start [] [] e whole = whole
place_behind file [] start [] (b ∷ back) e whole = absurd (let none : ⊥ = cc in none)
place_behind file (line ∷ lines) start [] [] e whole = absurd (let none : ⊥ = cc in none)
place_behind file (line ∷ lines) start [] (b ∷ back) e whole =
    let both = same_line (start, line) b (placed (start + length (line_bytes line)) lines) back e in
    let same = ap (λ (l : ℕ × TextLine). l.0) (sym both.0) in
    omega (arith, same)

place_of_first : (file : List ℕ) (block after : PlacedLines) → 0 < length block
    → place_in file block ≡ place_in file (block ++ after)
place_of_first file [] after some = absurd (omega arith)
place_of_first file (x ∷ block) after some = refl

-- ---- the lines before the body

pub before_body : (style : Style) (lines : PlacedLines)
    → (front : PlacedLines) × (lines ≡ front ++ body_lines style lines)
before_body style lines = (prefix_lines style lines, prefix_body style lines)

-- ---- the cut

pub mark_within : (file : List ℕ) → mark_len_of file ≤ length file
mark_within file = elim (truth (starts_with nat_eq file byte_order_mark)) [
  | inl e ↦ (let o = front_occurs byte_order_mark file e in rw e (omega (arith, o.fits)))
  | inr e ↦ rw e (omega arith)
]

-- a file by its lines before the block, the block's and those after
cut_at : (style : Style) (file : List ℕ) (before : PlacedLines) (h : Header) → text_of
    (lines_of (after_mark file)) ≡ after_mark file → IsSplit style (body_lines style (file_lines file)) before h
    → IsHeaderBlock style file (span_in file h)
cut_at style file before h law s =
    let some = (begins_in-within style (open_contents (body_lines style (file_lines file))) 0 (length before)
    (size_of h) s.begins_there).0 in
    let mark = take (mark_len_of file) file in
    let pre = before_body style (file_lines file) in
    let first : PlacedLines = pre.0 ++ before in
    let all : file_lines file ≡ first ++ (h.block ++ h.after) =
    pre.1 ∙ ap (λ (xs : PlacedLines). pre.0 ++ xs) s.joined ∙ sym (append_assoc pre.0 before (h.block ++ h.after)) in
    let fits = mark_within file in
    let marked : length mark ≡ mark_len_of file = simp length-take (omega (arith, fits)) in
    let whole : mark ++ after_mark file ≡ file = take-append-drop (mark_len_of file) file in
    let text = sym law ∙ sym (bytes_of-placed (lines_of (after_mark file)) (mark_len_of file)) ∙ ap bytes_of all
    ∙ bytes_of-append first (h.block ++ h.after)
    ∙ ap (λ (xs : List ℕ). bytes_of first ++ xs) (bytes_of-append h.block h.after) in
    let n : length file ≡ mark_len_of file + length (text_of (lines_of (after_mark file))) =
    ap length (sym whole) ∙ length-append mark (after_mark file) ∙ ap (λ (k : ℕ). k + length (after_mark file)) marked
    ∙ ap (λ (xs : List ℕ). mark_len_of file + length xs) (sym law) in
    let front : List ℕ = mark ++ bytes_of first in
    let size = length-append mark (bytes_of first) in
    let starts = place_behind file (lines_of (after_mark file)) (mark_len_of file) first (h.block ++ h.after) all n in
    let ends = place_behind file (lines_of (after_mark file)) (mark_len_of file) (first ++ h.block) h.after
    (all ∙ sym (append_assoc first h.block h.after)) n in
    let wide = ap length (bytes_of-append first h.block) ∙ length-append (bytes_of first) (bytes_of h.block) in (
      before,
      h,
      front,
      record {
        split = s;
        form = refl;
        contents = refl;
        bytes = sym whole ∙ ap (λ (xs : List ℕ). mark ++ xs) text
            ∙ sym (append_assoc mark (bytes_of first) (bytes_of h.block ++ bytes_of h.after));
        start = place_of_first file h.block h.after some ∙ (omega (arith, starts, size, marked));
        end = omega (arith, ends, wide, size, marked);
      },
    )

pub block_cuts : (style : Style) (file : List ℕ) (found : Option Block)
    → text_of (lines_of (after_mark file)) ≡ after_mark file
    → option_map block_view found ≡ option_map (span_in file) (header_of style file)
    → MatchOption found (HasNoHeader style file) (λ block. IsHeaderBlock style file (block_view block))
block_cuts style file found law e = by_both found (header_of style file) refl e
  where
    by_both : (found : Option Block) (header : Option Header) → header_of style file ≡ header
        → option_map block_view found ≡ option_map (span_in file) header
        → MatchOption found (HasNoHeader style file) (λ block. IsHeaderBlock style file (block_view block))
    by_both None None is e =
        λ before h s. (let there = split_only style (body_lines style (file_lines file)) before h s in
        absurd (let none : ⊥ = cc in none))
    by_both None (Some h) is e = absurd (let none : ⊥ = cc in none)
    by_both (Some b) None is e = absurd (let none : ⊥ = cc in none)
    by_both (Some b) (Some h) is e =
        let there = split_found style (body_lines style (file_lines file)) h is in
        let same : span_in file h ≡ block_view b = cc in
        subst (λ (span : HeaderSpan). IsHeaderBlock style file span) same (cut_at style file there.0 h law there.1)

pub span_cuts : (style : Style) (file : List ℕ) (span : HeaderSpan)
    → text_of (lines_of (after_mark file)) ≡ after_mark file
    → option_map (span_in file) (header_of style file) ≡ Some span → IsHeaderBlock style file span
span_cuts style file span law e = by_header (header_of style file) refl e
  where
    by_header : (header : Option Header) → header_of style file ≡ header → option_map (span_in file) header ≡ Some span
        → IsHeaderBlock style file span
    by_header None is e = absurd (let none : ⊥ = cc in none)
    by_header (Some h) is e =
        let there = split_found style (body_lines style (file_lines file)) h is in
        let same : span_in file h ≡ span = cc in
        subst (λ (s : HeaderSpan). IsHeaderBlock style file s) same (cut_at style file there.0 h law there.1)

pub none_cuts : (style : Style) (file : List ℕ) → header_of style file ≡ None → HasNoHeader style file
none_cuts style file e = λ before h s.
    (let there = split_only style (body_lines style (file_lines file)) before h s in absurd (let none : ⊥ = cc in none))

-- ---- the place behind the prefix lines

pub file_size : (file : List ℕ) → text_of (lines_of (after_mark file)) ≡ after_mark file
    → length file ≡ mark_len_of file + length (text_of (lines_of (after_mark file)))
file_size file law =
    let mark = take (mark_len_of file) file in
    let fits = mark_within file in
    let marked : length mark ≡ mark_len_of file = simp length-take (omega (arith, fits)) in
    ap length (sym (take-append-drop (mark_len_of file) file)) ∙ length-append mark (after_mark file)
    ∙ ap (λ (k : ℕ). k + length (after_mark file)) marked ∙ ap (λ (xs : List ℕ). mark_len_of file + length xs) (sym law)

-- a header block begins no earlier than the lines behind the prefix lines
pub body_first : (style : Style) (file : List ℕ) (span : HeaderSpan) → text_of
    (lines_of (after_mark file)) ≡ after_mark file → option_map (span_in file) (header_of style file) ≡ Some span
    → place_in file (body_lines style (file_lines file)) ≤ span.start
body_first style file span law e = by_header (header_of style file) refl e
  where
    by_header : (header : Option Header) → header_of style file ≡ header → option_map (span_in file) header ≡ Some span
        → place_in file (body_lines style (file_lines file)) ≤ span.start
    by_header None is e = absurd (let none : ⊥ = cc in none)
    by_header (Some h) is e =
        let there = split_found style (body_lines style (file_lines file)) h is in
        let same : place_in file h.block ≡ span.start = let e' : span_in file h ≡ span = cc in
        ap (λ (s : HeaderSpan). s.start) e' in
        let some = (begins_in-within style (open_contents (body_lines style (file_lines file))) 0 (length there.0)
        (size_of h) there.1.begins_there).0 in
        let pre = before_body style (file_lines file) in
        let n = file_size file law in
        let body = place_behind file (lines_of (after_mark file)) (mark_len_of file) pre.0
        (body_lines style (file_lines file)) pre.1 n in
        let all : file_lines file ≡ (pre.0 ++ there.0) ++ (h.block ++ h.after) =
        pre.1 ∙ ap (λ (xs : PlacedLines). pre.0 ++ xs) there.1.joined
        ∙ sym (append_assoc pre.0 there.0 (h.block ++ h.after)) in
        let starts = place_behind file (lines_of (after_mark file)) (mark_len_of file) (pre.0 ++ there.0)
        (h.block ++ h.after) all n in
        let wide = ap length (bytes_of-append pre.0 there.0) ∙ length-append (bytes_of pre.0) (bytes_of there.0) in
        let first = place_of_first file h.block h.after some in
        omega (arith, same, body, starts, wide, first)

-- a header block lies within its file
pub block_within : (style : Style) (file : List ℕ) (span : HeaderSpan) → IsHeaderBlock style file span
    → (span.start ≤ span.end) × (span.end ≤ length file)
block_within style file span (before, h, front, at) =
    let n = ap length at.bytes ∙ length-append front (bytes_of h.block ++ bytes_of h.after)
    ∙ ap (λ (k : ℕ). length front + k) (length-append (bytes_of h.block) (bytes_of h.after)) in
    (omega (arith, at.start, at.end), omega (arith, at.start, at.end, n))

pub body_within : (style : Style) (file : List ℕ) → text_of (lines_of (after_mark file)) ≡ after_mark file
    → place_in file (body_lines style (file_lines file)) ≤ length file
body_within style file law =
    let pre = before_body style (file_lines file) in
    let n = file_size file law in
    let body = place_behind file (lines_of (after_mark file)) (mark_len_of file) pre.0
    (body_lines style (file_lines file)) pre.1 n in
    let all = sym (bytes_of-placed (lines_of (after_mark file)) (mark_len_of file)) ∙ ap bytes_of pre.1
    ∙ bytes_of-append pre.0 (body_lines style (file_lines file)) in
    let m = ap length all ∙ length-append (bytes_of pre.0) (bytes_of (body_lines style (file_lines file))) in
    omega (arith, n, body, m)
