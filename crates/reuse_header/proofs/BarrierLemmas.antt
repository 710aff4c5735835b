-- A neighbour file is cut at its first barrier.
use Rattle.std.proofs.Common.{◌≡◌, ℕ, ◌+◌, ◌-◌, false, List, [], ◌∷◌, ◌++◌, length, map, take, drop, refl, sym, ap, ◌∙◌}
use Rattle.std.proofs.Common.{append_assoc, inl, inr, arith, length-drop}
use Rattle.std.specs.Prelude.{All, if◌then◌else◌}
use Rattle.std.proofs.Math.Seq.{take-append_seam}
use Rattle.std.proofs.lemmas.List.{take-append-drop}
use Rattle.std.proofs.lemmas.List.Elements.{All-nil, All-cons}
use Rattle.reuse_text.specs.Text.{TextLine, lines_of, file_lines, after_mark, mark_len_of, text_of}
use Rattle.reuse_header.specs.Body.{PlacedLines, is_barrier, open_contents}
use Rattle.reuse_header.specs.Blocks.{without_returns}
use Rattle.reuse_header.specs.Split.{bytes_of}
use Rattle.reuse_header.specs.Neighbour.{closed_lines, neighbour_end}
use Rattle.reuse_header.specs.Laws.{part, BeginsClosed, IsCutAtBarrier}
use Rattle.std.proofs.lemmas.Bool.{cases_Bool as truth}
use Rattle.reuse_header.proofs.CutLemmas.{bytes_of-append, bytes_of-placed, place_behind, mark_within}

-- the lines before the first barrier
abbrev pub open_lines : PlacedLines → PlacedLines
open_lines [] = []
open_lines (line ∷ lines) = if is_barrier line.1.content then [] else line ∷ open_lines lines

abbrev IsOpen : ℕ × TextLine → Type 0
IsOpen line = is_barrier line.1.content ≡ false

pub lines_cut : (lines : PlacedLines) → lines ≡ open_lines lines ++ closed_lines lines
lines_cut [] = refl
lines_cut (line ∷ lines) = elim (truth (is_barrier line.1.content)) [
  | inl is ↦ rw is refl
  | inr isnt ↦ rw isnt (ap (λ (xs : PlacedLines). line ∷ xs) (lines_cut lines))
]

all_open : (lines : PlacedLines) → All IsOpen (open_lines lines)
all_open [] = All-nil IsOpen
all_open (line ∷ lines) = elim (truth (is_barrier line.1.content)) [
  | inl is ↦ rw is (All-nil IsOpen)
  | inr isnt ↦ rw isnt (All-cons IsOpen line (open_lines lines) isnt (all_open lines))
]

closed_begins : (lines : PlacedLines) → BeginsClosed (closed_lines lines)
closed_begins [] = tt
closed_begins (line ∷ lines) = elim (truth (is_barrier line.1.content)) [
  | inl is ↦ rw is is
  | inr isnt ↦ rw isnt (closed_begins lines)
]

contents_open : (lines : PlacedLines)
    → map without_returns (open_contents lines) ≡ map (λ line. without_returns line.1.content) (open_lines lines)
contents_open [] = refl
contents_open (line ∷ lines) = elim (truth (is_barrier line.1.content)) [
  | inl is ↦ rw is refl
  | inr isnt ↦ rw isnt (ap (λ (xs : List (List ℕ)). without_returns line.1.content ∷ xs) (contents_open lines))
]

-- the text behind the mark is that of the lines
text_cut : (file : List ℕ) → text_of (lines_of (after_mark file)) ≡ after_mark file
    → after_mark file ≡ bytes_of (open_lines (file_lines file)) ++ bytes_of (closed_lines (file_lines file))
text_cut file law =
    let lines = file_lines file in
    sym law ∙ sym (bytes_of-placed (lines_of (after_mark file)) (mark_len_of file)) ∙ ap bytes_of (lines_cut lines)
    ∙ bytes_of-append (open_lines lines) (closed_lines lines)

pub end_behind : (file : List ℕ) → text_of (lines_of (after_mark file)) ≡ after_mark file
    → neighbour_end file ≡ mark_len_of file + length (bytes_of (open_lines (file_lines file)))
end_behind file law =
    let lines = file_lines file in
    let whole : length file ≡ mark_len_of file + length (text_of (lines_of (after_mark file))) =
    omega (arith, ap length law, length-drop (mark_len_of file) file, mark_within file) in
    place_behind file (lines_of (after_mark file)) (mark_len_of file) (open_lines lines) (closed_lines lines)
    (lines_cut lines) whole

front_part : (file front back : List ℕ) (start end : ℕ) → drop start file ≡ front ++ back → end ≡ start + length front
    → front ≡ part file start end
front_part file front back start end cut is =
    let size : end - start ≡ length front = omega (arith, is) in
    sym (ap (λ (n : ℕ). take n (drop start file)) size ∙ ap (take (length front)) cut ∙ take-append_seam front back)

pub cut_at_barrier : (file : List ℕ) → text_of (lines_of (after_mark file)) ≡ after_mark file
    → (lines : PlacedLines) × IsCutAtBarrier file lines
cut_at_barrier file law =
    let lines = file_lines file in
    let before = bytes_of (open_lines lines) in
    let behind = bytes_of (closed_lines lines) in
    let mark = take (mark_len_of file) file in (
      open_lines lines,
      record {
        lines = lines_cut lines;
        are_open = all_open lines;
        begins_closed = closed_begins lines;
        whole = sym (take-append-drop (mark_len_of file) file)
            ∙ ap (λ (text : List ℕ). mark ++ text) (text_cut file law) ∙ sym (append_assoc mark before behind);
        bytes = front_part file before behind (mark_len_of file) (neighbour_end file) (text_cut file law)
            (end_behind file law);
        contents = contents_open lines;
      },
    )
