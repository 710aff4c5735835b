-- The places of lines within their file.
use Rattle.std.proofs.Common.{◌≡◌, ℕ, zero, suc, ◌+◌, ◌≤◌, true, List, [], ◌∷◌, length, length-append}
use Rattle.std.proofs.Common.{length-drop, drop}
use Rattle.std.proofs.Common.{refl, sym, ap, subst, ◌∙◌, inl, inr, arith}
use Rattle.std.specs.Prelude.{nat_eq}
use Rattle.std.specs.List.{starts_with}
use Rattle.std.proofs.lemmas.Bool.{and_parts}
use Rattle.reuse_text.specs.Text.{TextLine, line_bytes, text_of, lines_of, placed, file_lines, after_mark, mark_len_of}
use Rattle.reuse_text.specs.Text.{byte_order_mark}
use Rattle.reuse_style.specs.declared.style.Style.{Style}
use Rattle.reuse_header.specs.Body.{PlacedLines, is_barrier, body_lines, place_in}
use Rattle.reuse_header.specs.Neighbour.{closed_lines, neighbour_end}
use Rattle.reuse_header.proofs.PrefixLemmas.{body_rest}
use Rattle.std.proofs.lemmas.Bool.{cases_Bool as truth}

-- the last lines of a file, from a place on, and not before another one
pub record AreLast (file : List ℕ) (least : ℕ) (lines : PlacedLines) : Type 0 where
  pub start : ℕ
  pub texts : List TextLine
  pub later : least ≤ start
  pub are : lines ≡ placed start texts
  pub end : start + length (text_of texts) ≡ length file

last_place : (file : List ℕ) (start : ℕ) (texts : List TextLine) → start + length (text_of texts) ≡ length file
    → place_in file (placed start texts) ≡ start
last_place file start [] e = omega (arith, e)
last_place file start (t ∷ texts) e = refl

-- where they begin
pub last-place : {file : List ℕ} {least : ℕ} {lines : PlacedLines} → AreLast file least lines
    → (least ≤ place_in file lines) × (place_in file lines ≤ length file)
last-place {file = file} {lines = lines} last =
    let is = ap (place_in file) last.are ∙ last_place file last.start last.texts last.end in
    (omega (arith, is, last.later), omega (arith, is, last.end))

-- all but the first of them
last-next : (file : List ℕ) (least : ℕ) (line : ℕ × TextLine) (lines : PlacedLines) → AreLast file least (line ∷ lines)
    → AreLast file least lines
last-next file least line lines last = next last.start last.texts last.later last.are last.end
  where
    next : (start : ℕ) (texts : List TextLine) → least ≤ start → line ∷ lines ≡ placed start texts
        → start + length (text_of texts) ≡ length file → AreLast file least lines
    next start [] later are end = cc
    next start (t ∷ texts) later are end =
        let rest : lines ≡ placed (start + length (line_bytes t)) texts = cc in
        record {
          start = start + length (line_bytes t);
          texts = texts;
          later = omega (arith, later);
          are = rest;
          end = omega (arith, end, length-append (line_bytes t) (text_of texts));
        }

last-dropped : (file : List ℕ) (least n : ℕ) (lines : PlacedLines) → AreLast file least lines
    → AreLast file least (drop n lines)
last-dropped file least zero lines last = last
last-dropped file least (suc n) [] last = last
last-dropped file least (suc n) (line ∷ lines) last =
    last-dropped file least n lines (last-next file least line lines last)

pub last-closed : (file : List ℕ) (least : ℕ) (lines : PlacedLines) → AreLast file least lines
    → AreLast file least (closed_lines lines)
last-closed file least [] last = last
last-closed file least (line ∷ lines) last = elim (truth (is_barrier line.1.content)) [
  | inl e ↦ rw e last
  | inr e ↦ rw e (last-closed file least lines (last-next file least line lines last))
]

-- a mark is within the file
begins_within : (file text : List ℕ) → starts_with nat_eq file text ≡ true → length text ≤ length file
begins_within file [] e = omega arith
begins_within [] (t ∷ text) e = cc
begins_within (b ∷ file) (t ∷ text) e = omega (arith, begins_within file text (and_parts _ _ e).1)

mark_within : (file : List ℕ) → mark_len_of file ≤ length file
mark_within file = elim (truth (starts_with nat_eq file byte_order_mark)) [
  | inl e ↦ rw e (begins_within file byte_order_mark e)
  | inr e ↦ rw e (omega arith)
]

-- the lines of a file, if those of each text join to it
lines-last : (file : List ℕ) → text_of (lines_of (after_mark file)) ≡ after_mark file
    → AreLast file (mark_len_of file) (file_lines file)
lines-last file joined = record {
  start = mark_len_of file;
  texts = lines_of (after_mark file);
  later = omega arith;
  are = refl;
  end = omega (arith, ap length joined, length-drop (mark_len_of file) file, mark_within file);
}

module _ (joined : (text : List ℕ) → text_of (lines_of text) ≡ text) where
  pub body-within : (style : Style) (file : List ℕ) → place_in file (body_lines style (file_lines file)) ≤ length file
  body-within style file =
      let rest = body_rest style (file_lines file) in
      let last = lines-last file (joined (after_mark file)) in
      (last-place (subst (AreLast file (mark_len_of file)) (sym rest.1)
      (last-dropped file (mark_len_of file) rest.0 (file_lines file) last))).1

  pub neighbour_end-within : (file : List ℕ)
      → (mark_len_of file ≤ neighbour_end file) × (neighbour_end file ≤ length file)
  neighbour_end-within file =
      last-place (last-closed file (mark_len_of file) (file_lines file) (lines-last file (joined (after_mark file))))
