-- The lines of a text and their contents are text.
use Rattle.std.proofs.Common.{◌≡◌, ℕ, ◌+◌, Bool, true, false, List, [], ◌∷◌, ◌++◌, length, length-append, length-take}
use Rattle.std.proofs.Common.{append_assoc, map, take, drop, Option, None, Some, refl, sym, ap, subst, ◌∙◌, inl, inr}
use Rattle.std.proofs.Common.{arith}
use Rattle.std.specs.Prelude.{◌||◌, ◌==◌, nat_eq, if◌then◌else◌}
use Rattle.std.specs.List.{starts_with}
use Rattle.std.specs.Str.{IsUtf8}
use lib.Utf8.{encode}
use Rattle.std.proofs.Math.Seq.{drop-append_seam, take-append_seam}
use Rattle.std.proofs.lemmas.Bool.{false≢true, eqb-true, cases_Bool as truth}
use Rattle.std.proofs.lemmas.Bool.Decides.{Decides-eqb}
use Rattle.std.proofs.lemmas.List.{append-nil, take-append-drop}
use Rattle.std.proofs.lemmas.Slice.Eq.{starts_is}
use Rattle.std.proofs.lemmas.Str.{IsUtf8-append}
use Rattle.reuse_text.specs.declared.LineKind.{LineKind}
use Rattle.reuse_text.specs.declared.LineKind.TheVariants.{Lf, Crlf}
use Rattle.reuse_text.specs.Text.{TextLine, AreLines, line_bytes, ending_bytes, lines_of, text_of, placed, file_lines}
use Rattle.reuse_text.specs.Text.{after_mark, mark_len_of, byte_order_mark}
use Rattle.reuse_notice.specs.Tags.{is_blank}
use Rattle.reuse_notice.proofs.SoundLemmas.{IsSound, is_low, sound_nil, sound_low, sound_append, sound_behind}
use Rattle.reuse_notice.proofs.SoundLemmas.{sound_to_low, sound_after, sound_end}
use Rattle.reuse_header.specs.Ends.{is_return}
use Rattle.reuse_header.specs.Body.{PlacedLines, is_barrier, open_contents}
use Rattle.reuse_header.specs.Blocks.{without_returns}
use Rattle.reuse_header.specs.Split.{bytes_of}
use Rattle.reuse_header.specs.Neighbour.{closed_lines}
use Rattle.reuse_header.proofs.SayableLemmas.{Each}
use Rattle.reuse_header.proofs.CutLemmas.{bytes_of-append, bytes_of-placed, mark_within}

-- ---- the mark

mark_utf8 : IsUtf8 byte_order_mark
unfolding encode
mark_utf8 = (65279 ∷ [], (refl, refl))

pub mark_sound : (file : List ℕ) → IsSound file → IsSound (take (mark_len_of file) file) × IsSound (after_mark file)
mark_sound file s = by (starts_with nat_eq file byte_order_mark) refl
  where
    by : (b : Bool) → starts_with nat_eq file byte_order_mark ≡ b
        → IsSound (take (if b then 3 else 0) file) × IsSound (drop (if b then 3 else 0) file)
    by true e =
        let is : file ≡ byte_order_mark ++ drop 3 file = (starts_is Decides-eqb file byte_order_mark _ refl).0 e in (
          subst IsSound (sym (ap (take 3) is)) (record { utf8 = mark_utf8; clean = refl }),
          sound_after file byte_order_mark e mark_utf8 s,
        )
    by false e = (sound_nil, s)

-- ---- the lines of a text

abbrev pub SoundLine : ℕ × TextLine → Type 0
SoundLine line = IsSound line.1.content

pub ending_sound : (kind : LineKind) → IsSound (ending_bytes (Some kind))
ending_sound Lf = sound_low (10 ∷ []) refl refl
ending_sound Crlf = sound_low (13 ∷ 10 ∷ []) refl refl

content_sound : (content rest : List ℕ) (kind : LineKind) → IsSound ((content ++ ending_bytes (Some kind)) ++ rest)
    → IsSound content
content_sound content rest Lf s =
    sound_to_low content rest 10 (subst IsSound (append_assoc content (10 ∷ []) rest) s) (omega arith)
content_sound content rest Crlf s =
    sound_to_low content (10 ∷ rest) 13 (subst IsSound (append_assoc content (13 ∷ 10 ∷ []) rest) s) (omega arith)

pub lines_sound : (lines : List TextLine) (start : ℕ) → AreLines lines → IsSound (text_of lines)
    → Each SoundLine (placed start lines)
unfolding Each
lines_sound [] start are s = tt
lines_sound (line ∷ lines) start are s =
    by line.ending refl (λ k. lines_sound lines (start + length (line_bytes line)) are.2 k)
  where
    whole : (o : Option LineKind) → line.ending ≡ o → IsSound ((line.content ++ ending_bytes o) ++ text_of lines)
    whole o is = subst (λ (e : Option LineKind). IsSound ((line.content ++ ending_bytes e) ++ text_of lines)) is s

    by : (o : Option LineKind) → line.ending ≡ o
        → (IsSound (text_of lines) → Each SoundLine (placed (start + length (line_bytes line)) lines))
        → IsSound line.content × Each SoundLine (placed (start + length (line_bytes line)) lines)
    by None is deep =
        let none : lines ≡ [] = are.1 is in
        let alone =
        subst (λ (ls : List TextLine). IsSound ((line.content ++ []) ++ text_of ls)) none (whole None is) in (
          subst IsSound (append-nil line.content) (subst IsSound (append-nil (line.content ++ [])) alone),
          deep (subst (λ (ls : List TextLine). IsSound (text_of ls)) (sym none) sound_nil),
        )
    by (Some kind) is deep =
        let all = whole (Some kind) is in
        let content = content_sound line.content (text_of lines) kind all in (
          content,
          deep (sound_behind (line.content ++ ending_bytes (Some kind)) (text_of lines) all
              (IsUtf8-append line.content (ending_bytes (Some kind)) content.utf8 (ending_sound kind).utf8)),
        )

pub open_sound : (lines : PlacedLines) → Each SoundLine lines → Each IsSound (open_contents lines)
unfolding Each
open_sound [] h = tt
open_sound (line ∷ lines) h = elim (truth (is_barrier line.1.content)) [
  | inl e ↦ rw e tt
  | inr e ↦ rw e (h.0, open_sound lines h.1)
]

pub closed_sound : (lines : PlacedLines) → Each SoundLine lines → Each SoundLine (closed_lines lines)
unfolding Each
closed_sound [] h = tt
closed_sound (line ∷ lines) h = elim (truth (is_barrier line.1.content)) [
  | inl e ↦ rw e h
  | inr e ↦ rw e (closed_sound lines h.1)
]

line_sound : (line : TextLine) → IsSound line.content → IsSound (line_bytes line)
line_sound line s = by line.ending
  where
    by : (o : Option LineKind) → IsSound (line.content ++ ending_bytes o)
    by None = subst IsSound (sym (append-nil line.content)) s
    by (Some kind) = sound_append line.content (ending_bytes (Some kind)) s (ending_sound kind)

pub bytes_sound : (lines : PlacedLines) → Each SoundLine lines → IsSound (bytes_of lines)
unfolding Each
bytes_sound [] h = sound_nil
bytes_sound (line ∷ lines) h =
    sound_append (line_bytes line.1) (bytes_of lines) (line_sound line.1 h.0) (bytes_sound lines h.1)

pub return_low : (b : ℕ) → is_return b ≡ true → is_low b ≡ true
return_low b e = ap is_low (eqb-true b 13 e)

pub blank_low : (b : ℕ) → is_blank b ≡ true → is_low b ≡ true
blank_low b e = by (b == 32) (b == 9) (b == 13) refl refl refl e
  where
    by : (x y z : Bool) → (b == 32) ≡ x → (b == 9) ≡ y → (b == 13) ≡ z → (x || y || z) ≡ true → is_low b ≡ true
    by true y z p q r h = ap is_low (eqb-true b 32 p)
    by false true z p q r h = ap is_low (eqb-true b 9 q)
    by false false true p q r h = ap is_low (eqb-true b 13 r)
    by false false false p q r h = absurd (false≢true h)

pub contents_sound : (cs : List (List ℕ)) → Each IsSound cs → Each IsSound (map without_returns cs)
unfolding Each
contents_sound [] h = tt
contents_sound (c ∷ cs) h = (sound_end is_return return_low c h.0, contents_sound cs h.1)

-- ---- a file, cut at one of its lines

-- the parts of a list of which each has a property
pub each_parts : {X : Type 0} (P : X → Type 0) (xs ys : List X) → Each P (xs ++ ys) → Each P xs × Each P ys
unfolding Each
each_parts P [] ys h = (tt, h)
each_parts P (x ∷ xs) ys h = let deep = each_parts P xs ys h.1 in ((h.0, deep.0), deep.1)

-- the bytes before the lines from some on, and theirs
pub cut_at_line : (file : List ℕ) (first last : PlacedLines) (place : ℕ)
    → text_of (lines_of (after_mark file)) ≡ after_mark file → file_lines file ≡ first ++ last
    → place ≡ mark_len_of file + length (bytes_of first)
    → (take place file ≡ take (mark_len_of file) file ++ bytes_of first) × (drop place file ≡ bytes_of last)
cut_at_line file first last place law lines at =
    let mark = take (mark_len_of file) file in
    let within = mark_within file in
    let n : length mark ≡ mark_len_of file = simp length-take (omega (arith, within)) in
    let size = length-append mark (bytes_of first) in
    let text : after_mark file ≡ bytes_of first ++ bytes_of last =
    sym law ∙ sym (bytes_of-placed (lines_of (after_mark file)) (mark_len_of file)) ∙ ap bytes_of lines
    ∙ bytes_of-append first last in
    let whole : file ≡ (mark ++ bytes_of first) ++ bytes_of last =
    sym (take-append-drop (mark_len_of file) file) ∙ ap (λ (xs : List ℕ). mark ++ xs) text
    ∙ sym (append_assoc mark (bytes_of first) (bytes_of last)) in
    let seam : place ≡ length (mark ++ bytes_of first) = omega (arith, at, n, size) in (
      ap (λ (k : ℕ). take k file) seam ∙ ap (take (length (mark ++ bytes_of first))) whole
          ∙ take-append_seam (mark ++ bytes_of first) (bytes_of last),
      ap (λ (k : ℕ). drop k file) seam ∙ ap (drop (length (mark ++ bytes_of first))) whole
          ∙ drop-append_seam (mark ++ bytes_of first) (bytes_of last),
    )
