-- A draft of an edit, from what is written.
use Rattle.std.proofs.Common.{◌≡◌, ℕ, ◌+◌, ◌-◌, ◌≤◌, ◌<◌, Bool, true, false, List, [], ◌∷◌, ◌++◌, length, length-append}
use Rattle.std.proofs.Common.{length-drop, take, drop, Option, None, Some, refl, sym, ap, ◌∙◌, append_assoc, arith}
use Rattle.std.specs.Prelude.{◌||◌, nat_le, if◌then◌else◌}
use Rattle.std.proofs.lemmas.List.{length-take-le}
use Rattle.std.proofs.lemmas.Bool.Decides.{nat_tests}
use Rattle.reuse_text.specs.declared.TheConstants.{LONGEST_FILE}
use Rattle.reuse_text.specs.declared.LineKind.{LineKind}
use Rattle.reuse_text.specs.declared.LineKind.TheVariants.{Lf, Crlf}
use Rattle.reuse_text.specs.Text.{is_empty, spliced}
use Rattle.reuse_header.specs.declared.place.Place.{Place}
use Rattle.reuse_header.specs.declared.writer.LineWriter.{LineWriter}
use Rattle.reuse_header.specs.declared.writer.Format.{Format}
use Rattle.reuse_header.specs.Writing.{ended_by}
use Rattle.reuse_header.specs.Annotation.{ending_if, edited}
use Rattle.reuse_header.specs.Bounded.{with_more, written, Writes}
use Rattle.reuse_header.specs.Drafts.{edit_at, IsDraft}
use Rattle.reuse_header.proofs.BoundedLemmas.{writes_more}
use Rattle.reuse_header.proofs.WritingLemmas.{ended_by-append}

-- what stood before more bytes that there was room for
before_more : (room : ℕ) (text : Option (List ℕ)) (more new : List ℕ) → with_more room text more ≡ Some new
    → (front : List ℕ) × (text ≡ Some front) × (new ≡ front ++ more)
before_more room None more new e = cc
before_more room (Some bytes) more new e = from (is_empty more || nat_le (length (bytes ++ more)) room) e
  where
    from : (b : Bool) → (if b then Some (bytes ++ more) else None) ≡ Some new
        → (front : List ℕ) × (Some bytes ≡ Some front) × (new ≡ front ++ more)
    from true e = (bytes, refl, cc)
    from false e = cc

pub written-before : {a b : LineWriter} {lines : List (List ℕ)} {new : List ℕ} → Writes a b lines → written b ≡ Some new
    → (front : List ℕ) × (written a ≡ Some front) × (new ≡ front ++ ended_by a.format.kind lines)
written-before {a = a} {lines = lines} {new = new} one e =
    before_more a.format.room (written a) (ended_by a.format.kind lines) new (sym one.text ∙ e)

same_some : {x y : List ℕ} → Some x ≡ Some y → x ≡ y
same_some e = cc

-- what is written is all that a writer holds
held : (full : Bool) (bytes new : List ℕ) → (if full then None else Some bytes) ≡ Some new → bytes ≡ new
held true bytes new e = cc
held false bytes new e = cc

-- from nothing, there is room for some bytes, or they are too many
is_room : (room n : ℕ) → nat_le n room ≡ true → n ≤ room
is_room room n e = grind (arith, nat_tests)

no_room : (room n : ℕ) → nat_le n room ≡ false → room < n
no_room room n e = grind (arith, nat_tests)

some_fit : (room : ℕ) (more new : List ℕ) → with_more room (Some []) more ≡ Some new → length more ≤ room
some_fit room [] new e = omega arith
some_fit room (x ∷ xs) new e = from (nat_le (length (x ∷ xs)) room) refl e
  where
    from : (b : Bool) → nat_le (length (x ∷ xs)) room ≡ b → (if b then Some (x ∷ xs) else None) ≡ Some new
        → length (x ∷ xs) ≤ room
    from true is e = is_room room (length (x ∷ xs)) is
    from false is e = cc

none_fit : (room : ℕ) (more : List ℕ) → with_more room (Some []) more ≡ None → room < length more
none_fit room [] e = cc
none_fit room (x ∷ xs) e = from (nat_le (length (x ∷ xs)) room) refl e
  where
    from : (b : Bool) → nat_le (length (x ∷ xs)) room ≡ b → (if b then Some (x ∷ xs) else None) ≡ None
        → room < length (x ∷ xs)
    from true is e = cc
    from false is e = no_room room (length (x ∷ xs)) is

-- an empty line is one ending
empty_line : (wanted : Bool) (kind : LineKind) → ended_by kind (if wanted then [] ∷ [] else []) ≡ ending_if wanted kind
empty_line true Lf = refl
empty_line true Crlf = refl
empty_line false kind = refl

-- how long the file is that an edit makes
length-spliced : (file new : List ℕ) (start n : ℕ) → start + n ≤ length file
    → length (spliced file start n new) ≡ (length file - n) + length new
length-spliced file new start n within =
    omega (
      arith,
      length-append (take start file ++ new) (drop (start + n) file),
      length-append (take start file) new,
      length-drop (start + n) file,
      length-take-le start file (omega arith),
    )

-- the steps of a draft, from a writer with room for the bytes that a file may have besides those it keeps
pub record Steps (place : Place) (kind : LineKind) (room : ℕ) (lines : List (List ℕ))
    (w0 w1 w2 w3 w4 : LineWriter) : Type 0 where
  pub format : w0.format ≡ record { kind = kind; room = room }
  pub nothing : written w0 ≡ Some []
  pub first : Writes w0 w1 (if place.ends_line then [] ∷ [] else [])
  pub second : Writes w1 w2 (if place.empty_before then [] ∷ [] else [])
  pub block : Writes w2 w3 lines
  pub last : Writes w3 w4 (if place.empty_behind then [] ∷ [] else [])

module _ (place : Place) (kind : LineKind) (room : ℕ) (lines : List (List ℕ)) {w0 w1 w2 w3 w4 : LineWriter}
    (steps : Steps place kind room lines w0 w1 w2 w3 w4) where
  abbrev first_lines : List (List ℕ)
  first_lines = if place.ends_line then [] ∷ [] else []

  abbrev second_lines : List (List ℕ)
  second_lines = if place.empty_before then [] ∷ [] else []

  abbrev last_lines : List (List ℕ)
  last_lines = if place.empty_behind then [] ∷ [] else []

  abbrev first_end : List ℕ
  first_end = ending_if place.ends_line kind

  abbrev second_end : List ℕ
  second_end = ending_if place.empty_before kind

  abbrev back : List ℕ
  back = ending_if place.empty_behind kind

  abbrev front : List ℕ
  front = first_end ++ second_end

  abbrev text : List ℕ
  text = ended_by kind lines

  abbrev all : List ℕ
  all = front ++ (text ++ back)

  front-bytes : ended_by kind (first_lines ++ second_lines) ≡ front
  front-bytes =
      ended_by-append kind first_lines second_lines
      ∙ ap (λ bytes. bytes ++ ended_by kind second_lines) (empty_line place.ends_line kind)
      ∙ ap (λ bytes. first_end ++ bytes) (empty_line place.empty_before kind)

  all-bytes : ended_by kind (((first_lines ++ second_lines) ++ lines) ++ last_lines) ≡ all
  all-bytes =
      ended_by-append kind ((first_lines ++ second_lines) ++ lines) last_lines
      ∙ ap (λ bytes. bytes ++ ended_by kind last_lines)
      (ended_by-append kind (first_lines ++ second_lines) lines ∙ ap (λ bytes. bytes ++ text) front-bytes)
      ∙ ap (λ bytes. (front ++ text) ++ bytes) (empty_line place.empty_behind kind)
      ∙ append_assoc front text back

  -- all that is written
  whole : written w4 ≡ with_more room (Some []) all
  whole =
      let last = writes_more (writes_more (writes_more steps.first steps.second) steps.block) steps.last in
      last.text
      ∙ ap (λ (before : Option (List ℕ)). with_more w0.format.room before
      (ended_by w0.format.kind (((first_lines ++ second_lines) ++ lines) ++ last_lines))) steps.nothing
      ∙ ap (λ (format : Format). with_more format.room (Some [])
      (ended_by format.kind (((first_lines ++ second_lines) ++ lines) ++ last_lines))) steps.format
      ∙ ap (with_more room (Some [])) all-bytes

  module _ (file : List ℕ) (within : place.start + place.old_len ≤ length file) (short : length file ≤ LONGEST_FILE)
      (is_room : room ≡ LONGEST_FILE - (length file - place.old_len)) where
    pub too_long : written w4 ≡ None → LONGEST_FILE < length (edited file (edit_at place kind text))
    too_long none =
        let over = none_fit room all (sym whole ∙ none) in
        omega (arith, over, is_room, short, within, length-spliced file all place.start place.old_len within)

    module _ (new : List ℕ) (some : written w4 ≡ Some new) where
      fits : length all ≤ room
      fits = some_fit room all new (sym whole ∙ some)

      new-is : new ≡ all
      new-is = from_nothing (before_more room (Some []) all new (sym whole ∙ some))
        where
          from_nothing : (front : List ℕ) × (Some [] ≡ Some front) × (new ≡ front ++ all) → new ≡ all
          from_nothing (front, none, is) = cc

      -- the bytes before the last lines, and before the text
      before_last : (bytes : List ℕ) × (written w3 ≡ Some bytes) × (new ≡ bytes ++ ended_by w3.format.kind last_lines)
      before_last = written-before steps.last some

      before_text : (bytes : List ℕ) × (written w2 ≡ Some bytes)
          × (before_last.0 ≡ bytes ++ ended_by w2.format.kind lines)
      before_text = written-before steps.block before_last.1

      kind-0 : w0.format.kind ≡ kind
      kind-0 = ap (λ (format : Format). format.kind) steps.format

      kind-2 : w2.format.kind ≡ kind
      kind-2 = ap (λ (format : Format). format.kind) (steps.second.format ∙ steps.first.format) ∙ kind-0

      before_front : (bytes : List ℕ) × (written w0 ≡ Some bytes)
          × (before_text.0 ≡ bytes ++ ended_by w0.format.kind (first_lines ++ second_lines))
      before_front = written-before (writes_more steps.first steps.second) before_text.1

      front-bytes-are : before_text.0 ≡ front
      front-bytes-are =
          before_front.2
          ∙ ap (λ (bytes : List ℕ). bytes ++ ended_by w0.format.kind (first_lines ++ second_lines))
          (same_some (sym before_front.1 ∙ steps.nothing))
          ∙ ap (λ (k : LineKind). ended_by k (first_lines ++ second_lines)) kind-0
          ∙ front-bytes

      front-is : w2.bytes.items ≡ front
      front-is = held w2.is_full w2.bytes.items before_text.0 before_text.1 ∙ front-bytes-are

      text-is : w3.bytes.items ≡ front ++ text
      text-is =
          held w3.is_full w3.bytes.items before_last.0 before_last.1
          ∙ before_text.2
          ∙ ap (λ (bytes : List ℕ). bytes ++ ended_by w2.format.kind lines) front-bytes-are
          ∙ ap (λ (k : LineKind). front ++ ended_by k lines) kind-2

      pub drafted : {start end : ℕ} → start ≡ length w2.bytes.items → end ≡ length w3.bytes.items
          → IsDraft file (edit_at place kind text) (record {
            start = place.start;
            old_len = place.old_len;
            new = new;
            text_start = place.start + start;
            text_end = place.start + end;
          })
      drafted from to = record {
        start = refl;
        old_len = refl;
        new = new-is;
        text_start = omega (arith, from, ap length front-is);
        text_end = omega (arith, to, ap length text-is, length-append front text);
        short = omega (arith, fits, is_room, short, within, length-spliced file all place.start place.old_len within);
      }
