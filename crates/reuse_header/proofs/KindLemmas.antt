-- The kind of a file, and that of the file which an edit makes of it.
use Rattle.std.proofs.Common.{◌≡◌, ◌≢◌, ℕ, ◌+◌, ◌<◌, Bool, true, false, cond, nat_eq, List, [], ◌∷◌, ◌++◌, length}
use Rattle.std.proofs.Common.{length-append, length-take, append_assoc, take, drop, Option, None, Some, refl, sym, ap}
use Rattle.std.proofs.Common.{subst, ◌∙◌, inl, inr, ◌⊎◌, arith}
use Rattle.std.specs.Prelude.{◌&&◌, ◌||◌, ◌==◌, if◌then◌else◌}
use Rattle.std.specs.List.{list_any, starts_with}
use Rattle.std.specs.Option.{option_map}
use Rattle.std.proofs.Math.Bool.{and-true, and-false}
use Rattle.std.proofs.lemmas.Bool.{false≢true, or_parts}
use Rattle.std.proofs.lemmas.List.{append-nil, take-append-drop}
use Rattle.std.proofs.Math.Seq.{take-append_seam}
use Rattle.reuse_text.specs.declared.LineKind.{LineKind}
use Rattle.reuse_text.specs.declared.LineKind.TheVariants.{Lf, Crlf}
use Rattle.reuse_text.specs.Text.{TextLine, AreLines, line_bytes, text_of, ending_bytes, is_line_feed, is_empty}
use Rattle.reuse_text.specs.Text.{onto_first, lines_of, placed, kind_of, file_lines, after_mark, mark_len_of}
use Rattle.reuse_text.specs.Text.{byte_order_mark, ends_in_return}
use Rattle.reuse_style.specs.declared.style.Style.{Style}
use Rattle.reuse_header.specs.Body.{PlacedLines, body_lines, place_in}
use Rattle.reuse_header.specs.Body.{open_contents}
use Rattle.reuse_header.specs.Header.{Header, HeaderSpan, span_in, header_of}
use Rattle.reuse_header.specs.Split.{bytes_of, size_of}
use Rattle.reuse_header.specs.Writing.{ended_by}
use Rattle.reuse_header.specs.Annotation.{Edit, new_bytes, edited, ending_if, prefix_lines, kind_of_file}
use Rattle.reuse_header.specs.Laws.{AreContents, EndsPlainly}
use Rattle.std.proofs.lemmas.Bool.{cases_Bool as truth}
use Rattle.reuse_style.proofs.PlaceLemmas.{front_occurs}
use Rattle.reuse_header.proofs.SplitLemmas.{begins_in-within, split_found}
use Rattle.reuse_header.proofs.CutLemmas.{bytes_of-append, bytes_of-placed, place_behind, file_size, before_body}
use Rattle.reuse_header.proofs.CutLemmas.{mark_within}
use Rattle.reuse_header.proofs.FeedLemmas.{is_feed, Feedless, feedless_from}
use Rattle.reuse_header.proofs.LinesLemmas.{ends_append}
use Rattle.reuse_header.proofs.PrefixLemmas.{prefix_body}

-- ---- the kind, by the first LF

abbrev pub begins_feed : List ℕ → Bool
begins_feed [] = false
begins_feed (b ∷ bytes) = b == 10

abbrev pub kind_by : List ℕ → LineKind
kind_by [] = Lf
kind_by (b ∷ bytes) = if b == 10 then Lf else (if b == 13 && begins_feed bytes then Crlf else kind_by bytes)

-- whether the first line is a lone LF
abbrev is_bare : List TextLine → Bool
is_bare [] = false
is_bare (line ∷ lines) = is_line_feed line.ending && is_empty line.content

onto_full : (b : ℕ) (lines : List TextLine) → is_bare (onto_first b lines) ≡ false
onto_full b [] = refl
onto_full b (line ∷ lines) = by (is_line_feed line.ending && is_empty line.content && b == 13)
  where
    by : (c : Bool) → is_bare ((if c then record { content = []; ending = Some Crlf }
        else record { content = b ∷ line.content; ending = line.ending }) ∷ lines) ≡ false
    by true = refl
    by false = and-false (is_line_feed line.ending)

bare_first : (bytes : List ℕ) → is_bare (lines_of bytes) ≡ begins_feed bytes
unfolding lines_of
bare_first [] = refl
bare_first (b ∷ bytes) = elim (truth (b == 10)) [
  | inl t ↦ rw t refl
  | inr f ↦ rw f (onto_full b (lines_of bytes))
]

turned : (x y z : Bool) → (x && y && z) ≡ (z && (x && y))
turned x y true = and-true (x && y)
turned x y false = and-false (x && y)

kind_onto : (b : ℕ) (lines : List TextLine)
    → kind_of (onto_first b lines) ≡ (if b == 13 && is_bare lines then Crlf else kind_of lines)
kind_onto b [] = sym (ap (λ (c : Bool). cond c Crlf Lf) (and-false (b == 13)))
kind_onto b (line ∷ lines) =
    by (is_line_feed line.ending && is_empty line.content && b == 13)
    ∙ ap (λ (c : Bool). cond c Crlf (kind_of (line ∷ lines)))
    (turned (is_line_feed line.ending) (is_empty line.content) (b == 13))
  where
    by : (c : Bool) → kind_of ((if c then record { content = []; ending = Some Crlf }
        else record { content = b ∷ line.content; ending = line.ending }) ∷ lines) ≡ cond c Crlf
        (kind_of (line ∷ lines))
    by true = refl
    by false = refl

kind_is : (bytes : List ℕ) → kind_of (lines_of bytes) ≡ kind_by bytes
unfolding lines_of
kind_is [] = refl
kind_is (b ∷ bytes) = elim (truth (b == 10)) [
  | inl t ↦ rw t refl
  | inr f ↦ rw f (kind_onto b (lines_of bytes)
      ∙ ap (λ (c : Bool). cond (b == 13 && c) Crlf (kind_of (lines_of bytes))) (bare_first bytes)
      ∙ ap (λ (k : LineKind). cond (b == 13 && begins_feed bytes) Crlf k) (kind_is bytes))
]

-- ---- the mark has no part in it

-- bytes behind a mark
behind_mark : (file : List ℕ) → starts_with nat_eq file byte_order_mark ≡ true
    → (rest : List ℕ) × (file ≡ 239 ∷ 187 ∷ 191 ∷ rest)
behind_mark [] e = let o = front_occurs byte_order_mark [] e in absurd (omega (arith, o.fits))
behind_mark (a ∷ []) e = let o = front_occurs byte_order_mark (a ∷ []) e in absurd (omega (arith, o.fits))
behind_mark (a ∷ b ∷ []) e = let o = front_occurs byte_order_mark (a ∷ b ∷ []) e in absurd (omega (arith, o.fits))
behind_mark (a ∷ b ∷ c ∷ rest) e =
    let o = front_occurs byte_order_mark (a ∷ b ∷ c ∷ rest) e in
    let first : a ≡ 239 = o.reads 0 (omega arith) in
    let second : b ≡ 187 = o.reads 1 (omega arith) in
    let third : c ≡ 191 = o.reads 2 (omega arith) in (
      rest,
      ap (λ (x : ℕ). x ∷ b ∷ c ∷ rest) first ∙ ap (λ (x : ℕ). 239 ∷ x ∷ c ∷ rest) second
          ∙ ap (λ (x : ℕ). 239 ∷ 187 ∷ x ∷ rest) third,
    )

kind_marked : (file : List ℕ) → starts_with nat_eq file byte_order_mark ≡ true → kind_by (drop 3 file) ≡ kind_by file
kind_marked file e = let m = behind_mark file e in ap (λ (f : List ℕ). kind_by (drop 3 f)) m.1 ∙ sym (ap kind_by m.1)

pub kind_file : (file : List ℕ) → kind_of_file file ≡ kind_by file
kind_file file = kind_is (after_mark file) ∙ by (starts_with nat_eq file byte_order_mark) refl
  where
    by : (b : Bool) → starts_with nat_eq file byte_order_mark ≡ b
        → kind_by (drop (if b then 3 else 0) file) ≡ kind_by file
    by true e = kind_marked file e
    by false e = refl

-- a mark has no LF, and ends in no CR
pub mark_plain : (file : List ℕ)
    → Feedless (take (mark_len_of file) file) × (ends_in_return (take (mark_len_of file) file) ≡ false)
mark_plain file = by (starts_with nat_eq file byte_order_mark) refl
  where
    by : (b : Bool) → starts_with nat_eq file byte_order_mark ≡ b
        → (list_any is_feed (take (if b then 3 else 0) file) ≡ false)
        × (ends_in_return (take (if b then 3 else 0) file) ≡ false)
    by true e = let m = behind_mark file e in
        subst (λ (f : List ℕ). (list_any is_feed (take 3 f) ≡ false) × (ends_in_return (take 3 f) ≡ false))
        (sym m.1) (refl, refl)
    by false e = (refl, refl)

-- ---- the kind of joined bytes

begins_front : (xs ys : List ℕ) → list_any is_feed xs ≡ true → begins_feed (xs ++ ys) ≡ begins_feed xs
begins_front [] ys e = absurd (false≢true e)
begins_front (x ∷ xs) ys e = refl

kind_front : (xs ys : List ℕ) → list_any is_feed xs ≡ true → kind_by (xs ++ ys) ≡ kind_by xs
kind_front [] ys e = absurd (false≢true e)
kind_front (x ∷ xs) ys e = elim (truth (x == 10)) [
  | inl t ↦ rw t refl
  | inr f ↦ (let h : list_any is_feed xs ≡ true = let h' = rw f at e in h' in let b = begins_front xs ys h in
      let k = kind_front xs ys h in rw (f, b, k) refl)
]

kind_behind : (xs ys : List ℕ) → list_any is_feed xs ≡ false → ends_in_return xs ≡ false
    → kind_by (xs ++ ys) ≡ kind_by ys
kind_behind [] ys e f = refl
kind_behind (x ∷ []) ys e f = let a : (x == 10) ≡ false = (or_parts (x == 10) false e).0 in rw (a, f) refl
kind_behind (x ∷ z ∷ xs) ys e f =
    let p = or_parts (x == 10) (list_any is_feed (z ∷ xs)) e in
    let q : (z == 10) ≡ false = (or_parts (z == 10) (list_any is_feed xs) p.1).0 in
    let a : (x == 10) ≡ false = p.0 in
    let n : (x == 13 && (z == 10)) ≡ false = ap (λ (c : Bool). x == 13 && c) q ∙ and-false (x == 13) in
    ap (λ (c : Bool). cond c Lf (cond (x == 13 && (z == 10)) Crlf (kind_by (z ∷ (xs ++ ys))))) a
    ∙ ap (λ (c : Bool). cond c Crlf (kind_by (z ∷ (xs ++ ys)))) n
    ∙ kind_behind (z ∷ xs) ys p.1 f

-- what begins with a line of the kind
kind_crlf : (c rest : List ℕ) → list_any is_feed c ≡ false → kind_by (c ++ 13 ∷ 10 ∷ rest) ≡ Crlf
kind_crlf [] rest e = refl
kind_crlf (x ∷ c) rest e =
    let p = or_parts (x == 10) (list_any is_feed c) e in
    let n : (x == 13 && begins_feed (c ++ 13 ∷ 10 ∷ rest)) ≡ false =
    ap (λ (b : Bool). x == 13 && b) (full c p.1) ∙ and-false (x == 13) in
    ap (λ (b : Bool). cond b Lf
    (cond (x == 13 && begins_feed (c ++ 13 ∷ 10 ∷ rest)) Crlf (kind_by (c ++ 13 ∷ 10 ∷ rest)))) p.0
    ∙ ap (λ (b : Bool). cond b Crlf (kind_by (c ++ 13 ∷ 10 ∷ rest))) n
    ∙ kind_crlf c rest p.1
  where
    full : (c : List ℕ) → list_any is_feed c ≡ false → begins_feed (c ++ 13 ∷ 10 ∷ rest) ≡ false
    full [] e = refl
    full (z ∷ c) e = (or_parts (z == 10) (list_any is_feed c) e).0

kind_ended : (kind : LineKind) (c rest : List ℕ) → list_any is_feed c ≡ false → (kind ≡ Lf → ends_in_return c ≡ false)
    → kind_by ((c ++ ending_bytes (Some kind)) ++ rest) ≡ kind
kind_ended Lf c rest e f = ap kind_by (append_assoc c (10 ∷ []) rest) ∙ kind_behind c (10 ∷ rest) e (f refl)
kind_ended Crlf c rest e f = ap kind_by (append_assoc c (13 ∷ 10 ∷ []) rest) ∙ kind_crlf c rest e

-- ---- the kind of an edited file

-- nothing, or an ending and more
pub Begins : LineKind → List ℕ → Type 0
Begins kind front = (front ≡ []) ⊎ ((rest : List ℕ) × (front ≡ ending_bytes (Some kind) ++ rest))

new_kind : (kind : LineKind) (front text back rest c : List ℕ) (lines : List (List ℕ)) → Begins kind front
    → text ≡ ended_by kind (c ∷ lines) → AreContents kind (c ∷ lines)
    → kind_by ((front ++ (text ++ back)) ++ rest) ≡ kind
unfolding Begins
new_kind kind front text back rest c lines (inl e) is good =
    let first = good 0 c (omega arith) in
    ap (λ (f : List ℕ). kind_by ((f ++ (text ++ back)) ++ rest)) e
    ∙ ap (λ (t : List ℕ). kind_by ((t ++ back) ++ rest)) is
    ∙ ap kind_by (append_assoc ((c ++ ending_bytes (Some kind)) ++ ended_by kind lines) back rest
    ∙ append_assoc (c ++ ending_bytes (Some kind)) (ended_by kind lines) (back ++ rest))
    ∙ kind_ended kind c (ended_by kind lines ++ (back ++ rest)) (feedless_from c first.no_feed)
    (λ k. first.bare_feed (ap (λ (x : LineKind). Some x) k))
new_kind kind front text back rest c lines (inr (more, e)) is good =
    ap (λ (f : List ℕ). kind_by ((f ++ (text ++ back)) ++ rest)) e
    ∙ ap kind_by (append_assoc (ending_bytes (Some kind) ++ more) (text ++ back) rest
    ∙ append_assoc (ending_bytes (Some kind)) more ((text ++ back) ++ rest))
    ∙ kind_ended kind [] (more ++ ((text ++ back) ++ rest)) refl (λ k. refl)

pub kind_kept : (file : List ℕ) (edit : Edit) (c : List ℕ) (lines : List (List ℕ))
    → edit.text ≡ ended_by (kind_of_file file) (c ∷ lines) → AreContents (kind_of_file file) (c ∷ lines)
    → Begins (kind_of_file file) edit.front
    → (Feedless (take edit.start file) → ends_in_return (take edit.start file) ≡ false)
    → kind_of_file (edited file edit) ≡ kind_of_file file
kind_kept file edit c lines is good begins plain =
    let a = take edit.start file in
    let d = drop (edit.start + edit.old_len) file in
    let parts : edited file edit ≡ a ++ (new_bytes edit ++ d) = append_assoc a (new_bytes edit) d in
    let whole : a ++ drop edit.start file ≡ file = take-append-drop edit.start file in
    kind_file (edited file edit) ∙ ap kind_by parts ∙ elim (truth (list_any is_feed a)) [
      | inl t ↦ kind_front a (new_bytes edit ++ d) t ∙ sym (kind_front a (drop edit.start file) t) ∙ ap kind_by whole
          ∙ sym (kind_file file)
      | inr f ↦ kind_behind a (new_bytes edit ++ d) f (plain f)
          ∙ new_kind (kind_of_file file) edit.front edit.text edit.back d c lines begins is good
    ]

-- ---- the bytes before the place of an edit

-- the bytes before some lines
pub take_place : (file : List ℕ) (front back : PlacedLines) → text_of (lines_of (after_mark file)) ≡ after_mark file
    → file_lines file ≡ front ++ back
    → take (place_in file back) file ≡ take (mark_len_of file) file ++ bytes_of front
take_place file front back law all =
    let mark = take (mark_len_of file) file in
    let fits = mark_within file in
    let marked : length mark ≡ mark_len_of file = simp length-take (omega (arith, fits)) in
    let place = place_behind file (lines_of (after_mark file)) (mark_len_of file) front back all (file_size file law) in
    let text = sym law ∙ sym (bytes_of-placed (lines_of (after_mark file)) (mark_len_of file)) ∙ ap bytes_of all
    ∙ bytes_of-append front back in
    let whole : file ≡ (mark ++ bytes_of front) ++ bytes_of back = sym (take-append-drop (mark_len_of file) file)
    ∙ ap (λ (xs : List ℕ). mark ++ xs) text ∙ sym (append_assoc mark (bytes_of front) (bytes_of back)) in
    let size = length-append mark (bytes_of front) in
    let at : place_in file back ≡ length (mark ++ bytes_of front) = omega (arith, place, size, marked) in
    ap (λ (k : ℕ). take k file) at ∙ ap (take (length (mark ++ bytes_of front))) whole
    ∙ take-append_seam (mark ++ bytes_of front) (bytes_of back)

ending_feeds : (kind : LineKind) → Feedless (ending_bytes (Some kind)) → ⊥
ending_feeds Lf e = false≢true (sym e)
ending_feeds Crlf e = false≢true (sym e)

-- if these lines have no LF there are none, or the first is not ended
front_plain : (file : List ℕ) (front back : PlacedLines) → text_of (lines_of (after_mark file)) ≡ after_mark file
    → file_lines file ≡ front ++ back
    → ((line : ℕ × TextLine) (lines : PlacedLines) → front ≡ line ∷ lines → line.1.ending ≢ None)
    → Feedless (take (place_in file back) file) → ends_in_return (take (place_in file back) file) ≡ false
front_plain file front back law all ended f =
    let taken = take_place file front back law all in
    let parts = none_parts (take (mark_len_of file) file) (bytes_of front) (ap (list_any is_feed) (sym taken) ∙ f) in
    ap ends_in_return taken ∙ ends_append (take (mark_len_of file) file) (bytes_of front) (mark_plain file).1
    (by front (λ line lines e. ended line lines e) parts)
  where
    none_parts : (xs ys : List ℕ) → list_any is_feed (xs ++ ys) ≡ false → list_any is_feed ys ≡ false
    none_parts [] ys e = e
    none_parts (x ∷ xs) ys e = none_parts xs ys (or_parts (x == 10) (list_any is_feed (xs ++ ys)) e).1

    by : (lines : PlacedLines)
        → ((line : ℕ × TextLine) (rest : PlacedLines) → lines ≡ line ∷ rest → line.1.ending ≢ None)
        → Feedless (bytes_of lines) → ends_in_return (bytes_of lines) ≡ false
    by [] h f = refl
    by (line ∷ lines) h f = absurd (at_ending line.1.ending refl)
      where
        none_left : (xs ys : List ℕ) → list_any is_feed (xs ++ ys) ≡ false → list_any is_feed xs ≡ false
        none_left [] ys e = refl
        none_left (x ∷ xs) ys e = let p = or_parts (x == 10) (list_any is_feed (xs ++ ys)) e in
            ap (λ (c : Bool). (x == 10) || c) (none_left xs ys p.1) ∙ ap (λ (c : Bool). c || false) p.0

        at_ending : (ending : Option LineKind) → line.1.ending ≡ ending → ⊥
        at_ending None e = h line lines refl e
        at_ending (Some kind) e =
            ending_feeds kind (ap (λ (o : Option LineKind). list_any is_feed (ending_bytes o)) (sym e)
            ∙ none_parts line.1.content (ending_bytes line.1.ending) (none_left (line_bytes line.1) (bytes_of lines) f))

-- the first of several lines is ended
first_ended : (lines : List TextLine) (start : ℕ) (line : ℕ × TextLine) (next : PlacedLines) → AreLines lines
    → placed start lines ≡ line ∷ next → line.1.ending ≡ None → next ≡ []
first_ended [] start line next are e none = absurd (let no : ⊥ = cc e in no)
first_ended (l ∷ lines) start line next are e none =
    let same : (start, l) ≡ line = first_same e in
    let rest : placed (start + length (line_bytes l)) lines ≡ next = rest_same e in
    sym rest ∙ ap (placed (start + length (line_bytes l))) (are.1 (ap (λ (x : ℕ × TextLine). x.1.ending) same ∙ none))
  where
    first_same : (start, l) ∷ placed (start + length (line_bytes l)) lines ≡ line ∷ next → (start, l) ≡ line
    first_same e = cc e

    rest_same : (start, l) ∷ placed (start + length (line_bytes l)) lines ≡ line ∷ next
        → placed (start + length (line_bytes l)) lines ≡ next
    rest_same e = cc e

-- nothing stands behind a line that is not ended
alone : (file : List ℕ) (line : ℕ × TextLine) (front next : PlacedLines) → AreLines (lines_of (after_mark file))
    → file_lines file ≡ front ++ next → (lines : PlacedLines) → front ≡ line ∷ lines → line.1.ending ≡ None
    → lines ++ next ≡ []
alone file line front next are all lines is none =
    first_ended (lines_of (after_mark file)) (mark_len_of file) line (lines ++ next) are
    (all ∙ ap (λ (xs : PlacedLines). xs ++ next) is) none

-- bytes before lines end in no CR if they have no LF, unless they are all of the file and one line
front_ends : (file : List ℕ) (front back : PlacedLines) → text_of (lines_of (after_mark file)) ≡ after_mark file
    → AreLines (lines_of (after_mark file)) → file_lines file ≡ front ++ back
    → ((line : ℕ × TextLine) → front ≡ line ∷ [] → line.1.ending ≡ None → ends_in_return file ≡ false)
    → Feedless (take (place_in file back) file) → ends_in_return (take (place_in file back) file) ≡ false
front_ends file [] back law are all whole f =
    front_plain file [] back law all (λ line lines is none. none_first line lines is) f
  where
    none_first : (line : ℕ × TextLine) (lines : PlacedLines) → [] ≡ line ∷ lines → ⊥
    none_first line lines is = cc is
front_ends file (line ∷ []) back law are all whole f = by line.1.ending refl
  where
    same_ending : (other : ℕ × TextLine) (lines : PlacedLines) → line ∷ [] ≡ other ∷ lines
        → line.1.ending ≡ other.1.ending
    same_ending other lines is = ap (λ (l : ℕ × TextLine). l.1.ending) (let same : line ≡ other = cc is in same)

    clash : (kind : LineKind) → Some kind ≡ None → ⊥
    clash kind e = cc e

    by : (ending : Option LineKind) → line.1.ending ≡ ending → ends_in_return (take (place_in file back) file) ≡ false
    by (Some kind) e = front_plain file (line ∷ []) back law all
        (λ other lines is none. clash kind (sym e ∙ same_ending other lines is ∙ none)) f
    by None e =
        ap (λ (xs : PlacedLines). ends_in_return (take (place_in file xs) file))
        (alone file line (line ∷ []) back are all [] refl e)
        ∙ ap ends_in_return (ap (take (length file)) (sym (append-nil file)) ∙ take-append_seam file [])
        ∙ whole line refl e
front_ends file (line ∷ next ∷ front) back law are all whole f =
    front_plain file (line ∷ next ∷ front) back law all (λ other lines is none. more lines (rest other lines is)
    (alone file other (line ∷ next ∷ front) back are all lines is none)) f
  where
    rest : (other : ℕ × TextLine) (lines : PlacedLines) → line ∷ next ∷ front ≡ other ∷ lines → lines ≡ next ∷ front
    rest other lines is = cc is

    more : (lines : PlacedLines) → lines ≡ next ∷ front → lines ++ back ≡ [] → ⊥
    more [] is e = cc is
    more (l ∷ lines) is e = cc e

-- before a header block
pub span_plain : (style : Style) (file : List ℕ) (span : HeaderSpan)
    → text_of (lines_of (after_mark file)) ≡ after_mark file → AreLines (lines_of (after_mark file))
    → option_map (span_in file) (header_of style file) ≡ Some span
    → Feedless (take span.start file) → ends_in_return (take span.start file) ≡ false
span_plain style file span law are e f = by_header (header_of style file) refl e
  where
    at_block : (block after front : PlacedLines) → 0 < length block → file_lines file ≡ front ++ (block ++ after)
        → place_in file block ≡ span.start → ends_in_return (take span.start file) ≡ false
    at_block [] after front some all same = absurd (omega arith)
    at_block (line ∷ block) after front some all same =
        ap (λ (k : ℕ). ends_in_return (take k file)) (sym same)
        ∙ front_ends file front (line ∷ (block ++ after)) law are all
        (λ other is none. absurd
        (let gone = alone file other front (line ∷ (block ++ after)) are all [] is none in let no : ⊥ = cc gone in no))
        (ap (λ (k : ℕ). list_any is_feed (take k file)) same ∙ f)

    by_header : (header : Option Header) → header_of style file ≡ header → option_map (span_in file) header ≡ Some span
        → ends_in_return (take span.start file) ≡ false
    by_header None is e = absurd (let none : ⊥ = cc in none)
    by_header (Some h) is e =
        let there = split_found style (body_lines style (file_lines file)) h is in
        let some = (begins_in-within style (open_contents (body_lines style (file_lines file))) 0 (length there.0)
        (size_of h) there.1.begins_there).0 in
        let pre = before_body style (file_lines file) in
        let all : file_lines file ≡ (pre.0 ++ there.0) ++ (h.block ++ h.after) =
        pre.1 ∙ ap (λ (xs : PlacedLines). pre.0 ++ xs) there.1.joined
        ∙ sym (append_assoc pre.0 there.0 (h.block ++ h.after)) in
        at_block h.block h.after (pre.0 ++ there.0) some all
        (let same : span_in file h ≡ span = cc e in ap (λ (s : HeaderSpan). s.start) same)

-- ---- behind the prefix lines

pub body_plain : (style : Style) (file : List ℕ) → text_of (lines_of (after_mark file)) ≡ after_mark file
    → AreLines (lines_of (after_mark file))
    → EndsPlainly style file
    → (let place = place_in file (body_lines style (file_lines file)) in
    Feedless (take place file) → ends_in_return (take place file) ≡ false)
body_plain style file law are whole f = front_ends file (prefix_lines style (file_lines file))
    (body_lines style (file_lines file)) law are (prefix_body style (file_lines file)) whole f

-- before an insertion's text
pub insertion_begins : (kind : LineKind) (a b : Bool) → Begins kind (ending_if a kind ++ ending_if b kind)
unfolding Begins
insertion_begins kind true b = inr (ending_if b kind, refl)
insertion_begins kind false true = inr ([], sym (append-nil (ending_bytes (Some kind))))
insertion_begins kind false false = inl refl

pub replacement_begins : (kind : LineKind) → Begins kind []
unfolding Begins
replacement_begins kind = inl refl
