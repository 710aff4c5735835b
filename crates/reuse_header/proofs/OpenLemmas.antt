-- The same call on the neighbour file that annotating made.
use Rattle.std.proofs.Common.{◌≡◌, ℕ, suc, ◌+◌, ◌-◌, ◌<◌, ◌≤◌, Bool, true, false, List, [], ◌∷◌, ◌++◌, length}
use Rattle.std.proofs.Common.{length-append, length-take, take, drop, map, Option, None, Some, refl, sym, ap, subst}
use Rattle.std.proofs.Common.{◌∙◌, inl, inr, arith}
use Rattle.std.specs.Prelude.{Result, Ok, Err, ◌&&◌, ◌==◌, if◌then◌else◌, nat_lt, nat_le}
use Rattle.std.proofs.lemmas.Bool.{eqb-true, eq-eqb, and_parts, leb-true, false≢true}
use Rattle.std.proofs.lemmas.List.{append-nil, map-append, length-map}
use Rattle.std.proofs.lemmas.List.Concat.{flat_map-append}
use Rattle.std.proofs.Math.Seq.{drop-append_seam, take-append_seam}
use Rattle.reuse_text.specs.declared.TheConstants.{LONGEST_FILE}
use Rattle.reuse_text.specs.declared.LineKind.{LineKind}
use Rattle.reuse_text.specs.declared.LineKind.TheVariants.{Lf, Crlf}
use Rattle.reuse_text.specs.Text.{TextLine, IsLine, AreLines, line_bytes, ending_bytes, lines_of, placed, file_lines}
use Rattle.reuse_text.specs.Text.{after_mark, mark_len_of, text_of, ends_in_return, spliced}
use Rattle.reuse_notice.specs.declared.infos.Info.{Info}
use Rattle.reuse_notice.specs.declared.adding.Additions.{Additions}
use Rattle.reuse_notice.specs.Infos.{info_of}
use Rattle.reuse_notice.specs.Adding.{Arguments, additions_of}
use Rattle.reuse_notice.specs.Plain.{ArePlain}
use Rattle.reuse_header.specs.declared.annotation.How.{How}
use Rattle.reuse_header.specs.declared.annotation.Splice.{Splice}
use Rattle.reuse_header.specs.declared.annotation.HeaderRefusal.{HeaderRefusal}
use Rattle.reuse_header.specs.declared.annotation.HeaderRefusal.TheVariants.{NotText}
use Rattle.reuse_header.specs.Body.{is_barrier, open_contents, place_in}
use Rattle.reuse_header.specs.Header.{neighbour_contents}
use Rattle.reuse_header.specs.Blocks.{without_returns}
use Rattle.reuse_header.specs.Writing.{new_info, neighbour_marks, inner_lines, block_lines, block_text, ended_by}
use Rattle.reuse_header.specs.Annotation.{Edit, edited, text_start, text_end, settled, replacement, insertion}
use Rattle.reuse_header.specs.Annotation.{kind_of_file, made_by}
use Rattle.reuse_header.specs.Neighbour.{is_text, closed_lines, neighbour_end, replaced_contents, neighbour_edit}
use Rattle.reuse_header.specs.Neighbour.{neighbour_stands, neighbour_written, neighbour_annotation_of}
use Rattle.reuse_header.specs.Splices.{answer_of}
use Rattle.reuse_header.specs.Reading.{IsSayable}
use Rattle.reuse_header.specs.Laws.{AreContents, neighbour_info_written}
use Rattle.std.proofs.lemmas.Bool.{cases_Bool as truth}
use Rattle.reuse_header.proofs.CutLemmas.{file_size, mark_within}
use Rattle.reuse_header.proofs.SpanLemmas.{last-place, last-closed}
use Rattle.reuse_header.proofs.AgainLemmas.{ended_lines, ended_lines-text, parts_again}
use Rattle.reuse_header.proofs.WrittenLemmas.{error_is_ok}
use Rattle.reuse_header.proofs.LawLemmas.{NeighbourWritten, neighbour_ok, text_lines}
use Rattle.reuse_header.proofs.ContentsLemmas.{neighbour_reader}
use Rattle.reuse_header.proofs.ReadingLemmas.{reads_back}
use Rattle.reuse_header.proofs.LinesLemmas.{neighbour_sayable}
use Rattle.reuse_header.proofs.FeedLemmas.{Feedless}
use Rattle.reuse_header.proofs.KindLemmas.{Begins, mark_plain, replacement_begins}
use Rattle.reuse_header.specs.LowerLaws.{Known, Laws}
use Rattle.reuse_header.proofs.RepeatLemmas.{same_info, same_text, text_stays, no_splice, settled_yes}

-- ---- lines that are written before others

ending_some : (kind : LineKind) → 0 < length (ending_bytes (Some kind))
ending_some Lf = omega arith
ending_some Crlf = omega arith

line_some : (line : TextLine) → IsLine line → 0 < length (line_bytes line)
line_some line is = by line.content line.ending refl refl
  where
    by : (content : List ℕ) (ending : Option LineKind) → line.content ≡ content → line.ending ≡ ending
        → 0 < length (line_bytes line)
    by [] None e f = absurd (is.unended f e)
    by (b ∷ content) ending e f = let n = ap length e in
        let m = length-append line.content (ending_bytes line.ending) in omega (arith, n, m)
    by [] (Some kind) e f =
        let m = length-append line.content (ending_bytes line.ending) in
        let n = ap (λ (o : Option LineKind). length (ending_bytes o)) f in
        omega (arith, m, n, ending_some kind)

written_are : (kind : LineKind) (contents : List (List ℕ)) (lines : List TextLine) → AreContents kind contents
    → AreLines lines → AreLines (ended_lines kind contents ++ lines)
unfolding ended_lines
written_are kind [] lines good are = are
written_are kind (c ∷ contents) lines good are = (
  good 0 c (omega arith),
  λ e. absurd (let none : ⊥ = cc e in none),
  written_are kind contents lines (λ k d low. good (suc k) d (omega (arith, low))) are,
)

written_text : (kind : LineKind) (contents : List (List ℕ)) (lines : List TextLine)
    → text_of (ended_lines kind contents ++ lines) ≡ ended_by kind contents ++ text_of lines
written_text kind contents lines =
    flat_map-append line_bytes (ended_lines kind contents) lines
    ∙ ap (λ (xs : List ℕ). xs ++ text_of lines) (ended_lines-text kind contents)

-- no line that is written is a barrier, where the first barrier stands behind all of them
written_clear : (made : List ℕ) (kind : LineKind) (c : List ℕ) (contents : List (List ℕ))
    (lines : List TextLine) (start : ℕ)
    → start + length (ended_by kind (c ∷ contents)) ≤ place_in made
    (closed_lines (placed start (ended_lines kind (c ∷ contents) ++ lines))) → is_barrier c ≡ true → ⊥
unfolding ended_lines
written_clear made kind c contents lines start place e =
    let first = rw e at place in
    let n = length-append (c ++ ending_bytes (Some kind)) (ended_by kind contents) in
    let m = length-append c (ending_bytes (Some kind)) in
    let some = ending_some kind in
    omega (arith, first, n, m, some)

-- the contents before the first barrier are those that are written, if the barrier stands right behind them
open_written : (made : List ℕ) (kind : LineKind) (contents : List (List ℕ)) (lines : List TextLine) (start : ℕ)
    → AreLines lines → length made ≡ start + length (text_of (ended_lines kind contents ++ lines))
    → place_in made (closed_lines (placed start (ended_lines kind contents ++ lines))) ≡ start + length
    (ended_by kind contents)
    → open_contents (placed start (ended_lines kind contents ++ lines)) ≡ contents
unfolding ended_lines
open_written made kind [] [] start are whole place = refl
open_written made kind [] (line ∷ lines) start are whole place = elim (truth (is_barrier line.content)) [
  | inl e ↦ rw e refl
  | inr e ↦ (let behind = rw e at place in
      let next = start + length (line_bytes line) in
      let total : next + length (text_of lines) ≡ length made =
      let n = length-append (line_bytes line) (text_of lines) in omega (arith, whole, n) in
      let last = last-place (last-closed made next (placed next lines)
      (record { start = next; texts = lines; later = omega arith; are = refl; end = total })) in
      let some = line_some line are.0 in
      absurd (omega (arith, behind, last.0, some)))
]
open_written made kind (c ∷ contents) lines start are whole place = elim (truth (is_barrier c)) [
  | inl e ↦ absurd (written_clear made kind c contents lines start (omega (arith, place)) e)
  | inr e ↦ (let behind = rw e at place in
      let n = length-append (c ++ ending_bytes (Some kind)) (ended_by kind contents) in
      let m = length-append (c ++ ending_bytes (Some kind)) (text_of (ended_lines kind contents ++ lines)) in
      let deep = open_written made kind contents lines (start + length (c ++ ending_bytes (Some kind))) are
      (omega (arith, whole, m)) (omega (arith, behind, n)) in
      rw e (ap (λ (cs : List (List ℕ)). c ∷ cs) deep))
]

-- the lines of a neighbour that begins with what is written
lines_made : Laws → (made rest : List ℕ) (kind : LineKind) (contents : List (List ℕ))
    → after_mark made ≡ ended_by kind contents ++ rest → AreContents kind contents
    → lines_of (after_mark made) ≡ ended_lines kind contents ++ lines_of rest
lines_made laws made rest kind contents is good =
    let lines = ended_lines kind contents ++ lines_of rest in
    let text : text_of lines ≡ after_mark made = written_text kind contents (lines_of rest)
    ∙ ap (λ (xs : List ℕ). ended_by kind contents ++ xs) (laws.joined rest) ∙ sym is in
    sym (laws.only (after_mark made) lines (written_are kind contents (lines_of rest) good (laws.well rest)) text)

-- the contents of the neighbour that was made
pub open_made : Laws → (made rest : List ℕ) (kind : LineKind) (contents : List (List ℕ))
    → after_mark made ≡ ended_by kind contents ++ rest → AreContents kind contents
    → neighbour_end made ≡ mark_len_of made + length (ended_by kind contents)
    → open_contents (file_lines made) ≡ contents
open_made laws made rest kind contents is good place =
    let same = lines_made laws made rest kind contents is good in
    let size = file_size made (laws.joined (after_mark made)) in
    let n = ap (λ (xs : List TextLine). length (text_of xs)) same in
    let at = ap (λ (xs : List TextLine). place_in made (closed_lines (placed (mark_len_of made) xs))) (sym same) in
    ap (λ (xs : List TextLine). open_contents (placed (mark_len_of made) xs)) same
    ∙ open_written made kind contents (lines_of rest) (mark_len_of made) (laws.well rest)
    (omega (arith, size, n)) (at ∙ place)

-- the same where what is written stands before the first barrier
open_inserted : (made : List ℕ) (kind : LineKind) (contents : List (List ℕ)) (lines : List TextLine) (start : ℕ)
    → start + length (ended_by kind contents) ≤ place_in made
    (closed_lines (placed start (ended_lines kind contents ++ lines)))
    → (rest : List (List ℕ)) × (open_contents (placed start (ended_lines kind contents ++ lines)) ≡ contents ++ rest)
unfolding ended_lines
open_inserted made kind [] lines start place = (open_contents (placed start lines), refl)
open_inserted made kind (c ∷ contents) lines start place = elim (truth (is_barrier c)) [
  | inl e ↦ absurd (written_clear made kind c contents lines start place e)
  | inr e ↦ (let behind = rw e at place in
      let n = length-append (c ++ ending_bytes (Some kind)) (ended_by kind contents) in
      let deep = open_inserted made kind contents lines (start + length (c ++ ending_bytes (Some kind)))
      (omega (arith, behind, n)) in
      rw e (deep.0, ap (λ (cs : List (List ℕ)). c ∷ cs) deep.1))
]

-- the same, where others may stand behind what is written
open_begun : Laws → (made rest : List ℕ) (kind : LineKind) (contents : List (List ℕ))
    → after_mark made ≡ ended_by kind contents ++ rest → AreContents kind contents
    → mark_len_of made + length (ended_by kind contents) ≤ neighbour_end made
    → (more : List (List ℕ)) × (open_contents (file_lines made) ≡ contents ++ more)
open_begun laws made rest kind contents is good place =
    let same = lines_made laws made rest kind contents is good in
    let at = ap (λ (xs : List TextLine). place_in made (closed_lines (placed (mark_len_of made) xs))) same in
    let begun = open_inserted made kind contents (lines_of rest) (mark_len_of made) (omega (arith, at, place)) in
    (begun.0, ap (λ (xs : List TextLine). open_contents (placed (mark_len_of made) xs)) same ∙ begun.1)

-- ---- a second call

pub is_replacement : (replace : Bool) (file text : List ℕ) → replace ≡ true
    → neighbour_edit replace file text ≡ replacement (mark_len_of file) (neighbour_end file) text
unfolding neighbour_edit
is_replacement replace file text e =
    ap (λ (r : Bool). if r then replacement (mark_len_of file) (neighbour_end file) text
    else insertion [] (file_lines file) (mark_len_of file) (kind_of_file file) text) e

pub standing : (replace : Bool) (made : List ℕ) (start end : ℕ) → replace ≡ true
    → neighbour_stands replace made start end ≡ true → (mark_len_of made ≡ start) × (neighbour_end made ≡ end)
standing replace made start end e stands =
    let both = and_parts (mark_len_of made == start) (neighbour_end made == end)
    (ap (λ (r : Bool). neighbour_stands r made start end) (sym e) ∙ stands) in
    (eqb-true (mark_len_of made) start both.0, eqb-true (neighbour_end made) end both.1)

is_insertion : (replace : Bool) (file text : List ℕ) → replace ≡ false
    → (let edit = neighbour_edit replace file text in
    (edit.start ≡ mark_len_of file) × (edit.front ≡ []) × (edit.text ≡ text))
unfolding neighbour_edit
is_insertion true file text e = absurd (false≢true (sym e))
is_insertion false file text e = (refl, refl, refl)

standing_first : (replace : Bool) (made : List ℕ) (start end : ℕ) → replace ≡ false
    → neighbour_stands replace made start end ≡ true → (mark_len_of made ≡ start) × (end ≤ neighbour_end made)
standing_first replace made start end e stands =
    let both = and_parts (mark_len_of made == start) (nat_le end (neighbour_end made))
    (ap (λ (r : Bool). neighbour_stands r made start end) (sym e) ∙ stands) in
    (eqb-true (mark_len_of made) start both.0, leb-true end (neighbour_end made) both.1)

-- what is made, cut in front of its text, which stands behind the mark
cut_at_text : (file made : List ℕ) (edit : Edit) → made ≡ edited file edit → edit.start ≡ mark_len_of file
    → edit.front ≡ [] → mark_len_of made ≡ text_start edit
    → (made ≡ (take edit.start file ++ edit.front)
    ++ (edit.text ++ (edit.back ++ drop (edit.start + edit.old_len) file)))
    × (mark_len_of made ≡ length (take edit.start file ++ edit.front))
cut_at_text file made edit is start front there =
    let fits = mark_within file in
    let n : length (take edit.start file) ≡ edit.start = simp length-take (omega (arith, start, fits)) in
    let size = length-append (take edit.start file) edit.front in (
      is ∙ parts_again (take edit.start file) edit.front edit.text edit.back (drop (edit.start + edit.old_len) file),
      omega (arith, there, n, size),
    )

-- behind the mark of what is made stands the text
pub text_behind : (file made : List ℕ) (edit : Edit) → made ≡ edited file edit → edit.start ≡ mark_len_of file
    → edit.front ≡ [] → mark_len_of made ≡ text_start edit
    → after_mark made ≡ edit.text ++ (edit.back ++ drop (edit.start + edit.old_len) file)
text_behind file made edit is start front there =
    let a = take edit.start file ++ edit.front in
    let cut = cut_at_text file made edit is start front there in
    ap (λ (k : ℕ). drop k made) cut.1 ∙ ap (drop (length a)) cut.0
    ∙ drop-append_seam a (edit.text ++ (edit.back ++ drop (edit.start + edit.old_len) file))

stands_yes : (made : List ℕ) (start end : ℕ) → mark_len_of made ≡ start → neighbour_end made ≡ end
    → neighbour_stands true made start end ≡ true
stands_yes made start end p q =
    ap (λ (b : Bool). b && (neighbour_end made == end)) (eq-eqb (mark_len_of made) start p)
    ∙ eq-eqb (neighbour_end made) end q

-- the block where it stands, written again
neighbour_again : (made : List ℕ) (info : Info) → (let edit = replacement (mark_len_of made) (neighbour_end made)
    (block_text neighbour_marks (kind_of_file made) info) in
    edited made edit ≡ made → nat_lt LONGEST_FILE (length made) ≡ false
    → neighbour_stands true made (text_start edit) (text_end edit) ≡ true → neighbour_written true made info ≡ Ok edit)
unfolding neighbour_written neighbour_edit
neighbour_again made info same few stands =
    let edit =
    replacement (mark_len_of made) (neighbour_end made) (block_text neighbour_marks (kind_of_file made) info) in
    ap (λ (m : List ℕ). settled m edit (neighbour_stands true m (text_start edit) (text_end edit))) same
    ∙ settled_yes made edit (neighbour_stands true made (text_start edit) (text_end edit)) few stands

called_again : (how : How) (additions : Additions) (made : List ℕ) (info : Info) (expected : Result Edit HeaderRefusal)
    → how.replace ≡ true → is_text made ≡ true
    → new_info [] (replaced_contents how.replace made) how.merge additions ≡ info
    → neighbour_written true made info ≡ expected → neighbour_annotation_of how additions made ≡ expected
unfolding neighbour_annotation_of
called_again how additions made info expected replace text says e =
    ap (λ (b : Bool). if b then neighbour_written how.replace made
    (new_info [] (replaced_contents how.replace made) how.merge additions) else Err NotText) text
    ∙ ap (neighbour_written how.replace made) says ∙ ap (λ (r : Bool). neighbour_written r made info) replace ∙ e

pub read_back : Laws → (info : Info) → IsSayable [] info
    → info_of [] (map without_returns (block_lines neighbour_marks info)) ≡ info
unfolding block_lines
read_back laws info s =
    ap (λ (lines : List (List ℕ)). info_of [] (map without_returns lines))
    (append-nil (inner_lines neighbour_marks info))
    ∙ reads_back laws.sets [] (λ line. without_returns line) neighbour_marks info neighbour_reader s

-- what is read of the neighbour that was made
module _ (known : Known) (laws : Laws) (how : How) (arguments : Arguments) (file : List ℕ) (edit : Edit)
    (plain : ArePlain (additions_of arguments))
    (ok : neighbour_annotation_of how (additions_of arguments) file ≡ Ok edit) where
  abbrev info : Info
  info = neighbour_info_written how (additions_of arguments) file

  abbrev made : List ℕ
  made = edited file edit

  abbrev kind : LineKind
  kind = kind_of_file file

  abbrev lines : List (List ℕ)
  lines = block_lines neighbour_marks info

  abbrev behind : List ℕ
  behind = edit.back ++ drop (edit.start + edit.old_len) file

  written : NeighbourWritten how (additions_of arguments) file edit
  written = neighbour_ok how (additions_of arguments) file edit ok

  sayable : IsSayable [] info × AreContents kind lines
  sayable = neighbour_sayable known laws.well how arguments file kind plain

  -- where the block is replaced
  pub neighbour_opened : how.replace ≡ true → info_of [] (neighbour_contents made) ≡ info
  neighbour_opened replace =
      let same = written.same ∙ is_replacement how.replace file (block_text neighbour_marks kind info) replace in
      let text_is : edit.text ≡ ended_by kind lines =
      ap (λ (x : Edit). x.text) same ∙ text_lines neighbour_marks kind info in
      let there = standing how.replace made (text_start edit) (text_end edit) replace written.stands in
      let after = text_behind file made edit refl (ap (λ (x : Edit). x.start) same)
      (ap (λ (x : Edit). x.front) same) there.0 ∙ ap (λ (t : List ℕ). t ++ behind) text_is in
      let wide = ap length text_is in
      ap (λ (cs : List (List ℕ)). info_of [] (map without_returns cs))
      (open_made laws made behind kind lines after sayable.1 (omega (arith, there.0, there.1, wide)))
      ∙ read_back laws info sayable.0

  -- and where it is put in front of others
  pub neighbour_begun : how.replace ≡ false → info_of [] (take (length lines) (neighbour_contents made)) ≡ info
  neighbour_begun add =
      let is = is_insertion how.replace file (block_text neighbour_marks kind info) add in
      let text_is : edit.text ≡ ended_by kind lines =
      ap (λ (x : Edit). x.text) written.same ∙ is.2 ∙ text_lines neighbour_marks kind info in
      let there = standing_first how.replace made (text_start edit) (text_end edit) add written.stands in
      let after = text_behind file made edit refl (ap (λ (x : Edit). x.start) written.same ∙ is.0)
      (ap (λ (x : Edit). x.front) written.same ∙ is.1) there.0 ∙ ap (λ (t : List ℕ). t ++ behind) text_is in
      let wide = ap length text_is in
      let begun = open_begun laws made behind kind lines after sayable.1 (omega (arith, there.0, there.1, wide)) in
      let contents : neighbour_contents made ≡ map without_returns lines ++ map without_returns begun.0 =
      ap (map without_returns) begun.1 ∙ map-append without_returns lines begun.0 in
      let n : length lines ≡ length (map without_returns lines) = sym (length-map lines without_returns) in
      ap (λ (cs : List (List ℕ)). info_of [] (take (length lines) cs)) contents
      ∙ ap (λ (k : ℕ). info_of [] (take k (map without_returns lines ++ map without_returns begun.0))) n
      ∙ ap (info_of []) (take-append_seam (map without_returns lines) (map without_returns begun.0))
      ∙ read_back laws info sayable.0

quiet_edit : (made text : List ℕ) (start end : ℕ) → spliced made start (end - start) ([] ++ (text ++ [])) ≡ made
    → (let edit = replacement start end text in (edited made edit ≡ made) × (answer_of made (Ok edit) ≡ Ok None)
    × (text_start edit ≡ start) × (text_end edit ≡ start + length text))
quiet_edit made text start end e = (
  e,
  ap (λ (s : Option Splice). Ok s) (no_splice made start (end - start) ([] ++ (text ++ [])) e),
  (omega arith),
  (omega arith),
)

pub edit_again : Known → Laws → (how : How) (arguments : Arguments) (file : List ℕ) (edit : Edit) → how.replace ≡ true
    → ArePlain (additions_of arguments) → is_text (edited file edit) ≡ true
    → neighbour_annotation_of how (additions_of arguments) file ≡ Ok edit
    → answer_of (edited file edit) (neighbour_annotation_of how (additions_of arguments) (edited file edit)) ≡ Ok None
edit_again known laws how arguments file edit replace plain is_text_too e =
    let additions = additions_of arguments in
    let info = neighbour_info_written how additions file in
    let made = edited file edit in
    let kind = kind_of_file file in
    let w = neighbour_ok how additions file edit e in
    let written = neighbour_sayable known laws.well how arguments file kind plain in
    let same = w.same ∙ is_replacement how.replace file (block_text neighbour_marks kind info) replace in
    let start : edit.start ≡ mark_len_of file = ap (λ (x : Edit). x.start) same in
    let front : edit.front ≡ [] = ap (λ (x : Edit). x.front) same in
    let text_is : edit.text ≡ block_text neighbour_marks kind info = ap (λ (x : Edit). x.text) same in
    let there = standing how.replace made (text_start edit) (text_end edit) replace w.stands in
    let a = take edit.start file ++ edit.front in
    let d = edit.back ++ drop (edit.start + edit.old_len) file in
    let cut = cut_at_text file made edit refl start front there.0 in
    let reads = ap (λ (r : Bool). info_of [] (replaced_contents r made)) replace
    ∙ neighbour_opened known laws how arguments file edit plain e replace in
    let says = same_info laws [] (replaced_contents how.replace file)
    (replaced_contents how.replace made) how.merge additions reads in
    let begins = subst (Begins kind) (sym front) (replacement_begins kind) in
    let plain_front : Feedless (take edit.start file) → ends_in_return (take edit.start file) ≡ false =
    λ f. ap (λ (k : ℕ). ends_in_return (take k file)) start ∙ (mark_plain file).1 in
    let again = same_text file edit neighbour_marks info text_is written.1 begins plain_front in
    let text = block_text neighbour_marks (kind_of_file made) info in
    let whole : text ≡ edit.text = again ∙ sym text_is in
    let long = ap length whole in
    let stays = text_stays made a text d (mark_len_of made) (neighbour_end made - mark_len_of made)
    (cut.0 ∙ ap (λ (t : List ℕ). a ++ (t ++ d)) (sym whole)) cut.1 (omega (arith, there.0, there.1, long)) in
    let quiet = quiet_edit made text (mark_len_of made) (neighbour_end made) stays in
    let stand = stands_yes made (text_start (replacement (mark_len_of made) (neighbour_end made) text))
    (text_end (replacement (mark_len_of made) (neighbour_end made) text))
    (sym quiet.2) (omega (arith, quiet.3, there.0, there.1, long)) in
    let expected = called_again how additions made info (Ok (replacement (mark_len_of made) (neighbour_end made) text))
    replace is_text_too says (neighbour_again made info quiet.0 w.few stand) in
    ap (answer_of made) expected ∙ quiet.1

pub neighbour_file_again : Known → Laws → (how : How) (arguments : Arguments) (file made : List ℕ) → how.replace ≡ true
    → ArePlain (additions_of arguments) → is_text made ≡ true
    → made_by file (neighbour_annotation_of how (additions_of arguments) file) ≡ Ok made
    → answer_of made (neighbour_annotation_of how (additions_of arguments) made) ≡ Ok None
neighbour_file_again known laws how arguments file made replace plain text e =
    by (neighbour_annotation_of how (additions_of arguments) file) refl e
  where
    by : (answer : Result Edit HeaderRefusal) → neighbour_annotation_of how (additions_of arguments) file ≡ answer
        → made_by file answer ≡ Ok made
        → answer_of made (neighbour_annotation_of how (additions_of arguments) made) ≡ Ok None
    by (Err refusal) is e = absurd (error_is_ok refusal made e)
    by (Ok edit) is e =
        let same : edited file edit ≡ made = cc e in
        let read : is_text (edited file edit) ≡ true = ap is_text same ∙ text in
        subst (λ (m : List ℕ). answer_of m (neighbour_annotation_of how (additions_of arguments) m) ≡ Ok None) same
        (edit_again known laws how arguments file edit replace plain read is)
