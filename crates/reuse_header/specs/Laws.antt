-- Words of the laws (this project's own).
use Rattle.std.specs.Prelude.{◌≡◌, ℕ, ◌+◌, ◌-◌, ◌<◌, Bool, true, false, List, [], ◌∷◌, ◌++◌, length, map, take, drop}
use Rattle.std.specs.Prelude.{Contains, All, ◌⊎◌, Option, None, Some}
use Rattle.reuse_text.specs.declared.LineKind.{LineKind}
use Rattle.reuse_notice.specs.declared.infos.Info.{Info}
use Rattle.reuse_notice.specs.Keeping.{IsKeptBy}
use Rattle.reuse_notice.specs.Tags.{all_blank}
use Rattle.reuse_style.specs.declared.style.Style.{Style}
use Rattle.reuse_style.specs.declared.marks.Form.{Form}
use Rattle.reuse_header.specs.Marks.{LineMarks, marks_of}
use Rattle.reuse_notice.specs.Infos.{info_of}
use Rattle.std.specs.Option.{option_map}
use Rattle.reuse_text.specs.Text.{TextLine, IsLine, file_lines, mark_len_of, ends_in_return}
use Rattle.reuse_style.specs.Marks.{BlockForm}
use Rattle.reuse_style.specs.Styles.{punctuation_of}
use Rattle.reuse_header.specs.Body.{PlacedLines, is_barrier}
use Rattle.reuse_header.specs.Blocks.{without_returns}
use Rattle.reuse_header.specs.Split.{bytes_of}
use Rattle.reuse_header.specs.Header.{HeaderSpan, span_in, header_of, neighbour_contents}
use Rattle.reuse_notice.specs.declared.adding.Additions.{Additions}
use Rattle.reuse_header.specs.declared.annotation.How.{How}
use Rattle.reuse_header.specs.Writing.{block_text, new_info}
use Rattle.reuse_header.specs.Annotation.{Edit, edited, ending_if, kind_of_file, replaced_block, old_contents}
use Rattle.reuse_header.specs.Annotation.{prefix_lines}
use Rattle.reuse_header.specs.Neighbour.{closed_lines, neighbour_end, replaced_contents}

-- the bytes from one place of a file on to another
abbrev pub part : List ℕ → ℕ → ℕ → List ℕ
part file start end = take (end - start) (drop start file)

-- a text stands in bytes behind the first `place` of them
abbrev pub StandsAt : List ℕ → List ℕ → ℕ → Type 0
StandsAt text bytes place =
    (front : List ℕ) × (back : List ℕ) × (length front ≡ place) × (bytes ≡ front ++ text ++ back)

-- it stands there, and behind no fewer of them
pub record IsFirstPlace (text bytes : List ℕ) (place : ℕ) : Type 0 where
  pub stands : StandsAt text bytes place
  pub least : (lesser : ℕ) → lesser < place → StandsAt text bytes lesser → ⊥

-- the text stands nowhere in bytes
abbrev pub StandsNowhere : List ℕ → List ℕ → Type 0
StandsNowhere text bytes = (place : ℕ) → StandsAt text bytes place → ⊥

-- the first `count` lines end with the first that holds the closer, and only blank bytes follow the closer there
pub record IsEndedBy (closer : List ℕ) (lines : List (List ℕ)) (count : ℕ) : Type 0 where
  pub before : List (List ℕ)
  pub last : List ℕ
  pub after : List (List ℕ)
  pub place : ℕ
  pub joined : lines ≡ before ++ (last ∷ after)
  pub counted : count ≡ length before + 1
  pub lacking : All (StandsNowhere closer) before
  pub first : IsFirstPlace closer last place
  pub blank : all_blank (drop (place + length closer) last) ≡ true

-- the first `count` lines are one comment: they begin with the opener, and end by the closer behind it
abbrev pub IsEnclosed : BlockForm → List (List ℕ) → ℕ → Type 0
IsEnclosed comment lines count =
    (first : List ℕ) × (after : List (List ℕ)) × (lines ≡ (comment.opener ++ first) ∷ after)
    × IsEndedBy comment.closer (first ∷ after) count

-- the first of some lines, if there is one, is a barrier
abbrev pub BeginsClosed : PlacedLines → Type 0
BeginsClosed [] = Unit {0}
BeginsClosed (line ∷ lines) = is_barrier line.1.content ≡ true

-- a neighbour file is its mark, its open lines, and those from the first barrier on; its contents are those of the
-- open lines, which are the bytes from its mark's end to the end of its block
pub record IsCutAtBarrier (file : List ℕ) (open_lines : PlacedLines) : Type 0 where
  pub lines : file_lines file ≡ open_lines ++ closed_lines (file_lines file)
  pub are_open : All (λ line. is_barrier line.1.content ≡ false) open_lines
  pub begins_closed : BeginsClosed (closed_lines (file_lines file))
  pub whole : file ≡ take (mark_len_of file) file ++ bytes_of open_lines ++ bytes_of (closed_lines (file_lines file))
  pub bytes : bytes_of open_lines ≡ part file (mark_len_of file) (neighbour_end file)
  pub contents : neighbour_contents file ≡ map (λ line. without_returns line.1.content) open_lines

-- an edit puts a text into a file at a place, and takes no byte away: the text is set off by endings of the
-- file's kind alone, at most two in front and one behind
pub record IsInsertion (file : List ℕ) (place : ℕ) (edit : Edit) : Type 0 where
  pub made : edited file edit ≡ take place file ++ (edit.front ++ (edit.text ++ edit.back)) ++ drop place file
  pub takes_nothing : edit.old_len ≡ 0
  pub front : (ends_line : Bool) × (empty_line : Bool)
      × (edit.front ≡ ending_if ends_line (kind_of_file file) ++ ending_if empty_line (kind_of_file file))
  pub back : (empty_line : Bool) × (edit.back ≡ ending_if empty_line (kind_of_file file))

-- a notice stands among others, or, where they are merged, one of its holder does whose years include its own
abbrev pub IsKept : Bool → List (List ℕ) → List ℕ → Type 0
IsKept false notices text = Contains notices text
IsKept true notices text = (Contains notices text) ⊎ ((other : List ℕ) × (Contains notices other) × IsKeptBy text other)

-- new information has all of the old one, but for merged notices
pub record Keeps (merge : Bool) (old new : Info) : Type 0 where
  pub notices : (text : List ℕ) → Contains old.notices text → IsKept merge new.notices text
  pub contributors : (text : List ℕ) → Contains old.contributors text → Contains new.contributors text
  pub licences : (text : List ℕ) → Contains old.licences text → Contains new.licences text
  pub free : new.free ≡ old.free

-- the text of a block of a style that says some information
pub record IsBlockText (style : Style) (kind : LineKind) (info : Info) (form : Form) (marks : LineMarks)
    (text : List ℕ) : Type 0 where
  pub marks_are : marks_of style form ≡ Some marks
  pub text_is : text ≡ block_text marks kind info

-- the header block of a file stands from one place to another, in a form, and says some information
pub record ReadsAs (style : Style) (file : List ℕ) (start end : ℕ) (form : Form) (info : Info)
    (span : HeaderSpan) : Type 0 where
  pub found : option_map (span_in file) (header_of style file) ≡ Some span
  pub starts : span.start ≡ start
  pub ends : span.end ≡ end
  pub same_form : span.form ≡ form
  pub says : info_of (punctuation_of style) span.contents ≡ info

-- what the header block of a file says, if it has one
abbrev pub information_in : Style → List ℕ → Option Info
information_in style file = option_map (λ header. info_of (punctuation_of style) header.contents) (header_of style file)

-- each text is the content of a line with that ending
abbrev pub AreContents : LineKind → List (List ℕ) → Type 0
AreContents kind contents = All (λ content. IsLine (record { content = content; ending = Some kind })) contents

-- the information that annotating writes into a file, and into a neighbour
abbrev pub info_written : Style → How → Additions → List ℕ → Info
info_written style how additions file =
    let old = replaced_block how.replace (option_map (span_in file) (header_of style file)) in
    new_info (punctuation_of style) (old_contents old) how.merge additions

abbrev pub neighbour_info_written : How → Additions → List ℕ → Info
neighbour_info_written how additions file = new_info [] (replaced_contents how.replace file) how.merge additions

-- a file that is one prefix line alone, and not ended, doesn't end in CR: an ending behind that CR would be a
-- CRLF, and the file of another kind
abbrev pub EndsPlainly : Style → List ℕ → Type 0
EndsPlainly style file =
    (line : ℕ × TextLine) → prefix_lines style (file_lines file) ≡ line ∷ [] → line.1.ending ≡ None
    → ends_in_return file ≡ false
