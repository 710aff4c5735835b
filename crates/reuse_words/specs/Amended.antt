-- What taking texts out of a header, and adding them, make of a file: the edit, none where nothing changes, or the
-- first refusal (docs/RULES.md, "Words of a header").
use Rattle.std.specs.Prelude.{ℕ, true, List, [], map, Option, None, Some, Result, Ok, Err, if◌then◌else◌}
use Rattle.std.specs.Option.{option_map, option_map_or}
use Rattle.reuse_notice.specs.Infos.{info_of, same_texts}
use Rattle.reuse_style.specs.declared.style.Style.{Style}
use Rattle.reuse_style.specs.Styles.{punctuation_of}
use Rattle.reuse_header.specs.declared.annotation.HeaderRefusal.{HeaderRefusal}
use Rattle.reuse_header.specs.declared.annotation.HeaderRefusal.TheVariants.{NotText}
use Rattle.reuse_header.specs.Marks.{LineMarks, marks_of}
use Rattle.reuse_header.specs.Header.{HeaderSpan, span_in, header_of}
use Rattle.reuse_header.specs.Annotation.{Edit, written_by}
use Rattle.reuse_header.specs.Neighbour.{is_text, replaced_contents, neighbour_written}
use Rattle.reuse_words.specs.Information.{gap_of, text_in, without_texts, with_free}
use Rattle.reuse_words.specs.Removal.{some_edit}

-- texts as contents of a form
abbrev pub texts_in : Option LineMarks → List (List (List ℕ)) → List (List (List ℕ))
texts_in marks texts = map (text_in (gap_of marks)) texts

-- ---- taking texts out

-- free contents that are to be written, if they are others than before
abbrev pub free_to_write : List (List ℕ) → List (List ℕ) → Option (List (List ℕ))
free_to_write old new = if same_texts new old then None else Some new

-- the edit that writes them
abbrev pub written_if_some : (List (List ℕ) → Result Edit HeaderRefusal) → Option (List (List ℕ))
    → Result (Option Edit) HeaderRefusal
written_if_some write None = Ok None
written_if_some write (Some free) = some_edit (write free)

-- the edit that takes texts out of a header block, in its place and in its form
unfoldable pub block_without : Style → List (List (List ℕ)) → List ℕ → HeaderSpan → Result (Option Edit) HeaderRefusal
block_without style texts file span =
    let punct = punctuation_of style in
    let marks = marks_of style span.form in
    let info = info_of punct span.contents in
    written_if_some (λ free. written_by style file (Some span) (with_free punct info free) marks)
    (free_to_write info.free (without_texts punct (texts_in marks texts) info.free))

-- the edit that takes texts out of a file's header block, none where it has no such block
abbrev pub without_texts_of : Style → List (List (List ℕ)) → List ℕ → Result (Option Edit) HeaderRefusal
without_texts_of style texts file =
    option_map_or (block_without style texts file) (option_map (span_in file) (header_of style file)) (Ok None)

-- the edit that takes texts out of a neighbour file
unfoldable pub neighbour_without_texts_of : List (List (List ℕ)) → List ℕ → Result (Option Edit) HeaderRefusal
neighbour_without_texts_of texts file =
    let info = info_of [] (replaced_contents true file) in
    if is_text file then
    written_if_some (λ free. neighbour_written true file (with_free [] info free))
    (free_to_write info.free (without_texts [] (texts_in None texts) info.free))
    else Err NotText
