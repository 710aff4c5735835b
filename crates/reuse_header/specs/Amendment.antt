-- What amending makes of a file: the edit that writes its amended information in the place of the old block, none where
-- nothing changes, or the first refusal (docs/RULES.md, "What amend writes").
use Rattle.std.specs.Prelude.{◌≡◌, ℕ, true, List, [], Option, None, Some, Result, Ok, Err, if◌then◌else◌}
use Rattle.std.specs.Option.{option_map, option_map_or}
use Rattle.reuse_notice.specs.declared.infos.Info.{Info}
use Rattle.reuse_amend.specs.declared.amendments.Amendments.{Amendments}
use Rattle.reuse_notice.specs.Infos.{info_of, says_the_same, says_nothing}
use Rattle.reuse_amend.specs.Amending.{amended}
use Rattle.reuse_style.specs.declared.style.Style.{Style}
use Rattle.reuse_header.specs.declared.annotation.Splice.{Splice}
use Rattle.reuse_header.specs.declared.annotation.HeaderRefusal.{HeaderRefusal}
use Rattle.reuse_header.specs.declared.annotation.HeaderRefusal.TheVariants.{NotText, Memory}
use Rattle.reuse_header.specs.declared.amendment.AmendHeaderRefusal.{AmendHeaderRefusal}
use Rattle.reuse_header.specs.declared.amendment.AmendHeaderRefusal.TheVariants.{BadExpression, NothingLeft, Header}
use Rattle.reuse_style.specs.Styles.{punctuation_of}
use Rattle.reuse_header.specs.Marks.{marks_of}
use Rattle.reuse_header.specs.Header.{HeaderSpan, span_in, header_of}
use Rattle.reuse_header.specs.Annotation.{Edit, edited, written_by}
use Rattle.reuse_header.specs.Neighbour.{is_text, replaced_contents, neighbour_written}
use Rattle.reuse_header.specs.Splices.{splice_of}

-- amended information that is to be written: none where nothing changes
abbrev pub information_to_write : Info → Info → Result (Option Info) AmendHeaderRefusal
information_to_write old new =
    if says_the_same old new then Ok None else if says_nothing new then Err NothingLeft else Ok (Some new)

abbrev pub amended_information : Amendments → Info → Result (Option Info) AmendHeaderRefusal
amended_information a old = option_map_or (information_to_write old) (amended a old) (Err BadExpression)

-- the edit that writes it
abbrev pub as_amendment : Result Edit HeaderRefusal → Result (Option Edit) AmendHeaderRefusal
as_amendment (Ok edit) = Ok (Some edit)
as_amendment (Err refusal) = Err (Header refusal)

abbrev pub written_if : (Info → Result Edit HeaderRefusal) → Result (Option Info) AmendHeaderRefusal
    → Result (Option Edit) AmendHeaderRefusal
written_if write (Ok None) = Ok None
written_if write (Ok (Some info)) = as_amendment (write info)
written_if write (Err refusal) = Err refusal

-- the edit that amends what a header block says, in its place and in its form
unfoldable pub block_amendment : Style → Amendments → List ℕ → HeaderSpan → Result (Option Edit) AmendHeaderRefusal
block_amendment style a file span =
    written_if (λ info. written_by style file (Some span) info (marks_of style span.form))
    (amended_information a (info_of (punctuation_of style) span.contents))

-- the edit that amending a file is: none where it has no header block
abbrev pub amendment_of : Style → Amendments → List ℕ → Result (Option Edit) AmendHeaderRefusal
amendment_of style a file =
    option_map_or (block_amendment style a file) (option_map (span_in file) (header_of style file)) (Ok None)

-- the edit that amending a neighbour file is
unfoldable pub neighbour_amendment_of : Amendments → List ℕ → Result (Option Edit) AmendHeaderRefusal
neighbour_amendment_of a file =
    if is_text file
    then written_if (neighbour_written true file) (amended_information a (info_of [] (replaced_contents true file)))
    else Err (Header NotText)

-- the file that amending makes, or the refusal
abbrev pub amended_file : List ℕ → Result (Option Edit) AmendHeaderRefusal → Result (List ℕ) AmendHeaderRefusal
amended_file file (Ok None) = Ok file
amended_file file (Ok (Some edit)) = Ok (edited file edit)
amended_file file (Err refusal) = Err refusal

-- ---- what a call answers

abbrev pub amendment_answer : List ℕ → Result (Option Edit) AmendHeaderRefusal
    → Result (Option Splice) AmendHeaderRefusal
amendment_answer file (Ok None) = Ok None
amendment_answer file (Ok (Some edit)) = Ok (splice_of file edit)
amendment_answer file (Err refusal) = Err refusal

-- the answer that is expected, or an allocation failure, which may take the place of each
abbrev pub IsExpectedAmendment : {X : Type 0} → Result X AmendHeaderRefusal → Result X AmendHeaderRefusal → Type 0
IsExpectedAmendment expected (Ok x) = expected ≡ Ok x
IsExpectedAmendment expected (Err (Header (Memory e))) = Unit {0}
IsExpectedAmendment expected (Err refusal) = expected ≡ Err refusal
