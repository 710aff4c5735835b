-- What the laws on files say: which bytes stay, and what is written (this project's own).
use Rattle.std.specs.Prelude.{◌≡◌, ℕ, ◌+◌, ◌≤◌, false, List, length, Some}
use Rattle.std.specs.List.{list_any}
use Rattle.reuse_text.specs.declared.TheConstants.{LONGEST_FILE}
use Rattle.reuse_notice.specs.declared.infos.Info.{Info}
use Rattle.reuse_notice.specs.Contents.{free_of}
use Rattle.reuse_style.specs.declared.style.Style.{Style}
use Rattle.reuse_style.specs.Styles.{punctuation_of}
use Rattle.reuse_header.specs.Tagged.{has_tag}
use Rattle.reuse_header.specs.Marks.{LineMarks, marks_of}
use Rattle.reuse_header.specs.declared.annotation.How.{How}
use Rattle.reuse_notice.specs.declared.adding.Additions.{Additions}
use Rattle.std.specs.Option.{option_map}
use Rattle.reuse_header.specs.Header.{HeaderSpan, span_in, header_of}
use Rattle.reuse_header.specs.Annotation.{Edit, edited, kind_of_file, chosen_form, replaced_block, old_contents}
use Rattle.reuse_header.specs.Writing.{new_info}
use Rattle.reuse_header.specs.Laws.{IsBlockText}
use Rattle.reuse_header.specs.Comment.{comment_text}
use Rattle.reuse_words.specs.Information.{info_with}
use Rattle.reuse_words.specs.Amended.{texts_in}

-- an edit lies within its file, and the file that it makes is not too long
pub record Fits (file : List ℕ) (edit : Edit) : Type 0 where
  pub within : edit.start + edit.old_len ≤ length file
  pub short : length (edited file edit) ≤ LONGEST_FILE

-- a text is a comment of contents, in the form of a block: of those without a tag, and none of its contents has one
pub record IsUntaggedComment (style : Style) (file : List ℕ) (span : HeaderSpan) (text : List ℕ) : Type 0 where
  pub marks : LineMarks
  pub marks_are : marks_of style span.form ≡ Some marks
  pub text_is : text ≡ comment_text marks (kind_of_file file) (free_of (punctuation_of style) span.contents)
  pub no_tag : list_any (has_tag (punctuation_of style)) (free_of (punctuation_of style) span.contents) ≡ false

-- the same notices, contributors and licences
pub record HasTagsOf (old new : Info) : Type 0 where
  pub notices : new.notices ≡ old.notices
  pub contributors : new.contributors ≡ old.contributors
  pub licences : new.licences ≡ old.licences

-- an edit writes information with texts, joined with what the old block said, in the form that annotating chooses
pub record AddsTexts (style : Style) (how : How) (additions : Additions) (texts : List (List (List ℕ)))
    (file : List ℕ) (edit : Edit) : Type 0 where
  pub marks : LineMarks
  pub text : (let found = option_map (span_in file) (header_of style file) in
      let form = chosen_form style how.form found in
      IsBlockText style (kind_of_file file) (info_with (punctuation_of style) (texts_in (marks_of style form) texts)
      (new_info (punctuation_of style) (old_contents (replaced_block how.replace found)) how.merge additions))
      form marks edit.text)
  pub fits : Fits file edit
