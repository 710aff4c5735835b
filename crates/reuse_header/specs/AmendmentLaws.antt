-- What an amendment writes, as its laws say it (this project's own).
use Rattle.std.specs.Prelude.{◌≡◌, ℕ, false, List, [], Some, Contains}
use Rattle.reuse_notice.specs.declared.infos.Info.{Info}
use Rattle.reuse_amend.specs.declared.amendments.Amendments.{Amendments}
use Rattle.reuse_notice.specs.Infos.{info_of, says_the_same, says_nothing}
use Rattle.reuse_amend.specs.Amending.{amended}
use Rattle.reuse_amend.specs.Settled.{ReadsAsAmended}
use Rattle.reuse_style.specs.declared.style.Style.{Style}
use Rattle.reuse_style.specs.Styles.{punctuation_of}
use Rattle.reuse_header.specs.Marks.{LineMarks}
use Rattle.reuse_header.specs.Header.{HeaderSpan, neighbour_contents}
use Rattle.reuse_header.specs.Writing.{block_text, neighbour_marks}
use Rattle.reuse_header.specs.Annotation.{Edit, kind_of_file}
use Rattle.reuse_header.specs.Laws.{IsBlockText}

-- new information is the old one amended: it says something else, and something
pub record IsAmended (a : Amendments) (old new : Info) : Type 0 where
  pub made : amended a old ≡ Some new
  pub changes : says_the_same old new ≡ false
  pub left : says_nothing new ≡ false
  pub free : new.free ≡ old.free

-- an edit's text is the block of the amended information, in the form of the old block
pub record AmendsBlock (style : Style) (a : Amendments) (file : List ℕ) (span : HeaderSpan) (edit : Edit) : Type 0 where
  pub info : Info
  pub marks : LineMarks
  pub is : IsAmended a (info_of (punctuation_of style) span.contents) info
  pub text : IsBlockText style (kind_of_file file) info span.form marks edit.text

-- the same of a neighbour file
pub record AmendsNeighbour (a : Amendments) (file : List ℕ) (edit : Edit) : Type 0 where
  pub info : Info
  pub is : IsAmended a (info_of [] (neighbour_contents file)) info
  pub text : edit.text ≡ block_text neighbour_marks (kind_of_file file) info

-- each notice of some information, amended, is read as the parts that it is put together of
abbrev pub NoticesReadAsAmended : Amendments → Info → Type 0
NoticesReadAsAmended a info = (text : List ℕ) → Contains info.notices text → ReadsAsAmended a text
