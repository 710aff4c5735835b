-- The refusal of a form that a style lacks, and the place of an old block.
use Rattle.std.proofs.Common.{◌≡◌, ℕ, ◌≤◌, Bool, true, false, List, ◌++◌, length, length-append, Option, None, Some}
use Rattle.std.proofs.Common.{refl, sym, ap, subst, ◌∙◌, arith}
use Rattle.std.specs.Prelude.{Err, MatchOption}
use Rattle.std.specs.Option.{option_map}
use Rattle.reuse_notice.specs.declared.infos.Info.{Info}
use Rattle.reuse_style.specs.declared.style.Style.{Style}
use Rattle.reuse_header.specs.declared.finder.Block.{Block}
use Rattle.reuse_header.specs.declared.annotation.HeaderRefusal.TheVariants.{NoSuchForm}
use Rattle.reuse_header.specs.Marks.{LineMarks}
use Rattle.reuse_text.specs.Text.{text_of, lines_of, after_mark}
use Rattle.reuse_header.specs.Header.{Header, HeaderSpan, header_of, span_in}
use Rattle.reuse_header.specs.Split.{IsHeaderBlock, HasNoHeader, bytes_of}
use Rattle.reuse_header.specs.Found.{block_view}
use Rattle.reuse_header.specs.Annotation.{written_by, replaced_block}
use Rattle.reuse_header.specs.Drafts.{IsWithin}
use Rattle.reuse_header.proofs.CutLemmas.{span_cuts}

-- the style does not have the form
pub unmarked : (style : Style) (file : List ℕ) (old : Option HeaderSpan) (info : Info) (marks : Option LineMarks)
    → marks ≡ None → written_by style file old info marks ≡ Err NoSuchForm
unfolding written_by
unmarked style file old info marks e = rw e refl

-- a header block is within its file
block_within : (style : Style) (file : List ℕ) (span : HeaderSpan) → IsHeaderBlock style file span
    → (span.start ≤ span.end) × (span.end ≤ length file)
block_within style file span (before, header, front, at) =
    let whole = ap length at.bytes ∙ length-append front (bytes_of header.block ++ bytes_of header.after) in
    let rest = length-append (bytes_of header.block) (bytes_of header.after) in
    (omega (arith, at.start, at.end), omega (arith, at.end, whole, rest))

-- the header block that is found, if one is
header_within : (style : Style) (file : List ℕ) (header : Option Header)
    → text_of (lines_of (after_mark file)) ≡ after_mark file → header_of style file ≡ header
    → IsWithin file (option_map (span_in file) header)
header_within style file None joined e = tt
header_within style file (Some header) joined e =
    block_within style file (span_in file header)
    (span_cuts style file (span_in file header) joined (ap (option_map (span_in file)) e))

pub headers_within : (style : Style) (file : List ℕ) → text_of (lines_of (after_mark file)) ≡ after_mark file
    → IsWithin file (option_map (span_in file) (header_of style file))
headers_within style file joined = header_within style file (header_of style file) joined refl

pub found_within : (style : Style) (file : List ℕ) (found : Option Block) → MatchOption found (HasNoHeader style file)
    (λ block. IsHeaderBlock style file (block_view block)) → IsWithin file (option_map block_view found)
found_within style file None split = tt
found_within style file (Some block) split = block_within style file (block_view block) split

pub block_found_within : (style : Style) (file : List ℕ) (found : Option Block) (block : Block)
    → MatchOption found (HasNoHeader style file) (λ found. IsHeaderBlock style file (block_view found))
    → found ≡ Some block → IsWithin file (Some (block_view block))
block_found_within style file found block split is =
    subst (λ (o : Option Block). IsWithin file (option_map block_view o)) is (found_within style file found split)

-- what holds of the block that is found, if one is, holds of the file's header block
pub of_found : (style : Style) (file : List ℕ) (P : Option HeaderSpan → Type 0) (found block : Option Block)
    → option_map block_view found ≡ option_map (span_in file) (header_of style file) → found ≡ block
    → P (option_map block_view block) → P (option_map (span_in file) (header_of style file))
of_found style file P found block is same holds = subst P (ap (option_map block_view) (sym same) ∙ is) holds

kept_within : (file : List ℕ) (replace : Bool) (found : Option HeaderSpan) → IsWithin file found
    → IsWithin file (replaced_block replace found)
kept_within file true found within = within
kept_within file false found within = tt

pub replaced_within : (style : Style) (file : List ℕ) (replace : Bool) (found old : Option Block)
    → MatchOption found (HasNoHeader style file) (λ block. IsHeaderBlock style file (block_view block))
    → option_map block_view old ≡ replaced_block replace (option_map block_view found)
    → IsWithin file (option_map block_view old)
replaced_within style file replace found old split is =
    rw is (kept_within file replace (option_map block_view found) (found_within style file found split))
