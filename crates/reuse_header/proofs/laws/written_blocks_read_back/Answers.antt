use Rattle.std.proofs.Common.{[], ap, ◌∙◌, List, ℕ, map}
use Rattle.std.proofs.lemmas.List.{append-nil}
use Rattle.reuse_notice.specs.Infos.{info_of}
use Rattle.reuse_style.specs.Styles.{punctuation_of}
use Rattle.reuse_header.specs.Blocks.{without_returns}
use Rattle.reuse_header.specs.Writing.{neighbour_marks, inner_lines, block_lines}
use Rattle.reuse_header.proofs.ContentsLemmas.{block_contents, inner_content, the_reader, neighbour_reader}
use Rattle.reuse_header.proofs.ReadingLemmas.{reads_back}
use Rattle.reuse_header.proofs.laws.written_blocks_read_back.Goals as goal

pub returns : goal.returns
unfolding block_lines
returns c = record {
  files = λ style form marks info rest is s.
      ap (info_of (punctuation_of style)) (block_contents style form marks info rest is)
      ∙ reads_back c.sets_are_one.ensures.only (punctuation_of style) (inner_content style form) marks info
      (the_reader style form marks is) s;
  neighbours = λ info s.
      ap (λ (lines : List (List ℕ)). info_of [] (map without_returns lines))
      (append-nil (inner_lines neighbour_marks info))
      ∙ reads_back c.sets_are_one.ensures.only []
      (λ line. without_returns line) neighbour_marks info neighbour_reader s;
}
