-- Marks as the code holds them.
use Rattle.std.specs.Option.{option_map, option_copied}
use Rattle.reuse_style.specs.declared.marks.LineComment.{LineComment}
use Rattle.reuse_style.specs.declared.marks.BlockComment.{BlockComment}
use Rattle.reuse_style.specs.declared.marks.FrontMatter.{FrontMatter}
use Rattle.reuse_style.specs.declared.marks.Comments.{Comments}
use Rattle.reuse_style.specs.Marks.{LineForm, BlockForm, FrontMatterForm, CommentMarks}

abbrev pub line_view : LineComment → LineForm
line_view form = record { marker = form.marker.now; lead = form.lead.now }

abbrev pub block_view : BlockComment → BlockForm
block_view form = record {
  opener = form.opener.now;
  middle = option_copied form.middle;
  closer = form.closer.now;
  last_line = form.last_line.now;
  lead = form.lead.now;
}

abbrev pub front_matter_view : FrontMatter → FrontMatterForm
front_matter_view matter = record { first_line = matter.first_line.now; last_line = matter.last_line.now }

abbrev pub comments_view : Comments → CommentMarks
comments_view comments = record {
  line = option_map line_view comments.line;
  block = option_map block_view comments.block;
  declaration = comments.declaration;
  first_lines = comments.first_lines.now;
  front_matter = option_map front_matter_view comments.front_matter;
}
