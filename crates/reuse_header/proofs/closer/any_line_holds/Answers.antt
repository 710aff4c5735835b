use Rattle.reuse_style.specs.Search.{holds}
use Rattle.reuse_header.specs.MarkViews.{marks_view}
use Rattle.reuse_header.proofs.CloserLemmas.{any-inner}
use Rattle.reuse_header.proofs.closer.any_line_holds.Goals as goal

pub returns : goal.returns
returns c =
    let all = any-inner (holds c.args.text.now) (marks_view c.args.marks) c.args.info.now in
    cc (
      all,
      c.has_separator.ensures,
      c.holds.ensures,
      c.trim_blank_end.ensures,
      c.in_ok-notices.ensures,
      c.in_ok-contributors.ensures,
      c.in_ok-licences.ensures,
      c.in_ok-free.ensures,
      c.notices.ensures.texts,
      c.contributors.ensures.texts,
      c.licences.ensures.texts,
      c.free.ensures,
    )
