use Rattle.std.proofs.Common.{◌≡◌, length, map}
use Rattle.std.specs.List.{list_any}
use Rattle.reuse_header.specs.Marks.{marks_of}
use Rattle.reuse_header.specs.Comment.{closes_comment}
use Rattle.reuse_words.specs.Information.{text_in}
use Rattle.reuse_words.proofs.adding.closes_any.Given as goal

abbrev pub invariant-loop-rest : goal.invariant-loop-rest
invariant-loop-rest l =
    list_any (closes_comment (marks_of l.style l.form)) (map (text_in l.gap) l.rest)
    ≡ list_any (closes_comment (marks_of l.style l.form)) (map (text_in l.gap) l.texts)

abbrev pub decreases-loop-rest : goal.decreases-loop-rest
decreases-loop-rest l = length l.rest
