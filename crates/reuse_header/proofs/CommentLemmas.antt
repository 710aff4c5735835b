-- A comment in the place of a header block.
use Rattle.std.proofs.Common.{◌≡◌, ℕ, List, Option, None, refl}
use Rattle.std.specs.Prelude.{Err}
use Rattle.reuse_header.specs.declared.annotation.HeaderRefusal.TheVariants.{NoSuchForm}
use Rattle.reuse_header.specs.Marks.{LineMarks}
use Rattle.reuse_header.specs.Header.{HeaderSpan}
use Rattle.reuse_header.specs.Comment.{comment_written}

-- the style does not have the form
pub unmarked_comment : (file : List ℕ) (span : HeaderSpan) (contents : List (List ℕ)) (marks : Option LineMarks)
    → marks ≡ None → comment_written file span contents marks ≡ Err NoSuchForm
unfolding comment_written
unmarked_comment file span contents marks e = rw e refl
