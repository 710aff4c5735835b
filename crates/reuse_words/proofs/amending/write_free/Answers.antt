use Rattle.std.proofs.Common.{◌∙◌, ap, subst, Some, List, ℕ}
use Rattle.reuse_notice.specs.declared.infos.Info.{Info}
use Rattle.reuse_header.specs.Found.{block_view}
use Rattle.reuse_header.specs.Marks.{marks_of}
use Rattle.reuse_header.specs.Annotation.{written_by}
use Rattle.reuse_header.specs.Splices.{IsExpected, answer_of}
use Rattle.reuse_words.specs.Information.{with_free}
use Rattle.reuse_words.proofs.amending.write_free.Goals as goal

pub returns : goal.returns
returns c =
    subst (λ (i : Info). IsExpected (answer_of c.args.file.now (written_by c.args.style.now c.args.file.now
    (Some (block_view c.args.block)) i (marks_of c.args.style.now c.args.block.form))) c.write_header.result)
    (c.in_ok-info.ensures
    ∙ ap (λ (punct : List ℕ). with_free punct c.args.info.now c.args.free.now) c.punctuation.ensures)
    c.write_header.ensures
