use Rattle.std.specs.Option.{option_map}
use Rattle.reuse_header.specs.Found.{block_view}
use Rattle.reuse_header.specs.Marks.{marks_of}
use Rattle.reuse_header.specs.Annotation.{written_by}
use Rattle.reuse_words.proofs.AddedLemmas.{written_ok, written_err}
use Rattle.reuse_words.proofs.adding.write_with.Goals as goal

pub returns-in-Ok : goal.returns-in-Ok
returns-in-Ok c =
    written_ok c.args.file.now (written_by c.args.style.now c.args.file.now (option_map block_view c.args.old)
    c.args.info.now (marks_of c.args.style.now c.args.form)) c.in-Ok.splice c.in-Ok.ensures

pub returns-in-Err : goal.returns-in-Err
returns-in-Err c =
    written_err c.args.file.now (written_by c.args.style.now c.args.file.now (option_map block_view c.args.old)
    c.args.info.now (marks_of c.args.style.now c.args.form)) c.in-Err.refusal c.in-Err.ensures
